-- The solver's bracket, as functions of the instance.
use Rattle.std.specs.Prelude.{ℕ, zero, suc, ◌+◌, ◌-◌, ◌*◌, ◌/◌, min, ◌==◌, ◌&&◌, not, nat_le, nat_lt, Bool, true, if◌then◌else◌, List, sum, slice_index}
use Rattle.std.specs.Int.{div_ceil}
use Rattle.decision_model.specs.declared.average.Average.{Average}
use Rattle.value_cert.specs.AverageValues.{moving, first_passing}
use Rattle.value_cert.specs.BracketValues.{setup_parts, low_cost, up_cost, most_bound}
use Rattle.bracket_lemmas.specs.EntryFacts.{past}
use Rattle.bracket_lemmas.specs.Listing.{listed_by}

-- ---- searches
-- each number below k passes
unfoldable pub all_below : (ℕ → Bool) → ℕ → Bool
all_below test zero = true
all_below test (suc k) = all_below test k && test k

-- the first place of the least of the numbers 0 to k
unfoldable pub first_least : (ℕ → ℕ) → ℕ → ℕ
first_least f zero = 0
first_least f (suc k) = if nat_lt (f (suc k)) (f (first_least f k)) then suc k else first_least f k

-- ---- from below
-- what keeping a place is worth, the lower bound aside
abbrev pub under_gain : Average → (ℕ → ℕ) → ℕ → ℕ
under_gain item a k = sum item.law * low_cost item k + past item (setup_parts item) a k

-- .. and as an entry
abbrev pub under_worth : Average → ℕ → (ℕ → ℕ) → ℕ → ℕ
under_worth item g a k = (under_gain item a k - sum item.law * g) / sum (moving item.law)

abbrev pub under_step : Average → ℕ → (ℕ → ℕ) → ℕ → ℕ
under_step item g a k = min (setup_parts item) (under_worth item g a k)

-- the greatest lower entries of n places
abbrev pub under_entries : Average → ℕ → ℕ → List ℕ
under_entries item g n = listed_by (under_step item g) n

abbrev pub fits_under : Average → ℕ → (ℕ → ℕ) → ℕ → Bool
fits_under item g a k = nat_le (sum item.law * g) (under_gain item a k)

-- some lower entries of n places have a lower bound of g
abbrev pub passes_under : Average → ℕ → ℕ → Bool
passes_under item n g = all_below (fits_under item g (slice_index (under_entries item g n))) n

-- the greatest lower bound
abbrev pub greatest_lower : Average → ℕ → ℕ
greatest_lower item n = most_bound item - first_passing (λ h. passes_under item n (most_bound item - h)) 0 (suc (most_bound item))

-- ---- the pair, by places: high is where keeping is worth least, and each place below `orders` has the setup cost
abbrev pub high_place : Average → ℕ → (ℕ → ℕ) → ℕ → ℕ
high_place item g a n = first_least (under_worth item g a) (n - 1)

abbrev pub order_count : Average → (ℕ → ℕ) → ℕ → ℕ
order_count item a high = first_passing (λ j. not (a j == setup_parts item)) 0 high

-- ---- from above, raised
abbrev pub over_gain : Average → ℕ → (ℕ → ℕ) → ℕ → ℕ
over_gain item raise a k = sum item.law * up_cost item k + past item (setup_parts item + raise) a k

abbrev pub over_step : Average → ℕ → ℕ → ℕ → (ℕ → ℕ) → ℕ → ℕ
over_step item raise orders g a k =
    if nat_lt k orders then setup_parts item + raise else div_ceil (over_gain item raise a k - sum item.law * g) (sum (moving item.law))

abbrev pub over_entries : Average → ℕ → ℕ → ℕ → ℕ → List ℕ
over_entries item raise orders g n = listed_by (over_step item raise orders g) n

abbrev pub passes_over : Average → ℕ → ℕ → ℕ → ℕ → Bool
passes_over item raise orders high g = nat_le (slice_index (over_entries item raise orders g (suc high)) high) raise

abbrev pub least_upper : Average → ℕ → ℕ → ℕ → ℕ
least_upper item raise orders high = first_passing (passes_over item raise orders high) 0 (suc (most_bound item))
