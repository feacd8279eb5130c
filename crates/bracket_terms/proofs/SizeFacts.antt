-- What keeping a place is worth, and that it fits.
use Rattle.std.proofs.Common.{◌≡◌, ℕ, ◌+◌, ◌-◌, ◌*◌, ◌^◌, ◌<◌, ◌≤◌, List, slice_index, sum, ◌∙◌, ap, arith, mul-le-mul_left}
use Rattle.std.proofs.lemmas.Nat.{mul-le}
use Rattle.demand_law.specs.CountedSums.{counted}
use Rattle.decision_model.specs.declared.average.Average.{Average}
use Rattle.decision_model.specs.Average.{average_positions, average_cost_bound}
use Rattle.decision_model.specs.Limits.{parts}
use Rattle.decision_model.specs.WideAverage.{IsWideAverage}
use Rattle.value_cert.specs.AverageValues.{moving}
use Rattle.value_cert.specs.BracketValues.{setup_parts, low_cost, up_cost, most_bound, most_over}
use Rattle.average_lemmas.specs.Tables.{sum_first}
use Rattle.bracket_lemmas.specs.BracketSolved.{under_gain, over_gain}
use Rattle.bracket_lemmas.specs.EntryFacts.{past, entry_after}
use Rattle.bracket_lemmas.specs.WideSizes.{some_place, some_weight, one_small, gain_fits, raise_small, over_gain_fits}
use Rattle.bracket_terms.specs.Moves.{move_sum}
use Rattle.bracket_terms.specs.declared.moves.Move.{Move}

-- the sum over the listed demands is that over all
pub past_told : (item : Average) (moves : List Move) → ((f : ℕ → ℕ) → move_sum moves f ≡ counted (moving item.law) f) → (listed : List Move) → listed ≡ moves → (below : ℕ) (a : ℕ → ℕ) (k : ℕ) → move_sum listed (entry_after below a k) ≡ past item below a k
unfolding past
past_told item moves are listed e below a k = ap (λ ms. move_sum ms (entry_after below a k)) e ∙ are (entry_after below a k)

module _ (item : Average) (wide : IsWideAverage item) where
  abbrev n : ℕ
  n = average_positions item

  abbrev raise : ℕ
  raise = most_over item n

  -- ---- numbers
  pub loss_fits : (g : ℕ) → g ≤ most_bound item → sum item.law * g ≤ 2 ^ 118
  loss_fits g le = omega (arith, one_small item wide, mul-le-mul_left (sum item.law) le)

  -- the setup cost is at most half of what entries are raised by
  pub setup_half : setup_parts item + n * (sum item.law * most_bound item) ≤ raise
  setup_half =
      let one = sum item.law * most_bound item in
      let much : setup_parts item ≤ n * one = omega (arith, mul-le 1 (1 * most_bound item) n one (some_place item wide) (mul-le 1 (most_bound item) (sum item.law) (most_bound item) (some_weight item wide) (omega arith))) in
      omega (arith, much)

  pub setup_raised : setup_parts item + raise ≤ 2 ^ 120
  setup_raised = omega (arith, setup_half, raise_small item wide)

  pub raise_told : (count setup bound total : ℕ) → count ≡ n → setup ≡ item.setup → bound ≡ average_cost_bound item → total ≡ sum item.law → 2 * count * (parts * (setup + bound)) * total ≤ 2 ^ 119
  raise_told count setup bound total c s b t = rw (c, s, b, t) (raise_small item wide)

  -- ---- from below
  pub gain_most : (k : ℕ) → k < n → (a : ℕ → ℕ) → ((j : ℕ) → j < k → a j ≤ setup_parts item) → under_gain item a k ≤ 2 ^ 118
  gain_most k lt a each = omega (arith, gain_fits item wide k lt a each, one_small item wide)

  pub past_most : (k below : ℕ) → k < n → (a : ℕ → ℕ) → ((j : ℕ) → j < k → a j ≤ setup_parts item) → below ≡ setup_parts item → past item below a k ≤ 2 ^ 122
  past_most k below lt a each e = omega (arith, gain_most k lt a each, ap (λ s. past item s a k) e)

  -- ---- from above
  pub over_most : (k : ℕ) → k < n → (t : ℕ → ℕ) → ((j : ℕ) → j < k → t j ≤ 2 * raise) → over_gain item raise t k ≤ 2 ^ 121
  over_most k lt t each = over_gain_fits item wide k lt t each

  pub raised_past_most : (k below : ℕ) → k < n → (t : ℕ → ℕ) → ((j : ℕ) → j < k → t j ≤ 2 * raise) → below ≡ setup_parts item + raise → past item below t k ≤ 2 ^ 122
  raised_past_most k below lt t each e = omega (arith, over_most k lt t each, ap (λ s. past item s t k) e)

-- the worth of a place by its parts
pub under_whole : (item : Average) (total low after below k : ℕ) (a : ℕ → ℕ) → total ≡ sum item.law → low ≡ low_cost item k → after ≡ past item below a k → below ≡ setup_parts item → total * low + after ≡ under_gain item a k
under_whole item total low after below k a t e f b = λ i. t i * e i + (f ∙ ap (λ s. past item s a k) b) i

pub over_whole : (item : Average) (total up after below k : ℕ) (a : ℕ → ℕ) → total ≡ sum item.law → up ≡ up_cost item k → after ≡ past item below a k → below ≡ setup_parts item + most_over item (average_positions item)
    → total * up + after ≡ over_gain item (most_over item (average_positions item)) a k
over_whole item total up after below k a t e f b = λ i. t i * e i + (f ∙ ap (λ s. past item s a k) b) i

pub moving_told : (item : Average) → sum item.law - slice_index item.law 0 ≡ sum (moving item.law)
moving_told item = omega (arith, sum_first item.law)
