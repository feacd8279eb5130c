-- The lower entries that one sweep gives are the greatest, and a greater lower bound has lesser ones.
use Rattle.std.proofs.Common.{◌≡◌, ℕ, zero, suc, ◌+◌, ◌-◌, ◌*◌, ◌/◌, ◌^◌, min, ◌<◌, ◌≤◌, pos, ◌+ℤ◌, slice_index, sum, ap, arith, mul-le-mul_left, ◌⊎◌, inl, inr}
use Rattle.std.proofs.lemmas.Bool.{cases_lt}
use Rattle.std.proofs.lemmas.Nat.{le-div}
use Rattle.std.proofs.Math.Nat.{mul-div-le, one-le-pow}
use Rattle.decision_model.specs.declared.average.Average.{Average}
use Rattle.decision_model.specs.Average.{average_cost_bound}
use Rattle.value_cert.specs.AverageValues.{moving}
use Rattle.average_lemmas.specs.Iteration.{below_suc}
use Rattle.average_lemmas.specs.Sizes.{stock_most}
use Rattle.average_lemmas.specs.Tables.{sum_first}
use Rattle.bracket_lemmas.specs.BracketSolved.{under_gain, under_step, under_entries}
use Rattle.bracket_lemmas.specs.BracketSound.{low_within}
use Rattle.decision_model.specs.Limits.{parts}
use Rattle.value_cert.specs.BracketValues.{setup_parts, low_cost, most_bound, IsUnderTable}
use Rattle.bracket_lemmas.specs.EntryFacts.{past, all_after, past_mono, past_same, past_most}
use Rattle.bracket_lemmas.specs.Listing.{LooksBelow, listed_entry}

-- a factor of at least 1 goes from both sides
pub cancel_factor : (w a b : ℕ) → 1 ≤ w → w * a ≤ w * b → a ≤ b
cancel_factor w a b some h = go (cases_lt b a)
  where
    go : (b < a) ⊎ (a ≤ b) → a ≤ b
    go (inl lt) = absurd (omega (arith, mul-le-mul_left w lt))
    go (inr le) = le

-- ---- plain numbers: w for W, s for the weight of demand 0, v for W - s
-- what a rule says with demand 0 on both sides
keep_first : (w s v e g low counts after : ℕ) → w ≡ s + v → counts ≡ s * e + after → w * e + w * g ≤ w * low + counts → v * e + w * g ≤ w * low + after
keep_first w s v e g low counts after whole split h = omega (arith, h, split, ap (λ z. z * e) whole)

first_keep : (w s v e g low counts after : ℕ) → w ≡ s + v → counts ≡ s * e + after → v * e + w * g ≤ w * low + after → w * e + w * g ≤ w * low + counts
first_keep w s v e g low counts after whole split h = omega (arith, h, split, ap (λ z. z * e) whole)

-- the greatest entry
entry_fits : (v e gain loss limit : ℕ) → loss ≤ gain → e ≡ min limit ((gain - loss) / v) → (e ≤ limit) × (v * e + loss ≤ gain)
entry_fits v e gain loss limit fits is =
    let rounded = mul-div-le (gain - loss) v in
    let less : e ≤ (gain - loss) / v = omega (arith, is) in
    (omega (arith, is), omega (arith, fits, rounded, mul-le-mul_left v less))

entry_greatest : (v e gain loss limit : ℕ) → 1 ≤ v → e ≤ limit → v * e + loss ≤ gain → e ≤ min limit ((gain - loss) / v)
entry_greatest v e gain loss limit some within h =
    let less : e ≤ (gain - loss) / v = le-div e (gain - loss) v (omega (arith, some)) (omega (arith, h)) in
    omega (arith, within, less)

module _ (item : Average) (some : 1 ≤ sum (moving item.law)) where
  pub looks_under : (g : ℕ) → LooksBelow (under_step item g)
  looks_under g a b k each = ap (λ p. min (setup_parts item) ((sum item.law * low_cost item k + p - sum item.law * g) / sum (moving item.law))) (past_same item (setup_parts item) a b k each)

  -- the entries of n places at g
  abbrev pub under_at : ℕ → ℕ → ℕ → ℕ
  under_at g n = slice_index (under_entries item g n)

  pub under_entry : (g n k : ℕ) → k < n → under_at g n k ≡ under_step item g (under_at g n) k
  under_entry g n k lt = listed_entry (under_step item g) (looks_under g) n k lt

  -- the lower bound is at most what keeping each place is worth
  abbrev pub FitsUnder : ℕ → ℕ → Type 0
  FitsUnder g n = (k : ℕ) → k < n → sum item.law * g ≤ under_gain item (under_at g n) k

  -- then the entries pass
  pub under_table : (g n : ℕ) → FitsUnder g n → IsUnderTable item g n (under_at g n)
  under_table g n fits = record {
    within = λ k lt. (entry_fits (sum (moving item.law)) (under_at g n k) (under_gain item (under_at g n) k) (sum item.law * g) (setup_parts item) (fits k lt) (under_entry g n k lt)).0;
    keep = λ k lt. first_keep (sum item.law) (slice_index item.law 0) (sum (moving item.law)) (under_at g n k) g (low_cost item k) _ (past item (setup_parts item) (under_at g n) k) (sum_first item.law) (all_after item (setup_parts item) (under_at g n) k)
        (entry_fits (sum (moving item.law)) (under_at g n k) (under_gain item (under_at g n) k) (sum item.law * g) (setup_parts item) (fits k lt) (under_entry g n k lt)).1;
  }

  module _ (g n : ℕ) (a : ℕ → ℕ) (table : IsUnderTable item g n a) where
    -- what a table says with demand 0 on both sides
    kept : (k : ℕ) → k < n → sum (moving item.law) * a k + sum item.law * g ≤ sum item.law * low_cost item k + past item (setup_parts item) a k
    kept k lt = keep_first (sum item.law) (slice_index item.law 0) (sum (moving item.law)) (a k) g (low_cost item k) _ (past item (setup_parts item) a k) (sum_first item.law) (all_after item (setup_parts item) a k) (table.keep k lt)

    more_past : (k : ℕ) → ((j : ℕ) → j < k → a j ≤ under_at g n j) → past item (setup_parts item) a k ≤ past item (setup_parts item) (under_at g n) k
    more_past k each = past_mono item (setup_parts item) (setup_parts item) a (under_at g n) k (omega arith) each

    -- no table has a greater entry
    pub under_greatest : (k : ℕ) → k ≤ n → (j : ℕ) → j < k → a j ≤ under_at g n j
    under_greatest zero le j lt = absurd (omega (arith, lt))
    under_greatest (suc k) le j lt =
        below_suc (λ m. a m ≤ under_at g n m) k (under_greatest k (omega (arith, le)))
        (let most = entry_greatest (sum (moving item.law)) (a k) (under_gain item (under_at g n) k) (sum item.law * g) (setup_parts item) some (table.within k le) (omega (arith, kept k le, more_past k (under_greatest k (omega (arith, le))))) in
        omega (arith, most, under_entry g n k le)) j lt

    -- so where some table passes, the greatest does
    pub under_fits : FitsUnder g n
    under_fits k lt = omega (arith, kept k lt, more_past k (under_greatest k (omega (arith, lt))))

  -- ---- monotony
  -- what passes with a bound passes with each lesser one
  pub under_falls : (g more n : ℕ) → g ≤ more → (a : ℕ → ℕ) → IsUnderTable item more n a → IsUnderTable item g n a
  under_falls g more n le a table = record {
    within = table.within;
    keep = λ k lt. omega (arith, table.keep k lt, mul-le-mul_left (sum item.law) le);
  }

  pub fits_falls : (g more n : ℕ) → g ≤ more → FitsUnder more n → FitsUnder g n
  fits_falls g more n le fits = under_fits g n (under_at more n) (under_falls g more n le (under_at more n) (under_table more n fits))

  -- a greater lower bound has no greater entry
  pub entries_fall : (g more n : ℕ) → g ≤ more → FitsUnder more n → (k : ℕ) → k < n → under_at more n k ≤ under_at g n k
  entries_fall g more n le fits k lt = under_greatest g n (under_at more n) (under_falls g more n le (under_at more n) (under_table more n fits)) n (omega arith) k lt

  -- with 0 some entries pass
  pub none_passes : (n : ℕ) → FitsUnder 0 n
  none_passes n = under_fits 0 n (λ k. 0) (record { within = λ k lt. omega arith; keep = λ k lt. omega arith })

  -- ---- how great a lower bound may be
  module _ (n : ℕ) (all : item.floor +ℤ pos n ≡ item.cap +ℤ pos 1) where
    -- the cost of a place, in parts
    pub low_most : (k : ℕ) → k < n → low_cost item k ≤ parts * (average_cost_bound item - 1)
    low_most k lt =
        let unit = one-le-pow (suc item.lead) (sum item.law) (omega (arith, some, sum_first item.law)) in
        cancel_factor (sum item.law ^ suc item.lead) (low_cost item k) (parts * (average_cost_bound item - 1)) unit (omega (arith, low_within item k, stock_most item n all k lt))

    pub lower_most : (g : ℕ) → 1 ≤ n → (a : ℕ → ℕ) → IsUnderTable item g n a → g ≤ most_bound item
    lower_most g from a table =
        let above = past_most item (setup_parts item) a 0 (setup_parts item) (omega arith) (λ j lt. absurd (omega (arith, lt))) in
        let weights = sum_first item.law in
        let most : sum item.law * g ≤ sum item.law * (low_cost item 0 + setup_parts item) = omega (arith, kept g n a table 0 from, above, ap (λ z. z * setup_parts item) weights) in
        omega (arith, cancel_factor (sum item.law) g (low_cost item 0 + setup_parts item) (omega (arith, some, weights)) most, low_most 0 from)
