-- Upper entries, all raised by one number so that none is below 0.
use Rattle.std.proofs.Common.{◌≡◌, ℕ, ◌+◌, ◌-◌, ◌*◌, ◌<◌, ◌≤◌, ℤ, pos, ◌+ℤ◌, ◌-ℤ◌, ◌*ℤ◌, ◌≤ℤ◌, ◌<ℤ◌, List, sum, sym, ◌∙◌, ap, arith, ◌⊎◌, inl, inr}
use Rattle.std.specs.Prelude.{unsigned_abs}
use Rattle.std.proofs.lemmas.Int.{ints}
use Rattle.std.proofs.lemmas.Bool.{cases_lt}
use Rattle.demand_law.specs.CountedSums.{counted, counted_is}
use Rattle.demand_law.specs.Integers as Z
use Rattle.demand_law.specs.Law.{weighted}
use Rattle.demand_law.specs.WeightedSums.{weighted-ext_within, weighted-add, weighted-const}
use Rattle.decision_model.specs.declared.average.Average.{Average}
use Rattle.decision_model.specs.Positions.{above_zero}
use Rattle.decision_model.specs.PositionTests.{above_zero_is}
use Rattle.value_cert.specs.AverageValues.{at_place}
use Rattle.value_cert.specs.BracketValues.{setup_parts, up_cost, entry_from, most_over, IsOverTable}
use Rattle.bracket_lemmas.specs.EntryFacts.{from_place, from_below}

-- the rules of the upper entries, all raised
pub record IsRaisedTable (item : Average) (upper n raise : ℕ) (low high : ℤ) (t : ℕ → ℕ) : Type 0 where
  pub order : (k : ℕ) → k < n → at_place item k ≤ℤ low → t k ≡ setup_parts item + raise
  pub keep : (k : ℕ) → k < n → low <ℤ at_place item k
      → sum item.law * up_cost item k + counted item.law (entry_from (setup_parts item + raise) t k) ≤ sum item.law * t k + sum item.law * upper
  pub reached : (k : ℕ) → k < n → at_place item k ≡ high → t k ≤ raise

-- the sum of raised entries
pub raised_sum : (law : List ℕ) (below raise : ℕ) (a : ℕ → ℤ) (t : ℕ → ℕ) (k : ℕ) → ((j : ℕ) → j ≤ k → pos (t j) ≡ a j +ℤ pos raise)
    → pos (counted law (entry_from (below + raise) t k)) ≡ weighted law (entry_from (pos below) a k) +ℤ pos (sum law * raise)
raised_sum law below raise a t k same =
    sym (counted_is law (entry_from (below + raise) t k))
    ∙ weighted-ext_within law _ _ (λ d lt. each d (cases_lt k d))
    ∙ weighted-add law (entry_from (pos below) a k) (λ d. pos raise)
    ∙ ap (λ z. weighted law (entry_from (pos below) a k) +ℤ z) (weighted-const law (pos raise))
  where
    each : (d : ℕ) → (k < d) ⊎ (d ≤ k) → pos (entry_from (below + raise) t k d) ≡ entry_from (pos below) a k d +ℤ pos raise
    each d (inl lt) = ap pos (from_below (below + raise) t k d lt) ∙ ap (λ z. z +ℤ pos raise) (sym (from_below (pos below) a k d lt))
    each d (inr le) = ap pos (from_place (below + raise) t k d le) ∙ same (k - d) (omega (arith, le)) ∙ ap (λ z. z +ℤ pos raise) (sym (from_place (pos below) a k d le))

module _ (item : Average) (upper n raise : ℕ) (low high : ℤ) where
  -- the rule of one place, raised
  keep_raised : (w up counts e g : ℕ) (sums entry : ℤ) → pos counts ≡ sums +ℤ pos (w * raise) → pos e ≡ entry +ℤ pos raise → (pos (w * up) +ℤ sums) ≤ℤ (pos w *ℤ entry +ℤ pos (w * g)) → w * up + counts ≤ w * e + w * g
  keep_raised w up counts e g sums entry same here h =
      let product : pos (w * e) ≡ pos w *ℤ entry +ℤ pos (w * raise) = ap (λ z. pos w *ℤ z) here ∙ Z.mul_add (pos w) entry (pos raise) in
      omega (arith, ints, same, product, h)

  -- .. and back
  keep_lowered : (w up counts e g : ℕ) (sums entry : ℤ) → pos counts ≡ sums +ℤ pos (w * raise) → pos e ≡ entry +ℤ pos raise → w * up + counts ≤ w * e + w * g → (pos (w * up) +ℤ sums) ≤ℤ (pos w *ℤ entry +ℤ pos (w * g))
  keep_lowered w up counts e g sums entry same here h =
      let product : pos (w * e) ≡ pos w *ℤ entry +ℤ pos (w * raise) = ap (λ z. pos w *ℤ z) here ∙ Z.mul_add (pos w) entry (pos raise) in
      omega (arith, ints, same, product, h)

  -- tables that differ by the number alone
  module _ (a : ℕ → ℤ) (t : ℕ → ℕ) (same : (k : ℕ) → k < n → pos (t k) ≡ a k +ℤ pos raise) where
    pub raised : IsOverTable item upper n low high a → IsRaisedTable item upper n raise low high t
    raised is = record {
      order = λ k lt le. omega (arith, ints, same k lt, is.order k lt le);
      keep = λ k lt above. keep_raised (sum item.law) (up_cost item k) _ (t k) upper _ (a k) (raised_sum item.law (setup_parts item) raise a t k (λ j le. same j (omega (arith, le, lt)))) (same k lt) (is.keep k lt above);
      reached = λ k lt e. omega (arith, ints, same k lt, is.reached k lt e);
    }

    pub lowered : ((k : ℕ) → k < n → unsigned_abs (a k) ≤ most_over item n) → IsRaisedTable item upper n raise low high t → IsOverTable item upper n low high a
    lowered small is = record {
      small = small;
      order = λ k lt le. omega (arith, ints, same k lt, is.order k lt le);
      keep = λ k lt above. keep_lowered (sum item.law) (up_cost item k) _ (t k) upper _ (a k) (raised_sum item.law (setup_parts item) raise a t k (λ j le. same j (omega (arith, le, lt)))) (same k lt) (is.keep k lt above);
      reached = λ k lt e. omega (arith, ints, same k lt, is.reached k lt e);
    }

-- a number raised to one that isn't below 0
pub raised_is : (a : ℤ) (raise : ℕ) → (pos 0 -ℤ pos raise) ≤ℤ a → pos (above_zero (a +ℤ pos raise)) ≡ a +ℤ pos raise
raised_is a raise h = above_zero_is (a +ℤ pos raise) (omega (arith, ints, h))

-- a small number may be raised by its bound
pub small_raised : (a : ℤ) (most : ℕ) → unsigned_abs a ≤ most → (pos 0 -ℤ pos most) ≤ℤ a
small_raised a most h = omega (arith, ints, h)
