-- The least values of a finite horizon are in range, and the solver's certificate has a text.
use Rattle.std.proofs.Common.{◌≡◌, ℕ, zero, suc, ◌+◌, ◌*◌, ◌≤◌, ℤ, pos, ◌+ℤ◌, ◌-ℤ◌, ◌*ℤ◌, ◌≤ℤ◌, arith, subst}
use Rattle.std.proofs.lemmas.Int.{ints}
use Rattle.demand_law.specs.Integers as Z
use Rattle.decision_model.specs.declared.finite.Finite.{Finite}
use Rattle.decision_model.specs.Finite.{IsReadableFinite, IsValidFinite, finite_low, finite_positions}
use Rattle.decision_model.specs.FiniteCosts.{above_last, order_least, order_within}
use Rattle.decision_model.specs.FiniteProblem.{order_cost, top}
use Rattle.decision_model.specs.FiniteSound.{IsSoundFinite, sound_readable, low_next, after_demand, before_cap, up_to_cap}
use Rattle.value_cert.specs.FiniteRules.{solved_finite}
use Rattle.value_cert.specs.FiniteValues.{scale, cost_after, least_choice, least_values}
use Rattle.value_cert.specs.Texts.{HasText}
use Rattle.value_cert.specs.declared.cert.Cert.TheVariants as cert
use Rattle.finite_lemmas.specs.LeastChoice.{least_choice_is}
use Rattle.finite_lemmas.specs.SolvedTexts.{HasShortValues, solved_finite_text}
use Rattle.finite_recursion.specs.Sizes.{value_most, order_most, IsSmallValue}
use Rattle.finite_recursion.specs.ValueSizes.{end_small, stay_small, most_within_width}

-- what a position costs after the order, with what the order costs
with_order : (s o v : ℕ) (stay order : ℤ) → pos 0 ≤ℤ stay → (stay +ℤ pos (s * o)) ≤ℤ pos v → (pos s *ℤ pos 0) ≤ℤ (pos s *ℤ order) → (pos s *ℤ order) ≤ℤ (pos s *ℤ pos o)
    → (pos 0 ≤ℤ (stay +ℤ pos s *ℤ order)) × ((stay +ℤ pos s *ℤ order) ≤ℤ pos v)
with_order s o v stay order least most above below = (omega (arith, ints, least, above, Z.mul_zero (pos s)), omega (arith, ints, most, below))

module _ (finite : Finite) (readable : IsReadableFinite finite) where
  -- what the bounds ask of an instance
  abbrev sound : IsSoundFinite finite
  sound = sound_readable finite readable

  -- the least values of each grid are in range
  pub least_small : (n t : ℕ) (x : ℤ) → 1 ≤ t → t + n ≡ suc finite.periods → finite_low finite t ≤ℤ x → x ≤ℤ finite.cap → IsSmallValue finite n (least_values finite n t x)
  unfolding least_values order_most
  least_small zero t x pt e from to =
      let last : t ≡ finite.periods + 1 = omega (arith, e) in
      end_small finite readable x (subst (λ (k : ℕ). finite_low finite k ≤ℤ x) last from) to
  least_small (suc n) t x pt e from to =
      let F = least_values finite n (suc t) in
      let y = least_choice finite F n t x in
      let is = least_choice_is finite F n t x to in
      let below : y ≤ℤ finite.cap = Z.le_trans y (top finite x) finite.cap is.to_cap (up_to_cap finite.most finite.cap x) in
      let last = Z.le_trans (finite_low finite (finite.periods + 1)) (finite_low finite t) x (above_last finite sound t (omega (arith, e))) from in
      let stay = stay_small finite readable F n t pt (omega (arith, e)) y (Z.le_trans (finite_low finite (finite.periods + 1)) x y last is.from_low) below
      (λ d lt. least_small n (suc t) (y -ℤ pos d) (omega arith) (omega (arith, e))
      (after_demand (finite_low finite t) (finite_low finite (suc t)) x y d (low_next finite t d pt (omega (arith, sound.within t, lt))) from is.from_low)
      (before_cap y finite.cap d below)) in
      let s = scale finite (suc n) in
      let o = finite.setup + finite.unit * finite_positions finite in
      let within = with_order s o (value_most finite (suc n)) (cost_after finite F n t y) (order_cost finite x y) stay.least stay.most
      (Z.weight_mono s (pos 0) (order_cost finite x y) (order_least finite sound x y is.from_low))
      (Z.weight_mono s (order_cost finite x y) (pos o) (order_within finite sound x y last is.from_low below)) in
      record { least = within.0; most = within.1 }

-- .. and may stand in a certificate
pub least_short : (finite : Finite) → IsValidFinite finite → HasShortValues finite
least_short finite valid n t x pt e from to =
    let readable = valid.regular.readable in
    let small = least_small finite readable (suc n) t x pt (omega (arith, e)) from to in
    let within = most_within_width finite readable (suc n) (omega (arith, e, pt)) in
    record { least = small.least; most = omega (arith, ints, small.most, within, valid.width) }

-- the solver's certificate has a text
pub solved_has_text : (finite : Finite) → IsValidFinite finite → HasText (cert.Finite (solved_finite finite))
solved_has_text finite valid = solved_finite_text finite valid.regular.readable (least_short finite valid)
