-- One link: a level below which costs fall and above which they rise splits the cost of an order.
use Rattle.std.proofs.Common.{◌≡◌, ℕ, zero, suc, ◌+◌, ◌<◌, ◌≤◌, ℤ, pos, negsuc, ◌+ℤ◌, ◌-ℤ◌, ◌≤ℤ◌, IsTrue, ◌&&◌, List, [], ◌∷◌, length, refl, sym, ap, arith, subst, int_le}
use Rattle.std.proofs.lemmas.Int.{ints, clamps, by_lt_z}
use Rattle.std.specs.Int.{int_max, int_min}
use Rattle.std.specs.Int.Signed.{≤ℤ_refl}
use borrow.Author.Differences.{up}
use Rattle.demand_law.specs.Integers as Z
use Rattle.decision_model.specs.PositionTests.{le_known}
use Rattle.decision_model.specs.SerialProblem.{are_allowed, are_ordered, limit, over_echelons}
use Rattle.decision_model.specs.SerialStates.{ordered_cap, ordered_lower}
use Rattle.serial_lemmas.specs.Levels.{IsTurn}
use Rattle.std.proofs.lemmas.Bool.{and_parts}
use Rattle.value_cert.specs.SerialValues.{base_stock, penalty}

-- the greater and the lesser of two numbers whose order is known
pub max_left : (x s : ℤ) → s ≤ℤ x → int_max x s ≡ x
max_left x s h = omega (arith, ints, clamps)

pub max_right : (x s : ℤ) → x ≤ℤ s → int_max x s ≡ s
max_right x s h = omega (arith, ints, clamps)

pub min_left : (x s : ℤ) → x ≤ℤ s → int_min x s ≡ x
min_left x s h = omega (arith, ints, clamps)

pub min_right : (x s : ℤ) → s ≤ℤ x → int_min x s ≡ s
min_right x s h = omega (arith, ints, clamps)

module _ (C : ℤ → ℤ) (S low cap : ℤ) (rule : IsTurn C S low cap) where
  -- costs fall by steps up to the level
  falls_by : (n : ℕ) (y : ℤ) → low ≤ℤ y → (y +ℤ pos n) ≤ℤ S → C (y +ℤ pos n) ≤ℤ C y
  falls_by zero y from to = subst (λ (z : ℤ). C z ≤ℤ C y) (sym (Z.add_zero y)) (≤ℤ_refl (C y))
  falls_by (suc n) y from to =
      let before = falls_by n y from (omega (arith, ints)) in
      let step = rule.falls (y +ℤ pos n) (omega (arith, ints)) (omega (arith, ints)) in
      let e : (y +ℤ pos n) +ℤ pos 1 ≡ y +ℤ pos (suc n) = omega (arith, ints) in
      subst (λ (z : ℤ). C z ≤ℤ C y) e (Z.le_trans _ _ _ step before)

  -- and rise by steps from it on
  rises_by : (n : ℕ) (y : ℤ) → S ≤ℤ y → (y +ℤ pos n) ≤ℤ cap → C y ≤ℤ C (y +ℤ pos n)
  rises_by zero y from to = subst (λ (z : ℤ). C y ≤ℤ C z) (sym (Z.add_zero y)) (≤ℤ_refl (C y))
  rises_by (suc n) y from to =
      let before = rises_by n y from (omega (arith, ints)) in
      let step = rule.rises (y +ℤ pos n) (omega (arith, ints)) (omega (arith, ints)) in
      let e : (y +ℤ pos n) +ℤ pos 1 ≡ y +ℤ pos (suc n) = omega (arith, ints) in
      subst (λ (z : ℤ). C y ≤ℤ C z) e (Z.le_trans _ _ _ before step)

  -- the gap of two numbers
  gap_is : (a b : ℤ) → a ≤ℤ b → a +ℤ pos (up (b -ℤ a)) ≡ b
  gap_is a b h = by (b -ℤ a) refl
    where
      by : (z : ℤ) → b -ℤ a ≡ z → a +ℤ pos (up z) ≡ b
      by (pos n) e = omega (arith, ints, e)
      by (negsuc n) e = absurd (omega (arith, ints, e))

  -- costs fall up to the level, and rise from it on
  pub falls_to : (y z : ℤ) → low ≤ℤ y → y ≤ℤ z → z ≤ℤ S → C z ≤ℤ C y
  falls_to y z from le to =
      let e = gap_is y z le in
      subst (λ (v : ℤ). C v ≤ℤ C y) e (falls_by (up (z -ℤ y)) y from (subst (λ (v : ℤ). v ≤ℤ S) (sym e) to))

  -- costs rise from the level on
  pub rises_to : (y z : ℤ) → S ≤ℤ y → y ≤ℤ z → z ≤ℤ cap → C y ≤ℤ C z
  rises_to y z from le to =
      let e = gap_is y z le in
      subst (λ (v : ℤ). C y ≤ℤ C v) e (rises_by (up (z -ℤ y)) y from (subst (λ (v : ℤ). v ≤ℤ cap) (sym e) to))

  -- an order from x, of at most x', costs at least what its level costs and what keeps it below its level
  pub link_least : (x y next : ℤ) → low ≤ℤ x → x ≤ℤ y → y ≤ℤ next → next ≤ℤ cap → (C (int_max x S) +ℤ (C (int_min next S) -ℤ C S)) ≤ℤ C y
  link_least x y next from le ok to =
      by_lt_z x S
      (λ below. by_lt_z next S
      (λ short.
      let h = falls_to y next (omega (arith, ints, from, le)) ok (omega (arith, ints, short)) in
      omega (arith, ints, h, ap C (max_right x S (omega (arith, ints, below))), ap C (min_left next S (omega (arith, ints, short)))))
      (λ enough.
      let h : C S ≤ℤ C y = by_lt_z y S
      (λ under. falls_to y S (omega (arith, ints, from, le)) (omega (arith, ints, under)) (≤ℤ_refl S))
      (λ over. rises_to S y (≤ℤ_refl S) over (omega (arith, ints, ok, to))) in
      omega (arith, ints, h, ap C (max_right x S (omega (arith, ints, below))), ap C (min_right next S enough))))
      (λ above.
      let h = rises_to x y above le (omega (arith, ints, ok, to)) in
      omega (arith, ints, h, ap C (max_left x S above), ap C (min_right next S (omega (arith, ints, above, le, ok)))))

  -- .. and exactly that where it goes up to its level, as far as it can
  pub link_reached : (x next : ℤ) → x ≤ℤ next → C (int_min (int_max x S) next) ≡ C (int_max x S) +ℤ (C (int_min next S) -ℤ C S)
  link_reached x next le =
      by_lt_z x S
      (λ below.
      let top = max_right x S (omega (arith, ints, below)) in
      by_lt_z next S
      (λ short.
      let e : int_min (int_max x S) next ≡ next = omega (arith, ints, clamps, top, short) in
      omega (arith, ints, ap C e, ap C top, ap C (min_left next S (omega (arith, ints, short)))))
      (λ enough.
      let e : int_min (int_max x S) next ≡ S = omega (arith, ints, clamps, top, enough) in
      omega (arith, ints, ap C e, ap C top, ap C (min_right next S enough))))
      (λ above.
      let top = max_left x S above in
      let e : int_min (int_max x S) next ≡ x = omega (arith, ints, clamps, top, le) in
      omega (arith, ints, ap C e, ap C top, ap C (min_right next S (omega (arith, ints, above, le)))))

-- ---- all links
-- what the echelons from i on pay for their orders, by their levels
abbrev pub levelled : (ℕ → ℤ → ℤ) → (ℕ → ℤ) → ℕ → ℤ → ℤ
levelled C S i x = C i (int_max x (S i)) +ℤ penalty C S i x

module _ (C : ℕ → ℤ → ℤ) (S : ℕ → ℤ) (low cap : ℤ) where
  -- the penalty at the cap is none
  penalty_cap : (i n : ℕ) → ((j : ℕ) → j < n → IsTurn (C j) (S j) low cap) → i ≤ n → penalty C S i cap ≡ pos 0
  penalty_cap zero n rules le = refl
  penalty_cap (suc i) n rules le =
      let e = ap (C i) (min_right cap (S i) (rules i (omega arith)).to_cap) in
      omega (arith, ints, e)

  -- what all echelons pay by their levels is at most what any allowed orders cost
  pub links_least : (n i : ℕ) (xs ys : List ℤ) → ((j : ℕ) → j < n → IsTurn (C j) (S j) low cap) → i + length xs ≡ n → IsTrue (are_ordered low cap xs) → IsTrue (are_allowed cap xs ys) → over_echelons (levelled C S) i xs ≤ℤ (penalty C S i (limit cap xs) +ℤ over_echelons C i ys)
  links_least n i [] [] rules e on ok =
      let none = penalty_cap i n rules (omega (arith, e)) in
      omega (arith, ints, none)
  links_least n i [] (y ∷ ys) rules e on ok = cc
  links_least n i (x ∷ xs) [] rules e on ok = cc
  links_least n i (x ∷ xs) (y ∷ ys) rules e on ok =
      let up_from = and_parts (int_le low x) (are_ordered x cap xs) on in
      let from = le_known low x up_from.0 in
      let first = and_parts (int_le x y) (int_le y (limit cap xs) && are_allowed cap xs ys) ok in
      let second = and_parts (int_le y (limit cap xs)) (are_allowed cap xs ys) first.1 in
      let others = links_least n (suc i) xs ys rules (omega (arith, e)) (ordered_lower x low cap xs from up_from.1) second.1 in
      let here = link_least (C i) (S i) low cap (rules i (omega (arith, e))) x y (limit cap xs) from (le_known x y first.0) (le_known y (limit cap xs) second.0) (ordered_cap x cap xs up_from.1) in
      omega (arith, ints, others, here)

  -- .. and exactly what the orders of the base-stock policy cost
  pub links_reached : (n i : ℕ) (xs : List ℤ) → ((j : ℕ) → j < n → IsTurn (C j) (S j) low cap) → i + length xs ≡ n → IsTrue (are_ordered low cap xs) → penalty C S i (limit cap xs) +ℤ over_echelons C i (base_stock S i xs) ≡ over_echelons (levelled C S) i xs
  links_reached n i [] rules e on =
      let none = penalty_cap i n rules (omega (arith, e)) in
      omega (arith, ints, none)
  links_reached n i (x ∷ []) rules e on =
      let up_from = and_parts (int_le low x) (int_le x cap) on in
      let last = penalty_cap (suc i) n rules (omega (arith, e)) in
      omega (arith, ints)
  links_reached n i (x ∷ next ∷ xs) rules e on =
      let up_from = and_parts (int_le low x) (are_ordered x cap (next ∷ xs)) on in
      let from = le_known low x up_from.0 in
      let others = links_reached n (suc i) (next ∷ xs) rules (omega (arith, e)) (ordered_lower x low cap (next ∷ xs) from up_from.1) in
      let here = link_reached (C i) (S i) low cap (rules i (omega (arith, e))) x next (le_known x next (and_parts (int_le x next) (are_ordered next cap xs) up_from.1).0) in
      omega (arith, ints, others, here)
