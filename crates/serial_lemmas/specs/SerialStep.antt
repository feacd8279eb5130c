-- The cost of a period and of the values after it, as sums over echelons.
use Rattle.std.proofs.Common.{◌≡◌, ℕ, suc, ◌+◌, ◌*◌, ◌^◌, ℤ, pos, ◌+ℤ◌, ◌-ℤ◌, ◌*ℤ◌, List, [], ◌∷◌, length, sum, slice_index_or, refl, sym, ◌∙◌, ap, arith, mul_assoc, mul_comm}
use Rattle.std.proofs.lemmas.Int.{ints}
use Rattle.std.proofs.lemmas.Nat.{mul-pow}
use Rattle.demand_law.specs.Law.{weighted}
use Rattle.demand_law.specs.Sequences.{over, laws_from}
use Rattle.demand_law.specs.Integers as Z
use Rattle.demand_law.specs.WeightedSums.{weighted-add, weighted-ext, weighted-const, weighted-scale}
use Rattle.demand_law.specs.SequenceSums.{over-first, over_from-const}
use Rattle.decision_model.specs.Bounds.{one_step}
use Rattle.decision_model.specs.DemandLaws.{common_total}
use Rattle.decision_model.specs.SerialProblem.{after_demand, holding_of, law_of_period, over_echelons, over_orders, period_cost, serial_problem, unit_of}
use Rattle.decision_model.specs.declared.serial.Serial.{Serial}
use Rattle.serial_lemmas.specs.EchelonSums.{echelons-add, echelons-less, echelons-rates, echelons-scale, echelons-weighted, moves-rates}
use Rattle.value_cert.specs.SerialValues.{demand_scale, order_cost, own, own_cost, scale}

module _ (serial : Serial) (same : (t : ℕ) → sum (law_of_period serial t) ≡ common_total serial.laws) where
  -- the sum of weights of each law
  abbrev w : ℕ
  w = common_total serial.laws

  -- the echelons past the first one have the same cost in both forms
  own-later : (d i : ℕ) (xs : List ℤ) → over_echelons (λ j x. pos (holding_of serial j) *ℤ (x -ℤ pos d)) (suc i) xs ≡ over_echelons (λ j x. own_cost serial j x d) (suc i) xs
  own-later d i [] = refl
  own-later d i (x ∷ xs) = ap (λ z. pos (holding_of serial (suc i)) *ℤ (x -ℤ pos d) +ℤ z) (own-later d (suc i) xs)

  -- the cost of a period by echelons
  period_parts : (x : ℤ) (xs ys : List ℤ) (d : ℕ) → period_cost serial (x ∷ xs) ys d ≡ over_echelons (λ j z. own_cost serial j z d) 0 (x ∷ xs) +ℤ over_orders (λ j z y. pos (unit_of serial j) *ℤ (y -ℤ z)) 0 (x ∷ xs) ys
  period_parts x xs ys d = omega (arith, ints, own-later d 0 xs)

  -- over all demands to come
  period_sum : (n t : ℕ) (x : ℤ) (xs ys : List ℤ) → over (laws_from (law_of_period serial) t (suc n + 0)) (λ ds. period_cost serial (x ∷ xs) ys (slice_index_or ds 0 0)) ≡ pos (w ^ n) *ℤ weighted (law_of_period serial t) (period_cost serial (x ∷ xs) ys)
  period_sum n t x xs ys =
      over-first (law_of_period serial) t n 0 (λ ds. period_cost serial (x ∷ xs) ys (slice_index_or ds 0 0))
      ∙ weighted-ext (law_of_period serial t) _ _ (λ d. over_from-const (law_of_period serial) w same (suc t) (n + 0) (period_cost serial (x ∷ xs) ys d))
      ∙ weighted-scale (pos (w ^ (n + 0))) (law_of_period serial t) (period_cost serial (x ∷ xs) ys)
      ∙ ap (λ k. pos (w ^ k) *ℤ weighted (law_of_period serial t) (period_cost serial (x ∷ xs) ys)) (omega arith)

  -- by the weights of the period
  period_weighted : (t : ℕ) (x : ℤ) (xs ys : List ℤ) → weighted (law_of_period serial t) (period_cost serial (x ∷ xs) ys) ≡ over_echelons (λ j z. weighted (law_of_period serial t) (own_cost serial j z)) 0 (x ∷ xs) +ℤ pos w *ℤ over_orders (λ j z y. pos (unit_of serial j) *ℤ (y -ℤ z)) 0 (x ∷ xs) ys
  period_weighted t x xs ys =
      let moves = over_orders (λ j z y. pos (unit_of serial j) *ℤ (y -ℤ z)) 0 (x ∷ xs) ys in
      weighted-ext (law_of_period serial t) _ _ (λ d. period_parts x xs ys d)
      ∙ weighted-add (law_of_period serial t) (λ d. over_echelons (λ j z. own_cost serial j z d) 0 (x ∷ xs)) (λ d. moves)
      ∙ ap (λ z. z +ℤ weighted (law_of_period serial t) (λ d. moves)) (echelons-weighted (law_of_period serial t) (own_cost serial) 0 (x ∷ xs))
      ∙ ap (λ z. over_echelons (λ j z. weighted (law_of_period serial t) (own_cost serial j z)) 0 (x ∷ xs) +ℤ z) (weighted-const (law_of_period serial t) moves ∙ ap (λ k. pos k *ℤ moves) (same t))

  -- the scale of a period, by its demand scale
  pub scale_is : (n : ℕ) → serial.discount_den ^ suc n * w ^ n * w ≡ scale serial (suc n)
  unfolding scale
  scale_is n =
      mul_assoc (serial.discount_den ^ suc n) (w ^ n) w
      ∙ ap (λ k. serial.discount_den ^ suc n * k) (mul_comm (w ^ n) w ∙ Z.pow_first w n)
      ∙ sym (mul-pow serial.discount_den w (suc n))

  -- the values after the period
  values_after : (F : ℕ → ℤ → ℤ) (t : ℕ) (ys : List ℤ) → pos serial.discount_num *ℤ weighted (law_of_period serial t) (λ d. over_echelons F 0 (after_demand ys d)) ≡ over_echelons (λ j y. pos serial.discount_num *ℤ weighted (law_of_period serial t) (λ d. F j (y -ℤ pos d))) 0 ys
  values_after F t ys =
      ap (λ z. pos serial.discount_num *ℤ z) (weighted-ext (law_of_period serial t) _ _ (λ d. echelons-less F d 0 ys) ∙ echelons-weighted (law_of_period serial t) (λ j y d. F j (y -ℤ pos d)) 0 ys)
      ∙ sym (echelons-scale (pos serial.discount_num) (λ j y. weighted (law_of_period serial t) (λ d. F j (y -ℤ pos d))) 0 ys)

  -- all of it, as sums over echelons
  pub step_is : (V : ℕ → List ℤ → ℤ) (F : ℕ → ℤ → ℤ) (n t : ℕ) (x : ℤ) (xs ys : List ℤ) → length (x ∷ xs) ≡ length ys → ((zs : List ℤ) → V (suc t) zs ≡ over_echelons F 0 zs) → one_step (serial_problem serial) V n t (x ∷ xs) ys ≡ over_echelons (own serial n t) 0 (x ∷ xs) -ℤ over_echelons (λ j z. pos (scale serial (suc n) * unit_of serial j) *ℤ z) 0 (x ∷ xs) +ℤ over_echelons (order_cost serial F n t) 0 ys
  unfolding demand_scale
  step_is V F n t x xs ys as_many is =
      let b = serial.discount_den ^ suc n in
      let law = law_of_period serial t in
      let moves = over_orders (λ j z y. pos (unit_of serial j) *ℤ (y -ℤ z)) 0 (x ∷ xs) ys in
      let owns = over_echelons (λ j z. weighted law (own_cost serial j z)) 0 (x ∷ xs) in
      let units = over_echelons (λ j z. pos (unit_of serial j) *ℤ z) 0 in
      let after = over_echelons (λ j y. pos serial.discount_num *ℤ weighted law (λ d. F j (y -ℤ pos d))) 0 ys in
      let cost : pos b *ℤ over (laws_from (law_of_period serial) t (suc n + 0)) (λ ds. period_cost serial (x ∷ xs) ys (slice_index_or ds 0 0)) ≡ pos (b * w ^ n) *ℤ owns +ℤ pos (scale serial (suc n)) *ℤ moves =
      ap (λ z. pos b *ℤ z) (period_sum n t x xs ys) ∙ sym (Z.mul_assoc (pos b) (pos (w ^ n)) (weighted law (period_cost serial (x ∷ xs) ys)))
      ∙ ap (λ z. pos (b * w ^ n) *ℤ z) (period_weighted t x xs ys)
      ∙ Z.mul_add (pos (b * w ^ n)) owns (pos w *ℤ moves)
      ∙ ap (λ z. pos (b * w ^ n) *ℤ owns +ℤ z) (sym (Z.mul_assoc (pos (b * w ^ n)) (pos w) moves) ∙ ap (λ k. pos k *ℤ moves) (scale_is n)) in
      let own_sum : over_echelons (own serial n t) 0 (x ∷ xs) ≡ pos (b * w ^ n) *ℤ owns = echelons-scale (pos (b * w ^ n)) (λ j z. weighted law (own_cost serial j z)) 0 (x ∷ xs) in
      let moved : moves ≡ units ys -ℤ units (x ∷ xs) = moves-rates (unit_of serial) 0 (x ∷ xs) ys as_many in
      let before = echelons-rates (scale serial (suc n)) (unit_of serial) 0 (x ∷ xs) in
      let behind = echelons-rates (scale serial (suc n)) (unit_of serial) 0 ys in
      let all_moves : units (x ∷ xs) +ℤ moves ≡ units ys = omega (arith, ints, moved) in
      let scaled = Z.mul_add (pos (scale serial (suc n))) (units (x ∷ xs)) moves in
      let scaled_moves = ap (λ z. pos (scale serial (suc n)) *ℤ z) all_moves in
      let later : pos serial.discount_num *ℤ weighted law (λ d. V (suc t) (after_demand ys d)) ≡ after = ap (λ z. pos serial.discount_num *ℤ z) (weighted-ext law _ _ (λ d. is (after_demand ys d))) ∙ values_after F t ys in
      let orders : over_echelons (order_cost serial F n t) 0 ys ≡ over_echelons (λ j y. pos (scale serial (suc n) * unit_of serial j) *ℤ y) 0 ys +ℤ after = echelons-add (λ j y. pos (scale serial (suc n) * unit_of serial j) *ℤ y) (λ j y. pos serial.discount_num *ℤ weighted law (λ d. F j (y -ℤ pos d))) 0 ys in
      omega (arith, ints, cost, own_sum, before, behind, scaled, scaled_moves, later, orders)
