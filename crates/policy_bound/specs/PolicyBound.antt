-- The bound: no policy costs less than V at the start and the rest, and one whose choices reach V costs no more.
use Rattle.std.proofs.Common.{◌≡◌, ℕ, zero, suc, ◌+◌, ◌^◌, ◌≤◌, ℤ, pos, ◌+ℤ◌, ◌-ℤ◌, ◌*ℤ◌, ◌≤ℤ◌, IsTrue, List, [], ◌∷◌, sym, ◌∙◌, ap, arith, zero-add}
use Rattle.std.proofs.lemmas.Int.{ints}
use Rattle.std.proofs.Math.Nat.{pow-zero}
use Rattle.demand_law.specs.Law.{weighted}
use Rattle.demand_law.specs.Sequences.{over, laws_from}
use Rattle.demand_law.specs.Integers as Z
use Rattle.demand_law.specs.WeightedSums.{weighted-ext, weighted-add, weighted-mono, weighted-scale}
use Rattle.demand_law.specs.SequenceSums.{over-add, over-first, over-scale}
use Rattle.decision_model.specs.Policies.{Problem, Policy, after, path_cost, expected_from, IsAllowedFrom}
use Rattle.decision_model.specs.Bounds.{end_sum, state_after, rest_from, IsOnGrid, IsBelow, IsAboveFrom}

module _ {X : Type 0} (p : Problem X) where
  -- the expected cost is that of the first period and that of the periods after each demand
  pub expected-first : (n t : ℕ) (x : X) (choose : Policy X) → expected_from p (suc n) t x choose ≡ pos (p.discount_den ^ suc n) *ℤ over (laws_from p.law t (suc n + p.lookahead)) (p.cost t x (choose [])) +ℤ pos p.discount_num *ℤ weighted (p.law t) (λ d. expected_from p n (suc t) (p.next x (choose []) d) (after choose d))
  expected-first n t x choose =
      let b = pos (p.discount_den ^ suc n) in
      let a = pos p.discount_num in
      let now : List ℕ → ℤ = p.cost t x (choose []) in
      let later : ℕ → List ℕ → ℤ = λ d. path_cost p n (suc t) (p.next x (choose []) d) (after choose d) in
      let laws = laws_from p.law (suc t) (n + p.lookahead) in
      over-first p.law t n p.lookahead (path_cost p (suc n) t x choose)
      ∙ weighted-ext (p.law t) _ _ (λ d. over-add laws (λ ds. b *ℤ now (d ∷ ds)) (λ ds. a *ℤ later d ds))
      ∙ weighted-add (p.law t) _ _
      ∙ ap (λ z. z +ℤ weighted (p.law t) (λ d. over laws (λ ds. a *ℤ later d ds)))
      (sym (over-first p.law t n p.lookahead (λ ds. b *ℤ now ds)) ∙ over-scale b (laws_from p.law t (suc n + p.lookahead)) now)
      ∙ ap (λ z. b *ℤ over (laws_from p.law t (suc n + p.lookahead)) now +ℤ z)
      (weighted-ext (p.law t) _ _ (λ d. over-scale a laws (later d)) ∙ weighted-scale a (p.law t) (λ d. over laws (later d)))

  -- after the last period the expected cost is what is added at the end
  pub expected-end : (t : ℕ) (x : X) (choose : Policy X) → t ≡ suc p.horizon → expected_from p zero t x choose ≡ end_sum p x
  expected-end t x choose e =
      ap (λ l. over (laws_from p.law t l) (λ ds. p.end_cost x)) (zero-add p.lookahead)
      ∙ ap (λ s. over (laws_from p.law s p.lookahead) (λ ds. p.end_cost x)) e

  module _ (V : ℕ → X → ℤ) where
    -- no period: the rest is what V lacks here
    rest-none : (t : ℕ) (x : X) (choose : Policy X) → rest_from p V zero t x choose ≡ end_sum p x -ℤ V (suc p.horizon) x
    rest-none t x choose =
        ap (λ k. pos k *ℤ (end_sum p x -ℤ V (suc p.horizon) x)) (pow-zero p.discount_num) ∙ Z.one_mul (end_sum p x -ℤ V (suc p.horizon) x)

    -- the rest after a first period
    rest-first : (n t : ℕ) (x : X) (choose : Policy X) → rest_from p V (suc n) t x choose ≡ pos p.discount_num *ℤ weighted (p.law t) (λ d. rest_from p V n (suc t) (p.next x (choose []) d) (after choose d))
    rest-first n t x choose =
        let lacks : ℕ → ℤ = λ d. over (laws_from p.law (suc t) n) (λ ds. end_sum p (state_after p (p.next x (choose []) d) (after choose d) ds) -ℤ V (suc p.horizon) (state_after p (p.next x (choose []) d) (after choose d) ds)) in
        ap (λ k. pos k *ℤ weighted (p.law t) lacks) (sym (Z.pow_first p.discount_num n))
        ∙ Z.mul_assoc (pos p.discount_num) (pos (p.discount_num ^ n)) (weighted (p.law t) lacks)
        ∙ ap (λ z. pos p.discount_num *ℤ z) (sym (weighted-scale (pos (p.discount_num ^ n)) (p.law t) lacks))

    -- numbers that no step undercuts bound the cost of every allowed policy, but for the rest
    pub lower_bound : IsOnGrid p → IsBelow p V → (n t : ℕ) (x : X) (choose : Policy X) → 1 ≤ t → t + n ≡ suc p.horizon → IsTrue (p.grid t x) → IsAllowedFrom p n t x choose → (V t x +ℤ rest_from p V n t x choose) ≤ℤ expected_from p n t x choose
    lower_bound closed below zero t x choose pt e on ok =
        let last : t ≡ suc p.horizon = omega arith in
        let same = expected-end t x choose last in
        let value = ap (λ s. V s x) last in
        omega (arith, ints, same, value, rest-none t x choose)
    lower_bound closed below (suc n) t x choose pt e on ok =
        let y = choose [] in
        let a = p.discount_num in
        let later = λ (d : ℕ). p.next x y d in
        let value = weighted (p.law t) (λ d. V (suc t) (later d)) in
        let rest = weighted (p.law t) (λ d. rest_from p V n (suc t) (later d) (after choose d)) in
        let cost = weighted (p.law t) (λ d. expected_from p n (suc t) (later d) (after choose d)) in
        let step = below n t x y pt (omega arith) on ok.0 in
        let tails = weighted-mono (p.law t)
        (λ d. V (suc t) (later d) +ℤ rest_from p V n (suc t) (later d) (after choose d))
        (λ d. expected_from p n (suc t) (later d) (after choose d))
        (λ d lt. lower_bound closed below n (suc t) (later d) (after choose d) (omega arith) (omega arith) (closed.next t d x y pt on ok.0 lt) (ok.1 d lt)) in
        let parts = weighted-add (p.law t) (λ d. V (suc t) (later d)) (λ d. rest_from p V n (suc t) (later d) (after choose d)) in
        let joined : (value +ℤ rest) ≤ℤ cost = omega (arith, ints, tails, parts) in
        let scaled = Z.weight_mono a (value +ℤ rest) cost joined in
        omega (arith, ints, step, scaled, Z.mul_add (pos a) value rest, rest-first n t x choose, expected-first n t x choose)

    -- and from above, for a policy whose own choices reach V
    pub upper_bound : (n t : ℕ) (x : X) (choose : Policy X) → t + n ≡ suc p.horizon → IsAboveFrom p V n t x choose → expected_from p n t x choose ≤ℤ (V t x +ℤ rest_from p V n t x choose)
    upper_bound zero t x choose e above =
        let last : t ≡ suc p.horizon = omega arith in
        let same = expected-end t x choose last in
        let value = ap (λ s. V s x) last in
        omega (arith, ints, same, value, rest-none t x choose)
    upper_bound (suc n) t x choose e above =
        let y = choose [] in
        let a = p.discount_num in
        let later = λ (d : ℕ). p.next x y d in
        let value = weighted (p.law t) (λ d. V (suc t) (later d)) in
        let rest = weighted (p.law t) (λ d. rest_from p V n (suc t) (later d) (after choose d)) in
        let cost = weighted (p.law t) (λ d. expected_from p n (suc t) (later d) (after choose d)) in
        let step = above.0 in
        let tails = weighted-mono (p.law t)
        (λ d. expected_from p n (suc t) (later d) (after choose d))
        (λ d. V (suc t) (later d) +ℤ rest_from p V n (suc t) (later d) (after choose d))
        (λ d lt. upper_bound n (suc t) (later d) (after choose d) (omega arith) (above.1 d lt)) in
        let parts = weighted-add (p.law t) (λ d. V (suc t) (later d)) (λ d. rest_from p V n (suc t) (later d) (after choose d)) in
        let joined : cost ≤ℤ (value +ℤ rest) = omega (arith, ints, tails, parts) in
        let scaled = Z.weight_mono a cost (value +ℤ rest) joined in
        omega (arith, ints, step, scaled, Z.mul_add (pos a) value rest, rest-first n t x choose, expected-first n t x choose)
