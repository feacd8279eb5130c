-- A problem whose costs are all multiplied.
use Rattle.std.proofs.Common.{◌≡◌, ℕ, zero, suc, ◌+◌, ◌^◌, pos, ◌+ℤ◌, ◌*ℤ◌, List, [], ◌∷◌, ℤ, refl, sym, ◌∙◌, ap, arith, pow-suc}
use Rattle.std.proofs.Math.Nat.{pow-zero}
use Rattle.demand_law.specs.Integers as Z
use Rattle.demand_law.specs.Sequences.{over, laws_from}
use Rattle.demand_law.specs.SequenceSums.{over-scale}
use Rattle.decision_model.specs.Policies.{Problem, Policy, after, path_cost, expected}

-- a power of 1
one_pow : (n : ℕ) → 1 ^ n ≡ 1
one_pow zero = pow-zero 1
one_pow (suc n) = omega (arith, pow-suc 1 n, one_pow n)

-- no discount is no factor
pub no_discount : (n : ℕ) (z : ℤ) → pos (1 ^ n) *ℤ z ≡ z
no_discount n z = ap (λ k. pos k *ℤ z) (one_pow n) ∙ Z.one_mul z

-- each cost times a number
abbrev pub scaled : {X : Type 0} → ℤ → Problem X → Problem X
scaled c p = record p { cost = λ t x y ds. c *ℤ p.cost t x y ds; end_cost = λ x. c *ℤ p.end_cost x }

-- a factor of both terms
outside : (a b c x y : ℤ) → a *ℤ (c *ℤ x) +ℤ b *ℤ (c *ℤ y) ≡ c *ℤ (a *ℤ x +ℤ b *ℤ y)
outside a b c x y =
    ap (λ z. z +ℤ b *ℤ (c *ℤ y)) (swap a x) ∙ ap (λ z. c *ℤ (a *ℤ x) +ℤ z) (swap b y) ∙ sym (Z.mul_add c (a *ℤ x) (b *ℤ y))
  where
    swap : (k z : ℤ) → k *ℤ (c *ℤ z) ≡ c *ℤ (k *ℤ z)
    swap k z = sym (Z.mul_assoc k c z) ∙ ap (λ m. m *ℤ z) (Z.mul_comm k c) ∙ Z.mul_assoc c k z

module _ {X : Type 0} (c : ℤ) (p : Problem X) where
  -- a path costs so many times as much
  path-scaled : (n t : ℕ) (x : X) (choose : Policy X) (ds : List ℕ) → path_cost (scaled c p) n t x choose ds ≡ c *ℤ path_cost p n t x choose ds
  path-scaled zero t x choose ds = refl
  path-scaled (suc n) t x choose [] = sym (Z.mul_zero c)
  path-scaled (suc n) t x choose (d ∷ ds) =
      ap (λ z. pos (p.discount_den ^ suc n) *ℤ (c *ℤ p.cost t x (choose []) (d ∷ ds)) +ℤ pos p.discount_num *ℤ z) (path-scaled n (suc t) (p.next x (choose []) d) (after choose d) ds)
      ∙ outside (pos (p.discount_den ^ suc n)) (pos p.discount_num) c (p.cost t x (choose []) (d ∷ ds)) (path_cost p n (suc t) (p.next x (choose []) d) (after choose d) ds)

  -- and so does a policy
  pub expected-scaled : (choose : Policy X) → expected (scaled c p) choose ≡ c *ℤ expected p choose
  expected-scaled choose =
      ap (over (laws_from p.law 1 (p.horizon + p.lookahead))) (λ i ds. path-scaled p.horizon 1 p.start choose ds i)
      ∙ over-scale c (laws_from p.law 1 (p.horizon + p.lookahead)) (path_cost p p.horizon 1 p.start choose)
