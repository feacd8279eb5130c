-- The path cost, told as a sum: the cost of a period counts with as many factors num as periods have passed, and as many den as are left.
use Rattle.std.proofs.Common.{◌≡◌, ℕ, zero, suc, ◌*◌, ◌^◌, ℤ, pos, ◌+ℤ◌, ◌*ℤ◌, List, [], ◌∷◌, refl, sym, ◌∙◌, ap, pow-suc}
use Rattle.std.proofs.Math.Nat.{pow-zero}
use Rattle.demand_law.specs.Integers as Z
use Rattle.decision_model.specs.Policies.{Problem, Policy, after, path_cost}

-- what n periods add from period t and state x on, along the demands, where k periods have passed
abbrev pub path_sum : {X : Type 0} → Problem X → ℕ → ℕ → ℕ → X → Policy X → List ℕ → ℤ
path_sum p k zero t x choose ds = pos (p.discount_num ^ k) *ℤ p.end_cost x
path_sum p k (suc n) t x choose [] = pos 0
path_sum p k (suc n) t x choose (d ∷ ds) =
    pos (p.discount_num ^ k * p.discount_den ^ suc n) *ℤ p.cost t x (choose []) (d ∷ ds)
    +ℤ path_sum p (suc k) n (suc t) (p.next x (choose []) d) (after choose d) ds

module _ {X : Type 0} (p : Problem X) where
  -- the sum is the recursion's, times a factor num for each period that has passed
  path_sum-from : (k n t : ℕ) (x : X) (choose : Policy X) (ds : List ℕ) → path_sum p k n t x choose ds ≡ pos (p.discount_num ^ k) *ℤ path_cost p n t x choose ds
  path_sum-from k zero t x choose ds = refl
  path_sum-from k (suc n) t x choose [] = sym (Z.mul_zero (pos (p.discount_num ^ k)))
  path_sum-from k (suc n) t x choose (d ∷ ds) =
      let a = p.discount_num in
      let now = p.cost t x (choose []) (d ∷ ds) in
      let b = pos (p.discount_den ^ suc n) in
      let rest = path_cost p n (suc t) (p.next x (choose []) d) (after choose d) ds in
      ap (λ z. pos (a ^ k * p.discount_den ^ suc n) *ℤ now +ℤ z) (path_sum-from (suc k) n (suc t) (p.next x (choose []) d) (after choose d) ds ∙ ap (λ m. pos m *ℤ rest) (pow-suc a k) ∙ Z.mul_assoc (pos (a ^ k)) (pos a) rest)
      ∙ ap (λ z. z +ℤ pos (a ^ k) *ℤ (pos a *ℤ rest)) (Z.mul_assoc (pos (a ^ k)) b now)
      ∙ sym (Z.mul_add (pos (a ^ k)) (b *ℤ now) (pos a *ℤ rest))

  -- from the first period on the sum is the path cost
  pub path_sum-is : (choose : Policy X) (ds : List ℕ) → path_sum p 0 p.horizon 1 p.start choose ds ≡ path_cost p p.horizon 1 p.start choose ds
  path_sum-is choose ds =
      path_sum-from 0 p.horizon 1 p.start choose ds
      ∙ ap (λ k. pos k *ℤ path_cost p p.horizon 1 p.start choose ds) (pow-zero p.discount_num)
      ∙ Z.one_mul (path_cost p p.horizon 1 p.start choose ds)
