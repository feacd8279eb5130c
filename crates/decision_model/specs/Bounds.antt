-- What bounds the cost of all policies of a problem: numbers on its states that no step undercuts.
use Rattle.std.specs.Prelude.{◌≡◌, ℕ, zero, suc, ◌+◌, ◌^◌, ◌<◌, ◌≤◌, ℤ, pos, ◌+ℤ◌, ◌-ℤ◌, ◌*ℤ◌, ◌≤ℤ◌, IsTrue, List, [], ◌∷◌, length}
use Rattle.demand_law.specs.Law.{weighted}
use Rattle.demand_law.specs.Sequences.{over, laws_from}
use Rattle.decision_model.specs.Policies.{Problem, Policy, after}

-- the state after the demands
abbrev pub state_after : {X : Type 0} → Problem X → X → Policy X → List ℕ → X
state_after p x choose [] = x
state_after p x choose (d ∷ ds) = state_after p (p.next x (choose []) d) (after choose d) ds

-- what is added after the last period, by the weights of the demands that are still to come
abbrev pub end_sum : {X : Type 0} → Problem X → X → ℤ
end_sum p x = over (laws_from p.law (suc p.horizon) p.lookahead) (λ ds. p.end_cost x)

-- the sum over the demands of n periods from period t on of what V lacks of the end's cost
abbrev pub rest_from : {X : Type 0} → Problem X → (ℕ → X → ℤ) → ℕ → ℕ → X → Policy X → ℤ
rest_from p V n t x choose =
    pos (p.discount_num ^ n)
    *ℤ over (laws_from p.law t n) (λ ds. end_sum p (state_after p x choose ds) -ℤ V (suc p.horizon) (state_after p x choose ds))

-- the cost of period t, which n periods follow, and of V after it
abbrev pub one_step : {X : Type 0} → Problem X → (ℕ → X → ℤ) → ℕ → ℕ → X → X → ℤ
one_step p V n t x y =
    pos (p.discount_den ^ suc n) *ℤ over (laws_from p.law t (suc n + p.lookahead)) (p.cost t x y)
    +ℤ pos p.discount_num *ℤ weighted (p.law t) (λ d. V (suc t) (p.next x y d))

-- the start is on the grid of the first period, and an allowed choice on a grid leads to the next grid
pub record IsOnGrid {X : Type 0} (p : Problem X) : Type 0 where
  pub start : IsTrue (p.grid 1 p.start)
  pub next : (t d : ℕ) (x y : X) → 1 ≤ t → IsTrue (p.grid t x) → IsTrue (p.allows t x y) → d < length (p.law t) → IsTrue (p.grid (suc t) (p.next x y d))

-- V is at most one step with any allowed choice
abbrev pub IsBelow : {X : Type 0} → (p : Problem X) → (ℕ → X → ℤ) → Type 0
IsBelow {X} p V = (n t : ℕ) (x y : X) → 1 ≤ t → t + n ≡ p.horizon → IsTrue (p.grid t x) → IsTrue (p.allows t x y) → V t x ≤ℤ one_step p V n t x y

-- V is at least one step with the policy's choice, at n periods from period t and state x on
abbrev pub IsAboveFrom : {X : Type 0} → Problem X → (ℕ → X → ℤ) → ℕ → ℕ → X → Policy X → Type 0
IsAboveFrom p V zero t x choose = Unit {0}
IsAboveFrom p V (suc n) t x choose =
    (one_step p V n t x (choose []) ≤ℤ V t x) × ((d : ℕ) → d < length (p.law t) → IsAboveFrom p V n (suc t) (p.next x (choose []) d) (after choose d))
