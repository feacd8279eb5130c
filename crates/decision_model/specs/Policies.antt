-- Decision problems over periods, their deterministic policies, which may look at all demands so far, and what a policy costs.
use Rattle.std.specs.Prelude.{◌≡◌, ℕ, zero, suc, ◌+◌, ◌^◌, ◌<◌, ℤ, pos, ◌+ℤ◌, ◌*ℤ◌, ◌≤ℤ◌, Bool, IsTrue, List, [], ◌∷◌, length}
use Rattle.demand_law.specs.Sequences.{over, laws_from}

-- a problem whose states and choices are of type X; periods count from 1
pub record Problem (X : Type 0) : Type 0 where
  pub horizon : ℕ
  -- how many demands after its own a period's cost looks at
  pub lookahead : ℕ
  -- the factor on the cost of each later period is discount_num / discount_den
  pub discount_num : ℕ
  pub discount_den : ℕ
  pub law : ℕ → List ℕ
  pub start : X
  -- whether a state is one of a period's
  pub grid : ℕ → X → Bool
  -- whether a choice is allowed in a period, at a state
  pub allows : ℕ → X → X → Bool
  -- the state after a choice at a state, and a demand
  pub next : X → X → ℕ → X
  -- what a period costs at a state and a choice, by the demands from this period on
  pub cost : ℕ → X → X → List ℕ → ℤ
  -- what is added after the last period
  pub end_cost : X → ℤ

-- a deterministic policy, which may look at all demands so far
abbrev pub Policy : Type 0 → Type 0
Policy X = List ℕ → X

-- what is left of a policy after a demand
abbrev pub after : {X : Type 0} → Policy X → ℕ → Policy X
after choose d = λ ds. choose (d ∷ ds)

-- what n periods cost from period t and state x on, along the demands, times discount_den to the power n
abbrev pub path_cost : {X : Type 0} → Problem X → ℕ → ℕ → X → Policy X → List ℕ → ℤ
path_cost p zero t x choose ds = p.end_cost x
path_cost p (suc n) t x choose [] = pos 0
path_cost p (suc n) t x choose (d ∷ ds) =
    pos (p.discount_den ^ suc n) *ℤ p.cost t x (choose []) (d ∷ ds)
    +ℤ pos p.discount_num *ℤ path_cost p n (suc t) (p.next x (choose []) d) (after choose d) ds

-- the sum over all sequences of weight times cost
abbrev pub expected_from : {X : Type 0} → Problem X → ℕ → ℕ → X → Policy X → ℤ
expected_from p n t x choose = over (laws_from p.law t (n + p.lookahead)) (path_cost p n t x choose)

abbrev pub expected : {X : Type 0} → Problem X → Policy X → ℤ
expected p choose = expected_from p p.horizon 1 p.start choose

-- each choice of n periods from period t and state x on is allowed
abbrev pub IsAllowedFrom : {X : Type 0} → Problem X → ℕ → ℕ → X → Policy X → Type 0
IsAllowedFrom p zero t x choose = Unit {0}
IsAllowedFrom p (suc n) t x choose =
    IsTrue (p.allows t x (choose [])) × ((d : ℕ) → d < length (p.law t) → IsAllowedFrom p n (suc t) (p.next x (choose []) d) (after choose d))

abbrev pub IsAllowed : {X : Type 0} → Problem X → Policy X → Type 0
IsAllowed p choose = IsAllowedFrom p p.horizon 1 p.start choose

-- the policy is allowed and costs v, and no allowed policy costs less
pub record Least {X : Type 0} (p : Problem X) (choose : Policy X) (v : ℤ) : Type 0 where
  pub allowed : IsAllowed p choose
  pub cost : expected p choose ≡ v
  pub least : (other : Policy X) → IsAllowed p other → v ≤ℤ expected p other
