-- A problem over positions, as one over lists of one position.
use Rattle.std.specs.Prelude.{◌≡◌, ℕ, ℤ, pos, ◌≤ℤ◌, Bool, true, false, ◌&&◌, List, [], ◌∷◌, length, All}
use Rattle.decision_model.specs.Policies.{Problem, Policy}

-- the first position of a list
abbrev pub position : List ℤ → ℤ
position [] = pos 0
position (x ∷ xs) = x

-- the list has one position
abbrev pub is_one : List ℤ → Bool
is_one [] = false
is_one (x ∷ []) = true
is_one (x ∷ y ∷ ys) = false

-- the same problem, whose states and choices are lists of one position
abbrev pub listed : Problem ℤ → Problem (List ℤ)
listed p = record {
  horizon = p.horizon;
  lookahead = p.lookahead;
  discount_num = p.discount_num;
  discount_den = p.discount_den;
  law = p.law;
  start = p.start ∷ [];
  grid = λ t x. is_one x && p.grid t (position x);
  allows = λ t x y. is_one y && p.allows t (position x) (position y);
  next = λ x y d. p.next (position x) (position y) d ∷ [];
  cost = λ t x y ds. p.cost t (position x) (position y) ds;
  end_cost = λ x. p.end_cost (position x);
}

-- a policy over positions, told over lists
abbrev pub listed_policy : Policy ℤ → Policy (List ℤ)
listed_policy choose = λ ds. choose ds ∷ []

-- and back
abbrev pub position_policy : Policy (List ℤ) → Policy ℤ
position_policy choose = λ ds. position (choose ds)

-- a state of some positions, each from a low end to a cap
pub record AreWithin (low cap : ℤ) (parts : ℕ) (state : List ℤ) : Type 0 where
  pub parts_each : length state ≡ parts
  pub from_low : All (λ x. low ≤ℤ x) state
  pub to_cap : All (λ x. x ≤ℤ cap) state
