-- What holds of a problem over positions holds of it over lists of one position.
use Rattle.std.proofs.Common.{◌≡◌, ℕ, zero, suc, ℤ, pos, ◌-ℤ◌, ◌≤ℤ◌, IsTrue, List, [], ◌∷◌, map, All, refl, arith}
use Rattle.std.proofs.lemmas.Bool.{and_parts}
use Rattle.decision_model.specs.Bounds.{IsOnGrid}
use Rattle.decision_model.specs.Listed.{position, is_one, listed, AreWithin}
use Rattle.decision_model.specs.Policies.{Problem}

-- what holds of one position
all_one : (P : ℤ → Type 0) (x : ℤ) → P x → All P (x ∷ [])
all_one P x h zero d lt = h
all_one P x h (suc k) d lt = absurd (omega arith)

-- a state whose one position lies between a low end and a cap
pub one_within : (low cap : ℤ) (state : List ℤ) → IsTrue (is_one state) → low ≤ℤ position state → position state ≤ℤ cap → AreWithin low cap 1 state
one_within low cap [] one from to = cc
one_within low cap (x ∷ []) one from to = record { parts_each = omega arith; from_low = all_one (λ z. low ≤ℤ z) x from; to_cap = all_one (λ z. z ≤ℤ cap) x to }
one_within low cap (x ∷ y ∷ ys) one from to = cc

-- one position steps as a list of it does
pub one_steps : (choice : List ℤ) (d : ℕ) → IsTrue (is_one choice) → (position choice -ℤ pos d) ∷ [] ≡ map (λ y. y -ℤ pos d) choice
one_steps [] d one = cc
one_steps (y ∷ []) d one = refl
one_steps (y ∷ z ∷ zs) d one = cc

module _ (p : Problem ℤ) where
  -- a list on the grid is one position on the grid
  pub grid_position : (t : ℕ) (state : List ℤ) → IsTrue ((listed p).grid t state) → IsTrue (is_one state) × IsTrue (p.grid t (position state))
  grid_position t state on = and_parts (is_one state) (p.grid t (position state)) on

  -- an allowed list is one allowed position
  pub allowed_position : (t : ℕ) (state choice : List ℤ) → IsTrue ((listed p).allows t state choice) → IsTrue (is_one choice) × IsTrue (p.allows t (position state) (position choice))
  allowed_position t state choice ok = and_parts (is_one choice) (p.allows t (position state) (position choice)) ok

  -- allowed choices lead from grid to grid
  pub listed_on_grid : IsOnGrid p → IsOnGrid (listed p)
  listed_on_grid is = record {
    start = is.start;
    next = λ t d state choice pt on ok lt. is.next t d (position state) (position choice) pt (grid_position t state on).1 (allowed_position t state choice ok).1 lt;
  }
