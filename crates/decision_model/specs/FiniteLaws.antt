-- A finite horizon as a problem over lists of one position.
use Rattle.std.proofs.Common.{◌≡◌, ℕ, suc, ◌≤◌, ℤ, pos, ◌-ℤ◌, ◌≤ℤ◌, ◌<ℤ◌, IsTrue, List, [], ◌∷◌, map}
use Rattle.std.specs.Prelude.{int_le}
use Rattle.std.proofs.lemmas.Bool.{and_parts}
use Rattle.demand_law.specs.Sequences.{IsSequence, laws_from}
use Rattle.decision_model.specs.declared.finite.Finite.{Finite}
use Rattle.decision_model.specs.Bounds.{IsOnGrid}
use Rattle.decision_model.specs.Finite.{IsReadableFinite, finite_low, finite_cost_bound}
use Rattle.decision_model.specs.FiniteCosts.{stay_allowed, cost_least, cost_below}
use Rattle.decision_model.specs.FiniteProblem.{law_of_period, finite_problem}
use Rattle.decision_model.specs.FiniteSound.{sound_readable, on_grid}
use Rattle.decision_model.specs.Listed.{position, listed, AreWithin}
use Rattle.decision_model.specs.ListedLaws.{one_within, one_steps, grid_position, allowed_position, listed_on_grid}
use Rattle.decision_model.specs.Policies.{Problem}
use Rattle.decision_model.specs.PositionTests.{le_known}

-- a finite horizon, told over lists of one position
abbrev pub finite_meaning : Finite → Problem (List ℤ)
finite_meaning finite = listed (finite_problem finite)

module _ (finite : Finite) (readable : IsReadableFinite finite) where
  -- an allowed order leads to the grid of the next period
  pub finite_on_grid : IsOnGrid (finite_meaning finite)
  finite_on_grid = listed_on_grid (finite_problem finite) (on_grid finite (sound_readable finite readable))

  -- the position is from the low end to the cap
  pub finite_within : (t : ℕ) (state : List ℤ) → IsTrue ((finite_meaning finite).grid t state) → AreWithin (finite_low finite t) finite.cap 1 state
  finite_within t state on =
      let one = grid_position (finite_problem finite) t state on in
      let within = and_parts (int_le (finite_low finite t) (position state)) (int_le (position state) finite.cap) one.1 in
      one_within (finite_low finite t) finite.cap state one.0 (le_known (finite_low finite t) (position state) within.0) (le_known (position state) finite.cap within.1)

  -- an order steps as its position does
  pub finite_steps : (t : ℕ) (state choice : List ℤ) (d : ℕ) → IsTrue ((finite_meaning finite).allows t state choice) → (finite_meaning finite).next state choice d ≡ map (λ y. y -ℤ pos d) choice
  finite_steps t state choice d ok = one_steps choice d (allowed_position (finite_problem finite) t state choice ok).0

  -- a position may stay
  pub finite_choice : (t : ℕ) (state : List ℤ) → IsTrue ((finite_meaning finite).grid t state) → (choice : List ℤ) × IsTrue ((finite_meaning finite).allows t state choice)
  finite_choice t state on = (position state ∷ [], stay_allowed finite (sound_readable finite readable) t (position state) (grid_position (finite_problem finite) t state on).1)

  -- no period costs less than 0
  pub finite_cost_least : (t : ℕ) (state choice : List ℤ) (ds : List ℕ) → IsTrue ((finite_meaning finite).allows t state choice) → pos 0 ≤ℤ (finite_meaning finite).cost t state choice ds
  finite_cost_least t state choice ds ok = cost_least finite (sound_readable finite readable) t (position state) (position choice) ds (allowed_position (finite_problem finite) t state choice ok).1

  -- each period costs less than the cost bound
  pub finite_cost_below : (t : ℕ) (state choice : List ℤ) (ds : List ℕ) → t ≤ finite.periods → IsTrue ((finite_meaning finite).grid t state) → IsTrue ((finite_meaning finite).allows t state choice) → IsSequence (laws_from (law_of_period finite) t (suc finite.lead)) ds → (finite_meaning finite).cost t state choice ds <ℤ pos (finite_cost_bound finite)
  finite_cost_below t state choice ds le on ok s =
      cost_below finite (sound_readable finite readable) t (position state) (position choice) ds le (grid_position (finite_problem finite) t state on).1 (allowed_position (finite_problem finite) t state choice ok).1 s
