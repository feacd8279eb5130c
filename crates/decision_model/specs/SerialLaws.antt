-- The laws of a serial system as a problem over lists of echelon stocks.
use Rattle.std.proofs.Common.{ℕ, ◌≤◌, ℤ, pos, ◌≤ℤ◌, ◌<ℤ◌, IsTrue, ◌==◌, List, [], ◌∷◌, length, slice_index_or, sym, ◌∙◌, arith}
use Rattle.std.proofs.lemmas.Bool.{and_parts, eqb-true}
use Rattle.demand_law.specs.Sequences.{IsSequence, laws_from, greatest_in}
use Rattle.decision_model.specs.declared.serial.Serial.{Serial}
use Rattle.decision_model.specs.Bounds.{IsOnGrid}
use Rattle.decision_model.specs.Listed.{AreWithin}
use Rattle.decision_model.specs.Serial.{IsReadableSerial, serial_low, serial_cost_bound}
use Rattle.decision_model.specs.SerialCosts.{cost_least, cost_below}
use Rattle.decision_model.specs.SerialProblem.{law_of_period, are_ordered, serial_problem}
use Rattle.decision_model.specs.SerialSound.{IsSoundSerial, sound_readable, on_grid}
use Rattle.decision_model.specs.SerialStates.{ordered_within, stay_allowed}

-- a list of demands, one for one period, has a demand of at most the greatest
pub one_demand : (serial : Serial) → IsSoundSerial serial → (t : ℕ) (ds : List ℕ) → IsSequence (laws_from (law_of_period serial) t 1) ds → slice_index_or ds 0 0 ≤ greatest_in serial.laws
one_demand serial sound t [] s = absurd s
one_demand serial sound t (d ∷ ds) s = omega (arith, s.0, sound.within t)

module _ (serial : Serial) (readable : IsReadableSerial serial) where
  sound : IsSoundSerial serial
  sound = sound_readable serial readable

  -- allowed orders lead to the grid of the next period
  pub serial_on_grid : IsOnGrid (serial_problem serial)
  serial_on_grid = on_grid serial sound

  -- a state on the grid has a stock for each echelon, and they never fall
  on_parts : (t : ℕ) (state : List ℤ) → IsTrue ((serial_problem serial).grid t state) → IsTrue (length state == length serial.holding) × IsTrue (are_ordered (serial_low serial t) serial.cap state)
  on_parts t state on = and_parts (length state == length serial.holding) (are_ordered (serial_low serial t) serial.cap state) on

  -- each stock is from the low end to the cap
  pub serial_within : (t : ℕ) (state : List ℤ) → IsTrue ((serial_problem serial).grid t state) → AreWithin (serial_low serial t) serial.cap (length serial.start) state
  serial_within t state on =
      let parts = on_parts t state on in
      let within = ordered_within (serial_low serial t) serial.cap state parts.1 in
      record { parts_each = eqb-true (length state) (length serial.holding) parts.0 ∙ sym sound.start_each; from_low = within.0; to_cap = within.1 }

  -- nothing need be ordered
  pub serial_choice : (t : ℕ) (state : List ℤ) → IsTrue ((serial_problem serial).grid t state) → (choice : List ℤ) × IsTrue ((serial_problem serial).allows t state choice)
  serial_choice t state on = (state, stay_allowed (serial_low serial t) serial.cap state (on_parts t state on).1)

  -- no period costs less than 0
  pub serial_cost_least : (t : ℕ) (state choice : List ℤ) (ds : List ℕ) → t ≤ serial.periods → IsTrue ((serial_problem serial).grid t state) → IsTrue ((serial_problem serial).allows t state choice) → IsSequence (laws_from (law_of_period serial) t 1) ds → pos 0 ≤ℤ (serial_problem serial).cost t state choice ds
  serial_cost_least t [] choice ds le on ok s = absurd (omega (arith, sound.some_echelon, eqb-true 0 (length serial.holding) (on_parts t [] on).0))
  serial_cost_least t (x ∷ xs) choice ds le on ok s =
      cost_least serial sound t (slice_index_or ds 0 0) (omega (arith, le)) (one_demand serial sound t ds s) x xs choice (on_parts t (x ∷ xs) on).1 ok

  -- each period costs less than the cost bound
  pub serial_cost_below : (t : ℕ) (state choice : List ℤ) (ds : List ℕ) → t ≤ serial.periods → IsTrue ((serial_problem serial).grid t state) → IsTrue ((serial_problem serial).allows t state choice) → IsSequence (laws_from (law_of_period serial) t 1) ds → (serial_problem serial).cost t state choice ds <ℤ pos (serial_cost_bound serial)
  serial_cost_below t [] choice ds le on ok s = absurd (omega (arith, sound.some_echelon, eqb-true 0 (length serial.holding) (on_parts t [] on).0))
  serial_cost_below t (x ∷ xs) choice ds le on ok s =
      cost_below serial sound t (slice_index_or ds 0 0) (omega (arith, le)) (one_demand serial sound t ds s) x xs choice (on_parts t (x ∷ xs) on).1 ok
