-- Worked instances of the definitions: two echelons, two periods of demand 0 or 1, each as likely, 1 for each unit of an
-- echelon's stock, and 4 for each unit that lacks.
use Rattle.std.proofs.Common.{◌≡◌, ℕ, ℤ, pos, negsuc, List, [], ◌∷◌, refl}
use Rattle.fraction128.specs.Reduced.{common_divisor_upto}
use Rattle.decision_model.specs.declared.serial.Serial.{Serial}
use Rattle.decision_model.specs.Policies.{expected}
use Rattle.decision_model.specs.SerialProblem.{serial_problem, lacking_rate}
use Rattle.newsvendor.specs.Least.{first_least_upto}
use Rattle.value_cert.specs.SerialRules.{serial_levels, serial_num, serial_den, solved_serial}
use Rattle.value_cert.specs.SerialValues.{scale, demand_scale, least_position, base_stock_policy}
use Rattle.value_cert.specs.declared.cert.Cert.TheVariants as cert
use Rattle.value_cert.specs.declared.serial.SerialCell.{SerialCell}
use Rattle.value_cert.specs.declared.serial.SerialPeriod.{SerialPeriod}
use Rattle.value_cert.specs.declared.serial.SerialRow.{SerialRow}

-- the instance, at a start and a discount
abbrev two : List ℤ → ℕ → ℕ → Serial
two start num den = record {
  periods = 2;
  holding = 1 ∷ 1 ∷ [];
  unit = 0 ∷ 0 ∷ [];
  stockout = 4;
  discount_num = num;
  discount_den = den;
  laws = (1 ∷ 1 ∷ []) ∷ [];
  cap = pos 3;
  start = start;
}

-- a stock and its value
abbrev cell : ℤ → ℤ → SerialCell
cell at value = record { at = at; value = value }

-- an echelon with its level
abbrev row : ℕ → ℤ → List SerialCell → SerialRow
row echelon level cells = record { echelon = echelon; level = level; cells = cells }

-- the echelons of a period
abbrev period : ℕ → List SerialRow → SerialPeriod
period number rows = record { period = number; rows = rows }

-- the start has one unit below the second echelon's
abbrev one_two : List ℤ
one_two = pos 1 ∷ pos 2 ∷ []

-- both echelons' stocks are one unit
abbrev one_one : List ℤ
one_one = pos 1 ∷ pos 1 ∷ []

-- the levels are 2 and 0 before the first demand, and -1, the low end, before the last; echelon 2's value counts what it costs that its stock
-- keeps echelon 1 below its level
solved_two : (solved_serial (two one_two 1 1)).periods ≡
    period 2 (
    row 1 (negsuc 0) (cell (negsuc 0) (pos 15) ∷ cell (pos 0) (pos 5) ∷ cell (pos 1) (pos 1) ∷ cell (pos 2) (pos 3) ∷ cell (pos 3) (pos 5) ∷ [])
    ∷ row 2 (negsuc 0) (cell (negsuc 0) (negsuc 2) ∷ cell (pos 0) (negsuc 0) ∷ cell (pos 1) (pos 1) ∷ cell (pos 2) (pos 3) ∷ cell (pos 3) (pos 5) ∷ [])
    ∷ []
    )
    ∷ period 1 (
    row 1 (pos 2) (cell (pos 0) (pos 14) ∷ cell (pos 1) (pos 6) ∷ cell (pos 2) (pos 10) ∷ cell (pos 3) (pos 18) ∷ [])
    ∷ row 2 (pos 0) (cell (pos 0) (pos 10) ∷ cell (pos 1) (pos 4) ∷ cell (pos 2) (pos 10) ∷ cell (pos 3) (pos 18) ∷ [])
    ∷ []
    )
    ∷ []
unfolding scale demand_scale lacking_rate least_position first_least_upto
solved_two = refl

-- the cost is 4
num_two : serial_num (two one_two 1 1) (cert.Serial (solved_serial (two one_two 1 1))) ≡ pos 4
unfolding scale demand_scale lacking_rate least_position first_least_upto common_divisor_upto
num_two = refl

den_two : serial_den (two one_two 1 1) (cert.Serial (solved_serial (two one_two 1 1))) ≡ 1
unfolding scale demand_scale lacking_rate least_position first_least_upto common_divisor_upto
den_two = refl

-- which is what the policy costs along all demands, over 4
pays_two : expected (serial_problem (two one_two 1 1)) (base_stock_policy (serial_levels (solved_serial (two one_two 1 1))) 1 one_two) ≡ pos 16
unfolding scale demand_scale lacking_rate least_position first_least_upto
pays_two = refl

-- from one unit each it is 5/2
num_one : serial_num (two one_one 1 1) (cert.Serial (solved_serial (two one_one 1 1))) ≡ pos 5
unfolding scale demand_scale lacking_rate least_position first_least_upto common_divisor_upto
num_one = refl

den_one : serial_den (two one_one 1 1) (cert.Serial (solved_serial (two one_one 1 1))) ≡ 2
unfolding scale demand_scale lacking_rate least_position first_least_upto common_divisor_upto
den_one = refl

-- at a discount of 1/2 the costs are 3 and 7/4
num_discounted : serial_num (two one_two 1 2) (cert.Serial (solved_serial (two one_two 1 2))) ≡ pos 3
unfolding scale demand_scale lacking_rate least_position first_least_upto common_divisor_upto
num_discounted = refl

num_one_discounted : serial_num (two one_one 1 2) (cert.Serial (solved_serial (two one_one 1 2))) ≡ pos 7
unfolding scale demand_scale lacking_rate least_position first_least_upto common_divisor_upto
num_one_discounted = refl

den_one_discounted : serial_den (two one_one 1 2) (cert.Serial (solved_serial (two one_one 1 2))) ≡ 4
unfolding scale demand_scale lacking_rate least_position first_least_upto common_divisor_upto
den_one_discounted = refl
