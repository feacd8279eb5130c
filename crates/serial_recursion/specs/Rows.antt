-- Rows of numbers by place, from the low end of a grid up.
use Rattle.std.specs.Prelude.{◌≡◌, ℕ, zero, suc, ◌+◌, ◌-◌, ◌*◌, ◌^◌, ◌<◌, ◌≤◌, min, max, nat_lt, ℤ, pos, ◌+ℤ◌, ◌-ℤ◌, ◌*ℤ◌, int_le, Bool, if◌then◌else◌, List, length, sum, slice_index_or, unsigned_abs}
use Rattle.demand_law.specs.Law.{weighted}
use Rattle.demand_law.specs.Sequences.{greatest_in}
use Rattle.decision_model.specs.declared.serial.Serial.{Serial}
use Rattle.decision_model.specs.DemandLaws.{common_total}
use Rattle.decision_model.specs.Serial.{serial_low}
use Rattle.decision_model.specs.SerialProblem.{holding_of, unit_of, lacking_rate}
use Rattle.decision_model.specs.Stock.{stock_cost}
use Rattle.value_cert.specs.SerialValues.{scale, demand_scale, row_width}
use Rattle.serial_recursion.specs.declared.frame.Frame.{Frame}
use Rattle.serial_recursion.specs.declared.rates.Rates.{Rates}

-- what a cell holds
abbrev pub value_at : List ℤ → ℕ → ℤ
value_at cells place = slice_index_or cells place (pos 0)

-- the row that begins at a cell
abbrev pub row_at : List ℤ → ℕ → ℕ → ℤ
row_at cells start place = value_at cells (start + place)

-- ---- the numbers of a period and of an echelon
-- the last of some periods, counted from the last one of the instance on; with none, the one after it
abbrev pub period_of : Serial → ℕ → ℕ
period_of serial periods = suc serial.periods - periods

-- these are the numbers of the last of some periods
pub record IsFrame (serial : Serial) (periods : ℕ) (frame : Frame) : Type 0 where
  pub is_low : frame.low ≡ serial_low serial (period_of serial periods)
  pub is_count : frame.count ≡ row_width serial (period_of serial periods)
  pub is_greatest : frame.greatest ≡ greatest_in serial.laws
  pub is_total : frame.total ≡ common_total serial.laws
  pub is_num : frame.num ≡ serial.discount_num
  pub is_scale : frame.scale ≡ scale serial periods
  pub is_own_scale : 1 ≤ periods → frame.own_scale ≡ demand_scale serial (periods - 1)

-- what a unit that lacks costs an echelon: the first one alone faces demand
abbrev pub lacking_of : Serial → ℕ → ℕ
lacking_of serial zero = lacking_rate serial
lacking_of serial (suc i) = 0

-- the rates of echelon i
abbrev pub rates_for : Serial → ℕ → Rates
rates_for serial i = record { holding = holding_of serial i; lacking = lacking_of serial i; unit = unit_of serial i }

-- ---- costs of orders
-- what the units up to a place cost
abbrev pub place_line : Frame → ℕ → ℕ → ℤ
place_line frame unit place = pos (frame.scale * unit) *ℤ (frame.low +ℤ pos place)

-- the cost of an order up to a place, from the next period's row of values
unfoldable pub place_cost : Frame → List ℕ → ℕ → (ℕ → ℤ) → ℕ → ℤ
place_cost frame weights unit row place =
    place_line frame unit place +ℤ pos frame.num *ℤ weighted weights (λ d. row (frame.greatest + place - d))

-- numbers that leave room for the costs of orders
pub record HasRoom (frame : Frame) (weights : List ℕ) (unit : ℕ) (row : ℕ → ℤ) : Type 0 where
  pub low_near : unsigned_abs frame.low ≤ 2 ^ 40
  pub count_few : frame.count ≤ 2 ^ 40
  pub greatest_few : frame.greatest ≤ 2 ^ 40
  pub some_num : 1 ≤ frame.num
  pub demands : length weights ≤ frame.greatest + 1
  pub total : sum weights ≤ 2 ^ 120
  pub rate : frame.scale * unit ≤ 2 ^ 120
  pub lines : (place : ℕ) → place < frame.count → frame.scale * unit * unsigned_abs (frame.low +ℤ pos place) ≤ 2 ^ 120
  pub values : (place : ℕ) → place < frame.count + frame.greatest → frame.num * (sum weights * unsigned_abs (row place)) ≤ 2 ^ 120

-- ---- levels
-- from a place to the next one costs don't rise below the level's place, and don't fall from it on
abbrev pub turns_from : (ℕ → ℤ) → ℕ → ℕ → Bool
turns_from cost level place =
    if nat_lt place level then int_le (cost (place + 1)) (cost place) else int_le (cost place) (cost (place + 1))

-- ---- values
-- what an echelon is charged at a place: how much more an order to the place of the echelon before costs than one to its
-- level, where the place is below
abbrev pub place_charge : List ℤ → ℕ → ℕ → ℤ
place_charge costs level place = value_at costs (min place level) -ℤ value_at costs level

-- the first echelon is charged nothing
abbrev pub charge_of : ℕ → List ℤ → ℕ → ℕ → ℤ
charge_of zero costs level place = pos 0
charge_of (suc i) costs level place = place_charge costs level place

-- what lacks at a place and what the echelon's stock is, over all demands
abbrev pub stock_sum : Frame → Rates → List ℕ → ℕ → ℤ
stock_sum frame rates weights place =
    pos rates.holding *ℤ (pos (frame.total * place) -ℤ stock_cost 0 1 weights frame.low)
    +ℤ pos rates.lacking *ℤ stock_cost 0 1 weights (frame.low +ℤ pos place)

-- the value of an echelon at a place, from the costs of its orders, its level's place and what it is charged
unfoldable pub place_value : Frame → Rates → List ℕ → List ℤ → ℕ → ℤ → ℕ → ℤ
place_value frame rates weights costs level charge place =
    pos frame.own_scale *ℤ stock_sum frame rates weights place
    -ℤ place_line frame rates.unit place
    +ℤ value_at costs (max place level)
    +ℤ charge

-- numbers that leave room for values
pub record HasValueRoom (frame : Frame) (rates : Rates) (weights : List ℕ) : Type 0 where
  pub low_near : unsigned_abs frame.low ≤ 2 ^ 28
  pub count_few : frame.count ≤ 2 ^ 28
  pub demands_some : 0 < length weights
  pub demands_few : length weights ≤ 2 ^ 28
  pub total : frame.total ≤ 2 ^ 30
  pub is_total : frame.total ≡ sum weights
  pub holding : rates.holding ≤ 2 ^ 30
  pub lacking : rates.lacking ≤ 2 ^ 30
  pub rate : frame.scale * rates.unit ≤ 2 ^ 120
  pub own_scale : frame.own_scale ≤ 2 ^ 120
  pub lines : (place : ℕ) → place < frame.count → frame.scale * rates.unit * unsigned_abs (frame.low +ℤ pos place) ≤ 2 ^ 120
  pub owns : (place : ℕ) → place < frame.count → frame.own_scale * unsigned_abs (stock_sum frame rates weights place) ≤ 2 ^ 120
