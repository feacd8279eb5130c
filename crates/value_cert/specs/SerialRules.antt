-- What a certificate of a serial system has to say, line by line and as a whole. A row has the positions of one echelon in
-- one period, from the low end up.
use Rattle.std.specs.Prelude.{◌≡◌, ℕ, suc, ◌-◌, ◌<◌, List, [], ◌∷◌, length, map, slice_index_or, Bool, ◌&&◌, ◌||◌, not, ◌==◌, if◌then◌else◌, nat_le, nat_lt, ℤ, pos, ◌+ℤ◌, int_le, int_lt, Option, Some, None}
use Rattle.std.specs.List.{list_all, range_with_len}
use Rattle.fraction128.specs.Reduced.{lowest_num, lowest_den}
use Rattle.decision_model.specs.declared.serial.Serial.{Serial}
use Rattle.decision_model.specs.Policies.{Least}
use Rattle.decision_model.specs.Serial.{serial_low}
use Rattle.decision_model.specs.SerialProblem.{over_echelons, serial_problem}
use Rattle.value_cert.specs.Contents.{EachIs}
use Rattle.value_cert.specs.Numbers.{is_number}
use Rattle.value_cert.specs.Rules.{Rules}
use Rattle.value_cert.specs.SerialValues.{scale, order_cost, echelon_value, no_values, base_stock_policy, row_width, solved_level, solved_values}
use Rattle.value_cert.specs.Standard.{Standard}
use Rattle.value_cert.specs.declared.cert.Cert.{Cert}
use Rattle.value_cert.specs.declared.cert.Cert.TheVariants as cert
use Rattle.value_cert.specs.declared.line.CertLine.{CertLine}
use Rattle.value_cert.specs.declared.line.CertLine.TheVariants.{Period, Echelon, Part, End}
use Rattle.value_cert.specs.declared.serial.SerialCell.{SerialCell}
use Rattle.value_cert.specs.declared.serial.SerialCert.{SerialCert}
use Rattle.value_cert.specs.declared.serial.SerialPeriod.{SerialPeriod}
use Rattle.value_cert.specs.declared.serial.SerialRow.{SerialRow}

-- ---- what the lines so far name
-- how many periods have been begun and the values of the period after the last of them; of this last one how many echelons
-- have been begun and their levels, how many positions its last echelon has, and the values, which are those of the
-- period after it where it has none yet
pub record FirstRows : Type 0 where
  pub periods : ℕ
  pub later : ℕ → ℤ → ℤ
  pub echelons : ℕ
  pub levels : ℕ → ℤ
  pub cells : ℕ
  pub values : ℕ → ℤ → ℤ

abbrev pub no_rows : FirstRows
no_rows = record { periods = 0; later = no_values; echelons = 0; levels = λ i. pos 0; cells = 0; values = no_values }

-- a level of one more echelon
abbrev pub put_level : (ℕ → ℤ) → ℕ → ℤ → ℕ → ℤ
put_level levels echelon level i = if i == echelon then level else levels i

-- a value of one more position
abbrev pub put_value : (ℕ → ℤ → ℤ) → ℕ → ℤ → ℤ → ℕ → ℤ → ℤ
put_value values echelon at value i x = if (i == echelon) && is_number at x then value else values i x

abbrev pub named_rows : FirstRows → CertLine → FirstRows
named_rows first (Period period) =
    record { periods = suc first.periods; later = first.values; echelons = 0; levels = first.levels; cells = 0; values = first.values }
named_rows first (Echelon echelon level) = record {
  periods = first.periods;
  later = first.later;
  echelons = suc first.echelons;
  levels = put_level first.levels first.echelons level;
  cells = 0;
  values = first.values;
}
named_rows first (Part at value) = record {
  periods = first.periods;
  later = first.later;
  echelons = first.echelons;
  levels = first.levels;
  cells = suc first.cells;
  values = put_value first.values (first.echelons - 1) at value;
}
named_rows first _ = first

-- the last period that has been begun: they go from the last to the first
abbrev pub last_period : Serial → FirstRows → ℕ
last_period serial first = suc serial.periods - first.periods

-- the last row has all positions of its period
abbrev pub is_row_whole : Serial → FirstRows → Bool
is_row_whole serial first = nat_le (row_width serial (last_period serial first)) first.cells

-- the last period has all echelons with whole rows, or there is none
abbrev pub is_period_whole : Serial → FirstRows → Bool
is_period_whole serial first =
    (first.periods == 0) || ((first.echelons == length serial.holding) && is_row_whole serial first)

-- ---- rules
-- the next period is this one, and the one before it is whole
abbrev pub is_next_period : Serial → FirstRows → ℤ → Bool
is_next_period serial first period =
    is_period_whole serial first && nat_lt first.periods serial.periods && is_number (pos (serial.periods - first.periods)) period

-- a period is begun, its next echelon is this one, from 1, and the row of the one before it is whole
abbrev pub is_next_echelon : Serial → FirstRows → ℤ → Bool
is_next_echelon serial first echelon =
    nat_lt 0 first.periods
    && ((first.echelons == 0) || is_row_whole serial first)
    && nat_lt first.echelons (length serial.holding)
    && is_number (pos (suc first.echelons)) echelon

-- a row is begun and isn't whole, and its next position is this one
abbrev pub is_next_position : Serial → FirstRows → ℤ → Bool
is_next_position serial first at =
    nat_lt 0 first.echelons && not (is_row_whole serial first) && is_number (serial_low serial (last_period serial first) +ℤ pos first.cells) at

-- a level lies on the grid of its period
abbrev pub is_on_grid : Serial → ℕ → ℤ → Bool
is_on_grid serial t level = int_le (serial_low serial t) level && int_le level serial.cap

-- from y to the next position costs don't rise below the level, and don't fall from it on
abbrev pub turns_at : (ℤ → ℤ) → ℤ → ℤ → Bool
turns_at cost level y =
    if int_lt y level then int_le (cost (y +ℤ pos 1)) (cost y) else int_le (cost y) (cost (y +ℤ pos 1))

-- .. at each position of the grid of period t but the cap
abbrev pub turns_at_level : Serial → ℕ → (ℤ → ℤ) → ℤ → Bool
turns_at_level serial t cost level =
    list_all (λ place. turns_at cost level (serial_low serial t +ℤ pos place)) (range_with_len 0 (row_width serial t - 1))

-- the least rule that a level of echelon i in period t breaks, which n periods follow, with the values F of the next
-- period: it lies on the grid (3), and the cost of orders turns there (4)
abbrev pub level_rule : Serial → (ℕ → ℤ → ℤ) → ℕ → ℕ → ℕ → ℤ → Option ℕ
level_rule serial F n t i level =
    if is_on_grid serial t level then (if turns_at_level serial t (order_cost serial F n t i) level then None else Some 4)
    else Some 3

-- the least rule that a value breaks: it is that of the levels (5)
abbrev pub value_rule : Serial → (ℕ → ℤ → ℤ) → (ℕ → ℤ) → ℕ → ℕ → ℕ → ℤ → ℤ → Option ℕ
value_rule serial F levels n t i x value =
    if is_number (echelon_value serial (order_cost serial F n t) levels n t i x) value then None else Some 5

-- the least rule from 2 on that an echelon with its level breaks: it is the next one (2)
abbrev pub echelon_rule : Serial → FirstRows → ℤ → ℤ → Option ℕ
echelon_rule serial first echelon level =
    if is_next_echelon serial first echelon
    then level_rule serial first.later (first.periods - 1) (last_period serial first) first.echelons level
    else Some 2

-- the least rule from 2 on that a position with its value breaks: it is the next one (2)
abbrev pub position_rule : Serial → FirstRows → ℤ → ℤ → Option ℕ
position_rule serial first x value =
    if is_next_position serial first x
    then value_rule serial first.later first.levels (first.periods - 1) (last_period serial first) (first.echelons - 1) x value
    else Some 2

-- each period is whole
abbrev pub are_periods_whole : Serial → FirstRows → Bool
are_periods_whole serial first = is_period_whole serial first && (first.periods == serial.periods)

-- the least rule from 2 on that a line breaks behind the lines that name these
abbrev pub serial_rule : Serial → FirstRows → CertLine → Option ℕ
serial_rule serial first (Period period) = if is_next_period serial first period then None else Some 2
serial_rule serial first (Echelon echelon level) = echelon_rule serial first echelon level
serial_rule serial first (Part at value) = position_rule serial first at value
serial_rule serial first End = if are_periods_whole serial first then None else Some 2
serial_rule serial first _ = None

abbrev pub serial_rules : Serial → Rules
serial_rules serial = record { Known = FirstRows; nothing = no_rows; further = named_rows; broken = serial_rule serial }

-- ---- the policy that a certificate names
-- the rows of a period
abbrev pub rows_of : List SerialPeriod → ℕ → List SerialRow
rows_of [] period = []
rows_of (here ∷ periods) period = if here.period == period then here.rows else rows_of periods period

-- the level of an echelon, 0 where it has no row
abbrev pub row_level : List SerialRow → ℕ → ℤ
row_level [] i = pos 0
row_level (row ∷ rows) i = if row.echelon == suc i then row.level else row_level rows i

-- the cells of an echelon
abbrev pub row_cells : List SerialRow → ℕ → List SerialCell
row_cells [] i = []
row_cells (row ∷ rows) i = if row.echelon == suc i then row.cells else row_cells rows i

-- the value of a position, 0 where it has no cell
abbrev pub cell_value : List SerialCell → ℤ → ℤ
cell_value [] x = pos 0
cell_value (cell ∷ cells) x = if is_number cell.at x then cell.value else cell_value cells x

-- the levels of each period
abbrev pub serial_levels : SerialCert → ℕ → ℕ → ℤ
serial_levels c period = row_level (rows_of c.periods period)

-- the echelons' values of the start in the first period, added up
abbrev pub start_value : Serial → SerialCert → ℤ
start_value serial c = over_echelons (λ i x. cell_value (row_cells (rows_of c.periods 1) i) x) 0 serial.start

-- a row has the positions of its period, from the low end up
abbrev pub IsRowOf : Serial → ℕ → SerialRow → Type 0
IsRowOf serial period row = map (λ cell. cell.at) row.cells ≡ map (λ place. serial_low serial period +ℤ pos place) (range_with_len 0 (row_width serial period))

-- a period's echelons are those from 1 on, each with its row
pub record IsPeriodOf (serial : Serial) (number : ℕ) (period : SerialPeriod) : Type 0 where
  pub number_is : period.period ≡ number
  pub echelons : map (λ row. row.echelon) period.rows ≡ range_with_len 1 (length serial.holding)
  pub each : EachIs (IsRowOf serial number) period.rows

-- the periods are those from the last to the first
pub record HasEachPeriod (serial : Serial) (c : SerialCert) : Type 0 where
  pub count : length c.periods ≡ serial.periods
  pub each : (k : ℕ) (d : SerialPeriod) → k < serial.periods → IsPeriodOf serial (serial.periods - k) (slice_index_or c.periods k d)

-- the certificate has a level for each echelon of each period and a cell for each position, its policy is allowed and has
-- the expected cost of the start's values, and no policy that is allowed, however it looks at the demands so far, has less
pub record IsLeastPolicy (serial : Serial) (c : SerialCert) : Type 0 where
  pub periods : HasEachPeriod serial c
  pub least : Least (serial_problem serial) (base_stock_policy (serial_levels c) 1 serial.start) (start_value serial c)

abbrev pub CertifiesPolicy : Serial → Cert → Type 0
CertifiesPolicy serial (cert.Serial c) = IsLeastPolicy serial c
CertifiesPolicy serial _ = ⊥

-- ---- the solver's certificate
-- a position of echelon i in period t, which n periods follow
abbrev pub solved_cell : Serial → ℕ → ℕ → ℕ → ℤ → SerialCell
solved_cell serial n t i x = record { at = x; value = solved_values serial (suc n) t i x }

-- echelon i in period t
abbrev pub solved_row : Serial → ℕ → ℕ → ℕ → SerialRow
solved_row serial n t i = record {
  echelon = suc i;
  level = solved_level serial n t i;
  cells = map (λ place. solved_cell serial n t i (serial_low serial t +ℤ pos place)) (range_with_len 0 (row_width serial t));
}

-- period t
abbrev pub solved_period : Serial → ℕ → ℕ → SerialPeriod
solved_period serial n t = record { period = t; rows = map (solved_row serial n t) (range_with_len 0 (length serial.holding)) }

-- from the last period to the first and in each from the first echelon on, with the least position of least cost as level,
-- and the values
abbrev pub solved_serial : Serial → SerialCert
solved_serial serial = record {
  discount_num = serial.discount_num;
  discount_den = serial.discount_den;
  periods = map (λ n. solved_period serial n (serial.periods - n)) (range_with_len 0 serial.periods);
}

-- ---- the printed cost: the values of the start over the scale of all periods
abbrev pub serial_num : Serial → Cert → ℤ
serial_num serial (cert.Serial c) = lowest_num (start_value serial c) (scale serial serial.periods)
serial_num serial _ = pos 0

abbrev pub serial_den : Serial → Cert → ℕ
serial_den serial (cert.Serial c) = lowest_den (start_value serial c) (scale serial serial.periods)
serial_den serial _ = 1

abbrev pub serial_standard : Serial → Standard
serial_standard serial = record {
  rules = serial_rules serial;
  Certifies = CertifiesPolicy serial;
  solved = Some (cert.Serial (solved_serial serial));
  printed_num = serial_num serial;
  printed_den = serial_den serial;
}
