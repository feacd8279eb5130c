-- What a certificate of a finite horizon has to say, line by line and as a whole. A row has the positions of one period,
-- from the cap down.
use Rattle.std.specs.Prelude.{◌≡◌, ℕ, suc, ◌-◌, ◌<◌, List, [], ◌∷◌, ◌++◌, length, map, slice_index_or, Bool, ◌&&◌, ◌||◌, not, ◌==◌, if◌then◌else◌, nat_le, nat_lt, ℤ, pos, ◌+ℤ◌, ◌-ℤ◌, int_le, Option, Some, None}
use Rattle.std.specs.List.{list_all, range_with_len}
use Rattle.fraction128.specs.Reduced.{lowest_num, lowest_den}
use Rattle.decision_model.specs.declared.finite.Finite.{Finite}
use Rattle.decision_model.specs.FiniteProblem.{finite_problem, top}
use Rattle.decision_model.specs.Policies.{Least}
use Rattle.decision_model.specs.Positions.{above_zero}
use Rattle.value_cert.specs.FiniteValues.{scale, value_of, end_value, least_choice, least_values, policy_of, row_width}
use Rattle.value_cert.specs.Numbers.{is_number}
use Rattle.value_cert.specs.Rules.{Rules}
use Rattle.value_cert.specs.Standard.{Standard}
use Rattle.value_cert.specs.declared.cert.Cert.{Cert}
use Rattle.value_cert.specs.declared.cert.Cert.TheVariants as cert
use Rattle.value_cert.specs.declared.finite.FiniteCell.{FiniteCell}
use Rattle.value_cert.specs.declared.finite.FiniteCert.{FiniteCert}
use Rattle.value_cert.specs.declared.finite.FiniteRow.{FiniteRow}
use Rattle.value_cert.specs.declared.line.CertLine.{CertLine}
use Rattle.value_cert.specs.declared.line.CertLine.TheVariants.{Period, Value, End}

-- ---- what the lines so far name
-- how many periods have a row, begun or whole, the values of the period after the last one, and those of the last row from the cap down
pub record FirstRows : Type 0 where
  pub rows : ℕ
  pub later : ℤ → ℤ
  pub values : List ℤ

-- the value that a row of them has for a position
abbrev pub listed_value : ℤ → List ℤ → ℤ → ℤ
listed_value cap values x = slice_index_or values (above_zero (cap -ℤ x)) (pos 0)

-- the values of the last row; those of the end where there is none
abbrev pub last_values : Finite → FirstRows → ℤ → ℤ
last_values finite first x = if first.rows == 0 then end_value finite x else listed_value finite.cap first.values x

-- the period of the last row: rows go from the last period to the first
abbrev pub last_period : Finite → FirstRows → ℕ
last_period finite first = suc finite.periods - first.rows

-- the last row has all positions of its period, or there is none
abbrev pub is_row_whole : Finite → FirstRows → Bool
is_row_whole finite first = (first.rows == 0) || nat_le (row_width finite (last_period finite first)) (length first.values)

abbrev pub no_rows : Finite → FirstRows
no_rows finite = record { rows = 0; later = end_value finite; values = [] }

abbrev pub named_values : Finite → FirstRows → CertLine → FirstRows
named_values finite first (Period period) = record { rows = suc first.rows; later = last_values finite first; values = [] }
named_values finite first (Value at to value) = record { rows = first.rows; later = first.later; values = first.values ++ value ∷ [] }
named_values finite first _ = first

-- ---- rules
-- the next period is this one, and the row before it is whole
abbrev pub is_next_period : Finite → FirstRows → ℤ → Bool
is_next_period finite first period =
    is_row_whole finite first && nat_lt first.rows finite.periods && is_number (pos (finite.periods - first.rows)) period

-- a row is begun and isn't whole, and its next position is this one
abbrev pub is_next_position : Finite → FirstRows → ℤ → Bool
is_next_position finite first at =
    not (is_row_whole finite first) && is_number (finite.cap -ℤ pos (length first.values)) at

-- an order leads to a position from x to the top
abbrev pub is_allowed : Finite → ℤ → ℤ → Bool
is_allowed finite x y = int_le x y && int_le y (top finite x)

-- no allowed position has a lower value in period t, which n periods follow, with the values F of the next period
abbrev pub is_least_value : Finite → (ℤ → ℤ) → ℕ → ℕ → ℤ → ℤ → Bool
is_least_value finite F n t x value =
    list_all (λ units. int_le value (value_of finite F n t x (x +ℤ pos units))) (range_with_len 0 (suc (above_zero (top finite x -ℤ x))))

-- the least rule that a choice and a value break: it is allowed (3), no allowed one costs less (4), it is its value (5)
abbrev pub value_rule : Finite → (ℤ → ℤ) → ℕ → ℕ → ℤ → ℤ → ℤ → Option ℕ
value_rule finite F n t x y value =
    if is_allowed finite x y
    then (if is_least_value finite F n t x value then (if is_number (value_of finite F n t x y) value then None else Some 5) else Some 4)
    else Some 3

-- the least rule from 2 on that a position with its choice and value breaks: it is the next one (2)
abbrev pub position_rule : Finite → FirstRows → ℤ → ℤ → ℤ → Option ℕ
position_rule finite first x y value =
    if is_next_position finite first x
    then value_rule finite first.later (first.rows - 1) (last_period finite first) x y value
    else Some 2

-- each period has a whole row
abbrev pub are_rows_whole : Finite → FirstRows → Bool
are_rows_whole finite first = is_row_whole finite first && (first.rows == finite.periods)

-- the least rule from 2 on that a line breaks behind the lines that name these
abbrev pub finite_rule : Finite → FirstRows → CertLine → Option ℕ
finite_rule finite first (Period period) = if is_next_period finite first period then None else Some 2
finite_rule finite first (Value at to value) = position_rule finite first at to value
finite_rule finite first End = if are_rows_whole finite first then None else Some 2
finite_rule finite first _ = None

abbrev pub finite_rules : Finite → Rules
finite_rules finite = record { Known = FirstRows; nothing = no_rows finite; further = named_values finite; broken = finite_rule finite }

-- ---- the policy that a certificate names
-- the cells of a period
abbrev pub cells_of : List FiniteRow → ℕ → List FiniteCell
cells_of [] period = []
cells_of (row ∷ rows) period = if row.period == period then row.cells else cells_of rows period

-- where a position orders up to; it stays where it has no cell
abbrev pub cell_choice : List FiniteCell → ℤ → ℤ
cell_choice [] x = x
cell_choice (cell ∷ cells) x = if is_number cell.at x then cell.to else cell_choice cells x

-- its value, 0 where it has no cell
abbrev pub cell_value : List FiniteCell → ℤ → ℤ
cell_value [] x = pos 0
cell_value (cell ∷ cells) x = if is_number cell.at x then cell.value else cell_value cells x

-- in each period the order up to the position that the cell of the current one names
abbrev pub finite_choices : FiniteCert → ℕ → ℤ → ℤ
finite_choices c period = cell_choice (cells_of c.rows period)

-- the value of the start in the first period
abbrev pub start_value : Finite → FiniteCert → ℤ
start_value finite c = cell_value (cells_of c.rows 1) finite.start

-- a row has the positions of its period, from the cap down
abbrev pub IsRowOf : Finite → ℕ → List FiniteCell → Type 0
IsRowOf finite period cells = map (λ cell. cell.at) cells ≡ map (λ place. finite.cap -ℤ pos place) (range_with_len 0 (row_width finite period))

-- the rows are those of the periods from the last to the first
pub record HasEachRow (finite : Finite) (c : FiniteCert) : Type 0 where
  pub count : length c.rows ≡ finite.periods
  pub periods : (k : ℕ) (d : FiniteRow) → k < finite.periods → (slice_index_or c.rows k d).period ≡ finite.periods - k
  pub positions : (k : ℕ) (d : FiniteRow) → k < finite.periods → IsRowOf finite (finite.periods - k) (slice_index_or c.rows k d).cells

-- the certificate has a cell for each position of each period, its policy is allowed and has the expected cost of the
-- start's value, and no policy that is allowed, however it looks at the demands so far, has less
pub record IsLeastPolicy (finite : Finite) (c : FiniteCert) : Type 0 where
  pub rows : HasEachRow finite c
  pub least : Least (finite_problem finite) (policy_of (finite_choices c) 1 finite.start) (start_value finite c)

abbrev pub CertifiesPolicy : Finite → Cert → Type 0
CertifiesPolicy finite (cert.Finite c) = IsLeastPolicy finite c
CertifiesPolicy finite _ = ⊥

-- ---- the solver's certificate
-- a position of period t, which n periods follow
abbrev pub solved_cell : Finite → ℕ → ℕ → ℤ → FiniteCell
solved_cell finite n t x =
    record { at = x; to = least_choice finite (least_values finite n (suc t)) n t x; value = least_values finite (suc n) t x }

-- the row of period t, which n periods follow
abbrev pub solved_row : Finite → ℕ → ℕ → FiniteRow
solved_row finite n t =
    record { period = t; cells = map (λ place. solved_cell finite n t (finite.cap -ℤ pos place)) (range_with_len 0 (row_width finite t)) }

-- from the last period to the first, each with the first position of least value for each position, and the least value
abbrev pub solved_finite : Finite → FiniteCert
solved_finite finite = record {
  discount_num = finite.discount_num;
  discount_den = finite.discount_den;
  rows = map (λ n. solved_row finite n (finite.periods - n)) (range_with_len 0 finite.periods);
}

-- ---- the printed cost: the value of the start over the scale of all periods
abbrev pub finite_num : Finite → Cert → ℤ
finite_num finite (cert.Finite c) = lowest_num (start_value finite c) (scale finite finite.periods)
finite_num finite _ = pos 0

abbrev pub finite_den : Finite → Cert → ℕ
finite_den finite (cert.Finite c) = lowest_den (start_value finite c) (scale finite finite.periods)
finite_den finite _ = 1

abbrev pub finite_standard : Finite → Standard
finite_standard finite = record {
  rules = finite_rules finite;
  Certifies = CertifiesPolicy finite;
  solved = Some (cert.Finite (solved_finite finite));
  printed_num = finite_num finite;
  printed_den = finite_den finite;
}
