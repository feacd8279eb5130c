-- What the rules on the lines of a finite horizon say of the rows that the lines tell, row by row and cell by cell.
use Rattle.std.proofs.Common.{◌≡◌, ℕ, suc, ◌-◌, ◌<◌, true, false, cond, ◌&&◌, ◌||◌, not, eqb, List, [], ◌∷◌, ◌++◌, length, map, ℤ, pos, ◌-ℤ◌, refl, sym, ap, ◌∙◌, subst, arith, append_assoc, append-nil}
use Rattle.std.specs.Prelude.{Option, None, Some, nat_le, nat_lt}
use Rattle.std.specs.List.{flat_map}
use Rattle.std.proofs.lemmas.Bool.{and_parts, and_from, ltb-true, lt-ltb, leb-false, lt-leb, eqb-true, eq-eqb, not-true, not_from_false}
use Rattle.std.proofs.Math.Dec.{eqb-suc-zero}
use Rattle.std.proofs.lemmas.Int.{ints}
use Rattle.std.proofs.lemmas.List.{length-append}
use Rattle.decision_model.specs.declared.finite.Finite.{Finite}
use Rattle.decision_model.specs.declared.instance.Instance.TheVariants as instance
use Rattle.value_cert.specs.Finite.{value_line, row_lines}
use Rattle.value_cert.specs.FiniteRules.{FirstRows, is_row_whole, last_values, last_period, is_next_period, is_next_position, value_rule, position_rule}
use Rattle.value_cert.specs.FiniteValues.{row_width}
use Rattle.value_cert.specs.Numbers.{is_number}
use Rattle.value_cert.specs.Kept.{Keeps}
use Rattle.value_cert.specs.RuleTests.{same_number, number_at, rule_passed, passing_rule}
use Rattle.value_cert.specs.Standards.{rules_of}
use Rattle.value_cert.specs.declared.finite.FiniteCell.{FiniteCell}
use Rattle.value_cert.specs.declared.finite.FiniteRow.{FiniteRow}
use Rattle.value_cert.specs.declared.line.CertLine.{CertLine}
use Rattle.value_cert.specs.declared.line.CertLine.TheVariants.{End}

-- ---- rows
-- the values of cells
abbrev pub values_of : List FiniteCell → List ℤ
values_of cells = map (λ cell. cell.value) cells

-- a cell that stands at its place of the row of period t, which n periods follow, and breaks no rule, with the values F of the next period
pub record CellPasses (finite : Finite) (F : ℤ → ℤ) (n t place : ℕ) (cell : FiniteCell) : Type 0 where
  pub inside : place < row_width finite t
  pub at : cell.at ≡ finite.cap -ℤ pos place
  pub rule : value_rule finite F n t cell.at cell.to cell.value ≡ None

-- the cells of a row from a place on
abbrev pub CellsPass : Finite → (ℤ → ℤ) → ℕ → ℕ → ℕ → List FiniteCell → Type 0
CellsPass finite F n t place [] = Unit {0}
CellsPass finite F n t place (cell ∷ cells) = CellPasses finite F n t place cell × CellsPass finite F n t (suc place) cells

-- what is known behind a whole row
abbrev pub after_row : Finite → FirstRows → FiniteRow → FirstRows
after_row finite first row = record { rows = suc first.rows; later = last_values finite first; values = values_of row.cells }

-- a row that may come behind lines of which this is known, and whose cells pass
pub record RowPasses (finite : Finite) (first : FirstRows) (row : FiniteRow) : Type 0 where
  pub whole : is_row_whole finite first ≡ true
  pub more : first.rows < finite.periods
  pub period : row.period ≡ finite.periods - first.rows
  pub cells : CellsPass finite (last_values finite first) first.rows (finite.periods - first.rows) 0 row.cells

-- rows to the first period
abbrev pub RowsPass : Finite → FirstRows → List FiniteRow → Type 0
RowsPass finite first [] = (is_row_whole finite first ≡ true) × (first.rows ≡ finite.periods)
RowsPass finite first (row ∷ rows) = RowPasses finite first row × RowsPass finite (after_row finite first row) rows

module _ (finite : Finite) where
  -- what is known of rows
  abbrev known : ℕ → (ℤ → ℤ) → List ℤ → FirstRows
  known rows later values = record { rows = rows; later = later; values = values }

  -- the period of the row that has been begun
  begun_period : (j : ℕ) (later : ℤ → ℤ) (values : List ℤ) → last_period finite (known (suc j) later values) ≡ finite.periods - j
  begun_period j later values = omega arith

  -- one value more
  one_longer : (values : List ℤ) (value : ℤ) → length (values ++ value ∷ []) ≡ suc (length values)
  one_longer values value = omega (arith, length-append values (value ∷ []))

  -- a row that has been begun is whole where it has as many positions as its period
  pub begun_whole : (j : ℕ) (later : ℤ → ℤ) (values : List ℤ) → is_row_whole finite (known (suc j) later values) ≡ nat_le (row_width finite (finite.periods - j)) (length values)
  begun_whole j later values =
      ap (λ none. none || nat_le (row_width finite (last_period finite (known (suc j) later values))) (length values)) (eqb-suc-zero j)
      ∙ ap (λ t. nat_le (row_width finite t) (length values)) (begun_period j later values)

  -- ---- from the lines to the rows
  record CellsKept (j : ℕ) (later : ℤ → ℤ) (values : List ℤ) (cells : List FiniteCell) (rest : List CertLine) : Type 0 where
    pass : CellsPass finite later j (finite.periods - j) (length values) cells
    behind : Keeps (rules_of (instance.Finite finite)) (known (suc j) later (values ++ values_of cells)) rest

  -- a cell line that breaks no rule
  cell_passes : (j : ℕ) (later : ℤ → ℤ) (values : List ℤ) (cell : FiniteCell) → position_rule finite (known (suc j) later values) cell.at cell.to cell.value ≡ None → CellPasses finite later j (finite.periods - j) (length values) cell
  cell_passes j later values cell h =
      let first = known (suc j) later values in
      let place = length values in
      let place_is = is_next_position finite first cell.at in
      let parts = rule_passed place_is (value_rule finite later (suc j - 1) (last_period finite first) cell.at cell.to cell.value) 2 h in
      let next = and_parts (not (is_row_whole finite first)) (is_number (finite.cap -ℤ pos place) cell.at) parts.0 in
      let short : nat_le (row_width finite (finite.periods - j)) place ≡ false = sym (begun_whole j later values) ∙ not-true (is_row_whole finite first) next.0 in
      let Rule : ℕ → ℕ → Type 0 = λ n t. value_rule finite later n t cell.at cell.to cell.value ≡ None in
      let period = begun_period j later values in
      let before : suc j - 1 ≡ j = omega arith in
      record {
        inside = leb-false (row_width finite (finite.periods - j)) place short;
        at = sym (same_number (finite.cap -ℤ pos place) cell.at next.1);
        rule = subst (λ (n : ℕ). Rule n (finite.periods - j)) before (subst (λ (t : ℕ). Rule (suc j - 1) t) period parts.1);
      }

  -- the cell lines of a row that break no rule
  cells_kept : (j : ℕ) (later : ℤ → ℤ) (values : List ℤ) (cells : List FiniteCell) (rest : List CertLine) → Keeps (rules_of (instance.Finite finite)) (known (suc j) later values) (map value_line cells ++ rest) → CellsKept j later values cells rest
  cells_kept j later values [] rest kept =
      let P : List ℤ → Type 0 = λ all. Keeps (rules_of (instance.Finite finite)) (known (suc j) later all) rest in
      record { pass = tt; behind = subst P (sym (append-nil values)) kept }
  cells_kept j later values (cell ∷ cells) rest kept =
      let more = cells_kept j later (values ++ cell.value ∷ []) cells rest kept.1 in
      let P : List ℤ → Type 0 = λ all. Keeps (rules_of (instance.Finite finite)) (known (suc j) later all) rest in
      let Q : ℕ → Type 0 = λ place. CellsPass finite later j (finite.periods - j) place cells in
      record {
        pass = (cell_passes j later values cell kept.0, subst Q (one_longer values cell.value) more.pass);
        behind = subst P (append_assoc values (cell.value ∷ []) (values_of cells)) more.behind;
      }

  -- a period line that breaks no rule
  record PeriodKept (first : FirstRows) (period : ℕ) : Type 0 where
    whole : is_row_whole finite first ≡ true
    more : first.rows < finite.periods
    is : period ≡ finite.periods - first.rows

  -- a period line says as much
  period_kept : (first : FirstRows) (period : ℕ) → cond {A = Option ℕ} (is_next_period finite first (pos period)) None (Some 2) ≡ None → PeriodKept first period
  period_kept first period h =
      let all = (rule_passed (is_next_period finite first (pos period)) None 2 h).0 in
      let outer = and_parts (is_row_whole finite first && nat_lt first.rows finite.periods) (is_number (pos (finite.periods - first.rows)) (pos period)) all in
      let inner = and_parts (is_row_whole finite first) (nat_lt first.rows finite.periods) outer.0 in
      let same = same_number (pos (finite.periods - first.rows)) (pos period) outer.1 in
      record { whole = inner.0; more = ltb-true first.rows finite.periods inner.1; is = omega (arith, ints, same) }

  -- the lines of rows that break no rule
  pub rows_kept : (first : FirstRows) (rows : List FiniteRow) → Keeps (rules_of (instance.Finite finite)) first (flat_map row_lines rows ++ End ∷ []) → RowsPass finite first rows
  rows_kept first [] kept =
      let all = (rule_passed _ None 2 kept.0).0 in
      let parts = and_parts (is_row_whole finite first) (eqb first.rows finite.periods) all in
      (parts.0, eqb-true first.rows finite.periods parts.1)
  rows_kept first (row ∷ rows) kept =
      let period = period_kept first row.period kept.0 in
      let K : List CertLine → Type 0 = λ lines. Keeps (rules_of (instance.Finite finite)) (known (suc first.rows) (last_values finite first) []) lines in
      let lines = subst K (append_assoc (map value_line row.cells) (flat_map row_lines rows) (End ∷ [])) kept.1 in
      let cells = cells_kept first.rows (last_values finite first) [] row.cells (flat_map row_lines rows ++ End ∷ []) lines in
      (record { whole = period.whole; more = period.more; period = period.is; cells = cells.pass }, rows_kept (after_row finite first row) rows cells.behind)

  -- ---- and from the rows to the lines
  -- the line of a cell that passes breaks no rule
  passing_cell : (j : ℕ) (later : ℤ → ℤ) (values : List ℤ) (cell : FiniteCell) → CellPasses finite later j (finite.periods - j) (length values) cell → position_rule finite (known (suc j) later values) cell.at cell.to cell.value ≡ None
  passing_cell j later values cell is =
      let first = known (suc j) later values in
      let place = length values in
      let period = sym (begun_period j later values) in
      let before : j ≡ suc j - 1 = omega arith in
      let Rule : ℕ → ℕ → Type 0 = λ n t. value_rule finite later n t cell.at cell.to cell.value ≡ None in
      let begun : not (is_row_whole finite first) ≡ true = not_from_false (is_row_whole finite first) (begun_whole j later values ∙ lt-leb (row_width finite (finite.periods - j)) place is.inside) in
      let at = number_at (finite.cap -ℤ pos place) cell.at (sym is.at) in
      let rule = subst (λ (n : ℕ). Rule n (last_period finite first)) before (subst (λ (t : ℕ). Rule j t) period is.rule) in
      passing_rule (is_next_position finite first cell.at) (value_rule finite later (suc j - 1) (last_period finite first) cell.at cell.to cell.value) 2
      (and_from (not (is_row_whole finite first)) (is_number (finite.cap -ℤ pos place) cell.at) begun at) rule

  -- the lines of cells that pass break no rule
  passing_cells : (j : ℕ) (later : ℤ → ℤ) (values : List ℤ) (cells : List FiniteCell) (rest : List CertLine) → CellsPass finite later j (finite.periods - j) (length values) cells → Keeps (rules_of (instance.Finite finite)) (known (suc j) later (values ++ values_of cells)) rest → Keeps (rules_of (instance.Finite finite)) (known (suc j) later values) (map value_line cells ++ rest)
  passing_cells j later values [] rest pass kept =
      let P : List ℤ → Type 0 = λ all. Keeps (rules_of (instance.Finite finite)) (known (suc j) later all) rest in
      subst P (append-nil values) kept
  passing_cells j later values (cell ∷ cells) rest pass kept =
      let P : List ℤ → Type 0 = λ all. Keeps (rules_of (instance.Finite finite)) (known (suc j) later all) rest in
      let Q : ℕ → Type 0 = λ place. CellsPass finite later j (finite.periods - j) place cells in (
        passing_cell j later values cell pass.0,
        passing_cells j later (values ++ cell.value ∷ []) cells rest (subst Q (sym (one_longer values cell.value)) pass.1) (subst P (sym (append_assoc values (cell.value ∷ []) (values_of cells))) kept),
      )

  -- the line of a row that passes breaks no rule
  passing_period : (first : FirstRows) (row : FiniteRow) → RowPasses finite first row → cond {A = Option ℕ} (is_next_period finite first (pos row.period)) None (Some 2) ≡ None
  passing_period first row is =
      let same : pos (finite.periods - first.rows) ≡ pos row.period = ap pos (sym is.period) in
      passing_rule (is_next_period finite first (pos row.period)) None 2
      (and_from (is_row_whole finite first && nat_lt first.rows finite.periods) (is_number (pos (finite.periods - first.rows)) (pos row.period))
      (and_from (is_row_whole finite first) (nat_lt first.rows finite.periods) is.whole (lt-ltb first.rows finite.periods is.more)) (number_at (pos (finite.periods - first.rows)) (pos row.period) same))
      refl

  -- the lines of rows that pass break no rule
  pub passing_rows : (first : FirstRows) (rows : List FiniteRow) → RowsPass finite first rows → Keeps (rules_of (instance.Finite finite)) first (flat_map row_lines rows ++ End ∷ [])
  passing_rows first [] pass =
      (passing_rule _ None 2 (and_from (is_row_whole finite first) (eqb first.rows finite.periods) pass.0 (eq-eqb first.rows finite.periods pass.1)) refl, tt)
  passing_rows first (row ∷ rows) pass =
      let K : List CertLine → Type 0 = λ lines. Keeps (rules_of (instance.Finite finite)) (known (suc first.rows) (last_values finite first) []) lines in
      let behind = passing_rows (after_row finite first row) rows pass.1 in
      let lines = passing_cells first.rows (last_values finite first) [] row.cells (flat_map row_lines rows ++ End ∷ []) pass.0.cells behind in
      (passing_period first row pass.0, subst K (sym (append_assoc (map value_line row.cells) (flat_map row_lines rows) (End ∷ []))) lines)
