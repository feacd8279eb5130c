-- What the rules on the lines of a serial system say of the periods and rows that the lines tell.
use Rattle.std.proofs.Common.{◌≡◌, ◌⊎◌, inl, inr, ℕ, suc, ◌+◌, ◌-◌, ◌<◌, ◌≤◌, Bool, true, false, cond, ◌&&◌, ◌||◌, not, eqb, List, [], ◌∷◌, ◌++◌, length, map, ℤ, pos, ◌+ℤ◌, refl, sym, ap, ◌∙◌, subst, arith, append_assoc}
use Rattle.std.specs.Prelude.{Option, None, Some, nat_le, nat_lt}
use Rattle.std.specs.List.{flat_map}
use Rattle.std.proofs.lemmas.Bool.{and_parts, and_from, ltb-true, lt-ltb, leb-false, leb-true, le-leb, lt-leb, eqb-true, eq-eqb, not-true, not_from_false}
use Rattle.std.proofs.Math.Dec.{eqb-suc-zero}
use Rattle.std.proofs.lemmas.Int.{ints}
use Rattle.decision_model.specs.declared.instance.Instance.TheVariants as instance
use Rattle.decision_model.specs.declared.serial.Serial.{Serial}
use Rattle.decision_model.specs.Serial.{serial_low}
use Rattle.value_cert.specs.Kept.{Keeps}
use Rattle.value_cert.specs.Numbers.{is_number}
use Rattle.value_cert.specs.RuleTests.{same_number, number_at, rule_passed, passing_rule}
use Rattle.value_cert.specs.Serial.{part_line, echelon_lines, period_lines}
use Rattle.value_cert.specs.SerialRules.{FirstRows, put_level, put_value, is_row_whole, is_period_whole, is_next_period, is_next_echelon, is_next_position, level_rule, value_rule, position_rule, echelon_rule}
use Rattle.value_cert.specs.SerialValues.{order_cost, echelon_value, row_width}
use Rattle.value_cert.specs.Standards.{rules_of}
use Rattle.value_cert.specs.declared.line.CertLine.{CertLine}
use Rattle.value_cert.specs.declared.line.CertLine.TheVariants.{End}
use Rattle.value_cert.specs.declared.serial.SerialCell.{SerialCell}
use Rattle.value_cert.specs.declared.serial.SerialPeriod.{SerialPeriod}
use Rattle.value_cert.specs.declared.serial.SerialRow.{SerialRow}
use Rattle.serial_lemmas.specs.RowCells.{CellPasses, CellsPass, put_cells, cells_most}

-- ---- rows
-- a row of echelon i in period t, which n periods follow, that breaks no rule, with the values F of the next period and
-- the levels of the echelons before
pub record RowPasses (serial : Serial) (F : ℕ → ℤ → ℤ) (n t i : ℕ) (levels : ℕ → ℤ) (row : SerialRow) : Type 0 where
  pub echelon : row.echelon ≡ suc i
  pub rule : level_rule serial F n t i row.level ≡ None
  pub cells : CellsPass (echelon_value serial (order_cost serial F n t) (put_level levels i row.level) n t i) (serial_low serial t) (row_width serial t) 0 row.cells
  pub whole : length row.cells ≡ row_width serial t

-- the rows of the echelons from i on
abbrev pub RowsPass : Serial → (ℕ → ℤ → ℤ) → ℕ → ℕ → ℕ → (ℕ → ℤ) → List SerialRow → Type 0
RowsPass serial F n t i levels [] = Unit {0}
RowsPass serial F n t i levels (row ∷ rows) = RowPasses serial F n t i levels row × RowsPass serial F n t (suc i) (put_level levels i row.level) rows

-- what the lines of rows put down: levels and values, and how many cells the last row has
abbrev pub put_levels : (ℕ → ℤ) → ℕ → List SerialRow → ℕ → ℤ
put_levels levels i [] = levels
put_levels levels i (row ∷ rows) = put_levels (put_level levels i row.level) (suc i) rows

-- the values
abbrev pub put_rows : (ℕ → ℤ → ℤ) → ℕ → List SerialRow → ℕ → ℤ → ℤ
put_rows values i [] = values
put_rows values i (row ∷ rows) = put_rows (put_cells values i row.cells) (suc i) rows

-- how many cells the last row has
abbrev pub last_cells : ℕ → List SerialRow → ℕ
last_cells k [] = k
last_cells k (row ∷ rows) = last_cells (length row.cells) rows

-- ---- periods
-- a period that breaks no rule behind p periods, with the values F of the last of them and the levels that were put down
pub record PeriodPasses (serial : Serial) (F : ℕ → ℤ → ℤ) (levels : ℕ → ℤ) (p : ℕ) (period : SerialPeriod) : Type 0 where
  pub more : p < serial.periods
  pub number : period.period ≡ serial.periods - p
  pub count : length period.rows ≡ length serial.holding
  pub rows : RowsPass serial F p (serial.periods - p) 0 levels period.rows

-- periods to the first
abbrev pub PeriodsPass : Serial → (ℕ → ℤ → ℤ) → (ℕ → ℤ) → ℕ → List SerialPeriod → Type 0
PeriodsPass serial F levels p [] = p ≡ serial.periods
PeriodsPass serial F levels p (period ∷ periods) =
    PeriodPasses serial F levels p period × PeriodsPass serial (put_rows F 0 period.rows) (put_levels levels 0 period.rows) (suc p) periods

module _ (serial : Serial) where
  -- what is known
  abbrev known : ℕ → (ℕ → ℤ → ℤ) → ℕ → (ℕ → ℤ) → ℕ → (ℕ → ℤ → ℤ) → FirstRows
  known p later e levels k values = record { periods = p; later = later; echelons = e; levels = levels; cells = k; values = values }

  -- the period of the last of p periods
  abbrev period_of : ℕ → ℕ
  period_of p = suc serial.periods - p

  -- the value of an echelon in it
  abbrev value_in : ℕ → (ℕ → ℤ → ℤ) → (ℕ → ℤ) → ℕ → ℤ → ℤ
  value_in p later levels i = echelon_value serial (order_cost serial later (p - 1) (period_of p)) levels (p - 1) (period_of p) i

  -- ---- from the lines to the rows
  record CellsKept (p : ℕ) (later : ℕ → ℤ → ℤ) (e : ℕ) (levels : ℕ → ℤ) (k : ℕ) (values : ℕ → ℤ → ℤ) (cells : List SerialCell) (rest : List CertLine) : Type 0 where
    pass : CellsPass (value_in p later levels (e - 1)) (serial_low serial (period_of p)) (row_width serial (period_of p)) k cells
    behind : Keeps (rules_of (instance.Serial serial)) (known p later e levels (k + length cells) (put_cells values (e - 1) cells)) rest

  -- a cell line that breaks no rule
  cell_passes : (p : ℕ) (later : ℕ → ℤ → ℤ) (e : ℕ) (levels : ℕ → ℤ) (k : ℕ) (values : ℕ → ℤ → ℤ) (cell : SerialCell) → position_rule serial (known p later e levels k values) cell.at cell.value ≡ None → CellPasses (value_in p later levels (e - 1)) (serial_low serial (period_of p)) (row_width serial (period_of p)) k cell
  cell_passes p later e levels k values cell h =
      let first = known p later e levels k values in
      let parts = rule_passed (is_next_position serial first cell.at) (value_rule serial later levels (p - 1) (period_of p) (e - 1) cell.at cell.value) 2 h in
      let begun = and_parts (nat_lt 0 e && not (is_row_whole serial first)) (is_number (serial_low serial (period_of p) +ℤ pos k) cell.at) parts.0 in
      let short = (and_parts (nat_lt 0 e) (not (is_row_whole serial first)) begun.0).1 in
      let value = (rule_passed (is_number (value_in p later levels (e - 1) cell.at) cell.value) None 5 parts.1).0 in
      record {
        inside = leb-false (row_width serial (period_of p)) k (not-true (is_row_whole serial first) short);
        at = sym (same_number (serial_low serial (period_of p) +ℤ pos k) cell.at begun.1);
        value = sym (same_number (value_in p later levels (e - 1) cell.at) cell.value value);
      }

  -- the cell lines of a row that break no rule
  cells_kept : (p : ℕ) (later : ℕ → ℤ → ℤ) (e : ℕ) (levels : ℕ → ℤ) (k : ℕ) (values : ℕ → ℤ → ℤ) (cells : List SerialCell) (rest : List CertLine) → Keeps (rules_of (instance.Serial serial)) (known p later e levels k values) (map part_line cells ++ rest) → CellsKept p later e levels k values cells rest
  cells_kept p later e levels k values [] rest kept =
      let none : k ≡ k + 0 = omega arith in
      record { pass = tt; behind = subst (λ (j : ℕ). Keeps (rules_of (instance.Serial serial)) (known p later e levels j values) rest) none kept }
  cells_kept p later e levels k values (cell ∷ cells) rest kept =
      let put = put_cells values (e - 1) (cell ∷ cells) in
      let more = cells_kept p later e levels (suc k) (put_value values (e - 1) cell.at cell.value) cells rest kept.1 in
      let same : suc k + length cells ≡ k + suc (length cells) = omega arith in
      record {
        pass = (cell_passes p later e levels k values cell kept.0, more.pass);
        behind = subst (λ (j : ℕ). Keeps (rules_of (instance.Serial serial)) (known p later e levels j put) rest) same more.behind;
      }

  -- an echelon line that breaks no rule
  record EchelonKept (p : ℕ) (later : ℕ → ℤ → ℤ) (e : ℕ) (levels : ℕ → ℤ) (k : ℕ) (values : ℕ → ℤ → ℤ) (echelon : ℕ) (level : ℤ) : Type 0 where
    whole : (eqb e 0 || is_row_whole serial (known p later e levels k values)) ≡ true
    is : echelon ≡ suc e
    rule : level_rule serial later (p - 1) (period_of p) e level ≡ None

  -- an echelon line says as much
  echelon_kept : (p : ℕ) (later : ℕ → ℤ → ℤ) (e : ℕ) (levels : ℕ → ℤ) (k : ℕ) (values : ℕ → ℤ → ℤ) (echelon : ℕ) (level : ℤ) → echelon_rule serial (known p later e levels k values) (pos echelon) level ≡ None → EchelonKept p later e levels k values echelon level
  echelon_kept p later e levels k values echelon level h =
      let first = known p later e levels k values in
      let parts = rule_passed (is_next_echelon serial first (pos echelon)) (level_rule serial later (p - 1) (period_of p) e level) 2 h in
      let outer = and_parts (nat_lt 0 p && (eqb e 0 || is_row_whole serial first) && nat_lt e (length serial.holding)) (is_number (pos (suc e)) (pos echelon)) parts.0 in
      let middle = and_parts (nat_lt 0 p && (eqb e 0 || is_row_whole serial first)) (nat_lt e (length serial.holding)) outer.0 in
      let inner = and_parts (nat_lt 0 p) (eqb e 0 || is_row_whole serial first) middle.0 in
      let same = same_number (pos (suc e)) (pos echelon) outer.1 in
      record { whole = inner.1; is = omega (arith, ints, same); rule = parts.1 }

  -- ---- rows
  -- the row of the last echelon of p periods is whole
  abbrev row_whole : ℕ → ℕ → Bool
  row_whole p k = nat_le (row_width serial (period_of p)) k

  -- what lines of rows say
  record RowsKept (p : ℕ) (later : ℕ → ℤ → ℤ) (e : ℕ) (levels : ℕ → ℤ) (k : ℕ) (values : ℕ → ℤ → ℤ) (rows : List SerialRow) (rest : List CertLine) : Type 0 where
    before : row_whole p (last_cells k rows) ≡ true → (eqb e 0 || row_whole p k) ≡ true
    pass : row_whole p (last_cells k rows) ≡ true → RowsPass serial later (p - 1) (period_of p) e levels rows
    behind : Keeps (rules_of (instance.Serial serial)) (known p later (e + length rows) (put_levels levels e rows) (last_cells k rows) (put_rows values e rows)) rest

  -- either of two tests, of which the second is passed
  or_second : (a b : Bool) → b ≡ true → (a || b) ≡ true
  or_second true b h = refl
  or_second false b h = h

  -- the lines of rows that break no rule
  rows_kept : (p : ℕ) (later : ℕ → ℤ → ℤ) (e : ℕ) (levels : ℕ → ℤ) (k : ℕ) (values : ℕ → ℤ → ℤ) (rows : List SerialRow) (rest : List CertLine) → Keeps (rules_of (instance.Serial serial)) (known p later e levels k values) (flat_map echelon_lines rows ++ rest) → RowsKept p later e levels k values rows rest
  rows_kept p later e levels k values [] rest kept =
      let none : e ≡ e + 0 = omega arith in
      record { before = or_second (eqb e 0) (row_whole p k); pass = λ whole. tt; behind = subst (λ (j : ℕ). Keeps (rules_of (instance.Serial serial)) (known p later j levels k values) rest) none kept }
  rows_kept p later e levels k values (row ∷ rows) rest kept =
      let here = echelon_kept p later e levels k values row.echelon row.level kept.0 in
      let put = put_level levels e row.level in
      let K : List CertLine → Type 0 = λ lines. Keeps (rules_of (instance.Serial serial)) (known p later (suc e) put 0 values) lines in
      let lines = subst K (append_assoc (map part_line row.cells) (flat_map echelon_lines rows) rest) kept.1 in
      let cells = cells_kept p later (suc e) put 0 values row.cells (flat_map echelon_lines rows ++ rest) lines in
      let same : suc e - 1 ≡ e = omega arith in
      let count : 0 + length row.cells ≡ length row.cells = omega arith in
      let behind = subst (λ (k : ℕ). Keeps (rules_of (instance.Serial serial)) (known p later (suc e) put k (put_cells values e row.cells)) (flat_map echelon_lines rows ++ rest)) count
      (subst (λ (j : ℕ). Keeps (rules_of (instance.Serial serial)) (known p later (suc e) put (0 + length row.cells) (put_cells values j row.cells)) (flat_map echelon_lines rows ++ rest)) same cells.behind) in
      let pass = subst (λ (j : ℕ). CellsPass (value_in p later put j) (serial_low serial (period_of p)) (row_width serial (period_of p)) 0 row.cells) same cells.pass in
      let others = rows_kept p later (suc e) put (length row.cells) (put_cells values e row.cells) rows rest behind in
      let ended : suc e + length rows ≡ e + suc (length rows) = omega arith in
      record {
        before = λ whole. here.whole;
        pass = λ whole. (
          record {
            echelon = here.is;
            rule = here.rule;
            cells = pass;
            whole = full (length row.cells) (cells_most (value_in p later put e) (serial_low serial (period_of p)) (row_width serial (period_of p)) 0 row.cells (omega arith) pass) (others.before whole);
          },
          others.pass whole,
        );
        behind = subst (λ (j : ℕ). Keeps (rules_of (instance.Serial serial)) (known p later j (put_levels put (suc e) rows) (last_cells (length row.cells) rows) (put_rows (put_cells values e row.cells) (suc e) rows)) rest) ended others.behind;
      }
    where
      full : (count : ℕ) → 0 + count ≤ row_width serial (period_of p) → (eqb (suc e) 0 || row_whole p count) ≡ true → count ≡ row_width serial (period_of p)
      full count most whole =
          let test = ap (λ b. b || row_whole p count) (sym (eqb-suc-zero e)) ∙ whole in
          omega (arith, most, leb-true (row_width serial (period_of p)) count test)

  -- ---- periods
  -- a period line that breaks no rule
  record PeriodKept (first : FirstRows) (period : ℕ) : Type 0 where
    whole : is_period_whole serial first ≡ true
    more : first.periods < serial.periods
    is : period ≡ serial.periods - first.periods

  -- a period line says as much
  period_kept : (first : FirstRows) (period : ℕ) → cond {A = Option ℕ} (is_next_period serial first (pos period)) None (Some 2) ≡ None → PeriodKept first period
  period_kept first period h =
      let all = (rule_passed (is_next_period serial first (pos period)) None 2 h).0 in
      let outer = and_parts (is_period_whole serial first && nat_lt first.periods serial.periods) (is_number (pos (serial.periods - first.periods)) (pos period)) all in
      let inner = and_parts (is_period_whole serial first) (nat_lt first.periods serial.periods) outer.0 in
      let same = same_number (pos (serial.periods - first.periods)) (pos period) outer.1 in
      record { whole = inner.0; more = ltb-true first.periods serial.periods inner.1; is = omega (arith, ints, same) }

  -- the period of lines is whole, and so are those of the lines behind them
  pub record PeriodsKept (first : FirstRows) (periods : List SerialPeriod) : Type 0 where
    pub before : is_period_whole serial first ≡ true
    pub pass : PeriodsPass serial first.values first.levels first.periods periods

  -- a whole period has a row for each echelon, and its last row is whole
  whole_parts : (p : ℕ) (later : ℕ → ℤ → ℤ) (e : ℕ) (levels : ℕ → ℤ) (k : ℕ) (values : ℕ → ℤ → ℤ) → is_period_whole serial (known (suc p) later e levels k values) ≡ true → (e ≡ length serial.holding) × (row_whole (suc p) k ≡ true)
  whole_parts p later e levels k values h =
      let parts = and_parts (eqb e (length serial.holding)) (row_whole (suc p) k) (ap (λ b. b || (eqb e (length serial.holding) && row_whole (suc p) k)) (sym (eqb-suc-zero p)) ∙ h) in
      (eqb-true e (length serial.holding) parts.0, parts.1)

  -- the lines of periods that break no rule
  pub periods_kept : (first : FirstRows) (periods : List SerialPeriod) → Keeps (rules_of (instance.Serial serial)) first (flat_map period_lines periods ++ End ∷ []) → PeriodsKept first periods
  periods_kept first [] kept =
      let all = (rule_passed _ None 2 kept.0).0 in
      let parts = and_parts (is_period_whole serial first) (eqb first.periods serial.periods) all in
      record { before = parts.0; pass = eqb-true first.periods serial.periods parts.1 }
  periods_kept first (period ∷ periods) kept =
      let here = period_kept first period.period kept.0 in
      let p = first.periods in
      let rest = flat_map period_lines periods ++ End ∷ [] in
      let K : List CertLine → Type 0 = λ lines. Keeps (rules_of (instance.Serial serial)) (known (suc p) first.values 0 first.levels 0 first.values) lines in
      let lines = subst K (append_assoc (flat_map echelon_lines period.rows) (flat_map period_lines periods) (End ∷ [])) kept.1 in
      let rows = rows_kept (suc p) first.values 0 first.levels 0 first.values period.rows rest lines in
      let others = periods_kept (known (suc p) first.values (0 + length period.rows) (put_levels first.levels 0 period.rows) (last_cells 0 period.rows) (put_rows first.values 0 period.rows)) periods rows.behind in
      let whole = whole_parts p first.values (0 + length period.rows) (put_levels first.levels 0 period.rows) (last_cells 0 period.rows) (put_rows first.values 0 period.rows) others.before in
      let n : suc p - 1 ≡ p = omega arith in
      let t : period_of (suc p) ≡ serial.periods - p = omega arith in
      let P : ℕ → ℕ → Type 0 = λ n t. RowsPass serial first.values n t 0 first.levels period.rows in
      record {
        before = here.whole;
        pass = (
          record {
            more = here.more;
            number = here.is;
            count = omega (arith, whole.0);
            rows = subst (λ (s : ℕ). P p s) t (subst (λ (n : ℕ). P n (period_of (suc p))) n (rows.pass whole.1));
          },
          others.pass,
        );
      }

  -- ---- and from the rows to the lines
  -- the line of a cell that passes breaks no rule
  passing_cell : (p : ℕ) (later : ℕ → ℤ → ℤ) (e : ℕ) (levels : ℕ → ℤ) (k : ℕ) (values : ℕ → ℤ → ℤ) (cell : SerialCell) → 0 < e → CellPasses (value_in p later levels (e - 1)) (serial_low serial (period_of p)) (row_width serial (period_of p)) k cell → position_rule serial (known p later e levels k values) cell.at cell.value ≡ None
  passing_cell p later e levels k values cell begun is =
      let first = known p later e levels k values in
      let short : not (is_row_whole serial first) ≡ true = not_from_false (is_row_whole serial first) (lt-leb (row_width serial (period_of p)) k is.inside) in
      let at = number_at (serial_low serial (period_of p) +ℤ pos k) cell.at (sym is.at) in
      let value = number_at (value_in p later levels (e - 1) cell.at) cell.value (sym is.value) in
      passing_rule (is_next_position serial first cell.at) (value_rule serial later levels (p - 1) (period_of p) (e - 1) cell.at cell.value) 2
      (and_from (nat_lt 0 e && not (is_row_whole serial first)) (is_number (serial_low serial (period_of p) +ℤ pos k) cell.at) (and_from (nat_lt 0 e) (not (is_row_whole serial first)) (lt-ltb 0 e begun) short) at)
      (passing_rule (is_number (value_in p later levels (e - 1) cell.at) cell.value) None 5 value refl)

  -- the lines of cells that pass break no rule
  passing_cells : (p : ℕ) (later : ℕ → ℤ → ℤ) (e : ℕ) (levels : ℕ → ℤ) (k : ℕ) (values : ℕ → ℤ → ℤ) (cells : List SerialCell) (rest : List CertLine) → 0 < e → CellsPass (value_in p later levels (e - 1)) (serial_low serial (period_of p)) (row_width serial (period_of p)) k cells → Keeps (rules_of (instance.Serial serial)) (known p later e levels (k + length cells) (put_cells values (e - 1) cells)) rest → Keeps (rules_of (instance.Serial serial)) (known p later e levels k values) (map part_line cells ++ rest)
  passing_cells p later e levels k values [] rest begun pass kept =
      let none : k + 0 ≡ k = omega arith in
      subst (λ (j : ℕ). Keeps (rules_of (instance.Serial serial)) (known p later e levels j values) rest) none kept
  passing_cells p later e levels k values (cell ∷ cells) rest begun pass kept =
      let put = put_value values (e - 1) cell.at cell.value in
      let same : k + suc (length cells) ≡ suc k + length cells = omega arith in (
        passing_cell p later e levels k values cell begun pass.0,
        passing_cells p later e levels (suc k) put cells rest begun pass.1 (subst (λ (j : ℕ). Keeps (rules_of (instance.Serial serial)) (known p later e levels j (put_cells put (e - 1) cells)) rest) same kept),
      )

  -- the line of an echelon that passes breaks no rule
  passing_echelon : (p : ℕ) (later : ℕ → ℤ → ℤ) (e : ℕ) (levels : ℕ → ℤ) (k : ℕ) (values : ℕ → ℤ → ℤ) (row : SerialRow) → 1 ≤ p → e < length serial.holding → (eqb e 0 || row_whole p k) ≡ true → RowPasses serial later (p - 1) (period_of p) e levels row → echelon_rule serial (known p later e levels k values) (pos row.echelon) row.level ≡ None
  passing_echelon p later e levels k values row some more whole is =
      let first = known p later e levels k values in
      let same : pos (suc e) ≡ pos row.echelon = ap pos (sym is.echelon) in
      passing_rule (is_next_echelon serial first (pos row.echelon)) (level_rule serial later (p - 1) (period_of p) e row.level) 2
      (and_from (nat_lt 0 p && (eqb e 0 || is_row_whole serial first) && nat_lt e (length serial.holding)) (is_number (pos (suc e)) (pos row.echelon))
      (and_from (nat_lt 0 p && (eqb e 0 || is_row_whole serial first)) (nat_lt e (length serial.holding))
      (and_from (nat_lt 0 p) (eqb e 0 || is_row_whole serial first) (lt-ltb 0 p (omega (arith, some))) whole) (lt-ltb e (length serial.holding) more))
      (number_at (pos (suc e)) (pos row.echelon) same))
      is.rule

  -- the lines of rows that pass break no rule
  passing_rows : (p : ℕ) (later : ℕ → ℤ → ℤ) (e : ℕ) (levels : ℕ → ℤ) (k : ℕ) (values : ℕ → ℤ → ℤ) (rows : List SerialRow) (rest : List CertLine) → 1 ≤ p → e + length rows ≤ length serial.holding → (eqb e 0 || row_whole p k) ≡ true → RowsPass serial later (p - 1) (period_of p) e levels rows → Keeps (rules_of (instance.Serial serial)) (known p later (e + length rows) (put_levels levels e rows) (last_cells k rows) (put_rows values e rows)) rest → Keeps (rules_of (instance.Serial serial)) (known p later e levels k values) (flat_map echelon_lines rows ++ rest)
  passing_rows p later e levels k values [] rest some more whole pass kept =
      let none : e + 0 ≡ e = omega arith in
      subst (λ (j : ℕ). Keeps (rules_of (instance.Serial serial)) (known p later j levels k values) rest) none kept
  passing_rows p later e levels k values (row ∷ rows) rest some more whole pass kept =
      let put = put_level levels e row.level in
      let width = row_width serial (period_of p) in
      let same : e ≡ suc e - 1 = omega arith in
      let count : length row.cells ≡ 0 + length row.cells = omega arith in
      let ended : e + suc (length rows) ≡ suc e + length rows = omega arith in
      let filled = or_second (eqb (suc e) 0) (row_whole p (length row.cells)) (le-leb width (length row.cells) (omega (arith, pass.0.whole))) in
      let behind = passing_rows p later (suc e) put (length row.cells) (put_cells values e row.cells) rows rest some (omega (arith, more)) filled pass.1
      (subst (λ (j : ℕ). Keeps (rules_of (instance.Serial serial)) (known p later j (put_levels put (suc e) rows) (last_cells (length row.cells) rows) (put_rows (put_cells values e row.cells) (suc e) rows)) rest) ended kept) in
      let lines = passing_cells p later (suc e) put 0 values row.cells (flat_map echelon_lines rows ++ rest) (omega arith)
      (subst (λ (j : ℕ). CellsPass (value_in p later put j) (serial_low serial (period_of p)) width 0 row.cells) same pass.0.cells)
      (subst (λ (j : ℕ). Keeps (rules_of (instance.Serial serial)) (known p later (suc e) put (0 + length row.cells) (put_cells values j row.cells)) (flat_map echelon_lines rows ++ rest)) same
      (subst (λ (k : ℕ). Keeps (rules_of (instance.Serial serial)) (known p later (suc e) put k (put_cells values e row.cells)) (flat_map echelon_lines rows ++ rest)) count behind)) in
      let K : List CertLine → Type 0 = λ lines. Keeps (rules_of (instance.Serial serial)) (known p later (suc e) put 0 values) lines in
      (passing_echelon p later e levels k values row some (omega (arith, more)) whole pass.0, subst K (sym (append_assoc (map part_line row.cells) (flat_map echelon_lines rows) rest)) lines)

  -- the last of some rows is whole
  last_whole : (p : ℕ) (later : ℕ → ℤ → ℤ) (e : ℕ) (levels : ℕ → ℤ) (k : ℕ) (rows : List SerialRow) → (1 ≤ length rows) ⊎ (row_width serial (period_of p) ≤ k) → RowsPass serial later (p - 1) (period_of p) e levels rows → row_width serial (period_of p) ≤ last_cells k rows
  last_whole p later e levels k [] (inl some) pass = absurd (omega (arith, some))
  last_whole p later e levels k [] (inr whole) pass = whole
  last_whole p later e levels k (row ∷ rows) some pass = last_whole p later (suc e) (put_level levels e row.level) (length row.cells) rows (inr (omega (arith, pass.0.whole))) pass.1

  -- the line of a period that passes breaks no rule
  passing_period : (first : FirstRows) (period : SerialPeriod) → is_period_whole serial first ≡ true → PeriodPasses serial first.values first.levels first.periods period → cond {A = Option ℕ} (is_next_period serial first (pos period.period)) None (Some 2) ≡ None
  passing_period first period whole is =
      let same : pos (serial.periods - first.periods) ≡ pos period.period = ap pos (sym is.number) in
      passing_rule (is_next_period serial first (pos period.period)) None 2
      (and_from (is_period_whole serial first && nat_lt first.periods serial.periods) (is_number (pos (serial.periods - first.periods)) (pos period.period))
      (and_from (is_period_whole serial first) (nat_lt first.periods serial.periods) whole (lt-ltb first.periods serial.periods is.more)) (number_at (pos (serial.periods - first.periods)) (pos period.period) same))
      refl

  -- the lines of periods that pass break no rule
  pub passing_periods : 1 ≤ length serial.holding → (first : FirstRows) (periods : List SerialPeriod) → is_period_whole serial first ≡ true → PeriodsPass serial first.values first.levels first.periods periods → Keeps (rules_of (instance.Serial serial)) first (flat_map period_lines periods ++ End ∷ [])
  passing_periods some first [] whole pass =
      (passing_rule _ None 2 (and_from (is_period_whole serial first) (eqb first.periods serial.periods) whole (eq-eqb first.periods serial.periods pass)) refl, tt)
  passing_periods some first (period ∷ periods) whole pass =
      let p = first.periods in
      let rest = flat_map period_lines periods ++ End ∷ [] in
      let n : p ≡ suc p - 1 = omega arith in
      let t : serial.periods - p ≡ period_of (suc p) = omega arith in
      let P : ℕ → ℕ → Type 0 = λ n t. RowsPass serial first.values n t 0 first.levels period.rows in
      let rows = subst (λ (s : ℕ). P (suc p - 1) s) t (subst (λ (n : ℕ). P n (serial.periods - p)) n pass.0.rows) in
      let ended = known (suc p) first.values (0 + length period.rows) (put_levels first.levels 0 period.rows) (last_cells 0 period.rows) (put_rows first.values 0 period.rows) in
      let all : 0 + length period.rows ≡ length serial.holding = omega (arith, pass.0.count) in
      let full = le-leb (row_width serial (period_of (suc p))) (last_cells 0 period.rows) (last_whole (suc p) first.values 0 first.levels 0 period.rows (inl (omega (arith, pass.0.count, some))) rows) in
      let next = or_second (eqb (suc p) 0) (eqb (0 + length period.rows) (length serial.holding) && row_whole (suc p) (last_cells 0 period.rows)) (and_from (eqb (0 + length period.rows) (length serial.holding)) (row_whole (suc p) (last_cells 0 period.rows)) (eq-eqb (0 + length period.rows) (length serial.holding) all) full) in
      let behind = passing_periods some ended periods next pass.1 in
      let lines = passing_rows (suc p) first.values 0 first.levels 0 first.values period.rows rest (omega arith) (omega (arith, pass.0.count)) refl rows behind in
      let K : List CertLine → Type 0 = λ lines. Keeps (rules_of (instance.Serial serial)) (known (suc p) first.values 0 first.levels 0 first.values) lines in
      (passing_period first period whole pass.0, subst K (sym (append_assoc (flat_map echelon_lines period.rows) (flat_map period_lines periods) (End ∷ []))) lines)
