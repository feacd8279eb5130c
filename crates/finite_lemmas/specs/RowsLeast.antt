-- A certificate of a finite horizon whose lines break no rule has a cell for each position of each period, and names a policy that costs least.
use Rattle.std.proofs.Common.{◌≡◌, ◌⊎◌, inl, inr, ℕ, zero, suc, ◌+◌, ◌-◌, ◌<◌, ◌≤◌, Bool, true, false, cond, ◌==◌, List, [], ◌∷◌, length, map, ℤ, pos, ◌+ℤ◌, ◌-ℤ◌, ◌≤ℤ◌, refl, sym, ap, ◌∙◌, subst, arith}
use Rattle.std.specs.Prelude.{Option, None, Some, int_le, slice_index_or}
use Rattle.std.specs.List.{list_all, range_with_len}
use Rattle.std.proofs.Math.Dec.{eqb-suc-zero}
use Rattle.std.proofs.lemmas.Bool.{and_parts, leb-true, eq-eqb, ne_eqb, cases_lt}
use Rattle.std.proofs.lemmas.Int.{ints}
use Rattle.std.proofs.lemmas.List.{length-map}
use Rattle.decision_model.specs.declared.finite.Finite.{Finite}
use Rattle.decision_model.specs.Finite.{IsReadableFinite, finite_low}
use Rattle.decision_model.specs.FiniteProblem.{top, finite_problem}
use Rattle.decision_model.specs.FiniteSound.{sound_readable, low_start}
use Rattle.decision_model.specs.Policies.{Least}
use Rattle.decision_model.specs.Positions.{above_zero}
use Rattle.decision_model.specs.PositionTests.{le_known, above_zero_is, above_zero_least}
use Rattle.decision_model.specs.declared.instance.Instance.TheVariants as instance
use Rattle.value_cert.specs.FiniteRules.{FirstRows, no_rows, listed_value, last_values, is_row_whole, is_allowed, is_least_value, value_rule, cells_of, cell_choice, cell_value, finite_choices, start_value, IsRowOf, HasEachRow, IsLeastPolicy, CertifiesPolicy}
use Rattle.value_cert.specs.FiniteValues.{value_of, end_value, policy_of, row_width}
use Rattle.value_cert.specs.Kept.{BreaksNoRule}
use Rattle.value_cert.specs.Numbers.{is_number}
use Rattle.value_cert.specs.RuleTests.{same_number, number_at, number_other}
use Rattle.value_cert.specs.declared.cert.Cert.TheVariants as cert
use Rattle.value_cert.specs.declared.finite.FiniteCell.{FiniteCell}
use Rattle.value_cert.specs.declared.finite.FiniteCert.{FiniteCert}
use Rattle.value_cert.specs.declared.finite.FiniteRow.{FiniteRow}
use Rattle.finite_lemmas.specs.FiniteLeast.{IsCertificate, certified}
use Rattle.finite_lemmas.specs.RowsKept.{CellsPass, RowPasses, RowsPass, after_row, values_of, begun_whole, rows_kept}

-- ---- one row
-- a row has a cell at a position, its place in the row being this one, which breaks no rule
record CellAt (finite : Finite) (F : ℤ → ℤ) (n t : ℕ) (cells : List FiniteCell) (place : ℕ) (x : ℤ) : Type 0 where
  rule : value_rule finite F n t x (cell_choice cells x) (cell_value cells x) ≡ None
  listed : slice_index_or (values_of cells) place (pos 0) ≡ cell_value cells x

module _ (finite : Finite) (F : ℤ → ℤ) (n t : ℕ) where
  -- the cell at a position of the row
  cell_at : (place : ℕ) (cells : List FiniteCell) → CellsPass finite F n t place cells → (k : ℕ) (x : ℤ) → k < length cells → x ≡ finite.cap -ℤ pos (place + k) → CellAt finite F n t cells k x
  cell_at place [] pass k x lt at = absurd (omega (arith, lt))
  cell_at place (cell ∷ cells) pass zero x lt at =
      let here : cell.at ≡ x = omega (arith, ints, pass.0.at, at) in
      let test = number_at cell.at x here in
      let to : cell.to ≡ cell_choice (cell ∷ cells) x = sym (ap (λ b. cond b cell.to (cell_choice cells x)) test) in
      let value : cell.value ≡ cell_value (cell ∷ cells) x = sym (ap (λ b. cond b cell.value (cell_value cells x)) test) in
      let R : ℤ → ℤ → ℤ → Type 0 = λ x y v. value_rule finite F n t x y v ≡ None in
      record {
        rule = subst (λ (v : ℤ). R x (cell_choice (cell ∷ cells) x) v) value (subst (λ (y : ℤ). R x y cell.value) to (subst (λ (z : ℤ). R z cell.to cell.value) here pass.0.rule));
        listed = value;
      }
  cell_at place (cell ∷ cells) pass (suc k) x lt at =
      let apart : cell.at ≡ x → ⊥ = λ same. absurd (omega (arith, ints, pass.0.at, at, same)) in
      let test = number_other cell.at x apart in
      let to : cell_choice cells x ≡ cell_choice (cell ∷ cells) x = sym (ap (λ b. cond b cell.to (cell_choice cells x)) test) in
      let value : cell_value cells x ≡ cell_value (cell ∷ cells) x = sym (ap (λ b. cond b cell.value (cell_value cells x)) test) in
      let R : ℤ → ℤ → Type 0 = λ y v. value_rule finite F n t x y v ≡ None in
      let rest = cell_at (suc place) cells pass.1 k x (omega (arith, lt)) (omega (arith, ints, at)) in
      record {
        rule = subst (λ (v : ℤ). R (cell_choice (cell ∷ cells) x) v) value (subst (λ (y : ℤ). R y (cell_value cells x)) to rest.rule);
        listed = rest.listed ∙ value;
      }

  -- a row has no more cells than its period has positions
  cells_most : (place : ℕ) (cells : List FiniteCell) → place ≤ row_width finite t → CellsPass finite F n t place cells → place + length cells ≤ row_width finite t
  cells_most place [] le pass = omega (arith, le)
  cells_most place (cell ∷ cells) le pass = omega (arith, cells_most (suc place) cells (omega (arith, pass.0.inside)) pass.1)

  -- the positions of its cells go down from that of its first one
  cells_at : (place : ℕ) (cells : List FiniteCell) → CellsPass finite F n t place cells → map (λ cell. cell.at) cells ≡ map (λ k. finite.cap -ℤ pos k) (range_with_len place (length cells))
  cells_at place [] pass = refl
  cells_at place (cell ∷ cells) pass =
      let next : suc place ≡ place + 1 = omega arith in
      ap (λ at. at ∷ map (λ cell. cell.at) cells) pass.0.at
      ∙ ap (λ rest. (finite.cap -ℤ pos place) ∷ rest) (cells_at (suc place) cells pass.1 ∙ ap (λ k. map (λ k. finite.cap -ℤ pos k) (range_with_len k (length cells))) next)

-- ---- all rows
-- a whole row of period t, which n periods follow, with the values F of the next period
record RowAt (finite : Finite) (F : ℤ → ℤ) (n t : ℕ) (cells : List FiniteCell) : Type 0 where
  pass : CellsPass finite F n t 0 cells
  whole : length cells ≡ row_width finite t

-- the same row, told another way
row_told : (finite : Finite) (F G : ℤ → ℤ) (n m t s : ℕ) (cells others : List FiniteCell) → F ≡ G → n ≡ m → t ≡ s → cells ≡ others → RowAt finite F n t cells → RowAt finite G m s others
row_told finite F G n m t s cells others f e g h is =
    let P : (ℤ → ℤ) → ℕ → ℕ → List FiniteCell → Type 0 = λ F n t cells. RowAt finite F n t cells in
    subst (λ (all : List FiniteCell). P G m s all) h (subst (λ (k : ℕ). P G m k cells) g (subst (λ (k : ℕ). P G k t cells) e (subst (λ (F : ℤ → ℤ). P F n t cells) f is)))

module _ (finite : Finite) where
  -- the values of a period, told by the rows behind what is known: those known of the period after theirs, and those of their cells
  values_from : FirstRows → List FiniteRow → ℕ → ℤ → ℤ
  values_from first rows t x = cond (t + first.rows == suc finite.periods) (last_values finite first x) (listed_value finite.cap (values_of (cells_of rows t)) x)

  -- those known of the period after theirs
  values_known : (first : FirstRows) (rows : List FiniteRow) (t : ℕ) → t + first.rows ≡ suc finite.periods → values_from first rows t ≡ last_values finite first
  unfolding values_from
  values_known first rows t e =
      ap {B = ℤ → ℤ} (λ b x. cond b (last_values finite first x) (listed_value finite.cap (values_of (cells_of rows t)) x)) (eq-eqb (t + first.rows) (suc finite.periods) e)

  -- and those of their cells
  values_listed : (first : FirstRows) (rows : List FiniteRow) (t : ℕ) → t + first.rows ≤ finite.periods → values_from first rows t ≡ listed_value finite.cap (values_of (cells_of rows t))
  unfolding values_from
  values_listed first rows t le =
      ap {B = ℤ → ℤ} (λ b x. cond b (last_values finite first x) (listed_value finite.cap (values_of (cells_of rows t)) x)) (ne_eqb (t + first.rows) (suc finite.periods) (λ same. absurd (omega (arith, le, same))))

  -- the cells of the first of some rows, and those of the others
  cells_here : (row : FiniteRow) (rows : List FiniteRow) (t : ℕ) → row.period ≡ t → cells_of (row ∷ rows) t ≡ row.cells
  cells_here row rows t e = ap (λ b. cond b row.cells (cells_of rows t)) (eq-eqb row.period t e)

  -- where a row is of another period
  cells_further : (row : FiniteRow) (rows : List FiniteRow) (t : ℕ) → (row.period ≡ t → ⊥) → cells_of (row ∷ rows) t ≡ cells_of rows t
  cells_further row rows t differ = ap (λ b. cond b row.cells (cells_of rows t)) (ne_eqb row.period t differ)

  -- behind a row the last values are those of its cells
  row_values : (first : FirstRows) (row : FiniteRow) → last_values finite (after_row finite first row) ≡ listed_value finite.cap (values_of row.cells)
  row_values first row =
      ap {B = ℤ → ℤ} (λ b x. cond b (end_value finite x) (listed_value finite.cap (values_of row.cells) x)) (eqb-suc-zero first.rows)

  -- one row less tells the same values of its period and of those before
  values_step : (first : FirstRows) (row : FiniteRow) (rows : List FiniteRow) → RowPasses finite first row → (t : ℕ) → t + first.rows ≤ finite.periods → values_from first (row ∷ rows) t ≡ values_from (after_row finite first row) rows t
  values_step first row rows is t le = values_listed first (row ∷ rows) t le ∙ by (cases_lt (t + first.rows) finite.periods)
    where
      by : (t + first.rows < finite.periods) ⊎ (finite.periods ≤ t + first.rows) → listed_value finite.cap (values_of (cells_of (row ∷ rows) t)) ≡ values_from (after_row finite first row) rows t
      by (inl lt) =
          ap (λ cells. listed_value finite.cap (values_of cells)) (cells_further row rows t (λ same. absurd (omega (arith, is.period, is.more, same, lt))))
          ∙ sym (values_listed (after_row finite first row) rows t (omega (arith, lt)))
      by (inr ge) =
          ap (λ cells. listed_value finite.cap (values_of cells)) (cells_here row rows t (omega (arith, is.period, is.more, ge, le)))
          ∙ sym (row_values first row)
          ∙ sym (values_known (after_row finite first row) rows t (omega (arith, ge, le)))

  -- behind the last of some rows each row is whole
  rows_whole : (first : FirstRows) (rows : List FiniteRow) → RowsPass finite first rows → is_row_whole finite first ≡ true
  rows_whole first [] pass = pass.0
  rows_whole first (row ∷ rows) pass = pass.0.whole

  -- the first of some rows is whole
  row_whole : (first : FirstRows) (row : FiniteRow) (rows : List FiniteRow) → RowsPass finite first (row ∷ rows) → RowAt finite (last_values finite first) first.rows (finite.periods - first.rows) row.cells
  row_whole first row rows pass =
      let t = finite.periods - first.rows in
      let test = sym (begun_whole finite first.rows (last_values finite first) (values_of row.cells)) ∙ rows_whole (after_row finite first row) rows pass.1 in
      let least = leb-true (row_width finite t) (length (values_of row.cells)) test in
      let most = cells_most finite (last_values finite first) first.rows t 0 row.cells (omega arith) pass.0.cells in
      record { pass = pass.0.cells; whole = omega (arith, least, most, length-map row.cells (λ (cell : FiniteCell). cell.value)) }

  -- each period from the next one down has a whole row
  row_at : (first : FirstRows) (rows : List FiniteRow) → RowsPass finite first rows → (n t : ℕ) → t + n ≡ finite.periods → 1 ≤ t → first.rows ≤ n → RowAt finite (values_from first rows (suc t)) n t (cells_of rows t)
  row_at first [] pass n t e pt le = absurd (omega (arith, pass.1, e, pt, le))
  row_at first (row ∷ rows) pass n t e pt le = by (cases_lt first.rows n) (λ lt. row_at (after_row finite first row) rows pass.1 n t e pt (omega (arith, lt)))
    where
      by : (first.rows < n) ⊎ (n ≤ first.rows) → (first.rows < n → RowAt finite (values_from (after_row finite first row) rows (suc t)) n t (cells_of rows t)) → RowAt finite (values_from first (row ∷ rows) (suc t)) n t (cells_of (row ∷ rows) t)
      by (inl lt) further =
          row_told finite (values_from (after_row finite first row) rows (suc t)) (values_from first (row ∷ rows) (suc t)) n n t t (cells_of rows t) (cells_of (row ∷ rows) t)
          (sym (values_step first row rows pass.0 (suc t) (omega (arith, e, lt)))) refl refl (sym (cells_further row rows t (λ same. absurd (omega (arith, pass.0.period, pass.0.more, same, e, lt))))) (further lt)
      by (inr ge) further =
          row_told finite (last_values finite first) (values_from first (row ∷ rows) (suc t)) first.rows n (finite.periods - first.rows) t row.cells (cells_of (row ∷ rows) t)
          (sym (values_known first (row ∷ rows) (suc t) (omega (arith, e, le, ge)))) (omega (arith, le, ge)) (omega (arith, e, le, ge)) (sym (cells_here row rows t (omega (arith, pass.0.period, e, le, ge)))) (row_whole first row rows pass)

  -- there are as many rows as periods that none of the known lines has one of
  rows_count : (first : FirstRows) (rows : List FiniteRow) → RowsPass finite first rows → first.rows + length rows ≡ finite.periods
  rows_count first [] pass = omega (arith, pass.1)
  rows_count first (row ∷ rows) pass = omega (arith, rows_count (after_row finite first row) rows pass.1)

  -- a row that is listed is that of its period
  record RowListed (period : ℕ) (row : FiniteRow) : Type 0 where
    is : row.period ≡ period
    positions : IsRowOf finite period row.cells

  -- the rows from the first of some on
  row_listed : (first : FirstRows) (rows : List FiniteRow) → RowsPass finite first rows → (k : ℕ) (d : FiniteRow) → k < length rows → RowListed (finite.periods - (first.rows + k)) (slice_index_or rows k d)
  row_listed first [] pass k d lt = absurd (omega (arith, lt))
  row_listed first (row ∷ rows) pass zero d lt =
      let here = row_whole first row rows pass in
      let t : finite.periods - first.rows ≡ finite.periods - (first.rows + 0) = omega arith in
      let P : ℕ → Type 0 = λ period. RowListed period row in
      let positions = cells_at finite (last_values finite first) first.rows (finite.periods - first.rows) 0 row.cells here.pass in
      subst P t (record { is = pass.0.period; positions = positions ∙ ap (λ k. map (λ place. finite.cap -ℤ pos place) (range_with_len 0 k)) here.whole })
  row_listed first (row ∷ rows) pass (suc k) d lt =
      let t : finite.periods - (suc first.rows + k) ≡ finite.periods - (first.rows + suc k) = omega arith in
      let P : ℕ → Type 0 = λ period. RowListed period (slice_index_or rows k d) in
      subst P t (row_listed (after_row finite first row) rows pass.1 k d (omega (arith, lt)))

-- ---- the rule on a value
-- what a choice and a value that break no rule say
record ValuePasses (finite : Finite) (F : ℤ → ℤ) (n t : ℕ) (x y value : ℤ) : Type 0 where
  allowed : is_allowed finite x y ≡ true
  least : is_least_value finite F n t x value ≡ true
  reached : is_number (value_of finite F n t x y) value ≡ true

-- three tests that are passed
three_tests : (a b c : Bool) → cond {A = Option ℕ} a (cond b (cond c None (Some 5)) (Some 4)) (Some 3) ≡ None → (a ≡ true) × (b ≡ true) × (c ≡ true)
three_tests true true true h = (refl, refl, refl)
three_tests true true false h = cc
three_tests true false c h = cc
three_tests false b c h = cc

-- a value that breaks no rule passes them
value_passes : (finite : Finite) (F : ℤ → ℤ) (n t : ℕ) (x y value : ℤ) → value_rule finite F n t x y value ≡ None → ValuePasses finite F n t x y value
value_passes finite F n t x y value h =
    let tests = three_tests (is_allowed finite x y) (is_least_value finite F n t x value) (is_number (value_of finite F n t x y) value) h in
    record { allowed = tests.0; least = tests.1; reached = tests.2 }

-- a test that all numbers of a range pass
pub all_range : (test : ℕ → Bool) (a m k : ℕ) → list_all test (range_with_len a m) ≡ true → a ≤ k → k < a + m → test k ≡ true
all_range test a zero k h le lt = absurd (omega (arith, le, lt))
all_range test a (suc m) k h le lt =
    let both = and_parts (test a) (list_all test (range_with_len (a + 1) m)) h in
    by both.0 (cases_lt a k) (λ above. all_range test (a + 1) m k both.1 (omega (arith, above)) (omega (arith, lt)))
  where
    by : test a ≡ true → (a < k) ⊎ (k ≤ a) → (a < k → test k ≡ true) → test k ≡ true
    by first (inl above) further = further above
    by first (inr here) further = subst (λ (n : ℕ). test n ≡ true) (omega (arith, le, here)) first

-- ---- the certificate
module _ (finite : Finite) (readable : IsReadableFinite finite) (c : FiniteCert) (pass : RowsPass finite (no_rows finite) c.rows) where
  -- the values that the certificate names
  V : ℕ → ℤ → ℤ
  V = values_from finite (no_rows finite) c.rows

  -- the place of a position of the grid
  place_of : ℤ → ℕ
  place_of x = above_zero (finite.cap -ℤ x)

  -- the cell of a position of a grid
  found : (n t : ℕ) (x : ℤ) → 1 ≤ t → t + n ≡ finite.periods → finite_low finite t ≤ℤ x → x ≤ℤ finite.cap → CellAt finite (V (suc t)) n t (cells_of c.rows t) (place_of x) x
  unfolding V place_of
  found n t x pt e from to =
      let row = row_at finite (no_rows finite) c.rows pass n t e pt (omega arith) in
      let place = above_zero_is (finite.cap -ℤ x) (omega (arith, ints, to)) in
      cell_at finite (V (suc t)) n t 0 (cells_of c.rows t) row.pass (place_of x) x (omega (arith, row.whole, within (finite_low finite t) place from)) (omega (arith, ints, place))
    where
      within : (low : ℤ) → pos (place_of x) ≡ finite.cap -ℤ x → low ≤ℤ x → place_of x < above_zero (finite.cap -ℤ low +ℤ pos 1)
      within low place from = omega (arith, ints, place, from, above_zero_least (finite.cap -ℤ low +ℤ pos 1))

  -- its value
  value_here : (n t : ℕ) (x : ℤ) → 1 ≤ t → t + n ≡ finite.periods → finite_low finite t ≤ℤ x → x ≤ℤ finite.cap → V t x ≡ cell_value (cells_of c.rows t) x
  unfolding V place_of
  value_here n t x pt e from to =
      ap (λ (f : ℤ → ℤ). f x) (values_listed finite (no_rows finite) c.rows t (omega (arith, e))) ∙ (found n t x pt e from to).listed

  -- it breaks no rule
  passed : (n t : ℕ) (x : ℤ) → 1 ≤ t → t + n ≡ finite.periods → finite_low finite t ≤ℤ x → x ≤ℤ finite.cap → ValuePasses finite (V (suc t)) n t x (finite_choices c t x) (cell_value (cells_of c.rows t) x)
  passed n t x pt e from to = value_passes finite (V (suc t)) n t x (finite_choices c t x) (cell_value (cells_of c.rows t) x) (found n t x pt e from to).rule

  -- the certificate's choices and values are such that no allowed choice has less
  is_certificate : IsCertificate finite (finite_choices c) V
  unfolding V
  is_certificate = record { last = last; choice = choice; least = least; reached = reached }
    where
      last : (x : ℤ) → V (suc finite.periods) x ≡ end_value finite x
      last x = ap (λ (f : ℤ → ℤ). f x) (values_known finite (no_rows finite) c.rows (suc finite.periods) (omega arith))

      choice : (n t : ℕ) (x : ℤ) → 1 ≤ t → t + n ≡ finite.periods → finite_low finite t ≤ℤ x → x ≤ℤ finite.cap → (x ≤ℤ finite_choices c t x) × (finite_choices c t x ≤ℤ top finite x)
      choice n t x pt e from to =
          let up = and_parts (int_le x (finite_choices c t x)) (int_le (finite_choices c t x) (top finite x)) (passed n t x pt e from to).allowed in
          (le_known x (finite_choices c t x) up.0, le_known (finite_choices c t x) (top finite x) up.1)

      least : (n t : ℕ) (x y : ℤ) → 1 ≤ t → t + n ≡ finite.periods → finite_low finite t ≤ℤ x → x ≤ℤ finite.cap → x ≤ℤ y → y ≤ℤ top finite x → V t x ≤ℤ value_of finite (V (suc t)) n t x y
      least n t x y pt e from to above below =
          let value = cell_value (cells_of c.rows t) x in
          let F = V (suc t) in
          let units = above_zero (y -ℤ x) in
          let there : x +ℤ pos units ≡ y = omega (arith, ints, above_zero_is (y -ℤ x) (omega (arith, ints, above))) in
          let room : units < 0 + suc (above_zero (top finite x -ℤ x)) = fewer (top finite x) (y -ℤ x) (above_zero_is (y -ℤ x) (omega (arith, ints, above))) below refl in
          let test = all_range (λ units. int_le value (value_of finite F n t x (x +ℤ pos units))) 0 (suc (above_zero (top finite x -ℤ x))) units (passed n t x pt e from to).least (omega arith) room in
          subst (λ (z : ℤ). z ≤ℤ value_of finite F n t x y) (sym (value_here n t x pt e from to))
          (subst (λ (z : ℤ). value ≤ℤ value_of finite F n t x z) there (le_known value (value_of finite F n t x (x +ℤ pos units)) test))
        where
          fewer : (high span : ℤ) → pos (above_zero span) ≡ span → y ≤ℤ high → span ≡ y -ℤ x → above_zero span < 0 + suc (above_zero (high -ℤ x))
          fewer high span is below same = omega (arith, ints, is, below, same, above_zero_least (high -ℤ x))

      reached : (n t : ℕ) (x : ℤ) → 1 ≤ t → t + n ≡ finite.periods → finite_low finite t ≤ℤ x → x ≤ℤ finite.cap → V t x ≡ value_of finite (V (suc t)) n t x (finite_choices c t x)
      reached n t x pt e from to =
          value_here n t x pt e from to ∙ sym (same_number (value_of finite (V (suc t)) n t x (finite_choices c t x)) (cell_value (cells_of c.rows t) x) (passed n t x pt e from to).reached)

  -- it has a cell for each position of each period
  has_each_row : HasEachRow finite c
  has_each_row =
      let count : length c.rows ≡ finite.periods = omega (arith, rows_count finite (no_rows finite) c.rows pass) in
      record {
        count = count;
        periods = λ k d lt. (listed k d (omega (arith, count, lt))).is;
        positions = λ k d lt. (listed k d (omega (arith, count, lt))).positions;
      }
    where
      listed : (k : ℕ) (d : FiniteRow) → k < length c.rows → RowListed finite (finite.periods - k) (slice_index_or c.rows k d)
      listed k d lt =
          let same : 0 + k ≡ k = omega arith in
          subst (λ (i : ℕ). RowListed finite (finite.periods - i) (slice_index_or c.rows k d)) same (row_listed finite (no_rows finite) c.rows pass k d lt)

  -- and its policy costs least
  least_policy : IsLeastPolicy finite c
  least_policy =
      let sound = sound_readable finite readable in
      let start : V 1 finite.start ≡ start_value finite c = value_here (finite.periods - 1) 1 finite.start (omega arith) (omega (arith, readable.periods.least)) (low_start finite 1) readable.start_below in
      record {
        rows = has_each_row;
        least = subst (λ (v : ℤ). Least (finite_problem finite) (policy_of (finite_choices c) 1 finite.start) v) start (certified finite sound (finite_choices c) V is_certificate);
      }

-- a certificate whose lines break no rule
pub rows_certify : (finite : Finite) → IsReadableFinite finite → (c : FiniteCert) → BreaksNoRule (instance.Finite finite) (cert.Finite c) → CertifiesPolicy finite (cert.Finite c)
rows_certify finite readable c kept = least_policy finite readable c (rows_kept finite (no_rows finite) c.rows kept.1)
