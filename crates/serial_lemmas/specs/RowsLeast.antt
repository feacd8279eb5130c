-- A certificate of a serial system whose lines break no rule has a level for each echelon of each period and a cell for
-- each position, and names a policy that costs least.
use Rattle.std.proofs.Common.{◌≡◌, ◌⊎◌, inl, inr, ℕ, zero, suc, ◌+◌, ◌-◌, ◌*◌, ◌<◌, ◌≤◌, Bool, true, false, cond, List, [], ◌∷◌, length, ℤ, pos, ◌+ℤ◌, ◌-ℤ◌, ◌*ℤ◌, ◌≤ℤ◌, ◌<ℤ◌, refl, sym, ap, ◌∙◌, subst, arith}
use Rattle.std.specs.Prelude.{None, Some, int_le, int_lt}
use Rattle.std.specs.Int.{int_max, int_min}
use Rattle.std.specs.List.{list_all, range_with_len}
use Rattle.std.proofs.lemmas.Bool.{and_parts, eq-eqb, ne_eqb, cases_lt}
use Rattle.std.proofs.lemmas.Int.{ints}
use Rattle.decision_model.specs.declared.serial.Serial.{Serial}
use Rattle.decision_model.specs.Positions.{above_zero}
use Rattle.decision_model.specs.PositionTests.{le_known, above_zero_is, above_zero_least}
use Rattle.decision_model.specs.Serial.{serial_low}
use Rattle.decision_model.specs.SerialProblem.{unit_of}
use Rattle.demand_law.specs.Integers as Z
use Rattle.value_cert.specs.RuleTests.{rule_passed}
use Rattle.value_cert.specs.SerialRules.{put_level, is_on_grid, turns_at, turns_at_level, level_rule, row_level, row_cells}
use Rattle.value_cert.specs.SerialValues.{own, scale, penalty, order_cost, echelon_value, row_width, values}
use Rattle.value_cert.specs.declared.serial.SerialCell.{SerialCell}
use Rattle.value_cert.specs.declared.serial.SerialRow.{SerialRow}
use Rattle.serial_lemmas.specs.Levels.{IsTurn}
use Rattle.serial_lemmas.specs.RowCells.{CellsPass, put_cells, cells_same, cells_other, cells_put}
use Rattle.serial_lemmas.specs.RowsKept.{RowsPass, put_rows}

-- ---- the rule on a level
-- a test that all numbers of a range pass
all_range : (test : ℕ → Bool) (a m k : ℕ) → list_all test (range_with_len a m) ≡ true → a ≤ k → k < a + m → test k ≡ true
all_range test a zero k h le lt = absurd (omega (arith, le, lt))
all_range test a (suc m) k h le lt =
    let both = and_parts (test a) (list_all test (range_with_len (a + 1) m)) h in
    by both.0 (cases_lt a k) (λ above. all_range test (a + 1) m k both.1 (omega (arith, above)) (omega (arith, lt)))
  where
    by : test a ≡ true → (a < k) ⊎ (k ≤ a) → (a < k → test k ≡ true) → test k ≡ true
    by first (inl above) further = further above
    by first (inr here) further = subst (λ (n : ℕ). test n ≡ true) (omega (arith, le, here)) first

-- the place of a position, from the low end up
pub place_is : (low cap x : ℤ) → low ≤ℤ x → x ≤ℤ cap → (x ≡ low +ℤ pos (above_zero (x -ℤ low))) × (above_zero (x -ℤ low) < above_zero (cap -ℤ low +ℤ pos 1))
place_is low cap x from to =
    let is = above_zero_is (x -ℤ low) (omega (arith, ints, from)) in
    (omega (arith, ints, is), omega (arith, ints, is, to, above_zero_least (cap -ℤ low +ℤ pos 1)))

-- the test of an order, and what it says
is_less : (a b : ℤ) → int_lt a b ≡ true → a <ℤ b
is_less a b h = grind (arith, ints)

-- and what it says where it fails
is_no_less : (a b : ℤ) → int_lt a b ≡ false → b ≤ℤ a
is_no_less a b h = grind (arith, ints)

-- the step below a level, and that from it on
turn_below : (C : ℤ → ℤ) (level y : ℤ) → y <ℤ level → turns_at C level y ≡ true → C (y +ℤ pos 1) ≤ℤ C y
turn_below C level y below h = by (int_lt y level) (is_no_less y level) h
  where
    by : (b : Bool) → (b ≡ false → level ≤ℤ y) → cond b (int_le (C (y +ℤ pos 1)) (C y)) (int_le (C y) (C (y +ℤ pos 1))) ≡ true → C (y +ℤ pos 1) ≤ℤ C y
    by true e h = le_known (C (y +ℤ pos 1)) (C y) h
    by false e h = absurd (omega (arith, ints, below, e refl))

-- the step from a level on
turn_above : (C : ℤ → ℤ) (level y : ℤ) → level ≤ℤ y → turns_at C level y ≡ true → C y ≤ℤ C (y +ℤ pos 1)
turn_above C level y above h = by (int_lt y level) (is_less y level) h
  where
    by : (b : Bool) → (b ≡ true → y <ℤ level) → cond b (int_le (C (y +ℤ pos 1)) (C y)) (int_le (C y) (C (y +ℤ pos 1))) ≡ true → C y ≤ℤ C (y +ℤ pos 1)
    by true e h = absurd (omega (arith, ints, above, e refl))
    by false e h = le_known (C y) (C (y +ℤ pos 1)) h

-- a level that breaks no rule is one at which the cost of orders turns
pub turns : (serial : Serial) (F : ℕ → ℤ → ℤ) (n t i : ℕ) (level : ℤ) → level_rule serial F n t i level ≡ None → IsTurn (order_cost serial F n t i) level (serial_low serial t) serial.cap
turns serial F n t i level h =
    let C = order_cost serial F n t i in
    let low = serial_low serial t in
    let grid = rule_passed (is_on_grid serial t level) (cond (turns_at_level serial t C level) None (Some 4)) 3 h in
    let on = and_parts (int_le low level) (int_le level serial.cap) grid.0 in
    let all = (rule_passed (turns_at_level serial t C level) None 4 grid.1).0 in
    let at : (y : ℤ) → low ≤ℤ y → y <ℤ serial.cap → turns_at C level y ≡ true = λ y from to. by low y from to all in
    let to_cap = le_known level serial.cap on.1 in
    let from_low = le_known low level on.0 in
    record {
      from_low = from_low;
      to_cap = to_cap;
      falls = λ y from lt. turn_below C level y lt (at y from (short y level lt to_cap));
      rises = λ y from lt. turn_above C level y from (at y (Z.le_trans low level y from_low from) lt);
    }
  where
    short : (y level : ℤ) → y <ℤ level → level ≤ℤ serial.cap → y <ℤ serial.cap
    short y level lt le = omega (arith, ints, lt, le)

    by : (low y : ℤ) → low ≤ℤ y → y <ℤ serial.cap → list_all (λ place. turns_at (order_cost serial F n t i) level (low +ℤ pos place)) (range_with_len 0 (above_zero (serial.cap -ℤ low +ℤ pos 1) - 1)) ≡ true → turns_at (order_cost serial F n t i) level y ≡ true
    by low y from to all =
        let place = place_is low serial.cap (y +ℤ pos 1) (omega (arith, ints, from)) (omega (arith, ints, to)) in
        let here = place_is low serial.cap y from (omega (arith, ints, to)) in
        let inside : above_zero (y -ℤ low) < 0 + (above_zero (serial.cap -ℤ low +ℤ pos 1) - 1) = omega (arith, ints, place.0, place.1, here.0) in
        subst (λ (z : ℤ). turns_at (order_cost serial F n t i) level z ≡ true) (sym here.0)
        (all_range (λ place. turns_at (order_cost serial F n t i) level (low +ℤ pos place)) 0 (above_zero (serial.cap -ℤ low +ℤ pos 1) - 1) (above_zero (y -ℤ low)) all (omega arith) inside)

-- ---- one period
-- the level that was put down last, and the others
put_level_here : (levels : ℕ → ℤ) (i : ℕ) (level : ℤ) → put_level levels i level i ≡ level
put_level_here levels i level = ap (λ b. cond b level (levels i)) (eq-eqb i i refl)

-- another echelon keeps its level
put_level_other : (levels : ℕ → ℤ) (i : ℕ) (level : ℤ) (j : ℕ) → (j ≡ i → ⊥) → put_level levels i level j ≡ levels j
put_level_other levels i level j differ = ap (λ b. cond b level (levels j)) (ne_eqb j i differ)

-- an echelon's value looks at its own level and at that of the one before alone
pub value_same : (serial : Serial) (C : ℕ → ℤ → ℤ) (L S : ℕ → ℤ) (n t i : ℕ) (x : ℤ) → ((j : ℕ) → j ≤ i → L j ≡ S j) → echelon_value serial C L n t i x ≡ echelon_value serial C S n t i x
value_same serial C L S n t zero x same =
    ap (λ (s : ℤ). own serial n t 0 x -ℤ pos (scale serial (suc n) * unit_of serial 0) *ℤ x +ℤ C 0 (int_max x s) +ℤ pos 0) (same 0 (omega arith))
value_same serial C L S n t (suc i) x same =
    ap (λ (s : ℤ). own serial n t (suc i) x -ℤ pos (scale serial (suc n) * unit_of serial (suc i)) *ℤ x +ℤ C (suc i) (int_max x s) +ℤ penalty C L (suc i) x) (same (suc i) (omega arith))
    ∙ ap (λ (s : ℤ). own serial n t (suc i) x -ℤ pos (scale serial (suc n) * unit_of serial (suc i)) *ℤ x +ℤ C (suc i) (int_max x (S (suc i))) +ℤ (C i (int_min x s) -ℤ C i s)) (same i (omega arith))

-- the row of echelon i among rows, with the levels S of the period
pub record RowAt (serial : Serial) (F : ℕ → ℤ → ℤ) (n t i : ℕ) (S : ℕ → ℤ) (row : List SerialCell) : Type 0 where
  pub rule : level_rule serial F n t i (S i) ≡ None
  pub cells : CellsPass (echelon_value serial (order_cost serial F n t) S n t i) (serial_low serial t) (row_width serial t) 0 row
  pub whole : length row ≡ row_width serial t

module _ (serial : Serial) (F : ℕ → ℤ → ℤ) (n t : ℕ) where
  -- the level and the cells of the first of some rows, and those of the others
  level_here : (row : SerialRow) (rows : List SerialRow) (i : ℕ) → row.echelon ≡ suc i → row_level (row ∷ rows) i ≡ row.level
  level_here row rows i e = ap (λ b. cond b row.level (row_level rows i)) (eq-eqb row.echelon (suc i) e)

  -- where a row is of another echelon
  level_further : (row : SerialRow) (rows : List SerialRow) (i : ℕ) → (row.echelon ≡ suc i → ⊥) → row_level (row ∷ rows) i ≡ row_level rows i
  level_further row rows i differ = ap (λ b. cond b row.level (row_level rows i)) (ne_eqb row.echelon (suc i) differ)

  -- its cells
  cells_here : (row : SerialRow) (rows : List SerialRow) (i : ℕ) → row.echelon ≡ suc i → row_cells (row ∷ rows) i ≡ row.cells
  cells_here row rows i e = ap (λ b. cond b row.cells (row_cells rows i)) (eq-eqb row.echelon (suc i) e)

  -- and those of another echelon
  cells_further : (row : SerialRow) (rows : List SerialRow) (i : ℕ) → (row.echelon ≡ suc i → ⊥) → row_cells (row ∷ rows) i ≡ row_cells rows i
  cells_further row rows i differ = ap (λ b. cond b row.cells (row_cells rows i)) (ne_eqb row.echelon (suc i) differ)

  -- each echelon from i on has its row
  pub row_at : (S : ℕ → ℤ) (i : ℕ) (levels : ℕ → ℤ) (rows : List SerialRow) → RowsPass serial F n t i levels rows → ((j : ℕ) → j < i → levels j ≡ S j) → ((j : ℕ) → i ≤ j → row_level rows j ≡ S j) → (k : ℕ) → i ≤ k → k < i + length rows → RowAt serial F n t k S (row_cells rows k)
  row_at S i levels [] pass before known k le lt = absurd (omega (arith, le, lt))
  row_at S i levels (row ∷ rows) pass before known k le lt =
      by (cases_lt i k) (λ upto further above. row_at S (suc i) (put_level levels i row.level) rows pass.1 upto further k above (omega (arith, lt)))
    where
      here_is : row.level ≡ S i
      here_is = sym (level_here row rows i pass.0.echelon) ∙ known i (omega arith)

      upto : (j : ℕ) → j < suc i → put_level levels i row.level j ≡ S j
      upto j less = split (cases_lt j i)
        where
          split : (j < i) ⊎ (i ≤ j) → put_level levels i row.level j ≡ S j
          split (inl lower) = put_level_other levels i row.level j (λ same. absurd (omega (arith, lower, same))) ∙ before j lower
          split (inr upper) =
              let same : i ≡ j = omega (arith, less, upper) in
              subst (λ (m : ℕ). put_level levels i row.level m ≡ S m) same (put_level_here levels i row.level ∙ here_is)

      further : (j : ℕ) → suc i ≤ j → row_level rows j ≡ S j
      further j above = sym (level_further row rows j (λ same. absurd (omega (arith, pass.0.echelon, same, above)))) ∙ known j (omega (arith, above))

      by : (i < k) ⊎ (k ≤ i) → (((j : ℕ) → j < suc i → put_level levels i row.level j ≡ S j) → ((j : ℕ) → suc i ≤ j → row_level rows j ≡ S j) → i < k → RowAt serial F n t k S (row_cells rows k)) → RowAt serial F n t k S (row_cells (row ∷ rows) k)
      by (inl above) rest =
          subst (λ (cells : List SerialCell). RowAt serial F n t k S cells) (sym (cells_further row rows k (λ same. absurd (omega (arith, pass.0.echelon, same, above))))) (rest upto further above)
      by (inr below) rest =
          let same : i ≡ k = omega (arith, le, below) in
          let E = echelon_value serial (order_cost serial F n t) (put_level levels i row.level) n t i in
          let G = echelon_value serial (order_cost serial F n t) S n t i in
          let cells = cells_same E G (serial_low serial t) (row_width serial t) 0 row.cells (λ x. value_same serial (order_cost serial F n t) (put_level levels i row.level) S n t i x (λ j less. upto j (omega (arith, less)))) pass.0.cells in
          let here : RowAt serial F n t i S row.cells = record { rule = subst (λ (s : ℤ). level_rule serial F n t i s ≡ None) here_is pass.0.rule; cells = cells; whole = pass.0.whole } in
          let listed = subst (λ (cells : List SerialCell). RowAt serial F n t i S cells) (sym (cells_here row rows i pass.0.echelon)) here in
          subst (λ (m : ℕ). RowAt serial F n t m S (row_cells (row ∷ rows) m)) same listed

  -- rows leave the values of the echelons before theirs
  rows_keep : (values : ℕ → ℤ → ℤ) (i : ℕ) (rows : List SerialRow) (j : ℕ) (x : ℤ) → j < i → put_rows values i rows j x ≡ values j x
  rows_keep values i [] j x lt = refl
  rows_keep values i (row ∷ rows) j x lt =
      rows_keep (put_cells values i row.cells) (suc i) rows j x (omega (arith, lt)) ∙ cells_other values i row.cells j x (λ same. absurd (omega (arith, lt, same)))

  -- what they put down for an echelon are the values of its cells
  pub rows_put : (values : ℕ → ℤ → ℤ) (i : ℕ) (levels : ℕ → ℤ) (rows : List SerialRow) → RowsPass serial F n t i levels rows → (k place : ℕ) (x : ℤ) (E : ℤ → ℤ) → i ≤ k → k < i + length rows → CellsPass E (serial_low serial t) (row_width serial t) 0 (row_cells rows k) → place < length (row_cells rows k) → x ≡ serial_low serial t +ℤ pos (0 + place) → put_rows values i rows k x ≡ E x
  rows_put values i levels [] pass k place x E le lt cells inside at = absurd (omega (arith, le, lt))
  rows_put values i levels (row ∷ rows) pass k place x E le lt cells inside at =
      by (cases_lt i k) (λ above cells inside. rows_put (put_cells values i row.cells) (suc i) (put_level levels i row.level) rows pass.1 k place x E above (omega (arith, lt)) cells inside at)
    where
      by : (i < k) ⊎ (k ≤ i) → (i < k → CellsPass E (serial_low serial t) (row_width serial t) 0 (row_cells rows k) → place < length (row_cells rows k) → put_rows (put_cells values i row.cells) (suc i) rows k x ≡ E x) → put_rows (put_cells values i row.cells) (suc i) rows k x ≡ E x
      by (inl above) rest =
          let same = cells_further row rows k (λ same. absurd (omega (arith, pass.0.echelon, same, above))) in
          rest above
          (subst (λ (all : List SerialCell). CellsPass E (serial_low serial t) (row_width serial t) 0 all) same cells)
          (subst (λ (all : List SerialCell). place < length all) same inside)
      by (inr below) rest =
          let echelon : i ≡ k = omega (arith, le, below) in
          let same = cells_here row rows k (pass.0.echelon ∙ ap suc echelon) in
          rows_keep (put_cells values i row.cells) (suc i) rows k x (omega (arith, below))
          ∙ ap (λ (m : ℕ). put_cells values m row.cells k x) echelon
          ∙ cells_put values k E (serial_low serial t) (row_width serial t) 0 row.cells place x (subst (λ (all : List SerialCell). CellsPass E (serial_low serial t) (row_width serial t) 0 all) same cells) (subst (λ (all : List SerialCell). place < length all) same inside) at
