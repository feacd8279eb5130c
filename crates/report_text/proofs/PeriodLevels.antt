-- The lines of periods from the last to the first, as those of the levels from period 1 up.
use Rattle.std.proofs.Common.{◌≡◌, ℕ, zero, suc, ◌+◌, ◌-◌, ◌<◌, ◌≤◌, ℤ, List, [], ◌∷◌, ◌++◌, length, map, reverse, cond, refl, sym, ◌∙◌, ap, arith, codes}
use Rattle.std.specs.Prelude.{slice_index_or}
use Rattle.std.specs.List.{flat_map, range_with_len}
use Rattle.std.proofs.lemmas.Bool.{eq-eqb, ne_eqb}
use Rattle.std.proofs.lemmas.List.{length-reverse, get_or-reverse}
use Rattle.std.proofs.lemmas.List.Folds.{flat_map-map}
use Rattle.std.proofs.lemmas.List.FromFn.{fill_by_all}
use Rattle.decision_model.specs.declared.serial.Serial.{Serial}
use Rattle.value_cert.specs.SerialRules.{rows_of, row_level, serial_levels, HasEachPeriod}
use Rattle.value_cert.specs.declared.serial.SerialCert.{SerialCert}
use Rattle.value_cert.specs.declared.serial.SerialPeriod.{SerialPeriod}
use Rattle.value_cert.specs.declared.serial.SerialRow.{SerialRow}
use Rattle.report_text.specs.Serial.{level_text, level_line, levels_text, period_lines, levels_lines}

-- ---- one period
-- the lists of one element more have equal heads and tails
heads : (x y : ℕ) (xs ys : List ℕ) → x ∷ xs ≡ y ∷ ys → x ≡ y
heads x y xs ys e = ap (λ (all : List ℕ). slice_index_or all 0 0) e

tails : (x y : ℕ) (xs ys : List ℕ) → x ∷ xs ≡ y ∷ ys → xs ≡ ys
tails x y xs ys e = ap rest e
  where
    rest : List ℕ → List ℕ
    rest [] = []
    rest (z ∷ zs) = zs

-- rows of the echelons from one on print the levels of these
rows_levels : (period m i : ℕ) (S : ℕ → ℤ) (rows : List SerialRow) → map (λ row. row.echelon) rows ≡ range_with_len (i + 1) m → ((j : ℕ) → i ≤ j → row_level rows j ≡ S j) → flat_map (level_line period) rows ≡ flat_map (λ j. level_text period (j + 1) (S j)) (range_with_len i m)
rows_levels period zero i S [] e levels = refl
rows_levels period zero i S (row ∷ rows) e levels = cc
rows_levels period (suc m) i S [] e levels = cc
rows_levels period (suc m) i S (row ∷ rows) e levels =
    let echelon : row.echelon ≡ i + 1 = heads row.echelon (i + 1) (map (λ row. row.echelon) rows) (range_with_len (i + 1 + 1) m) e in
    let same : row.echelon ≡ suc i = omega (arith, echelon) in
    let level : row.level ≡ S i = sym (ap (λ b. cond b row.level (row_level rows i)) (eq-eqb row.echelon (suc i) same)) ∙ levels i (omega arith) in
    let others = rows_levels period m (i + 1) S rows (tails row.echelon (i + 1) (map (λ row. row.echelon) rows) (range_with_len (i + 1 + 1) m) e)
    (λ j le. sym (ap (λ b. cond b row.level (row_level rows j)) (ne_eqb row.echelon (suc j) (λ equal. absurd (omega (arith, echelon, equal, le))))) ∙ levels j (omega (arith, le))) in
    ap (λ (text : List ℕ). text ++ flat_map (level_line period) rows) (ap (λ (k : ℕ). level_text period k row.level) echelon ∙ ap (level_text period (i + 1)) level)
    ∙ ap (λ (text : List ℕ). level_text period (i + 1) (S i) ++ text) others

-- ---- all periods
-- the rows of the period at a place
rows_at : (periods : List SerialPeriod) (top k : ℕ) (d : SerialPeriod) → ((j : ℕ) (e : SerialPeriod) → j ≤ k → (slice_index_or periods j e).period ≡ top - j) → k < top → k < length periods → rows_of periods (top - k) ≡ (slice_index_or periods k d).rows
rows_at [] top k d numbers below lt = absurd (omega (arith, lt))
rows_at (period ∷ periods) top zero d numbers below lt =
    ap (λ b. cond b period.rows (rows_of periods (top - 0))) (eq-eqb period.period (top - 0) (numbers 0 d (omega arith)))
rows_at (period ∷ periods) top (suc k) d numbers below lt =
    let same : top - 1 - k ≡ top - suc k = omega arith in
    let first : period.period ≡ top - 0 = numbers 0 d (omega arith) in
    let rest = rows_at periods (top - 1) k d (λ j e le. numbers (suc j) e (omega (arith, le)) ∙ shift j) (omega (arith, below)) (omega (arith, lt)) in
    ap (λ b. cond b period.rows (rows_of periods (top - suc k))) (ne_eqb period.period (top - suc k) (λ equal. absurd (omega (arith, first, equal, below))))
    ∙ ap (rows_of periods) (sym same)
    ∙ rest
  where
    shift : (j : ℕ) → top - suc j ≡ top - 1 - j
    shift j = omega arith

-- a period with the rows that a certificate has for it
abbrev period_at : SerialCert → ℕ → SerialPeriod
period_at c place = record { period = place + 1; rows = rows_of c.periods (place + 1) }

-- no period
no_period : SerialPeriod
no_period = record { period = 0; rows = [] }

module _ (serial : Serial) (c : SerialCert) (has : HasEachPeriod serial c) where
  -- the rows of a period are those at its place
  rows_are : (place : ℕ) (d : SerialPeriod) → place < serial.periods → rows_of c.periods (place + 1) ≡ (slice_index_or c.periods (serial.periods - (place + 1)) d).rows
  rows_are place d lt =
      let k : serial.periods - (serial.periods - (place + 1)) ≡ place + 1 = omega (arith, lt) in
      ap (rows_of c.periods) (sym k)
      ∙ rows_at c.periods serial.periods (serial.periods - (place + 1)) d (λ j e le. (has.each j e (omega (arith, le, lt))).number_is) (omega (arith, lt)) (omega (arith, lt, has.count))

  -- the period at a place from the end is that of its number
  period_is : (place : ℕ) (d : SerialPeriod) → place < serial.periods → slice_index_or (reverse c.periods) place d ≡ period_at c place
  period_is place d lt =
      let from_end : length c.periods - 1 - place ≡ serial.periods - (place + 1) = omega (arith, has.count) in
      let k = serial.periods - (place + 1) in
      let period : SerialPeriod = slice_index_or c.periods k d in
      let number : period.period ≡ place + 1 = (has.each k d (omega (arith, lt))).number_is ∙ omega (arith, lt) in
      let rows = sym (rows_are place d lt) in
      get_or-reverse c.periods place d (omega (arith, lt, has.count))
      ∙ ap (λ k. slice_index_or c.periods k d) from_end
      ∙ λ i. record { period = number i; rows = rows i }

  -- the lines of a period are those of its levels
  lines_are : (place : ℕ) → place < serial.periods → period_lines (period_at c place) ≡ levels_text (place + 1) (length serial.holding) (serial_levels c (place + 1))
  lines_are place lt =
      let k = serial.periods - (place + 1) in
      let is = has.each k no_period (omega (arith, lt)) in
      let first : 1 ≡ 0 + 1 = omega arith in
      rows_levels (place + 1) (length serial.holding) 0 (serial_levels c (place + 1)) (rows_of c.periods (place + 1))
      (ap (map (λ row. row.echelon)) (rows_are place no_period lt) ∙ is.echelons ∙ ap (λ k. range_with_len k (length serial.holding)) first)
      (λ j le. refl)

  -- pieces that agree on a range
  pieces_same : (f g : ℕ → List ℕ) (a m : ℕ) → ((k : ℕ) → a ≤ k → k < a + m → f k ≡ g k) → flat_map f (range_with_len a m) ≡ flat_map g (range_with_len a m)
  pieces_same f g a zero same = refl
  pieces_same f g a (suc m) same =
      ap (λ (text : List ℕ). text ++ flat_map f (range_with_len (a + 1) m)) (same a (omega arith) (omega arith))
      ∙ ap (λ (text : List ℕ). g a ++ text) (pieces_same f g (a + 1) m (λ k le lt. same k (omega (arith, le)) (omega (arith, lt))))

  -- where each period has its rows
  pub by_periods : levels_lines c.periods ≡ codes "kind serial\n" ++ flat_map (λ place. levels_text (place + 1) (length serial.holding) (serial_levels c (place + 1))) (range_with_len 0 serial.periods)
  by_periods =
      let all = fill_by_all (period_at c) (reverse c.periods) serial.periods no_period (length-reverse c.periods ∙ has.count) (λ k lt. period_is k no_period lt) in
      ap (λ (lines : List ℕ). codes "kind serial\n" ++ lines)
      (ap (flat_map period_lines) all
      ∙ flat_map-map period_lines (period_at c) (range_with_len 0 serial.periods)
      ∙ pieces_same (λ place. period_lines (period_at c place)) (λ place. levels_text (place + 1) (length serial.holding) (serial_levels c (place + 1))) 0 serial.periods (λ k le lt. lines_are k (omega (arith, lt))))
