-- The solver's certificate of a finite horizon breaks no rule.
use Rattle.std.proofs.Common.{◌≡◌, ℕ, zero, suc, ◌+◌, ◌-◌, ◌<◌, ◌≤◌, Bool, true, cond, List, length, map, ℤ, pos, negsuc, ◌+ℤ◌, ◌-ℤ◌, ◌*ℤ◌, ◌≤ℤ◌, refl, sym, ap, ◌∙◌, subst, arith}
use Rattle.std.specs.Prelude.{Option, None, Some, int_le, slice_index_or}
use Rattle.std.specs.List.{list_all, range_with_len}
use Rattle.std.proofs.Math.Dec.{eqb-suc-zero}
use Rattle.std.proofs.lemmas.Bool.{and_from, le-leb}
use Rattle.std.proofs.lemmas.Int.{ints}
use Rattle.std.proofs.lemmas.List.{length-map}
use Rattle.std.proofs.lemmas.List.FromFn.{length-map-range_with_len}
use Rattle.demand_law.specs.Integers as Z
use Rattle.demand_law.specs.WeightedSums.{weighted-ext_within}
use Rattle.decision_model.specs.declared.finite.Finite.{Finite}
use Rattle.decision_model.specs.declared.instance.Instance.TheVariants as instance
use Rattle.decision_model.specs.Finite.{IsReadableFinite, finite_low}
use Rattle.decision_model.specs.FiniteProblem.{law_of_period, top, order_cost}
use Rattle.decision_model.specs.FiniteSound.{IsSoundFinite, sound_readable, low_next, after_demand, before_cap, up_to_cap}
use Rattle.decision_model.specs.Positions.{above_zero, positions_from}
use Rattle.decision_model.specs.PositionTests.{le_test, above_zero_is, above_zero_least}
use Rattle.decision_model.specs.Stock.{stock_cost}
use Rattle.value_cert.specs.FiniteRules.{IsLeastPolicy, FirstRows, no_rows, listed_value, last_values, is_row_whole, is_allowed, is_least_value, value_rule, solved_cell, solved_row, solved_finite}
use Rattle.value_cert.specs.FiniteValues.{scale, stock_scale, lead_law, cost_after, value_of, end_value, least_choice, least_values, row_width}
use Rattle.value_cert.specs.Headings.{heading_of}
use Rattle.value_cert.specs.Kept.{BreaksNoRule, own_head}
use Rattle.value_cert.specs.Numbers.{is_number}
use Rattle.value_cert.specs.RuleTests.{number_at}
use Rattle.value_cert.specs.declared.cert.Cert.TheVariants as cert
use Rattle.value_cert.specs.declared.finite.FiniteCell.{FiniteCell}
use Rattle.finite_lemmas.specs.LeastChoice.{least_choice_is}
use Rattle.finite_lemmas.specs.RowsLeast.{rows_certify}
use Rattle.finite_lemmas.specs.RowsKept.{CellsPass, RowsPass, after_row, values_of, begun_whole, passing_rows}

-- ---- the rule on a value
-- a value that passes all tests breaks no rule
three_passed : (a b c : Bool) → a ≡ true → b ≡ true → c ≡ true → cond {A = Option ℕ} a (cond b (cond c None (Some 5)) (Some 4)) (Some 3) ≡ None
three_passed a b c e f g = rw (e, f, g) refl

-- a range whose numbers all pass a test
pub range_all : (test : ℕ → Bool) (a m : ℕ) → ((k : ℕ) → a ≤ k → k < a + m → test k ≡ true) → list_all test (range_with_len a m) ≡ true
range_all test a zero each = refl
range_all test a (suc m) each =
    and_from (test a) (list_all test (range_with_len (a + 1) m)) (each a (omega arith) (omega arith)) (range_all test (a + 1) m (λ k le lt. each k (omega (arith, le)) (omega (arith, lt))))

-- values of the next period that are the same at all positions that demands lead to
value_same : (finite : Finite) (F G : ℤ → ℤ) (n t : ℕ) (x y : ℤ) → ((d : ℕ) → d < length (law_of_period finite t) → F (y -ℤ pos d) ≡ G (y -ℤ pos d)) → value_of finite F n t x y ≡ value_of finite G n t x y
unfolding cost_after
value_same finite F G n t x y same =
    ap (λ later. (pos (stock_scale finite n) *ℤ stock_cost finite.holding finite.stockout (lead_law finite t) y +ℤ pos finite.discount_num *ℤ later) +ℤ pos (scale finite (suc n)) *ℤ order_cost finite x y)
    (weighted-ext_within (law_of_period finite t) (λ d. F (y -ℤ pos d)) (λ d. G (y -ℤ pos d)) same)

-- each place of a row is a position from the low end up
pub place_from_low : (low cap : ℤ) (place : ℕ) → place < positions_from low cap → low ≤ℤ (cap -ℤ pos place)
place_from_low low cap place lt = by (cap -ℤ low +ℤ pos 1) refl lt
  where
    by : (z : ℤ) → cap -ℤ low +ℤ pos 1 ≡ z → place < above_zero z → low ≤ℤ (cap -ℤ pos place)
    by (pos k) e lt = omega (arith, ints, e, lt)
    by (negsuc k) e lt = absurd (omega (arith, lt))

module _ (finite : Finite) (readable : IsReadableFinite finite) where
  -- what the theorems ask of an instance
  sound : IsSoundFinite finite
  sound = sound_readable finite readable

  -- values that are the same on the grid of a period
  abbrev pub AreSame : (ℤ → ℤ) → (ℤ → ℤ) → ℕ → Type 0
  AreSame F G t = (x : ℤ) → finite_low finite t ≤ℤ x → x ≤ℤ finite.cap → F x ≡ G x

  -- .. give the same values of choices in the period before
  pub same_choice : (F G : ℤ → ℤ) (n t : ℕ) → 1 ≤ t → AreSame F G (suc t) → (x y : ℤ) → finite_low finite t ≤ℤ x → x ≤ℤ y → y ≤ℤ top finite x → value_of finite F n t x y ≡ value_of finite G n t x y
  unfolding sound
  same_choice F G n t pt same x y from above below =
      let to : y ≤ℤ finite.cap = Z.le_trans y (top finite x) finite.cap below (up_to_cap finite.most finite.cap x) in
      value_same finite F G n t x y (λ d lt. same (y -ℤ pos d)
      (after_demand (finite_low finite t) (finite_low finite (suc t)) x y d (low_next finite t d pt (omega (arith, sound.within t, lt))) from above)
      (before_cap y finite.cap d to))

  -- the solver's choice and value break no rule
  solved_passes : (F : ℤ → ℤ) (n t : ℕ) → 1 ≤ t → AreSame F (least_values finite n (suc t)) (suc t) → (x : ℤ) → finite_low finite t ≤ℤ x → x ≤ℤ finite.cap → value_rule finite F n t x (least_choice finite (least_values finite n (suc t)) n t x) (least_values finite (suc n) t x) ≡ None
  unfolding least_values
  solved_passes F n t pt same x from to =
      let G = least_values finite n (suc t) in
      let y = least_choice finite G n t x in
      let value = value_of finite G n t x y in
      let is = least_choice_is finite G n t x to in
      let high = top finite x in
      three_passed (is_allowed finite x y) (is_least_value finite F n t x value) (is_number (value_of finite F n t x y) value)
      (and_from (int_le x y) (int_le y high) (le_test x y is.from_low) (le_test y high is.to_cap))
      (range_all (λ units. int_le value (value_of finite F n t x (x +ℤ pos units))) 0 (suc (above_zero (high -ℤ x)))
      (λ k le lt.
      let room = above_zero_is (high -ℤ x) (omega (arith, ints, is.from_low, is.to_cap)) in
      let there = same_choice F G n t pt same x (x +ℤ pos k) from (omega (arith, ints)) (omega (arith, ints, lt, room)) in
      le_test value (value_of finite F n t x (x +ℤ pos k)) (subst (λ (z : ℤ). value ≤ℤ z) (sym there) (is.least (x +ℤ pos k) (omega (arith, ints)) (omega (arith, ints, lt, room))))))
      (number_at (value_of finite F n t x y) value (same_choice F G n t pt same x y from is.from_low is.to_cap))

  -- ---- one row
  -- m cells of the solver's row from a place on
  abbrev cells_from : ℕ → ℕ → ℕ → ℕ → List FiniteCell
  cells_from n t place m = map (λ k. solved_cell finite n t (finite.cap -ℤ pos k)) (range_with_len place m)

  -- they pass
  solved_cells : (F : ℤ → ℤ) (n t : ℕ) → 1 ≤ t → AreSame F (least_values finite n (suc t)) (suc t) → (place m : ℕ) → place + m ≤ row_width finite t → CellsPass finite F n t place (cells_from n t place m)
  solved_cells F n t pt same place zero le = tt
  solved_cells F n t pt same place (suc m) le =
      let x = finite.cap -ℤ pos place in
      let next : place + 1 ≡ suc place = omega arith in
      let P : ℕ → Type 0 = λ k. CellsPass finite F n t k (cells_from n t (place + 1) m) in (
        record { inside = omega (arith, le); at = refl; rule = solved_passes F n t pt same x (place_from_low (finite_low finite t) finite.cap place (omega (arith, le))) (omega (arith, ints)) },
        subst P next (solved_cells F n t pt same (place + 1) m (omega (arith, le))),
      )

  -- the value of the cell at a place
  listed_solved : (n t place m k : ℕ) → k < m → slice_index_or (values_of (cells_from n t place m)) k (pos 0) ≡ least_values finite (suc n) t (finite.cap -ℤ pos (place + k))
  listed_solved n t place zero k lt = absurd (omega (arith, lt))
  listed_solved n t place (suc m) zero lt = ap (λ i. least_values finite (suc n) t (finite.cap -ℤ pos i)) (omega arith)
  listed_solved n t place (suc m) (suc k) lt =
      listed_solved n t (place + 1) m k (omega (arith, lt)) ∙ ap (λ i. least_values finite (suc n) t (finite.cap -ℤ pos i)) (omega arith)

  -- behind the solver's row the last values are the least values
  row_same : (first : FirstRows) (n t : ℕ) → AreSame (last_values finite (after_row finite first (solved_row finite n t))) (least_values finite (suc n) t) t
  row_same first n t x from to =
      let cells = cells_from n t 0 (row_width finite t) in
      let place = above_zero_is (finite.cap -ℤ x) (omega (arith, ints, to)) in
      ap (λ b. cond b (end_value finite x) (listed_value finite.cap (values_of cells) x)) (eqb-suc-zero first.rows)
      ∙ listed_solved n t 0 (row_width finite t) (above_zero (finite.cap -ℤ x)) (within (finite_low finite t) place from)
      ∙ ap (least_values finite (suc n) t) (omega (arith, ints, place))
    where
      within : (low : ℤ) → pos (above_zero (finite.cap -ℤ x)) ≡ finite.cap -ℤ x → low ≤ℤ x → above_zero (finite.cap -ℤ x) < above_zero (finite.cap -ℤ low +ℤ pos 1)
      within low place from = omega (arith, ints, place, from, above_zero_least (finite.cap -ℤ low +ℤ pos 1))

  -- the solver's row is whole
  row_is_whole : (first : FirstRows) (n : ℕ) → is_row_whole finite (after_row finite first (solved_row finite n (finite.periods - first.rows))) ≡ true
  row_is_whole first n =
      let t = finite.periods - first.rows in
      let cells = cells_from n t 0 (row_width finite t) in
      let count = length-map-range_with_len (λ k. solved_cell finite n t (finite.cap -ℤ pos k)) 0 (row_width finite t) in
      begun_whole finite first.rows (last_values finite first) (values_of cells)
      ∙ le-leb (row_width finite t) (length (values_of cells)) (omega (arith, count, length-map cells (λ (cell : FiniteCell). cell.value)))

  -- ---- all rows
  -- the solver's rows pass, from a period down to the first
  solved_rows : (m j : ℕ) (first : FirstRows) → j + m ≡ finite.periods → first.rows ≡ j → is_row_whole finite first ≡ true
      → AreSame (last_values finite first) (least_values finite j (suc (finite.periods - j))) (suc (finite.periods - j))
      → RowsPass finite first (map (λ n. solved_row finite n (finite.periods - n)) (range_with_len j m))
  solved_rows zero j first e rows whole same = (whole, omega (arith, e, rows))
  solved_rows (suc m) j first e rows whole same =
      let t = finite.periods - j in
      let row = solved_row finite j t in
      let Cells : ℕ → Type 0 = λ k. CellsPass finite (last_values finite first) k (finite.periods - k) 0 row.cells in
      let Same : ℕ → ℕ → Type 0 = λ n s. AreSame (last_values finite (after_row finite first row)) (least_values finite n s) s in
      let Whole : ℕ → Type 0 = λ s. is_row_whole finite (after_row finite first (solved_row finite j s)) ≡ true in
      let next : suc j ≡ j + 1 = omega arith in
      let before : t ≡ suc (finite.periods - (j + 1)) = omega (arith, e) in
      let period : finite.periods - first.rows ≡ t = ap (λ k. finite.periods - k) rows in (
        record {
          whole = whole;
          more = omega (arith, e, rows);
          period = sym period;
          cells = subst Cells (sym rows) (solved_cells (last_values finite first) j t (omega (arith, e)) same 0 (row_width finite t) (omega arith));
        },
        solved_rows m (j + 1) (after_row finite first row) (omega (arith, e)) (omega (arith, rows)) (subst Whole period (row_is_whole first j))
            (subst (λ (s : ℕ). Same (j + 1) s) before (subst (λ (k : ℕ). Same k t) next (row_same first j t))),
      )

  -- each line of the solver's certificate breaks no rule behind those before it
  pub solved_breaks_nothing : BreaksNoRule (instance.Finite finite) (cert.Finite (solved_finite finite))
  unfolding least_values
  solved_breaks_nothing =
      let rows = (solved_finite finite).rows in (
        own_head (heading_of (instance.Finite finite)),
        passing_rows finite (no_rows finite) rows (solved_rows finite.periods 0 (no_rows finite) (omega arith) refl refl (λ x from to. refl)),
      )

  -- so its policy costs least
  pub solved_is_least : IsLeastPolicy finite (solved_finite finite)
  solved_is_least = rows_certify finite readable (solved_finite finite) solved_breaks_nothing
