-- The solver's certificate of a serial system breaks no rule: its costs of orders are convex, and so turn at its levels.
use Rattle.std.proofs.Common.{◌≡◌, ◌⊎◌, inl, inr, ℕ, zero, suc, ◌+◌, ◌-◌, ◌<◌, ◌≤◌, Bool, true, false, cond, List, length, map, ℤ, pos, ◌+ℤ◌, ◌-ℤ◌, ◌≤ℤ◌, ◌<ℤ◌, refl, sym, ap, ◌∙◌, subst, arith}
use Rattle.std.specs.Prelude.{None, Some, int_le, int_lt}
use Rattle.std.specs.List.{list_all, range_with_len}
use Rattle.std.proofs.lemmas.Bool.{and_from, eq-eqb, ne_eqb, cases_lt}
use Rattle.std.proofs.lemmas.Int.{ints}
use Rattle.std.proofs.lemmas.List.FromFn.{length-map-range_with_len}
use Rattle.newsvendor.specs.FirstLeast.{IsFirstUpto, search_is_first}
use Rattle.newsvendor.specs.Least.{first_least_upto}
use Rattle.decision_model.specs.declared.instance.Instance.TheVariants as instance
use Rattle.decision_model.specs.declared.serial.Serial.{Serial}
use Rattle.decision_model.specs.Positions.{above_zero}
use Rattle.decision_model.specs.PositionTests.{le_test, above_zero_is}
use Rattle.decision_model.specs.Serial.{IsReadableSerial, serial_low}
use Rattle.decision_model.specs.SerialSound.{IsSoundSerial, sound_readable, low_zero}
use Rattle.value_cert.specs.Headings.{heading_of}
use Rattle.value_cert.specs.Kept.{BreaksNoRule, own_head}
use Rattle.value_cert.specs.RuleTests.{passing_rule}
use Rattle.value_cert.specs.SerialRules.{no_rows, put_level, is_on_grid, turns_at, turns_at_level, level_rule, row_cells, solved_cell, solved_row, solved_period, solved_serial}
use Rattle.value_cert.specs.SerialValues.{order_cost, echelon_value, no_values, least_position, solved_values, solved_costs, solved_level, row_width}
use Rattle.value_cert.specs.declared.cert.Cert.TheVariants as cert
use Rattle.value_cert.specs.declared.serial.SerialCell.{SerialCell}
use Rattle.serial_lemmas.specs.GridValues.{turns_same, costs_same, values_step}
use Rattle.serial_lemmas.specs.Convex.{convex-constant}
use Rattle.serial_lemmas.specs.Levels.{IsTurn, IsConvexOn, IsLeastPosition}
use Rattle.serial_lemmas.specs.RowCells.{CellPasses, CellsPass}
use Rattle.serial_lemmas.specs.RowsKept.{RowPasses, RowsPass, PeriodsPass, put_rows, put_levels, passing_periods}
use Rattle.serial_lemmas.specs.RowsLeast.{place_is, rows_put, value_same}
use Rattle.serial_lemmas.specs.SerialConvex.{order_convex, value_convex, passes}

-- ---- least positions
-- the search over places finds the least position of least cost
pub least_is : (low cap : ℤ) (f : ℤ → ℤ) → low ≤ℤ cap → IsLeastPosition f (least_position low cap f) low cap
unfolding least_position
least_is low cap f some = by (first_least_upto (λ k. f (low +ℤ pos k)) (above_zero (cap -ℤ low))) (search_is_first (λ k. f (low +ℤ pos k)) (above_zero (cap -ℤ low)))
  where
    last : pos (above_zero (cap -ℤ low)) ≡ cap -ℤ low
    last = above_zero_is (cap -ℤ low) (omega (arith, ints, some))

    by : (q : ℕ) → IsFirstUpto (λ k. f (low +ℤ pos k)) (above_zero (cap -ℤ low)) q → IsLeastPosition f (low +ℤ pos q) low cap
    by q is = record {
      from_low = omega (arith, ints);
      to_cap = omega (arith, ints, is.within, last);
      least = λ y from to.
          let place = place_is low cap y from to in
          subst (λ (z : ℤ). f (low +ℤ pos q) ≤ℤ f z) (sym place.0) (is.least (above_zero (y -ℤ low)) (omega (arith, ints, place.0, to, last)));
      first = λ y from lt.
          let place = place_is low cap y from (omega (arith, ints, is.within, last, lt)) in
          subst (λ (z : ℤ). f (low +ℤ pos q) <ℤ f z) (sym place.0) (is.first (above_zero (y -ℤ low)) (omega (arith, ints, place.0, lt)));
    }

-- ---- the rule on a level
-- a test that holds of each number of a range
each_range : (test : ℕ → Bool) (a m : ℕ) → ((k : ℕ) → a ≤ k → k < a + m → test k ≡ true) → list_all test (range_with_len a m) ≡ true
each_range test a zero h = refl
each_range test a (suc m) h =
    and_from (test a) (list_all test (range_with_len (a + 1) m)) (h a (omega arith) (omega arith)) (each_range test (a + 1) m (λ k le lt. h k (omega (arith, le)) (omega (arith, lt))))

-- the steps of a cost that turns at a level
turn_at : (C : ℤ → ℤ) (level y low cap : ℤ) → IsTurn C level low cap → low ≤ℤ y → y <ℤ cap → turns_at C level y ≡ true
turn_at C level y low cap rule from to = by (int_lt y level) (λ e. grind (arith, ints)) (λ e. grind (arith, ints))
  where
    by : (b : Bool) → (b ≡ true → y <ℤ level) → (b ≡ false → level ≤ℤ y) → cond b (int_le (C (y +ℤ pos 1)) (C y)) (int_le (C y) (C (y +ℤ pos 1))) ≡ true
    by true less more = le_test (C (y +ℤ pos 1)) (C y) (rule.falls y from (less refl))
    by false less more = le_test (C y) (C (y +ℤ pos 1)) (rule.rises y (more refl) to)

-- a level at which the cost of orders turns breaks no rule
pub turn_rule : (serial : Serial) (F : ℕ → ℤ → ℤ) (n t i : ℕ) (level : ℤ) → IsTurn (order_cost serial F n t i) level (serial_low serial t) serial.cap → level_rule serial F n t i level ≡ None
turn_rule serial F n t i level rule =
    let C = order_cost serial F n t i in
    let low = serial_low serial t in
    let on = and_from (int_le low level) (int_le level serial.cap) (le_test low level rule.from_low) (le_test level serial.cap rule.to_cap) in
    passing_rule (is_on_grid serial t level) (cond (turns_at_level serial t C level) None (Some 4)) 3 on
    (passing_rule (turns_at_level serial t C level) None 4 (by low rule) refl)
  where
    by : (low : ℤ) → IsTurn (order_cost serial F n t i) level low serial.cap → list_all (λ place. turns_at (order_cost serial F n t i) level (low +ℤ pos place)) (range_with_len 0 (above_zero (serial.cap -ℤ low +ℤ pos 1) - 1)) ≡ true
    by low rule =
        each_range (λ place. turns_at (order_cost serial F n t i) level (low +ℤ pos place)) 0 (above_zero (serial.cap -ℤ low +ℤ pos 1) - 1)
        (λ k le lt. turn_at (order_cost serial F n t i) level (low +ℤ pos k) low serial.cap rule (omega (arith, ints)) (inside low k lt (omega (arith, ints, rule.from_low, rule.to_cap))))
      where
        inside : (low : ℤ) (k : ℕ) → k < 0 + (above_zero (serial.cap -ℤ low +ℤ pos 1) - 1) → low ≤ℤ serial.cap → (low +ℤ pos k) <ℤ serial.cap
        inside low k lt le = omega (arith, ints, lt, above_zero_is (serial.cap -ℤ low +ℤ pos 1) (omega (arith, ints, le)))

module _ (serial : Serial) (readable : IsReadableSerial serial) where
  -- the instance is sound
  sound : IsSoundSerial serial
  sound = sound_readable serial readable

  -- each grid has a position
  pub grid_some : (t : ℕ) → serial_low serial t ≤ℤ serial.cap
  grid_some t = below (serial_low serial t) (low_zero serial t)
    where
      below : (low : ℤ) → low ≤ℤ pos 0 → low ≤ℤ serial.cap
      below low h = omega (arith, ints, h, sound.cap)

  -- the solver's levels are the least positions of least cost
  pub level_is : (n t i : ℕ) → IsLeastPosition (solved_costs serial n t i) (solved_level serial n t i) (serial_low serial t) serial.cap
  level_is n t i = least_is (serial_low serial t) serial.cap (solved_costs serial n t i) (grid_some t)

  -- ---- convexity
  -- the least values and the costs of orders before them are convex
  pub solved_convex : (n t i : ℕ) → 1 ≤ t → IsConvexOn (serial_low serial t) serial.cap (solved_values serial n t i)
  solved_convex zero t i pt = convex-constant (serial_low serial t) serial.cap (pos 0)
  solved_convex (suc n) t i pt =
      let low = serial_low serial t in
      let costs : (j : ℕ) → j ≤ i → IsConvexOn low serial.cap (solved_costs serial n t j) = λ j le. order_convex serial sound (solved_values serial n (suc t)) n t j pt (solved_convex n (suc t) j (omega arith)) in
      value_convex serial sound (solved_costs serial n t) (solved_level serial n t) low serial.cap n t i costs
      (λ j le. passes serial sound (solved_costs serial n t j) (solved_level serial n t j) low serial.cap (costs j le) (level_is n t j))

  -- the costs of orders turn at the solver's levels
  pub solved_turns : (n t i : ℕ) → 1 ≤ t → IsTurn (solved_costs serial n t i) (solved_level serial n t i) (serial_low serial t) serial.cap
  solved_turns n t i pt =
      passes serial sound (solved_costs serial n t i) (solved_level serial n t i) (serial_low serial t) serial.cap (order_convex serial sound (solved_values serial n (suc t)) n t i pt (solved_convex n (suc t) i (omega arith))) (level_is n t i)

  -- ---- one period
  -- values that are the least ones on the grid of period t, where n periods are left
  abbrev pub AreLeast : ℕ → ℕ → (ℕ → ℤ → ℤ) → Type 0
  AreLeast n t F = (i : ℕ) (x : ℤ) → i < length serial.holding → serial_low serial t ≤ℤ x → x ≤ℤ serial.cap → F i x ≡ solved_values serial n t i x

  module _ (F : ℕ → ℤ → ℤ) (n t : ℕ) (pt : 1 ≤ t) (are : AreLeast n (suc t) F) where
    -- their costs of orders are those of the least values
    pub costs_are : (i : ℕ) → i < length serial.holding → (y : ℤ) → serial_low serial t ≤ℤ y → y ≤ℤ serial.cap → order_cost serial F n t i y ≡ solved_costs serial n t i y
    costs_are i lt y from to = costs_same serial sound F (solved_values serial n (suc t)) n t i pt (λ x low high. are i x lt low high) y from to

    -- a level of the solver breaks no rule
    level_kept : (i : ℕ) → i < length serial.holding → level_rule serial F n t i (solved_level serial n t i) ≡ None
    level_kept i lt =
        turn_rule serial F n t i (solved_level serial n t i)
        (turns_same (solved_costs serial n t i) (order_cost serial F n t i) (solved_level serial n t i) (serial_low serial t) serial.cap (λ y from to. sym (costs_are i lt y from to)) (solved_turns n t i pt))

    -- the least values are those of the levels
    pub value_is : (i : ℕ) (L : ℕ → ℤ) (x : ℤ) → i < length serial.holding → ((j : ℕ) → j ≤ i → L j ≡ solved_level serial n t j) → serial_low serial t ≤ℤ x → x ≤ℤ serial.cap → solved_values serial (suc n) t i x ≡ echelon_value serial (order_cost serial F n t) L n t i x
    value_is i L x lt same from to =
        sym (
        value_same serial (order_cost serial F n t) L (solved_level serial n t) n t i x same
        ∙ values_step serial sound (solved_level serial n t) (order_cost serial F n t) (solved_costs serial n t) n t i x
        (λ j le. costs_are j (omega (arith, le, lt)))
        (λ j le. let is = level_is n t j in (is.from_low, is.to_cap))
        from to
        )

    -- the cells of a row from a place on have the values of a function
    cells_pass : (i : ℕ) (E : ℤ → ℤ) → ((x : ℤ) → serial_low serial t ≤ℤ x → x ≤ℤ serial.cap → solved_values serial (suc n) t i x ≡ E x) → (place m : ℕ) → place + m ≡ row_width serial t → CellsPass E (serial_low serial t) (row_width serial t) place (map (λ k. solved_cell serial n t i (serial_low serial t +ℤ pos k)) (range_with_len place m))
    cells_pass i E is place zero e = tt
    cells_pass i E is place (suc m) e =
        let x = serial_low serial t +ℤ pos place in
        let inside : place < row_width serial t = omega (arith, e) in
        let next : place + 1 ≡ suc place = omega arith in
        let here : CellPasses E (serial_low serial t) (row_width serial t) place (solved_cell serial n t i x) = record { inside = inside; at = refl; value = is x (from (serial_low serial t)) (below (serial_low serial t) (grid_some t) inside) } in
        (here, subst (λ (k : ℕ). CellsPass E (serial_low serial t) (row_width serial t) k (map (λ k. solved_cell serial n t i (serial_low serial t +ℤ pos k)) (range_with_len (place + 1) m))) next (cells_pass i E is (place + 1) m (omega (arith, e))))
      where
        from : (low : ℤ) → low ≤ℤ (low +ℤ pos place)
        from low = omega (arith, ints)

        below : (low : ℤ) → low ≤ℤ serial.cap → place < above_zero (serial.cap -ℤ low +ℤ pos 1) → (low +ℤ pos place) ≤ℤ serial.cap
        below low le inside = omega (arith, ints, inside, above_zero_is (serial.cap -ℤ low +ℤ pos 1) (omega (arith, ints, le)))

    -- the rows from an echelon on break no rule
    rows_pass : (m i : ℕ) (levels : ℕ → ℤ) → i + m ≡ length serial.holding → ((j : ℕ) → j < i → levels j ≡ solved_level serial n t j) → RowsPass serial F n t i levels (map (solved_row serial n t) (range_with_len i m))
    rows_pass zero i levels e before = tt
    rows_pass (suc m) i levels e before =
        let put = put_level levels i (solved_level serial n t i) in
        let lt : i < length serial.holding = omega (arith, e) in
        let next : i + 1 ≡ suc i = omega arith in
        let E = echelon_value serial (order_cost serial F n t) put n t i in
        let here : RowPasses serial F n t i levels (solved_row serial n t i) = record {
          echelon = refl;
          rule = level_kept i lt;
          cells = cells_pass i E (λ x from to. value_is i put x lt (λ j le. upto j (omega (arith, le))) from to) 0 (row_width serial t) (omega arith);
          whole = length-map-range_with_len (λ k. solved_cell serial n t i (serial_low serial t +ℤ pos k)) 0 (row_width serial t);
        } in
        (here, subst (λ (k : ℕ). RowsPass serial F n t (suc i) put (map (solved_row serial n t) (range_with_len k m))) (sym next) (rows_pass m (suc i) put (omega (arith, e)) upto))
      where
        upto : (j : ℕ) → j < suc i → put_level levels i (solved_level serial n t i) j ≡ solved_level serial n t j
        upto j less = split (cases_lt j i)
          where
            split : (j < i) ⊎ (i ≤ j) → put_level levels i (solved_level serial n t i) j ≡ solved_level serial n t j
            split (inl lower) = ap (λ b. cond b (solved_level serial n t i) (levels j)) (ne_eqb j i (λ same. absurd (omega (arith, lower, same)))) ∙ before j lower
            split (inr upper) =
                let same : j ≡ i = omega (arith, less, upper) in
                ap (λ b. cond b (solved_level serial n t i) (levels j)) (eq-eqb j i same) ∙ ap (solved_level serial n t) (sym same)

    -- the row of an echelon among them
    solved_cells : (k m i : ℕ) → i ≤ k → k < i + m → row_cells (map (solved_row serial n t) (range_with_len i m)) k ≡ (solved_row serial n t k).cells
    solved_cells k zero i le lt = absurd (omega (arith, le, lt))
    solved_cells k (suc m) i le lt = by (cases_lt i k) (λ above. solved_cells k m (i + 1) (omega (arith, above)) (omega (arith, lt)))
      where
        by : (i < k) ⊎ (k ≤ i) → (i < k → row_cells (map (solved_row serial n t) (range_with_len (i + 1) m)) k ≡ (solved_row serial n t k).cells) → row_cells (map (solved_row serial n t) (range_with_len i (suc m))) k ≡ (solved_row serial n t k).cells
        by (inl above) rest =
            ap (λ b. cond b (solved_row serial n t i).cells (row_cells (map (solved_row serial n t) (range_with_len (i + 1) m)) k)) (ne_eqb (suc i) (suc k) (λ same. absurd (omega (arith, same, above)))) ∙ rest above
        by (inr below) rest =
            let same : i ≡ k = omega (arith, le, below) in
            ap (λ b. cond b (solved_row serial n t i).cells (row_cells (map (solved_row serial n t) (range_with_len (i + 1) m)) k)) (eq-eqb (suc i) (suc k) (ap suc same)) ∙ ap (λ (j : ℕ). (solved_row serial n t j).cells) same

    -- they put down the least values
    put_are : (levels : ℕ → ℤ) → AreLeast (suc n) t (put_rows F 0 (solved_period serial n t).rows)
    put_are levels i x lt from to =
        let N = length serial.holding in
        let rows = (solved_period serial n t).rows in
        let low = serial_low serial t in
        let E = solved_values serial (suc n) t i in
        let place = place_is low serial.cap x from to in
        let k = above_zero (x -ℤ low) in
        let none : k ≡ 0 + k = omega arith in
        let cells = sym (solved_cells i N 0 (omega arith) (omega (arith, lt))) in
        let count = length-map-range_with_len (λ k. solved_cell serial n t i (low +ℤ pos k)) 0 (row_width serial t) in
        let pass = cells_pass i E (λ x from to. refl) 0 (row_width serial t) (omega arith) in
        let inside : k < length (solved_row serial n t i).cells = omega (arith, count, place.1) in
        let many = length-map-range_with_len (solved_row serial n t) 0 N in
        rows_put serial F n t F 0 levels rows (rows_pass N 0 levels (omega arith) (λ j less. absurd (omega (arith, less)))) i k x E (omega arith) (omega (arith, lt, many))
        (subst (λ (all : List SerialCell). CellsPass E low (row_width serial t) 0 all) cells pass)
        (subst (λ (all : List SerialCell). k < length all) cells inside)
        (place.0 ∙ ap (λ (j : ℕ). low +ℤ pos j) none)

  -- ---- all periods
  periods_pass : (m p : ℕ) (F : ℕ → ℤ → ℤ) (levels : ℕ → ℤ) → p + m ≡ serial.periods → AreLeast p (suc (serial.periods - p)) F → PeriodsPass serial F levels p (map (λ n. solved_period serial n (serial.periods - n)) (range_with_len p m))
  periods_pass zero p F levels e are = omega (arith, e)
  periods_pass (suc m) p F levels e are =
      let t = serial.periods - p in
      let pt : 1 ≤ t = omega (arith, e) in
      let rows = (solved_period serial p t).rows in
      let next : p + 1 ≡ suc p = omega arith in
      let after : t ≡ suc (serial.periods - suc p) = omega (arith, e) in
      let many = length-map-range_with_len (solved_row serial p t) 0 (length serial.holding) in (
        record { more = omega (arith, e); number = refl; count = many; rows = rows_pass F p t pt are (length serial.holding) 0 levels (omega arith) (λ j less. absurd (omega (arith, less))) },
        subst (λ (k : ℕ). PeriodsPass serial (put_rows F 0 rows) (put_levels levels 0 rows) (suc p) (map (λ n. solved_period serial n (serial.periods - n)) (range_with_len k m))) (sym next)
            (periods_pass m (suc p) (put_rows F 0 rows) (put_levels levels 0 rows) (omega (arith, e)) (subst (λ (s : ℕ). AreLeast (suc p) s (put_rows F 0 rows)) after (put_are F p t pt are levels))),
      )

  -- each line of the solver's certificate breaks no rule behind those before it
  pub solved_breaks_nothing : BreaksNoRule (instance.Serial serial) (cert.Serial (solved_serial serial))
  solved_breaks_nothing =
      let periods = (solved_serial serial).periods in (
        own_head (heading_of (instance.Serial serial)),
        passing_periods serial sound.some_echelon no_rows periods refl (periods_pass serial.periods 0 no_values (λ i. pos 0) (omega arith) (λ i x lt from to. refl)),
      )
