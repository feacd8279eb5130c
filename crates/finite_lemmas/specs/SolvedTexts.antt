-- The solver's certificate of a finite horizon has a text, where its values are small.
use Rattle.std.proofs.Common.{◌≡◌, ℕ, zero, suc, ◌+◌, ◌-◌, ◌*◌, ◌^◌, ◌<◌, ◌≤◌, lit≤, true, ◌&&◌, [], ◌∷◌, ◌++◌, map, ℤ, pos, negsuc, ◌+ℤ◌, ◌-ℤ◌, ◌≤ℤ◌, refl, ◌∙◌, arith}
use Rattle.std.specs.Prelude.{int_le, unsigned_abs}
use Rattle.std.specs.Int.{int_min}
use Rattle.std.specs.List.{flat_map, list_all, range_with_len}
use Rattle.std.proofs.lemmas.Bool.{and_from, le-leb}
use Rattle.std.proofs.lemmas.Int.{ints, clamps}
use Rattle.std.proofs.lemmas.List.Folds.{list_all-append}
use Rattle.std.proofs.lemmas.List.FromFn.{length-map-range_with_len}
use Rattle.std.proofs.lemmas.Nat.{mul-le}
use Rattle.demand_law.specs.Integers as Z
use Rattle.demand_law.specs.Sequences.{greatest_in}
use Rattle.decision_model.specs.declared.finite.Finite.{Finite}
use Rattle.decision_model.specs.Finite.{IsReadableFinite, finite_low}
use Rattle.decision_model.specs.FiniteSound.{low_zero, up_to_cap}
use Rattle.decision_model.specs.LawFacts.{greatest_in_range}
use Rattle.decision_model.specs.Positions.{above_zero}
use Rattle.decision_model.specs.PositionTests.{le_test, above_zero_least}
use Rattle.value_cert.specs.Contents.{EachIs}
use Rattle.value_cert.specs.Finite.{value_line, row_lines, HasValues}
use Rattle.value_cert.specs.FiniteRules.{solved_cell, solved_row, solved_finite}
use Rattle.value_cert.specs.FiniteValues.{least_choice, least_values, row_width}
use Rattle.value_cert.specs.Grammar.{has_numbers}
use Rattle.value_cert.specs.Numbers.{is_natural, is_whole, is_discount}
use Rattle.value_cert.specs.Texts.{HasText}
use Rattle.value_cert.specs.declared.cert.Cert.TheVariants as cert
use Rattle.value_cert.specs.declared.line.CertLine.TheVariants.{End}
use Rattle.finite_lemmas.specs.LeastChoice.{least_choice_is}
use Rattle.finite_lemmas.specs.SolvedKept.{place_from_low}

-- a value that may stand in a certificate
pub record IsShortValue (value : ℤ) : Type 0 where
  pub least : pos 0 ≤ℤ value
  pub most : value ≤ℤ pos (2 ^ 120)

-- the least values of all positions may stand there
abbrev pub HasShortValues : Finite → Type 0
HasShortValues finite = (n t : ℕ) (x : ℤ) → 1 ≤ t → t + n ≡ finite.periods → finite_low finite t ≤ℤ x → x ≤ℤ finite.cap → IsShortValue (least_values finite (suc n) t x)

-- ---- numbers
-- a number of ℕ that is small may stand where a natural number may
natural : (n : ℕ) → n ≤ 4000000 → is_natural (pos n) ≡ true
natural n small =
    let range : 4000000 ≤ 2 ^ 120 = lit≤ tt in
    and_from (int_le (pos 0) (pos n)) (int_le (pos n) (pos (2 ^ 120))) (le_test (pos 0) (pos n) (omega (arith, ints))) (le_test (pos n) (pos (2 ^ 120)) (omega (arith, ints, small, range)))

-- a small position may stand where a whole number may
whole : (z : ℤ) → negsuc 3999999 ≤ℤ z → z ≤ℤ pos 4000000 → is_whole z ≡ true
whole z from to =
    let range : 4000000 ≤ 2 ^ 120 = lit≤ tt in
    le-leb (unsigned_abs z) (2 ^ 120) (omega (arith, ints, range, size z from to))
  where
    size : (z : ℤ) → negsuc 3999999 ≤ℤ z → z ≤ℤ pos 4000000 → unsigned_abs z ≤ 4000000
    size z from to = omega (arith, ints, from, to)

-- a short value may stand where a natural number may
short : (value : ℤ) → IsShortValue value → is_natural value ≡ true
short value is = and_from (int_le (pos 0) value) (int_le value (pos (2 ^ 120))) (le_test (pos 0) value is.least) (le_test value (pos (2 ^ 120)) is.most)

module _ (finite : Finite) (readable : IsReadableFinite finite) (values : HasShortValues finite) where
  -- no position of a grid is far below 0
  low_near : (t : ℕ) → t ≤ finite.periods → negsuc 3999999 ≤ℤ finite_low finite t
  low_near t le =
      let fall = mul-le (t - 1) (greatest_in finite.laws) 104 10000 (omega (arith, le, readable.periods.most)) (greatest_in_range finite.laws (finite.periods + finite.lead) readable.laws) in
      near finite.start ((t - 1) * greatest_in finite.laws) readable.start.least fall
    where
      near : (start : ℤ) (fall : ℕ) → negsuc 999999 ≤ℤ start → fall ≤ 104 * 10000 → negsuc 3999999 ≤ℤ (int_min start (pos 0) -ℤ pos fall)
      near start fall from small = omega (arith, ints, clamps, from, small)

  -- the numbers of a cell may stand there
  cell_numbers : (n t : ℕ) (x : ℤ) → 1 ≤ t → t + n ≡ finite.periods → finite_low finite t ≤ℤ x → x ≤ℤ finite.cap → has_numbers (value_line (solved_cell finite n t x)) ≡ true
  cell_numbers n t x pt e from to =
      let F = least_values finite n (suc t) in
      let is = least_choice_is finite F n t x to in
      let low = Z.le_trans (negsuc 3999999) (finite_low finite t) x (low_near t (omega (arith, e))) from in
      let top_cap = up_to_cap finite.most finite.cap x in
      let y = least_choice finite F n t x in
      let cap = readable.cap.most in
      and_from (is_whole x && is_whole y) (is_natural (least_values finite (suc n) t x))
      (and_from (is_whole x) (is_whole y) (whole x low (omega (arith, ints, to, cap))) (whole y (Z.le_trans (negsuc 3999999) x y low is.from_low) (omega (arith, ints, is.to_cap, top_cap, cap))))
      (short (least_values finite (suc n) t x) (values n t x pt e from to))

  -- so may those of the cells of a row from a place on
  cells_numbers : (n t : ℕ) → 1 ≤ t → t + n ≡ finite.periods → (place m : ℕ) → place + m ≤ row_width finite t
      → list_all has_numbers (map value_line (map (λ k. solved_cell finite n t (finite.cap -ℤ pos k)) (range_with_len place m))) ≡ true
  cells_numbers n t pt e place zero le = refl
  cells_numbers n t pt e place (suc m) le =
      let x = finite.cap -ℤ pos place in
      let rest = map value_line (map (λ k. solved_cell finite n t (finite.cap -ℤ pos k)) (range_with_len (place + 1) m)) in
      and_from (has_numbers (value_line (solved_cell finite n t x))) (list_all has_numbers rest)
      (cell_numbers n t x pt e (place_from_low (finite_low finite t) finite.cap place (omega (arith, le))) (omega (arith, ints)))
      (cells_numbers n t pt e (place + 1) m (omega (arith, le)))

  -- and those of a row
  row_numbers : (n t : ℕ) → 1 ≤ t → t + n ≡ finite.periods → list_all has_numbers (row_lines (solved_row finite n t)) ≡ true
  row_numbers n t pt e =
      and_from (is_natural (pos t)) (list_all has_numbers (map value_line (solved_row finite n t).cells)) (natural t (omega (arith, e, readable.periods.most)))
      (cells_numbers n t pt e 0 (row_width finite t) (omega arith))

  -- and those of some rows
  rows_numbers : (m j : ℕ) → j + m ≡ finite.periods → list_all has_numbers (flat_map row_lines (map (λ n. solved_row finite n (finite.periods - n)) (range_with_len j m))) ≡ true
  rows_numbers zero j e = refl
  rows_numbers (suc m) j e =
      let first = row_lines (solved_row finite j (finite.periods - j)) in
      let rest = flat_map row_lines (map (λ n. solved_row finite n (finite.periods - n)) (range_with_len (j + 1) m)) in
      list_all-append has_numbers first rest
      ∙ and_from (list_all has_numbers first) (list_all has_numbers rest) (row_numbers j (finite.periods - j) (omega (arith, e)) (omega (arith, e))) (rows_numbers m (j + 1) (omega (arith, e)))

  -- each period has a position
  row_some : (n t : ℕ) → HasValues (solved_row finite n t)
  row_some n t =
      let count = length-map-range_with_len (λ k. solved_cell finite n t (finite.cap -ℤ pos k)) 0 (row_width finite t) in
      omega (arith, count, some (finite_low finite t) (low_zero finite t))
    where
      some : (low : ℤ) → low ≤ℤ pos 0 → 0 < above_zero (finite.cap -ℤ low +ℤ pos 1)
      some low below = omega (arith, ints, below, readable.cap.least, above_zero_least (finite.cap -ℤ low +ℤ pos 1))

  -- so has each of some rows
  rows_some : (m j : ℕ) → EachIs HasValues (map (λ n. solved_row finite n (finite.periods - n)) (range_with_len j m))
  rows_some zero j = tt
  rows_some (suc m) j = (row_some j (finite.periods - j), rows_some m (j + 1))

  -- the discount may stand in the head
  head_numbers : is_discount (pos finite.discount_num) (pos finite.discount_den) ≡ true
  head_numbers =
      let num = pos finite.discount_num in
      let den = pos finite.discount_den in
      and_from (int_le (pos 1) num && int_le num den) (int_le den (pos 1000))
      (and_from (int_le (pos 1) num) (int_le num den) (le_test (pos 1) num (omega (arith, ints, readable.discount.least))) (le_test num den (omega (arith, ints, readable.discount.proper))))
      (le_test den (pos 1000) (omega (arith, ints, readable.discount.most)))

  -- the solver's certificate has a text
  pub solved_finite_text : HasText (cert.Finite (solved_finite finite))
  solved_finite_text =
      let rows = (solved_finite finite).rows in
      let lines = flat_map row_lines rows in
      let last = End ∷ [] in
      let count = length-map-range_with_len (λ n. solved_row finite n (finite.periods - n)) 0 finite.periods in
      let body = list_all-append has_numbers lines last ∙ and_from (list_all has_numbers lines) true (rows_numbers finite.periods 0 (omega arith)) refl in
      record {
        numbers = and_from (is_discount (pos finite.discount_num) (pos finite.discount_den)) (list_all has_numbers (lines ++ last)) head_numbers body;
        complete = record { some = omega (arith, count, readable.periods.least); each = rows_some finite.periods 0 };
      }
