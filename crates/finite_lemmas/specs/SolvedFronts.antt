-- The solver's row of a period, place by place: with values of the next period that are the solver's on its grid, what is least at each place is the solver's cell.
use Rattle.std.proofs.Common.{◌≡◌, ℕ, suc, ◌+◌, ◌-◌, ◌<◌, List, [], ◌∷◌, ◌++◌, map, cond, ℤ, pos, ◌+ℤ◌, ◌-ℤ◌, ◌≤ℤ◌, ◌<ℤ◌, refl, sym, ap, ◌∙◌, subst, arith}
use Rattle.std.specs.List.{range_with_len}
use Rattle.std.proofs.Math.Dec.{eqb-suc-zero}
use Rattle.std.proofs.lemmas.Int.{ints}
use Rattle.std.proofs.lemmas.List.FromFn.{get_or-map-range_with_len, map-range_with_len_more}
use Rattle.decision_model.specs.declared.finite.Finite.{Finite}
use Rattle.decision_model.specs.Finite.{IsReadableFinite, finite_low}
use Rattle.decision_model.specs.FiniteProblem.{top}
use Rattle.decision_model.specs.Positions.{above_zero}
use Rattle.decision_model.specs.PositionTests.{above_zero_is, above_zero_least}
use Rattle.value_cert.specs.FiniteRules.{FirstRows, no_rows, listed_value, last_values, solved_cell}
use Rattle.value_cert.specs.FiniteValues.{value_of, end_value, least_choice, least_values, row_width}
use Rattle.value_cert.specs.declared.finite.FiniteCell.{FiniteCell}
use Rattle.finite_lemmas.specs.LeastChoice.{least_choice_is}
use Rattle.finite_lemmas.specs.Orders.{first_unique}
use Rattle.finite_lemmas.specs.SolvedKept.{same_choice}

-- the period that n periods follow
abbrev pub period_before : Finite → ℕ → ℕ
period_before finite n = finite.periods - n

-- the position of a place
abbrev pub position_at : Finite → ℕ → ℤ
position_at finite place = finite.cap -ℤ pos place

-- the solver's value at a place of the row that n periods follow
abbrev pub value_at_place : Finite → ℕ → ℕ → ℤ
value_at_place finite n place = least_values finite (suc n) (period_before finite n) (position_at finite place)

-- its first values
abbrev pub front_values : Finite → ℕ → ℕ → List ℤ
front_values finite n count = map (value_at_place finite n) (range_with_len 0 count)

-- the cell at a place
abbrev pub cell_at_place : Finite → ℕ → ℕ → FiniteCell
cell_at_place finite n place = solved_cell finite n (period_before finite n) (position_at finite place)

-- its first cells
abbrev pub front_cells : Finite → ℕ → ℕ → List FiniteCell
front_cells finite n count = map (cell_at_place finite n) (range_with_len 0 count)

-- what is known behind the first places of the row that n periods follow
abbrev pub row_front : Finite → (ℤ → ℤ) → ℕ → ℕ → FirstRows
row_front finite later n count = record { rows = suc n; later = later; values = front_values finite n count }

-- the values are the solver's on the grid of the period after the one that n periods follow
abbrev pub AreLater : Finite → (ℤ → ℤ) → ℕ → Type 0
AreLater finite later n =
    (x : ℤ) → finite_low finite (suc (period_before finite n)) ≤ℤ x → x ≤ℤ finite.cap → later x ≡ least_values finite n (suc (period_before finite n)) x

-- ---- one place
module _ (finite : Finite) (readable : IsReadableFinite finite) (later : ℤ → ℤ) (n : ℕ) (within : n < finite.periods) (same : AreLater finite later n) where
  t : ℕ
  t = period_before finite n

  -- the same choice
  pub choice_same : (x : ℤ) → finite_low finite (period_before finite n) ≤ℤ x → x ≤ℤ finite.cap → least_choice finite later n (period_before finite n) x ≡ least_choice finite (least_values finite n (suc (period_before finite n))) n (period_before finite n) x
  unfolding t
  choice_same x from to =
      let G = least_values finite n (suc t) in
      let equal : (y : ℤ) → x ≤ℤ y → y ≤ℤ top finite x → value_of finite later n t x y ≡ value_of finite G n t x y = λ y above below. same_choice finite readable later G n t (omega (arith, within)) same x y from above below in
      let is = least_choice_is finite G n t x to in
      first_unique (value_of finite later n t x) x (top finite x) (least_choice finite later n t x) (least_choice finite G n t x) (least_choice_is finite later n t x to) record {
        from_low = is.from_low;
        to_cap = is.to_cap;
        least = λ y above below. carried (sym (equal (least_choice finite G n t x) is.from_low is.to_cap)) (sym (equal y above below)) (is.least y above below);
        first = λ y above lt. strictly (sym (equal (least_choice finite G n t x) is.from_low is.to_cap)) (sym (equal y above (omega (arith, ints, lt, is.to_cap)))) (is.first y above lt);
      }
    where
      carried : {a b c d : ℤ} → a ≡ c → b ≡ d → a ≤ℤ b → c ≤ℤ d
      carried e f le = omega (arith, ints, e, f, le)

      strictly : {a b c d : ℤ} → a ≡ c → b ≡ d → a <ℤ b → c <ℤ d
      strictly e f lt = omega (arith, ints, e, f, lt)

  -- and its value
  pub value_same : (x : ℤ) → finite_low finite (period_before finite n) ≤ℤ x → x ≤ℤ finite.cap → value_of finite later n (period_before finite n) x (least_choice finite later n (period_before finite n) x) ≡ least_values finite (suc n) (period_before finite n) x
  unfolding t least_values
  value_same x from to =
      let G = least_values finite n (suc t) in
      let is = least_choice_is finite G n t x to in
      ap (λ y. value_of finite later n t x y) (choice_same x from to)
      ∙ same_choice finite readable later G n t (omega (arith, within)) same x (least_choice finite G n t x) from is.from_low is.to_cap

-- one place more
pub front_more : (finite : Finite) (n count : ℕ) (value : ℤ) → value ≡ value_at_place finite n count → front_values finite n count ++ value ∷ [] ≡ front_values finite n (count + 1)
front_more finite n count value e =
    ap (λ v. front_values finite n count ++ v ∷ []) e ∙ sym (map-range_with_len_more (value_at_place finite n) 0 count count (omega arith))

pub cells_more : (finite : Finite) (n count : ℕ) (cell : FiniteCell) → cell ≡ cell_at_place finite n count → front_cells finite n count ++ cell ∷ [] ≡ front_cells finite n (count + 1)
cells_more finite n count cell e =
    ap (λ c. front_cells finite n count ++ c ∷ []) e ∙ sym (map-range_with_len_more (cell_at_place finite n) 0 count count (omega arith))

-- ---- the next row
-- behind no row the last values are those of the end
pub first_later : (finite : Finite) → AreLater finite (last_values finite (no_rows finite)) 0
unfolding least_values
first_later finite x from to = refl

-- behind a whole row they are those of the row
pub next_later : (finite : Finite) (later : ℤ → ℤ) (n : ℕ) → n < finite.periods → AreLater finite (last_values finite (row_front finite later n (row_width finite (period_before finite n)))) (suc n)
next_later finite later n lt x from to =
    let t = period_before finite n in
    let width = row_width finite t in
    let next : suc (period_before finite (suc n)) ≡ t = omega (arith, lt) in
    let place = above_zero (finite.cap -ℤ x) in
    let is = above_zero_is (finite.cap -ℤ x) (omega (arith, ints, to)) in
    let low : finite_low finite t ≤ℤ x = subst (λ (s : ℕ). finite_low finite s ≤ℤ x) next from in
    let here : position_at finite place ≡ x = omega (arith, ints, is) in
    ap (λ b. cond b (end_value finite x) (listed_value finite.cap (front_values finite n width) x)) (eqb-suc-zero n)
    ∙ get_or-map-range_with_len (value_at_place finite n) 0 width place place (pos 0) (inside (finite_low finite t) is low) (omega arith)
    ∙ ap (least_values finite (suc n) t) here
    ∙ ap (λ s. least_values finite (suc n) s x) (sym next)
  where
    inside : (low : ℤ) → pos (above_zero (finite.cap -ℤ x)) ≡ finite.cap -ℤ x → low ≤ℤ x → above_zero (finite.cap -ℤ x) < above_zero (finite.cap -ℤ low +ℤ pos 1)
    inside low place from = omega (arith, ints, place, from, above_zero_least (finite.cap -ℤ low +ℤ pos 1))
