-- Without a greatest order the solver's rows are pairs or never order, and that tells their choices.
use Rattle.std.proofs.Common.{◌≡◌, ℕ, zero, suc, ◌+◌, ◌-◌, ◌<◌, ◌≤◌, ℤ, pos, ◌+ℤ◌, ◌-ℤ◌, ◌≤ℤ◌, int_le, Bool, true, false, if◌then◌else◌, List, length, refl, sym, ◌∙◌, ap, arith, subst}
use Rattle.std.specs.Prelude.{None}
use Rattle.std.proofs.lemmas.Int.{ints}
use Rattle.decision_model.specs.declared.finite.Finite.{Finite}
use Rattle.decision_model.specs.Finite.{IsReadableFinite, finite_low}
use Rattle.value_cert.specs.FiniteRules.{solved_row, solved_finite, cells_of, finite_choices, HasEachRow}
use Rattle.value_cert.specs.FiniteValues.{least_choice, least_values}
use Rattle.value_cert.specs.declared.finite.FiniteCell.{FiniteCell}
use Rattle.value_cert.specs.declared.finite.FiniteCert.{FiniteCert}
use Rattle.finite_lemmas.specs.OrderForms.{IsOrderForm}
use Rattle.finite_lemmas.specs.Forms.{choices_form}
use Rattle.finite_lemmas.specs.SolvedRows.{AreCellsOf, solved_cells, solved_are, solved_chooses}
use Rattle.finite_ss.specs.declared.shapes.Shape.{Shape}
use Rattle.finite_ss.specs.declared.shapes.Shape.TheVariants.{Pair, Never}
use Rattle.finite_ss.specs.Shapes.{shape_of, HasOneRowOf, IsPairOrNever, shape_choice}
use Rattle.finite_ss.specs.ShapeFacts.{pair_told, never_told}

-- ---- a row in the order form
-- its shape
abbrev pub shape_at : ℤ → ℤ → ℕ → Shape
shape_at low high zero = Never
shape_at low high (suc m) = Pair (low +ℤ pos m) high

-- the cells of choices in the order form have that shape
pub form_told : (to : ℤ → ℤ) (low cap high : ℤ) (m : ℕ) (cells : List FiniteCell) → IsOrderForm to low cap high m → AreCellsOf to low cap cells → shape_of cells ≡ shape_at low high m
form_told to low cap high zero cells form row = never_told cells
    (λ k d lt.
    let at = row.at k d lt in
    let goes = row.to_is k d lt in
    let stay = form.stays (cap -ℤ pos k) (omega (arith, ints, row.width, lt)) (omega (arith, ints)) in
    omega (arith, ints, at, goes, stay))
form_told to low cap high (suc m) cells form row = pair_told cells (low +ℤ pos m) high (record {
  place = length cells - suc m;
  listed = omega (arith, ints, short);
  lowest = λ d. let at = row.at (length cells - suc m) d (omega (arith, ints, short)) in omega (arith, ints, at, row.width, short);
  stays = λ k d lt.
      let within : k < length cells = omega (arith, lt) in
      let at = row.at k d within in
      let goes = row.to_is k d within in
      let stay = form.stays (cap -ℤ pos k) (omega (arith, ints, row.width, lt, short)) (omega (arith, ints)) in
      omega (arith, ints, at, goes, stay);
  orders = λ k d le within.
      let at = row.at k d within in
      let goes = row.to_is k d within in
      let order = form.moves (cap -ℤ pos k) (omega (arith, ints, row.width, within)) (omega (arith, ints, row.width, le, short)) in
      (omega (arith, ints, at, row.width, le, short, form.below), goes ∙ order);
})
  where
    short : suc m < length cells
    short = omega (arith, ints, row.width, form.below, form.to_cap)

-- such a shape is a pair or never orders
form_shape : (low high : ℤ) (m : ℕ) → (low +ℤ pos m) ≤ℤ high → IsPairOrNever (shape_at low high m)
form_shape low high zero below = tt
form_shape low high (suc m) below = omega (arith, ints, below)

-- and tells the choices
form_chooses : (to : ℤ → ℤ) (low cap high : ℤ) (m : ℕ) → IsOrderForm to low cap high m → (x : ℤ) → low ≤ℤ x → x ≤ℤ cap → shape_choice (shape_at low high m) x ≡ to x
form_chooses to low cap high zero form x from below = sym (form.stays x (omega (arith, ints, from)) below)
form_chooses to low cap high (suc m) form x from below = by (int_le x (low +ℤ pos m)) refl
  where
    by : (b : Bool) → int_le x (low +ℤ pos m) ≡ b → (if b then high else x) ≡ to x
    by true e = sym (form.moves x from (omega (arith, ints, e)))
    by false e = sym (form.stays x (omega (arith, ints, e)) below)

-- ---- rows by their periods
-- a certificate that has each row has just one of each period
pub one_row : (finite : Finite) (c : FiniteCert) (t : ℕ) → HasEachRow finite c → 1 ≤ t → t ≤ finite.periods → HasOneRowOf t c.rows
one_row finite c t has some le = record {
  place = finite.periods - t;
  listed = omega (arith, has.count, some, le);
  is = λ d. has.periods (finite.periods - t) d (omega (arith, some, le)) ∙ omega (arith, le);
  only = λ k d lt e. omega (arith, has.periods k d (omega (arith, lt, has.count)), e, lt, has.count, le);
}

-- ---- the solver's rows
module _ (finite : Finite) (readable : IsReadableFinite finite) (none : finite.most ≡ None) where
  -- the shape of period t, which n periods follow
  solved_told : (n t : ℕ) (some : 1 ≤ t) → t + n ≡ finite.periods
      → shape_of (cells_of (solved_finite finite).rows t) ≡ shape_at (finite_low finite t) (choices_form finite readable none n t some).high (choices_form finite readable none n t some).orders
  solved_told n t some e =
      let has = choices_form finite readable none n t some in
      ap shape_of (solved_cells finite n t some e)
      ∙ form_told (least_choice finite (least_values finite n (suc t)) n t) (finite_low finite t) finite.cap has.high has.orders (solved_row finite n t).cells has.form (solved_are finite readable n t)

  -- it is a pair or never orders
  pub solved_shape : (t : ℕ) → 1 ≤ t → t ≤ finite.periods → IsPairOrNever (shape_of (cells_of (solved_finite finite).rows t))
  solved_shape t some le =
      let n = finite.periods - t in
      let has = choices_form finite readable none n t some in
      subst (λ (s : Shape). IsPairOrNever s) (sym (solved_told n t some (omega (arith, le)))) (form_shape (finite_low finite t) has.high has.orders has.form.below)

  -- it tells the choice at each position of its row
  pub shape_chooses : (t : ℕ) (x : ℤ) → 1 ≤ t → t ≤ finite.periods → finite_low finite t ≤ℤ x → x ≤ℤ finite.cap → finite_choices (solved_finite finite) t x ≡ shape_choice (shape_of (cells_of (solved_finite finite).rows t)) x
  shape_chooses t x some le from below =
      let n = finite.periods - t in
      let e : t + n ≡ finite.periods = omega (arith, le) in
      let has = choices_form finite readable none n t some in
      solved_chooses finite readable n t x some e from below
      ∙ sym (ap (λ s. shape_choice s x) (solved_told n t some e)
      ∙ form_chooses (least_choice finite (least_values finite n (suc t)) n t) (finite_low finite t) finite.cap has.high has.orders has.form x from below)
