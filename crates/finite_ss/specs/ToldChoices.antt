-- What is printed of a period tells the choice at each of its positions.
use Rattle.std.proofs.Common.{◌≡◌, ◌⊎◌, inl, inr, Bool, true, false, cond, ◌&&◌, List, [], ◌∷◌, length, ℤ, pos, ◌+ℤ◌, ◌-ℤ◌, ◌≤ℤ◌, ◌<ℤ◌, refl, sym, ap, ◌∙◌, subst, arith}
use Rattle.std.specs.Prelude.{int_le, int_lt, if◌then◌else◌}
use Rattle.std.proofs.lemmas.Bool.{and_parts}
use Rattle.std.proofs.lemmas.Int.{ints}
use Rattle.decision_model.specs.PositionTests.{le_test, le_known}
use Rattle.value_cert.specs.FiniteRules.{cell_choice}
use Rattle.value_cert.specs.Numbers.{is_number}
use Rattle.value_cert.specs.RuleTests.{same_number, number_at, number_other}
use Rattle.value_cert.specs.declared.finite.FiniteCell.{FiniteCell}
use Rattle.finite_ss.specs.Shapes.{all_order_to, shape_of}
use Rattle.finite_ss.specs.declared.shapes.Shape.{Shape}
use Rattle.finite_ss.specs.declared.shapes.Shape.TheVariants.{Pair, Never, Table}

-- the cells that order
abbrev pub moves_of : List FiniteCell → List FiniteCell
moves_of [] = []
moves_of (cell ∷ cells) = if int_lt cell.at cell.to then cell ∷ moves_of cells else moves_of cells

-- the choice at a position that a shape and, in a table, the cells that order tell
abbrev pub told_choice : Shape → List FiniteCell → ℤ → ℤ
told_choice (Pair low high) cells x = if int_le x low then high else x
told_choice Never cells x = x
told_choice Table cells x = cell_choice (moves_of cells) x

-- cells of the positions from a highest one down, of which none orders down
abbrev pub FallFrom : ℤ → List FiniteCell → Type 0
FallFrom highest [] = Unit {0}
FallFrom highest (cell ∷ cells) = (cell.at ≡ highest) × (cell.at ≤ℤ cell.to) × FallFrom (highest -ℤ pos 1) cells

-- ---- one cell
-- the choice at the position of the first cell
here : (cell : FiniteCell) (cells : List FiniteCell) (x : ℤ) → cell.at ≡ x → cell_choice (cell ∷ cells) x ≡ cell.to
here cell cells x e = ap (λ b. cond b cell.to (cell_choice cells x)) (number_at cell.at x e)

-- and at another one
further : (cell : FiniteCell) (cells : List FiniteCell) (x : ℤ) → (cell.at ≡ x → ⊥) → cell_choice (cell ∷ cells) x ≡ cell_choice cells x
further cell cells x e = ap (λ b. cond b cell.to (cell_choice cells x)) (number_other cell.at x e)

-- whether a cell orders
orders_up : (a b : ℤ) → int_lt a b ≡ true → a <ℤ b
orders_up a b h = omega (arith, ints, h)

stays_put : (a b : ℤ) → int_lt a b ≡ false → a ≤ℤ b → b ≡ a
stays_put a b h le = omega (arith, ints, h, le)

-- a position above all cells stays
above_stays : (highest : ℤ) (cells : List FiniteCell) (x : ℤ) → FallFrom highest cells → highest <ℤ x → cell_choice cells x ≡ x
above_stays highest [] x fall lt = refl
above_stays highest (cell ∷ cells) x fall lt =
    further cell cells x (λ e. absurd (omega (arith, ints, fall.0, e, lt)))
    ∙ above_stays (highest -ℤ pos 1) cells x fall.2 (omega (arith, ints, lt))

-- ---- tables
-- the cells that order tell the choice at each position
pub moves_tell : (highest : ℤ) (cells : List FiniteCell) (x : ℤ) → FallFrom highest cells → cell_choice (moves_of cells) x ≡ cell_choice cells x
moves_tell highest [] x fall = refl
moves_tell highest (cell ∷ cells) x fall = by (int_lt cell.at cell.to) refl (is_number cell.at x) refl (moves_tell (highest -ℤ pos 1) cells x fall.2)
  where
    by : (orders : Bool) → int_lt cell.at cell.to ≡ orders → (at : Bool) → is_number cell.at x ≡ at → cell_choice (moves_of cells) x ≡ cell_choice cells x
        → cell_choice (cond orders (cell ∷ moves_of cells) (moves_of cells)) x ≡ cond at cell.to (cell_choice cells x)
    by true e true f rest = ap (λ b. cond b cell.to (cell_choice (moves_of cells) x)) f
    by true e false f rest = ap (λ b. cond b cell.to (cell_choice (moves_of cells) x)) f ∙ rest
    by false e true f rest =
        let same = same_number cell.at x f in
        let put = stays_put cell.at cell.to e fall.1 in
        rest ∙ above_stays (highest -ℤ pos 1) cells x fall.2 (omega (arith, ints, fall.0, same)) ∙ omega (arith, ints, same, put)
    by false e false f rest = rest

-- ---- pairs
-- a position is the highest one or lies below it
split : (x highest : ℤ) → x ≤ℤ highest → (x ≡ highest) ⊎ (x ≤ℤ (highest -ℤ pos 1))
split x highest to = by (int_lt x highest) refl
  where
    by : (b : Bool) → int_lt x highest ≡ b → (x ≡ highest) ⊎ (x ≤ℤ (highest -ℤ pos 1))
    by true e = inr (omega (arith, ints, e))
    by false e = inl (omega (arith, ints, e, to))

-- cells that all order up to one position
all_to : (high highest : ℤ) (cells : List FiniteCell) (x : ℤ) → FallFrom highest cells → all_order_to high cells ≡ true → x ≤ℤ highest → highest <ℤ (x +ℤ pos (length cells)) → cell_choice cells x ≡ high
all_to high highest [] x fall all to from = absurd (omega (arith, ints, to, from))
all_to high highest (cell ∷ cells) x fall all to from =
    by (int_lt cell.at cell.to && (int_le cell.to high && int_le high cell.to)) refl all (split x highest to)
    (λ rest lt. all_to high (highest -ℤ pos 1) cells x fall.2 rest lt (omega (arith, ints, from)))
  where
    by : (own : Bool) → (int_lt cell.at cell.to && (int_le cell.to high && int_le high cell.to)) ≡ own → cond own (all_order_to high cells) false ≡ true
        → (x ≡ highest) ⊎ (x ≤ℤ (highest -ℤ pos 1))
        → (all_order_to high cells ≡ true → x ≤ℤ (highest -ℤ pos 1) → cell_choice cells x ≡ high)
        → cell_choice (cell ∷ cells) x ≡ high
    by true own all (inl at) rest =
        let parts = and_parts (int_lt cell.at cell.to) (int_le cell.to high && int_le high cell.to) own in
        let both = and_parts (int_le cell.to high) (int_le high cell.to) parts.1 in
        here cell cells x (omega (arith, ints, fall.0, at)) ∙ omega (arith, ints, le_known cell.to high both.0, le_known high cell.to both.1)
    by true own all (inr below) rest = further cell cells x (λ e. absurd (omega (arith, ints, e, fall.0, below))) ∙ rest all below
    by false own all at rest = cc

-- a shape that is no table tells the choice at a position of the row, and where it is a pair this lies in the row
record Told (highest : ℤ) (cells : List FiniteCell) (x low high : ℤ) : Type 0 where
  choice : cell_choice cells x ≡ (if int_le x low then high else x)
  within : low ≤ℤ highest

never_choice : (highest : ℤ) (cells : List FiniteCell) (x : ℤ) → FallFrom highest cells → shape_of cells ≡ Never → cell_choice cells x ≡ x
never_choice highest [] x fall e = refl
never_choice highest (cell ∷ cells) x fall e = by (int_lt cell.at cell.to) refl (all_order_to cell.to cells) e (is_number cell.at x) refl (never_choice (highest -ℤ pos 1) cells x fall.2)
  where
    by : (orders : Bool) → int_lt cell.at cell.to ≡ orders → (all : Bool) → cond orders (cond all (Pair cell.at cell.to) Table) (shape_of cells) ≡ Never
        → (at : Bool) → is_number cell.at x ≡ at → (shape_of cells ≡ Never → cell_choice cells x ≡ x) → cond at cell.to (cell_choice cells x) ≡ x
    by true o true e at f rest = cc
    by true o false e at f rest = cc
    by false o all e true f rest = omega (arith, ints, stays_put cell.at cell.to o fall.1, same_number cell.at x f)
    by false o all e false f rest = rest e

-- the pair of a row lies in it
pair_within : (highest : ℤ) (cells : List FiniteCell) (low high : ℤ) → FallFrom highest cells → shape_of cells ≡ Pair low high → low ≤ℤ highest
pair_within highest [] low high fall e = cc
pair_within highest (cell ∷ cells) low high fall e = by (int_lt cell.at cell.to) (all_order_to cell.to cells) e (pair_within (highest -ℤ pos 1) cells low high fall.2)
  where
    by : (orders all : Bool) → cond orders (cond all (Pair cell.at cell.to) Table) (shape_of cells) ≡ Pair low high → (shape_of cells ≡ Pair low high → low ≤ℤ (highest -ℤ pos 1)) → low ≤ℤ highest
    by true true e rest = let low_is : cell.at ≡ low = cc in omega (arith, ints, fall.0, low_is)
    by true false e rest = cc
    by false all e rest = omega (arith, ints, rest e)

pair_choice : (highest : ℤ) (cells : List FiniteCell) (x low high : ℤ) → FallFrom highest cells → shape_of cells ≡ Pair low high → x ≤ℤ highest → highest <ℤ (x +ℤ pos (length cells)) → Told highest cells x low high
pair_choice highest [] x low high fall e to from = cc
pair_choice highest (cell ∷ cells) x low high fall e to from =
    by (int_lt cell.at cell.to) refl (all_order_to cell.to cells) refl e (split x highest to)
    (λ rest lt. pair_choice (highest -ℤ pos 1) cells x low high fall.2 rest lt (omega (arith, ints, from)))
    (λ all lt. all_to cell.to (highest -ℤ pos 1) cells x fall.2 all lt (omega (arith, ints, from)))
  where
    yes : (a b : ℤ) → a ≤ℤ b → (if int_le a b then high else x) ≡ high
    yes a b le = ap (λ t. if t then high else x) (le_test a b le)

    no : (a b : ℤ) → b <ℤ a → (if int_le a b then high else x) ≡ x
    no a b lt = ap (λ t. if t then high else x) (above (int_le a b) refl)
      where
        above : (t : Bool) → int_le a b ≡ t → int_le a b ≡ false
        above true t = absurd (omega (arith, ints, lt, le_known a b t))
        above false t = t

    by : (orders : Bool) → int_lt cell.at cell.to ≡ orders → (all : Bool) → all_order_to cell.to cells ≡ all → cond orders (cond all (Pair cell.at cell.to) Table) (shape_of cells) ≡ Pair low high
        → (x ≡ highest) ⊎ (x ≤ℤ (highest -ℤ pos 1))
        → (shape_of cells ≡ Pair low high → x ≤ℤ (highest -ℤ pos 1) → Told (highest -ℤ pos 1) cells x low high)
        → (all_order_to cell.to cells ≡ true → x ≤ℤ (highest -ℤ pos 1) → cell_choice cells x ≡ cell.to)
        → Told highest (cell ∷ cells) x low high
    by true o true a e at rest every =
        let low_is : cell.at ≡ low = cc in
        let high_is : cell.to ≡ high = cc in
        let le : x ≤ℤ low = omega (arith, ints, to, fall.0, low_is) in
        record { choice = chosen at ∙ high_is ∙ sym (yes x low le); within = omega (arith, ints, fall.0, low_is) }
      where
        chosen : (x ≡ highest) ⊎ (x ≤ℤ (highest -ℤ pos 1)) → cell_choice (cell ∷ cells) x ≡ cell.to
        chosen (inl at) = here cell cells x (omega (arith, ints, fall.0, at))
        chosen (inr below) = further cell cells x (λ e. absurd (omega (arith, ints, e, fall.0, below))) ∙ every a below
    by true o false a e at rest every = cc
    by false o all a e (inl at) rest every =
        let low_below = lower e in
        record {
          choice = here cell cells x (omega (arith, ints, fall.0, at)) ∙ omega (arith, ints, stays_put cell.at cell.to o fall.1, fall.0, at) ∙ sym (no x low (omega (arith, ints, at, low_below)));
          within = omega (arith, ints, low_below);
        }
      where
        lower : shape_of cells ≡ Pair low high → low ≤ℤ (highest -ℤ pos 1)
        lower e = pair_within (highest -ℤ pos 1) cells low high fall.2 e
    by false o all a e (inr below) rest every =
        let told = rest e below in
        record { choice = further cell cells x (λ e. absurd (omega (arith, ints, e, fall.0, below))) ∙ told.choice; within = omega (arith, ints, told.within) }

-- ---- each shape
-- what is printed of a row tells the choice at each of its positions
pub told_is : (highest : ℤ) (cells : List FiniteCell) (x : ℤ) → FallFrom highest cells → x ≤ℤ highest → highest <ℤ (x +ℤ pos (length cells)) → told_choice (shape_of cells) cells x ≡ cell_choice cells x
told_is highest cells x fall to from = by (shape_of cells) refl
  where
    by : (s : Shape) → shape_of cells ≡ s → told_choice s cells x ≡ cell_choice cells x
    by (Pair low high) e = sym (pair_choice highest cells x low high fall e to from).choice
    by Never e = sym (never_choice highest cells x fall e)
    by Table e = moves_tell highest cells x fall
