-- The loop over the positions of a row.
use Rattle.std.proofs.Common.{◌≡◌, ℕ, zero, suc, ◌+◌, ◌-◌, ◌<◌, ◌≤◌, Bool, true, false, ◌||◌, ◌==◌, List, [], ◌∷◌, ◌++◌, ℤ, pos, refl, sym, ◌∙◌, ap, arith, subst}
use Rattle.std.specs.Prelude.{nat_le}
use Rattle.std.proofs.lemmas.Bool.{le-leb, leb-true, eqb-true}
use Rattle.decision_model.specs.declared.finite.Finite.{Finite}
use Rattle.finite_lemmas.specs.SolvedFronts.{period_before, cell_at_place, front_cells, row_front, cells_more, AreLater, first_later, next_later}
use Rattle.finite_recursion.specs.Recursions.{finite_of, rows_of, place_of, is_whole, KnowsRows}
use Rattle.finite_recursion.specs.Rows.{row_period}
use Rattle.finite_recursion.specs.declared.recursion.Recursion.{Recursion}
use Rattle.finite_ss.specs.Solving.{HasFront, HasSolved}
use Rattle.value_cert.specs.FiniteRules.{FirstRows, no_rows, named_values, last_values, solved_row}
use Rattle.value_cert.specs.FiniteValues.{row_width}
use Rattle.value_cert.specs.declared.finite.FiniteCell.{FiniteCell}
use Rattle.value_cert.specs.declared.line.CertLine.TheVariants.{Period}

-- from a begun row, so many of its positions have their cells
pub record IsSolvingRow (begun now : Recursion) (cells : List FiniteCell) (count : ℕ) : Type 0 where
  pub same : finite_of now ≡ finite_of begun
  pub rows : rows_of now ≡ rows_of begun
  pub place : place_of now ≡ count
  pub front : (n : ℕ) → n < (finite_of begun).periods → HasFront begun n 0 → HasFront now n count
  pub are_cells : (n : ℕ) → n < (finite_of begun).periods → HasFront begun n 0 → cells ≡ front_cells (finite_of begun) n count

-- no position yet
pub begins : (begun : Recursion) → place_of begun ≡ 0 → IsSolvingRow begun begun [] 0
begins begun none = record { same = refl; rows = refl; place = none; front = λ n lt front. front; are_cells = λ n lt front. refl }

-- one position more
pub goes_on : (begun now next : Recursion) (cells : List FiniteCell) (count : ℕ) (cell : FiniteCell) → IsSolvingRow begun now cells count
    → finite_of next ≡ finite_of now → rows_of next ≡ rows_of now → place_of next ≡ place_of now + 1
    → ((n count : ℕ) → n < (finite_of now).periods → HasFront now n count → cell ≡ cell_at_place (finite_of now) n count)
    → ((n count : ℕ) → n < (finite_of now).periods → HasFront now n count → HasFront next n (count + 1))
    → IsSolvingRow begun next (cells ++ cell ∷ []) (count + 1)
goes_on begun now next cells count cell is same rows place own front = record {
  same = same ∙ is.same;
  rows = rows ∙ is.rows;
  place = place ∙ ap (λ k. k + 1) is.place;
  front = λ n lt at. front n count (within n lt) (is.front n lt at);
  are_cells = λ n lt at.
      ap (λ all. all ++ cell ∷ []) (is.are_cells n lt at)
      ∙ cells_more (finite_of begun) n count cell (own n count (within n lt) (is.front n lt at) ∙ ap (λ (f : Finite). cell_at_place f n count) is.same);
}
  where
    within : (n : ℕ) → n < (finite_of begun).periods → n < (finite_of now).periods
    within n lt = subst (λ (f : Finite). n < f.periods) (sym is.same) lt

or_none : (a b : Bool) → a ≡ false → b ≡ false → (a || b) ≡ false
or_none a b e f = rw (e, f) refl

or_second : (a b : Bool) → b ≡ true → (a || b) ≡ true
or_second true b e = refl
or_second false b e = e

-- whether the row is whole, by how many positions it has
width_of : Recursion → ℕ
width_of r = row_width (finite_of r) (row_period (finite_of r) (rows_of r))

pub left : (begun now : Recursion) (cells : List FiniteCell) (count : ℕ) → IsSolvingRow begun now cells count → 1 ≤ rows_of begun → count < row_width (finite_of begun) (suc (finite_of begun).periods - rows_of begun) → is_whole now ≡ false
left begun now cells count is some lt =
    let finite : Finite → ℕ = λ f. row_width f (suc f.periods - rows_of now) in
    let width = ap finite is.same ∙ ap (λ k. row_width (finite_of begun) (suc (finite_of begun).periods - k)) is.rows in
    or_none (rows_of now == 0) (nat_le (row_width (finite_of now) (row_period (finite_of now) (rows_of now))) (place_of now)) (some_rows (rows_of now == 0) refl) (less (nat_le (row_width (finite_of now) (row_period (finite_of now) (rows_of now))) (place_of now)) refl width)
  where
    some_rows : (b : Bool) → (rows_of now == 0) ≡ b → (rows_of now == 0) ≡ false
    some_rows true e = absurd (omega (arith, eqb-true (rows_of now) 0 e, is.rows, some))
    some_rows false e = e

    less : (b : Bool) → nat_le (row_width (finite_of now) (row_period (finite_of now) (rows_of now))) (place_of now) ≡ b
        → row_width (finite_of now) (suc (finite_of now).periods - rows_of now) ≡ row_width (finite_of begun) (suc (finite_of begun).periods - rows_of begun)
        → nat_le (row_width (finite_of now) (row_period (finite_of now) (rows_of now))) (place_of now) ≡ false
    less true e width = absurd (omega (arith, leb-true (row_width (finite_of now) (row_period (finite_of now) (rows_of now))) (place_of now) e, width, is.place, lt))
    less false e width = e

pub whole : (begun now : Recursion) (cells : List FiniteCell) (count : ℕ) → IsSolvingRow begun now cells count → row_width (finite_of begun) (suc (finite_of begun).periods - rows_of begun) ≤ count → is_whole now ≡ true
whole begun now cells count is le =
    let finite : Finite → ℕ = λ f. row_width f (suc f.periods - rows_of now) in
    let width = ap finite is.same ∙ ap (λ k. row_width (finite_of begun) (suc (finite_of begun).periods - k)) is.rows in
    or_second (rows_of now == 0) (nat_le (row_width (finite_of now) (row_period (finite_of now) (rows_of now))) (place_of now))
    (le-leb (row_width (finite_of now) (row_period (finite_of now) (rows_of now))) (place_of now) (omega (arith, width, is.place, le)))

-- the whole row
pub row_cells : (begun now : Recursion) (cells : List FiniteCell) (count n : ℕ) → IsSolvingRow begun now cells count → n < (finite_of begun).periods → HasFront begun n 0 → count ≡ row_width (finite_of begun) ((finite_of begun).periods - n)
    → cells ≡ (solved_row (finite_of begun) n ((finite_of begun).periods - n)).cells
row_cells begun now cells count n is lt front e = is.are_cells n lt front ∙ ap (front_cells (finite_of begun) n) e

pub row_solved : (begun now : Recursion) (cells : List FiniteCell) (count n : ℕ) → IsSolvingRow begun now cells count → n < (finite_of begun).periods → HasFront begun n 0 → count ≡ row_width (finite_of begun) ((finite_of begun).periods - n) → HasSolved now (suc n)
row_solved begun now cells count n is lt front e =
    subst (λ (k : ℕ). HasFront now n k) (e ∙ ap (λ (f : Finite). row_width f (f.periods - n)) (sym is.same)) (is.front n lt front)

-- how many positions the row that n periods follow has
pub width_is : (begun : Recursion) (n : ℕ) → HasFront begun n 0 → row_width (finite_of begun) (suc (finite_of begun).periods - rows_of begun) ≡ row_width (finite_of begun) ((finite_of begun).periods - n)
width_is begun n front = ap (λ k. row_width (finite_of begun) (suc (finite_of begun).periods - k)) front.knows.rows_are ∙ ap (row_width (finite_of begun)) (omega arith)

-- ---- the next row
-- behind whole rows with the solver's values the next one begins with the solver's values of the period after its own
pub row_begun : (old new : Recursion) (k : ℕ) → k < (finite_of old).periods → HasSolved old k → finite_of new ≡ finite_of old
    → ((first : FirstRows) (period : ℤ) → KnowsRows old first → KnowsRows new (named_values (finite_of old) first (Period period))) → HasFront new k 0
row_begun old new zero lt solved same knows =
    let finite = finite_of old in
    let later = last_values finite (no_rows finite) in
    record {
      later = later;
      are_later = subst (λ (f : Finite). AreLater f later 0) (sym same) (first_later finite);
      knows = subst (λ (f : Finite). KnowsRows new (row_front f later 0 0)) (sym same) (knows (no_rows finite) (pos 0) solved);
    }
row_begun old new (suc n) lt front same knows =
    let finite = finite_of old in
    let first = row_front finite front.later n (row_width finite (period_before finite n)) in
    let later = last_values finite first in
    record {
      later = later;
      are_later = subst (λ (f : Finite). AreLater f later (suc n)) (sym same) (next_later finite front.later n (omega (arith, lt)));
      knows = subst (λ (f : Finite). KnowsRows new (row_front f later (suc n) 0)) (sym same) (knows first (pos 0) front.knows);
    }
