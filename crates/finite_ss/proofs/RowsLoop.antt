-- The loop over the periods.
use Rattle.std.proofs.Common.{◌≡◌, ℕ, ◌+◌, ◌-◌, ◌<◌, Bool, true, ◌||◌, ◌==◌, List, [], ◌∷◌, ◌++◌, map, refl, sym, ◌∙◌, ap, arith, subst}
use Rattle.std.specs.Prelude.{nat_le}
use Rattle.std.specs.List.{range_with_len}
use Rattle.std.proofs.lemmas.Bool.{eq-eqb}
use Rattle.std.proofs.lemmas.List.FromFn.{map-range_with_len_more}
use Rattle.decision_model.specs.declared.finite.Finite.{Finite}
use Rattle.finite_recursion.specs.Recursions.{finite_of, rows_of, place_of, is_whole, KnowsRows}
use Rattle.finite_recursion.specs.Rows.{row_period}
use Rattle.finite_recursion.specs.declared.recursion.Recursion.{Recursion}
use Rattle.finite_ss.specs.Solving.{HasSolved}
use Rattle.value_cert.specs.FiniteRules.{no_rows, solved_row}
use Rattle.value_cert.specs.FiniteValues.{row_width}
use Rattle.value_cert.specs.declared.finite.FiniteRow.{FiniteRow}

-- the first rows of the solver's certificate
abbrev pub first_rows : Finite → ℕ → List FiniteRow
first_rows finite count = map (λ n. solved_row finite n (finite.periods - n)) (range_with_len 0 count)

-- so many periods have their rows
pub record IsSolvingRows (finite : Finite) (now : Recursion) (rows : List FiniteRow) (count : ℕ) : Type 0 where
  pub same : finite_of now ≡ finite
  pub count_is : rows_of now ≡ count
  pub whole : is_whole now ≡ true
  pub solved : HasSolved now (rows_of now)
  pub are_rows : rows ≡ first_rows finite count

or_first : (a b : Bool) → a ≡ true → (a || b) ≡ true
or_first a b e = rw e refl

-- none yet
pub rows_begin : (finite : Finite) (now : Recursion) → finite_of now ≡ finite → KnowsRows now (no_rows finite) → IsSolvingRows finite now [] 0
rows_begin finite now same knows = record {
  same = same;
  count_is = knows.rows_are;
  whole = or_first (rows_of now == 0) (nat_le (row_width (finite_of now) (row_period (finite_of now) (rows_of now))) (place_of now)) (eq-eqb (rows_of now) 0 knows.rows_are);
  solved = subst (λ (n : ℕ). HasSolved now n) (sym knows.rows_are) (subst (λ (f : Finite). KnowsRows now (no_rows f)) (sym same) knows);
  are_rows = refl;
}

-- one more
pub rows_go_on : (finite : Finite) (now next : Recursion) (rows : List FiniteRow) (count : ℕ) (row : FiniteRow) → IsSolvingRows finite now rows count
    → finite_of next ≡ finite_of now → rows_of next ≡ rows_of now + 1 → is_whole next ≡ true
    → (HasSolved now (rows_of now) → row ≡ solved_row (finite_of now) (rows_of now) ((finite_of now).periods - rows_of now))
    → (HasSolved now (rows_of now) → HasSolved next (rows_of next))
    → IsSolvingRows finite next (rows ++ row ∷ []) (count + 1)
rows_go_on finite now next rows count row is same more whole own solved = record {
  same = same ∙ is.same;
  count_is = more ∙ ap (λ k. k + 1) is.count_is;
  whole = whole;
  solved = solved is.solved;
  are_rows =
      ap (λ all. all ++ row ∷ []) is.are_rows
      ∙ ap (λ r. first_rows finite count ++ r ∷ []) (own is.solved ∙ ap (λ (f : Finite). solved_row f (rows_of now) (f.periods - rows_of now)) is.same ∙ ap (λ n. solved_row finite n (finite.periods - n)) is.count_is)
      ∙ sym (map-range_with_len_more (λ n. solved_row finite n (finite.periods - n)) 0 count count (omega arith));
}
