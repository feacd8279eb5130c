-- The loop over the positions of an echelon.
use Rattle.std.proofs.Common.{◌≡◌, ℕ, ◌+◌, ◌<◌, ◌≤◌, true, List, [], ◌∷◌, ◌++◌, map, refl, sym, ◌∙◌, ap, arith, subst}
use Rattle.std.specs.Prelude.{nat_lt, not}
use Rattle.std.specs.List.{range_with_len}
use Rattle.std.proofs.lemmas.Bool.{and_from, lt-ltb, lt-leb, not_from_false}
use Rattle.std.proofs.lemmas.List.FromFn.{map-range_with_len_more}
use Rattle.decision_model.specs.declared.serial.Serial.{Serial}
use Rattle.serial_recursion.specs.Periods.{are_all, is_left}
use Rattle.serial_recursion.specs.Recursions.{serial_of, periods_of, echelons_of, cells_of}
use Rattle.serial_recursion.specs.Rows.{period_of}
use Rattle.serial_recursion.specs.declared.recursion.Recursion.{Recursion}
use Rattle.value_cert.specs.SerialValues.{row_width}
use Rattle.value_cert.specs.declared.serial.SerialCell.{SerialCell}
use Rattle.serial_echelon.specs.Solving.{HasSolved, cell_at}

-- the solver's cells of the first places
abbrev pub first_cells : Serial → ℕ → ℕ → ℕ → List SerialCell
first_cells serial periods echelons count = map (cell_at serial periods echelons) (range_with_len 0 count)

-- from a begun echelon on, so many of its positions have their cells
pub record IsSolvingCells (begun now : Recursion) (cells : List SerialCell) (count : ℕ) : Type 0 where
  pub same : serial_of now ≡ serial_of begun
  pub periods : periods_of now ≡ periods_of begun
  pub echelons : echelons_of now ≡ echelons_of begun
  pub count_is : cells_of now ≡ count
  pub solved : HasSolved begun → HasSolved now
  pub are_cells : HasSolved begun → cells ≡ first_cells (serial_of begun) (periods_of begun) (echelons_of begun) count

-- none yet
pub cells_begin : (begun : Recursion) → cells_of begun ≡ 0 → IsSolvingCells begun begun [] 0
cells_begin begun none = record { same = refl; periods = refl; echelons = refl; count_is = none; solved = λ has. has; are_cells = λ has. refl }

-- one more
pub cells_go_on : (begun now next : Recursion) (cells : List SerialCell) (count : ℕ) (cell : SerialCell) → IsSolvingCells begun now cells count
    → serial_of next ≡ serial_of now → periods_of next ≡ periods_of now → echelons_of next ≡ echelons_of now → cells_of next ≡ cells_of now + 1
    → (HasSolved now → cell ≡ cell_at (serial_of now) (periods_of now) (echelons_of now) (cells_of now)) → (HasSolved now → HasSolved next)
    → IsSolvingCells begun next (cells ++ cell ∷ []) (count + 1)
cells_go_on begun now next cells count cell is same periods echelons more own solved = record {
  same = same ∙ is.same;
  periods = periods ∙ is.periods;
  echelons = echelons ∙ is.echelons;
  count_is = more ∙ ap (λ k. k + 1) is.count_is;
  solved = λ has. solved (is.solved has);
  are_cells = λ has.
      let here = own (is.solved has)
      ∙ ap (λ (s : Serial). cell_at s (periods_of now) (echelons_of now) (cells_of now)) is.same
      ∙ ap (λ (p : ℕ). cell_at (serial_of begun) p (echelons_of now) (cells_of now)) is.periods
      ∙ ap (λ (e : ℕ). cell_at (serial_of begun) (periods_of begun) e (cells_of now)) is.echelons
      ∙ ap (cell_at (serial_of begun) (periods_of begun) (echelons_of begun)) is.count_is
      in
      ap (λ all. all ++ cell ∷ []) (is.are_cells has)
      ∙ ap (λ c. first_cells (serial_of begun) (periods_of begun) (echelons_of begun) count ++ c ∷ []) here
      ∙ sym (map-range_with_len_more (cell_at (serial_of begun) (periods_of begun) (echelons_of begun)) 0 count count (omega arith));
}

-- a position is left
pub left_now : (begun now : Recursion) (cells : List SerialCell) (count : ℕ) → IsSolvingCells begun now cells count → 1 ≤ echelons_of begun → count < row_width (serial_of begun) (period_of (serial_of begun) (periods_of begun))
    → is_left (serial_of now) (periods_of now) (echelons_of now) (cells_of now) ≡ true
left_now begun now cells count is some lt =
    let width = ap (λ (s : Serial). row_width s (period_of s (periods_of now))) is.same ∙ ap (λ (p : ℕ). row_width (serial_of begun) (period_of (serial_of begun) p)) is.periods in
    and_from (nat_lt 0 (echelons_of now)) (not (are_all (serial_of now) (periods_of now) (cells_of now)))
    (lt-ltb 0 (echelons_of now) (omega (arith, some, is.echelons)))
    (not_from_false (are_all (serial_of now) (periods_of now) (cells_of now)) (lt-leb (row_width (serial_of now) (period_of (serial_of now) (periods_of now))) (cells_of now) (omega (arith, lt, width, is.count_is))))
