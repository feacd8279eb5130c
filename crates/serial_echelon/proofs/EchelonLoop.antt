-- The loop over the echelons of a period.
use Rattle.std.proofs.Common.{◌≡◌, ℕ, suc, ◌+◌, ◌-◌, ◌<◌, ◌≤◌, ◌==◌, Bool, true, false, ◌&&◌, ◌||◌, List, [], ◌∷◌, ◌++◌, map, length, refl, sym, ◌∙◌, ap, arith, subst}
use Rattle.std.specs.List.{range_with_len}
use Rattle.std.proofs.lemmas.Bool.{and_from, eq-eqb, le-leb}
use Rattle.std.proofs.lemmas.List.FromFn.{map-range_with_len_more}
use Rattle.decision_model.specs.declared.serial.Serial.{Serial}
use Rattle.serial_recursion.specs.Periods.{are_all, is_ready, is_whole}
use Rattle.serial_recursion.specs.Recursions.{serial_of, periods_of, echelons_of, cells_of}
use Rattle.serial_recursion.specs.Rows.{period_of}
use Rattle.serial_recursion.specs.declared.recursion.Recursion.{Recursion}
use Rattle.value_cert.specs.SerialRules.{solved_row}
use Rattle.value_cert.specs.SerialValues.{row_width}
use Rattle.value_cert.specs.declared.serial.SerialRow.{SerialRow}
use Rattle.serial_echelon.specs.Solving.{HasSolved}
use Rattle.serial_echelon.proofs.Steps.{IsReady, is_ready_from}

-- how many positions an echelon of the last period has
abbrev pub width_of : Recursion → ℕ
width_of recursion = row_width (serial_of recursion) (period_of (serial_of recursion) (periods_of recursion))

-- the solver's rows of the first echelons
abbrev pub first_rows : Serial → ℕ → ℕ → List SerialRow
first_rows serial periods count = map (solved_row serial (periods - 1) (period_of serial periods)) (range_with_len 0 count)

-- from a begun period on, so many of its echelons have their rows
pub record IsSolvingRows (begun now : Recursion) (rows : List SerialRow) (count : ℕ) : Type 0 where
  pub same : serial_of now ≡ serial_of begun
  pub periods : periods_of now ≡ periods_of begun
  pub count_is : echelons_of now ≡ count
  pub all : 1 ≤ count → cells_of now ≡ width_of begun
  pub solved : HasSolved begun → HasSolved now
  pub are_rows : HasSolved begun → rows ≡ first_rows (serial_of begun) (periods_of begun) count

-- none yet
pub rows_begin : (begun : Recursion) → echelons_of begun ≡ 0 → IsSolvingRows begun begun [] 0
rows_begin begun none = record { same = refl; periods = refl; count_is = none; all = λ some. absurd (omega (arith, some)); solved = λ has. has; are_rows = λ has. refl }

width_same : (begun now : Recursion) (rows : List SerialRow) (count : ℕ) → IsSolvingRows begun now rows count → width_of now ≡ width_of begun
width_same begun now rows count is =
    ap (λ (s : Serial). row_width s (period_of s (periods_of now))) is.same ∙ ap (λ (p : ℕ). row_width (serial_of begun) (period_of (serial_of begun) p)) is.periods

-- one more
pub rows_go_on : (begun now next : Recursion) (rows : List SerialRow) (count : ℕ) (row : SerialRow) → IsSolvingRows begun now rows count
    → serial_of next ≡ serial_of now → periods_of next ≡ periods_of now → echelons_of next ≡ echelons_of now + 1 → cells_of next ≡ width_of now
    → (HasSolved now → row ≡ solved_row (serial_of now) (periods_of now - 1) (period_of (serial_of now) (periods_of now)) (echelons_of now)) → (HasSolved now → HasSolved next)
    → IsSolvingRows begun next (rows ++ row ∷ []) (count + 1)
rows_go_on begun now next rows count row is same periods more all own solved = record {
  same = same ∙ is.same;
  periods = periods ∙ is.periods;
  count_is = more ∙ ap (λ k. k + 1) is.count_is;
  all = λ some. all ∙ width_same begun now rows count is;
  solved = λ has. solved (is.solved has);
  are_rows = λ has.
      let here = own (is.solved has)
      ∙ ap (λ (s : Serial). solved_row s (periods_of now - 1) (period_of s (periods_of now)) (echelons_of now)) is.same
      ∙ ap (λ (p : ℕ). solved_row (serial_of begun) (p - 1) (period_of (serial_of begun) p) (echelons_of now)) is.periods
      ∙ ap (solved_row (serial_of begun) (periods_of begun - 1) (period_of (serial_of begun) (periods_of begun))) is.count_is
      in
      ap (λ before. before ++ row ∷ []) (is.are_rows has)
      ∙ ap (λ r. first_rows (serial_of begun) (periods_of begun) count ++ r ∷ []) here
      ∙ sym (map-range_with_len_more (solved_row (serial_of begun) (periods_of begun - 1) (period_of (serial_of begun) (periods_of begun))) 0 count count (omega arith));
}

-- an echelon may be begun
pub ready_now : (begun now : Recursion) (rows : List SerialRow) (count : ℕ) → IsSolvingRows begun now rows count → 1 ≤ periods_of begun → count < length (serial_of begun).holding
    → is_ready (serial_of now) (periods_of now) (echelons_of now) (cells_of now) ≡ true
ready_now begun now rows count is some lt =
    is_ready_from (serial_of now) (periods_of now) (echelons_of now) (cells_of now) (record {
      begun = omega (arith, some, is.periods);
      inside = omega (arith, lt, is.count_is, ap (λ (s : Serial). length s.holding) is.same);
      whole = λ begun. omega (arith, is.all (omega (arith, begun, is.count_is)), width_same _ now rows count is);
    })

-- the period is whole
pub whole_now : (begun now : Recursion) (rows : List SerialRow) (count : ℕ) → IsSolvingRows begun now rows count → 1 ≤ count → count ≡ length (serial_of begun).holding
    → is_whole (serial_of now) (periods_of now) (echelons_of now) (cells_of now) ≡ true
whole_now begun now rows count is some e =
    or_second (periods_of now == 0) ((echelons_of now == length (serial_of now).holding) && are_all (serial_of now) (periods_of now) (cells_of now))
    (and_from (echelons_of now == length (serial_of now).holding) (are_all (serial_of now) (periods_of now) (cells_of now))
    (eq-eqb (echelons_of now) (length (serial_of now).holding) (is.count_is ∙ e ∙ ap (λ (s : Serial). length s.holding) (sym is.same)))
    (le-leb (width_of now) (cells_of now) (omega (arith, is.all some, width_same begun now rows count is))))
  where
    or_second : (a b : Bool) → b ≡ true → (a || b) ≡ true
    or_second true b e = refl
    or_second false b e = e
