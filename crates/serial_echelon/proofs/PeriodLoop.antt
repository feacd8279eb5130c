-- The loop over the periods.
use Rattle.std.proofs.Common.{◌≡◌, ℕ, ◌+◌, ◌-◌, Bool, true, ◌||◌, ◌==◌, ◌&&◌, List, [], ◌∷◌, ◌++◌, map, length, refl, sym, ◌∙◌, ap, arith}
use Rattle.std.specs.List.{range_with_len}
use Rattle.std.proofs.lemmas.Bool.{eq-eqb}
use Rattle.std.proofs.lemmas.List.FromFn.{map-range_with_len_more}
use Rattle.decision_model.specs.Serial.{IsReadableSerial}
use Rattle.decision_model.specs.declared.serial.Serial.{Serial}
use Rattle.serial_recursion.specs.Periods.{are_all, is_whole}
use Rattle.serial_recursion.specs.Recursions.{serial_of, periods_of, echelons_of, cells_of, KnowsRows}
use Rattle.serial_recursion.specs.declared.recursion.Recursion.{Recursion}
use Rattle.value_cert.specs.SerialRules.{no_rows, solved_period}
use Rattle.value_cert.specs.declared.serial.SerialPeriod.{SerialPeriod}
use Rattle.serial_echelon.specs.Solving.{HasSolved}
use Rattle.serial_echelon.proofs.Steps.{begins_solved}

-- the first periods of the solver's certificate
abbrev pub first_periods : Serial → ℕ → List SerialPeriod
first_periods serial count = map (λ n. solved_period serial n (serial.periods - n)) (range_with_len 0 count)

-- so many periods have their echelons
pub record IsSolvingPeriods (serial : Serial) (now : Recursion) (periods : List SerialPeriod) (count : ℕ) : Type 0 where
  pub same : serial_of now ≡ serial
  pub count_is : periods_of now ≡ count
  pub whole : is_whole (serial_of now) (periods_of now) (echelons_of now) (cells_of now) ≡ true
  pub solved : HasSolved now
  pub are_periods : periods ≡ first_periods serial count

or_first : (a b : Bool) → a ≡ true → (a || b) ≡ true
or_first a b e = rw e refl

-- none yet
pub periods_begin : (serial : Serial) (now : Recursion) → IsReadableSerial serial → serial_of now ≡ serial → periods_of now ≡ 0 → KnowsRows now no_rows → IsSolvingPeriods serial now [] 0
periods_begin serial now readable same none knows = record {
  same = same;
  count_is = none;
  whole = or_first (periods_of now == 0) ((echelons_of now == length (serial_of now).holding) && are_all (serial_of now) (periods_of now) (cells_of now)) (eq-eqb (periods_of now) 0 none);
  solved = begins_solved serial now same readable knows;
  are_periods = refl;
}

-- one more
pub periods_go_on : (serial : Serial) (now next : Recursion) (periods : List SerialPeriod) (count : ℕ) (period : SerialPeriod) → IsSolvingPeriods serial now periods count
    → serial_of next ≡ serial_of now → periods_of next ≡ periods_of now + 1 → is_whole (serial_of next) (periods_of next) (echelons_of next) (cells_of next) ≡ true
    → (HasSolved now → period ≡ solved_period (serial_of now) (periods_of now) ((serial_of now).periods - periods_of now)) → (HasSolved now → HasSolved next)
    → IsSolvingPeriods serial next (periods ++ period ∷ []) (count + 1)
periods_go_on serial now next periods count period is same more whole own solved = record {
  same = same ∙ is.same;
  count_is = more ∙ ap (λ k. k + 1) is.count_is;
  whole = whole;
  solved = solved is.solved;
  are_periods =
      ap (λ all. all ++ period ∷ []) is.are_periods
      ∙ ap (λ p. first_periods serial count ++ p ∷ []) (own is.solved ∙ ap (λ (s : Serial). solved_period s (periods_of now) (s.periods - periods_of now)) is.same ∙ ap (λ n. solved_period serial n (serial.periods - n)) is.count_is)
      ∙ sym (map-range_with_len_more (λ n. solved_period serial n (serial.periods - n)) 0 count count (omega arith));
}
