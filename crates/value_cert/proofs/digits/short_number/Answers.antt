use Rattle.std.proofs.Common.{ℕ, ◌^◌, ◌<◌, ◌≤◌, List, length, take, arith}
use Rattle.std.specs.Str.Parse.{AllDigits, digits_value}
use Rattle.std.proofs.lemmas.List.{length-take-le}
use Rattle.std.proofs.lemmas.Int.Digits.{digits_more, digits_value_more}
use Rattle.std.proofs.lemmas.Str.{digit_value_digit}
use Rattle.std.proofs.lemmas.Str.Parse.{digit_at}
use Rattle.value_cert.proofs.DigitFacts.{few_digits}
use Rattle.value_cert.proofs.digits.short_number.Goals as goal

pub returns-in_err-digit-clause-number : goal.returns-in_err-digit-clause-number
returns-in_err-digit-clause-number c =
    rw c.from_residual.ensures (λ all. omega (arith, c.in_err-digit.ensures, digit_value_digit _ (digit_at c.args.digits.now c.loop-at.at all (omega arith)), (digit_at c.args.digits.now c.loop-at.at all (omega arith)).1))

-- one more digit still fits
small_before : (digits : List ℕ) (at : ℕ) → length digits ≤ 18 → at < length digits → AllDigits 10 (take at digits) → digits_value 10 (take at digits) < 10 ^ 17
small_before digits at few within all = few_digits (take at digits) 17 all (omega (arith, length-take-le at digits))

pub overflow_mul-number : goal.overflow_mul-number
overflow_mul-number c = omega (arith, small_before c.args.digits.now c.loop-at.at c.requires (omega arith) c.loop-at.invariant.digits, c.loop-at.invariant.value)

pub overflow_add-number : goal.overflow_add-number
overflow_add-number c = omega (arith, small_before c.args.digits.now c.loop-at.at c.requires (omega arith) c.loop-at.invariant.digits, c.loop-at.invariant.value, c.in_ok-digit.ensures)

pub loop-at-preserved : goal.loop-at-preserved
loop-at-preserved c =
    let digits = c.args.digits.now in
    let within : c.loop-at.at < length digits = omega arith in
    record {
      digits = digits_more 10 digits c.loop-at.at within c.loop-at.invariant.digits (omega (arith, c.in_ok-digit.ensures));
      value = omega (arith, c.loop-at.invariant.value, digits_value_more 10 digits c.loop-at.at within, c.in_ok-digit.ensures);
    }

pub returns-clause-small : goal.returns-clause-small
returns-clause-small c = omega (arith, few_digits (take c.loop-at.at c.args.digits.now) 18 c.loop-at.invariant.digits (omega (arith, length-take-le c.loop-at.at c.args.digits.now)), c.loop-at.invariant.value)
