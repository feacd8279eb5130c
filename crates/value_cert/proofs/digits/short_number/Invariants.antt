use Rattle.std.proofs.Common.{◌≡◌, take}
use Rattle.std.specs.Str.Parse.{AllDigits, digits_value}
use Rattle.value_cert.proofs.digits.short_number.Given as goal

abbrev pub invariant-loop-at : goal.invariant-loop-at
invariant-loop-at l = record {
  digits : AllDigits 10 (take l.at l.digits);
  value : l.number ≡ digits_value 10 (take l.at l.digits);
}
