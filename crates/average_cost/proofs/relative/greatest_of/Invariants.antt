use Rattle.std.proofs.Common.{◌≡◌, ◌-◌, ◌^◌, drop, length, sum}
use Rattle.value_cert.specs.AverageRules.{lower_in, upper_in, greatest_value}
use Rattle.value_cert.specs.AverageValues.{moving}
use Rattle.average_cost.proofs.relative.greatest_of.Given as goal

abbrev pub invariant-loop-back : goal.invariant-loop-back
invariant-loop-back l = record {
  most_is : l.most ≡ greatest_value (sum (moving l.item.law)) (drop (length l.cert.cells - l.back) (upper_in l.cert)) (greatest_value (sum (moving l.item.law)) (drop (length l.cert.cells - l.back) (lower_in l.cert)) l.start);
  power_is : l.power ≡ sum (moving l.item.law) ^ l.back;
}
