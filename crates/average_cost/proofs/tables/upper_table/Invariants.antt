use Rattle.std.proofs.Common.{◌≡◌, ◌-◌, pos, ◌-ℤ◌}
use Rattle.value_cert.specs.AverageRules.{first_cheap}
use Rattle.value_cert.specs.AverageValues.{at_place, upper_entries}
use Rattle.average_cost.specs.Grids.{IsPlace}
use Rattle.average_cost.specs.Turns.{ratio_of}
use Rattle.average_cost.proofs.tables.upper_table.Given as goal

abbrev pub invariant-loop-k : goal.invariant-loop-k
invariant-loop-k l = record {
  listed : l.entries.items ≡ upper_entries l.item (ratio_of l.g) (at_place l.item (first_cheap l.item (ratio_of l.g)) -ℤ pos 1) l.k;
  place_is : IsPlace l.item l.place (l.k - 1);
}
