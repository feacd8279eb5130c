use Rattle.std.proofs.Common.{◌≡◌, ◌-◌}
use Rattle.value_cert.specs.AverageValues.{is_zero_place, first_passing, lower_entries}
use Rattle.average_cost.specs.Grids.{IsPlace}
use Rattle.average_cost.specs.Turns.{ratio_of}
use Rattle.average_cost.proofs.tables.lower_table.Given as goal

abbrev pub invariant-loop-k : goal.invariant-loop-k
invariant-loop-k l = record {
  listed : l.entries.items ≡ lower_entries l.item (ratio_of l.g) l.k;
  zero_is : l.zero ≡ first_passing (is_zero_place l.item (ratio_of l.g)) 0 l.k;
  place_is : IsPlace l.item l.place (l.k - 1);
}
