use Rattle.std.proofs.Common.{◌≡◌, ℕ, ◌-◌, ◌<◌, false}
use Rattle.value_cert.specs.AverageValues.{is_cheap}
use Rattle.average_cost.specs.Grids.{IsPlace}
use Rattle.average_cost.specs.Turns.{ratio_of}
use Rattle.average_cost.proofs.tables.first_cheap.Given as goal

abbrev pub invariant-loop-k : goal.invariant-loop-k
invariant-loop-k l = record {
  none : (j : ℕ) → j < l.k → is_cheap l.item (ratio_of l.g) j ≡ false;
  place_is : IsPlace l.item l.place (l.k - 1);
}
