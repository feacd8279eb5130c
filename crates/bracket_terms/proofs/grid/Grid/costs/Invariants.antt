use Rattle.std.proofs.Common.{◌≡◌, ◌-◌, map}
use Rattle.std.specs.List.{range_with_len}
use Rattle.value_cert.specs.BracketValues.{low_cost, up_cost}
use Rattle.bracket_terms.specs.GridKnown.{grid_item}
use Rattle.bracket_terms.specs.Grids.{IsAt}
use Rattle.bracket_terms.proofs.grid.Grid.costs.Given as goal

abbrev pub invariant-loop-k : goal.invariant-loop-k
invariant-loop-k l = record {
  are_low : l.low.items ≡ map (low_cost (grid_item l.self)) (range_with_len 0 l.k);
  are_up : l.up.items ≡ map (up_cost (grid_item l.self)) (range_with_len 0 l.k);
  stands : IsAt (grid_item l.self) l.walk (l.k - 1);
}
