use Rattle.std.proofs.Common.{ℕ, ◌-◌, ◌<◌, ◌≤◌, length, get_or}
use Rattle.network_model.specs.Pauses.{no_span}
use Rattle.disruption.specs.Tables.{Begins, Follows}
use Rattle.disruption.proofs.table.count_begun.Given as goal

abbrev pub invariant-loop-low : goal.invariant-loop-low
invariant-loop-low l = record {
  ordered : l.low ≤ l.high;
  within : l.high ≤ length l.table;
  begun : (i : ℕ) → i < l.low → Begins l.node l.what l.t (get_or l.table i no_span);
  rest : (i : ℕ) → l.high ≤ i → i < length l.table → Follows l.node l.what l.t (get_or l.table i no_span);
}

abbrev pub decreases-loop-low : goal.decreases-loop-low
decreases-loop-low l = l.high - l.low
