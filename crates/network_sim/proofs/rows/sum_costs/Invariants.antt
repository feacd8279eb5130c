use Rattle.std.proofs.Common.{◌≡◌, ◌+◌, ◌*◌, ◌≤◌, ◌^◌, drop}
use Rattle.node_state.specs.Table.{costs}
use Rattle.network_sim.proofs.rows.sum_costs.Given as goal

abbrev pub invariant-loop-i : goal.invariant-loop-i
invariant-loop-i l = record {
  rest : l.sum + costs (drop l.i l.lines) ≡ costs l.lines;
  few : l.sum ≤ l.i * 2 ^ 85;
}
