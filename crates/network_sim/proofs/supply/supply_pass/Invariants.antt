use Rattle.std.proofs.Common.{◌≡◌, ◌≤◌, length}
use Rattle.network_sim.specs.Supply.{supply_down, CanSupplyDown, suppliers_at}
use Rattle.network_sim.specs.Machine.{flag_at}
use Rattle.network_sim.proofs.supply.supply_pass.Given as goal

abbrev pub invariant-loop-i : goal.invariant-loop-i
invariant-loop-i l = record {
  within : l.i ≤ length l.nodes;
  can : CanSupplyDown (suppliers_at l.stations) (flag_at l.no_receipts) (flag_at l.no_shipments) l.nodes l.i;
  rest : supply_down (suppliers_at l.stations) (flag_at l.no_receipts) (flag_at l.no_shipments) l.nodes l.i ≡ supply_down (suppliers_at l.stations) (flag_at l.no_receipts) (flag_at l.no_shipments) l.initial.nodes l.initial.i;
}

abbrev pub decreases-loop-i : goal.decreases-loop-i
decreases-loop-i l = l.i
