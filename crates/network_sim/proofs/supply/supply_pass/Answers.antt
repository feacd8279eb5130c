use Rattle.std.proofs.Common.{◌≡◌, ◌<◌, ◌-◌, suc, arith, length, ◌∙◌, ap}
use Rattle.std.proofs.lemmas.List.{length-set}
use Rattle.network_sim.specs.Machine.{no_station, flag_at}
use Rattle.network_sim.specs.declared.station.Station.{Station}
use Rattle.network_sim.specs.Supply.{suppliers_at}
use Rattle.network_sim.proofs.Ordered.{get_or_any}
use Rattle.network_sim.proofs.Supplied.{can_next, down_next}
use Rattle.network_sim.proofs.supply.supply_pass.Goals as goal

pub loop-i-preserved : goal.loop-i-preserved
loop-i-preserved c =
    let j : c.loop-i.i ≡ suc (c.loop-i.i - 1) = omega arith in
    let lt : c.loop-i.i - 1 < length c.args.stations.now = let e = c.requires.stations in let f = c.loop-i.invariant.within in omega arith in
    let q = c.as_slice.ensures ∙ ap (λ (s : Station). s.suppliers) (get_or_any c.args.stations.now (c.loop-i.i - 1) c.index-stations-i.result no_station lt) in
    record {
      within = let e = ap length c.supply_node.ensures ∙ length-set c.loop-i.nodes (c.loop-i.i - 1) _ in omega arith;
      can = can_next (suppliers_at c.args.stations.now) (flag_at c.args.no_receipts.now) (flag_at c.args.no_shipments.now) c.loop-i.nodes c.supply_node.new.nodes c.loop-i.i (c.loop-i.i - 1) c.as_slice.result.now j q c.supply_node.ensures c.loop-i.invariant.can;
      rest = down_next (suppliers_at c.args.stations.now) (flag_at c.args.no_receipts.now) (flag_at c.args.no_shipments.now) c.loop-i.nodes c.supply_node.new.nodes _ c.loop-i.i (c.loop-i.i - 1) c.as_slice.result.now j q c.supply_node.ensures c.loop-i.invariant.rest;
    }
