use Rattle.node_state.specs.Holdings.{no_holding}
use Rattle.network_sim.proofs.Arrived.{source_room, units_room, next}
use Rattle.network_sim.proofs.supply.receive_all.Goals as goal

pub shipped_to-units-requires-clause-source : goal.shipped_to-units-requires-clause-source
shipped_to-units-requires-clause-source c =
    source_room c.args.nodes.now c.loop-source.nodes c.args.i c.loop-source.source c.args.paused c.args.suppliers.now c.requires c.loop-source-test.true c.loop-source.invariant no_holding

pub receive-requires-clause-source : goal.receive-requires-clause-source
receive-requires-clause-source c =
    source_room c.args.nodes.now c.loop-source.nodes c.args.i c.loop-source.source c.args.paused c.args.suppliers.now c.requires c.loop-source-test.true c.loop-source.invariant c.index-nodes-i.result

pub receive-requires-clause-lacking : goal.receive-requires-clause-lacking
receive-requires-clause-lacking c =
    units_room c.args.nodes.now c.loop-source.nodes c.args.i c.loop-source.source c.args.paused c.args.suppliers.now c.requires c.loop-source-test.true c.loop-source.invariant c.index-nodes-i.result _ c.shipped_to-units.result c.shipped_to-units.ensures

pub loop-source-preserved : goal.loop-source-preserved
loop-source-preserved c =
    next c.args.nodes.now c.loop-source.nodes c.args.i c.loop-source.source c.args.paused c.args.suppliers.now c.requires c.loop-source-test.true c.loop-source.invariant c.index-nodes-i.result _ c.shipped_to-units.result c.receive.new.self c.shipped_to-units.ensures c.receive.ensures
