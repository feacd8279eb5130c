use Rattle.std.proofs.Common.{◌<◌, length, rules}
use Rattle.network_sim.proofs.Wired.{none_entered, sources_read, may_enter, next_entered, all_wired}
use Rattle.network_sim.proofs.wiring.wire.Goals as goal

pub loop-node-init : goal.loop-node-init
loop-node-init c = none_entered c.args.network.now.nodes (length c.as_slice-nodes.result.now) _ _ (search rules) (search rules) (search rules)

pub enter-requires : goal.enter-requires
enter-requires c =
    let lt : c.loop-node.node < length c.args.network.now.nodes = search rules in
    may_enter c.args.network.now c.loop-node.node c.loop-node.callers.items c.deref_mut.result.now c.loop-node.suppliers.items c.as_slice-sources.result.now
    c.requires lt c.loop-node.invariant (search rules) (sources_read c.as_slice-nodes.result.now c.args.network.now.nodes c.loop-node.node c.index-nodes-node.result c.as_slice-sources.result.now c.as_slice-sources.ensures c.as_slice-nodes.ensures lt)

pub loop-node-preserved : goal.loop-node-preserved
loop-node-preserved c =
    let lt : c.loop-node.node < length c.args.network.now.nodes = search rules in
    next_entered c.args.network.now c.loop-node.node c.loop-node.callers.len c.loop-node.callers.items c.deref_mut.result.now c.enter.new.callers _ c.loop-node.suppliers.items c.push.new.self.items c.as_slice-sources.result.now c.in_ok-enter.field-0
    c.requires lt c.loop-node.invariant c.deref_mut.ensures.value c.deref_mut.ensures.len
    (sources_read c.as_slice-nodes.result.now c.args.network.now.nodes c.loop-node.node c.index-nodes-node.result c.as_slice-sources.result.now c.as_slice-sources.ensures c.as_slice-nodes.ensures lt) (search rules) (search rules) (search rules)

pub returns : goal.returns
returns c = all_wired c.args.network.now c.loop-node.node c.loop-node.callers.items c.loop-node.suppliers.items c.requires (search rules) c.loop-node.invariant
