use Rattle.network_sim.proofs.Gather.{none_gathered, slot_room, total_room, next}
use Rattle.network_sim.proofs.orders.gather.Goals as goal

pub loop-slot-init : goal.loop-slot-init
loop-slot-init c = none_gathered c.args.nodes.now c.args.i

pub claim-requires-clause-slot : goal.claim-requires-clause-slot
claim-requires-clause-slot c =
    slot_room c.args.nodes.now c.loop-slot.nodes c.args.i c.loop-slot.slot c.args.callers.now c.requires.node c.requires.callers c.requires.slots c.requires.room c.loop-slot-test.true c.loop-slot.invariant c.index-nodes-i.result

pub claim-requires-clause-total : goal.claim-requires-clause-total
claim-requires-clause-total c = let e = c.front_of-units.ensures in
    total_room c.args.nodes.now c.loop-slot.nodes c.args.i c.loop-slot.slot c.args.callers.now c.requires.node c.requires.callers c.requires.slots c.requires.room c.loop-slot-test.true c.loop-slot.invariant c.index-nodes-i.result _ c.front_of-units.result c.front_of-units.ensures

pub loop-slot-preserved : goal.loop-slot-preserved
loop-slot-preserved c =
    next c.args.nodes.now c.loop-slot.nodes c.args.i c.loop-slot.slot c.args.callers.now c.requires.node c.requires.callers c.requires.slots c.requires.room c.loop-slot-test.true c.loop-slot.invariant c.index-nodes-i.result _ c.front_of-units.result c.claim.new.self c.front_of-units.ensures c.claim.ensures
