use Rattle.std.proofs.Common.{rules}
use Rattle.node_state.specs.Holdings.{leg_placed}
use Rattle.node_state.specs.Sound.{sound_placed, refilled}
use Rattle.node_state.proofs.node.Node.place.Goals as goal

pub invariant_of-self : goal.invariant_of-self
invariant_of-self c =
    sound_placed _ c.args.order _ c.self.invariant (search rules)
    (refilled (leg_placed c.args.order) _ _ _ _ _ c.place_all.ensures c.deref_mut.ensures.value c.deref_mut.ensures.len)
