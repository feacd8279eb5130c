use Rattle.node_state.specs.Sound.{new_sound}
use Rattle.node_state.proofs.node.Node.new.Goals as goal

pub invariant_of-result : goal.invariant_of-result
invariant_of-result c =
    new_sound c.args.initial c.args.sources.now c.args.claims c.in_ok-legs.legs.items c.in_ok-claims.claims.items c.requires.initial c.in_ok-legs.ensures c.in_ok-claims.ensures
