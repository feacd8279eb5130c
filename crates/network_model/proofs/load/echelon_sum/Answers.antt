use Rattle.std.proofs.Common.{◌≡◌, suc, ap, ◌∙◌, arith}
use Rattle.network_model.specs.Load.{echelon_sum, own_load}
use Rattle.network_model.proofs.load.echelon_sum.Goals as goal

pub returns-clause-exact : goal.returns-clause-exact
returns-clause-exact c =
    let ended : c.loop-node.node ≡ suc c.args.place = omega arith in
    c.loop-node.invariant.sum ∙ ap (echelon_sum c.args.network.now.nodes c.args.place (own_load c.args.network.now)) ended
