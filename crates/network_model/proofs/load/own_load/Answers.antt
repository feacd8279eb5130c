use Rattle.std.proofs.Common.{ap, arith}
use Rattle.network_model.specs.Nodes.{top_of}
use Rattle.network_model.proofs.LoadSteps.{top_read}
use Rattle.network_model.proofs.load.own_load.Goals as goal

pub in_all_periods-requires-clause-units : goal.in_all_periods-requires-clause-units
in_all_periods-requires-clause-units c =
    let same = ap (λ n. top_of n.demand) c.index-as_slice-place.is in
    omega (arith, same, top_read c.args.network.now c.as_slice.result.now c.args.place c.index-as_slice-place.result c.requires.readable c.as_slice.ensures c.requires.within)
