use Rattle.std.proofs.Common.{arith}
use Rattle.network_model.proofs.LoadSteps.{top_read}
use Rattle.network_model.proofs.load.need_by.Goals as goal

pub in_all_periods-demanded-requires-clause-units : goal.in_all_periods-demanded-requires-clause-units
in_all_periods-demanded-requires-clause-units c =
    omega (arith, top_read c.args.network.now c.as_slice-nodes.result.now c.args.place c.index-nodes-place.result c.requires.readable c.as_slice-nodes.ensures c.requires.within)
