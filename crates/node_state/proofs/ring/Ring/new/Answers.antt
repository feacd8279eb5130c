use Rattle.std.proofs.Common.{◌+◌, arith}
use Rattle.node_state.proofs.Rings.{pushed_zero, full}
use Rattle.node_state.proofs.ring.Ring.new.Goals as goal

pub loop-held-preserved : goal.loop-held-preserved
loop-held-preserved c =
    (pushed_zero c.loop-held.amounts c.push_back.new.self c.loop-held.held (c.args.lead + 1) c.loop-held.invariant.0 (omega arith) c.push_back.ensures.items, omega arith)

pub invariant_of-result : goal.invariant_of-result
invariant_of-result c = full c.loop-held.amounts c.loop-held.held (c.args.lead + 1) c.loop-held.invariant.0 (omega arith) (omega arith)
