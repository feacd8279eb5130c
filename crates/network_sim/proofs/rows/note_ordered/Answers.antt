use Rattle.std.proofs.Common.{arith, ◌∙◌, ap}
use Rattle.std.proofs.lemmas.List.{length-set}
use Rattle.node_state.specs.Holdings.{Holding, no_holding}
use Rattle.network_sim.specs.Machine.{node}
use Rattle.network_sim.proofs.Lists.{written}
use Rattle.network_sim.proofs.Ordered.{get_or_any}
use Rattle.network_sim.proofs.rows.note_ordered.Goals as goal

pub loop-i-preserved : goal.loop-i-preserved
loop-i-preserved c = record {
  all = length-set c.loop-i.ordered c.loop-i.i c.ordered.result ∙ c.loop-i.invariant.all;
  each = written c.loop-i.ordered c.loop-i.i c.ordered.result 0 (λ k. (node c.args.nodes.now k).ordered)
      (let a = c.loop-i.invariant.all in let b = c.loop-i-test.true in let d = c.requires in omega arith) c.loop-i.invariant.each
      (c.ordered.ensures ∙ ap (λ (h : Holding). h.ordered) (c.index-nodes-i.is ∙ get_or_any c.args.nodes.now c.loop-i.i c.index-nodes-i.result no_holding c.loop-i-test.true));
}
