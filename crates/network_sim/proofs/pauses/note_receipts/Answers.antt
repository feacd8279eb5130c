use Rattle.std.proofs.Common.{arith, ◌∙◌, false}
use Rattle.std.proofs.lemmas.List.{length-set}
use Rattle.network_model.specs.declared.network.Pause.TheVariants.{Receipts}
use Rattle.network_model.specs.Pauses.{is_paused}
use Rattle.network_sim.proofs.Lists.{written}
use Rattle.network_sim.proofs.pauses.note_receipts.Goals as goal

pub loop-node-preserved : goal.loop-node-preserved
loop-node-preserved c = record {
  all = length-set c.loop-node.paused c.loop-node.node c.receipts_paused.result ∙ c.loop-node.invariant.all;
  each = written c.loop-node.paused c.loop-node.node c.receipts_paused.result false (λ k. is_paused c.args.calendar.now Receipts k c.args.t)
      (let a = c.loop-node.invariant.all in let b = c.loop-node-test.true in omega arith) c.loop-node.invariant.each c.receipts_paused.ensures;
}
