use Rattle.std.proofs.Common.{arith, ◌∙◌, false}
use Rattle.std.proofs.lemmas.List.{length-set}
use Rattle.network_model.specs.declared.network.Pause.TheVariants.{Shipments}
use Rattle.network_model.specs.Pauses.{is_paused}
use Rattle.network_sim.proofs.Lists.{written}
use Rattle.network_sim.proofs.pauses.note_shipments.Goals as goal

pub loop-node-preserved : goal.loop-node-preserved
loop-node-preserved c = record {
  all = length-set c.loop-node.paused c.loop-node.node c.shipments_paused.result ∙ c.loop-node.invariant.all;
  each = written c.loop-node.paused c.loop-node.node c.shipments_paused.result false (λ k. is_paused c.args.calendar.now Shipments k c.args.t)
      (let a = c.loop-node.invariant.all in let b = c.loop-node-test.true in omega arith) c.loop-node.invariant.each c.shipments_paused.ensures;
}
