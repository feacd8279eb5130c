use Rattle.std.proofs.Common.{sym, ◌∙◌, ap, arith}
use Rattle.network_model.specs.declared.network.NodeSpec.{NodeSpec}
use Rattle.network_model.specs.Nodes.{no_node}
use Rattle.network_sim.specs.Houses.{is_house}
use Rattle.network_sim.proofs.Ordered.{get_or_any}
use Rattle.network_sim.proofs.Refused.{named_at}
use Rattle.network_sim.proofs.house.is_named.Goals as goal

pub returns-then-is_house : goal.returns-then-is_house
returns-then-is_house c =
    sym (named_at c.args.nodes.now c.args.index c.loop-i.i c.args.count (let a = c.loop-i-test.true in let b = c.loop-i.auto.i-end in omega arith)
    (ap (λ (x : NodeSpec). is_house c.args.index x.rule) (sym (get_or_any c.args.nodes.now c.loop-i.i c.index-nodes-i.result no_node (let a = c.loop-i-test.true in let b = c.requires in omega arith)))
    ∙ sym c.is_house.ensures ∙ c.if-is_house.true))
