use Rattle.std.proofs.Common.{◌≡◌, ◌++◌, ◌<◌, List, length, get_or, rules, subst, ◌∙◌, ap, arith}
use Rattle.std.proofs.lemmas.List.{get_or_default}
use Rattle.decision_model.specs.Nodes.{node_at, no_node}
use Rattle.network_model.specs.declared.network.NodeSpec.{NodeSpec}
use Rattle.node_state.specs.Totals.{Line}
use Rattle.report_text.specs.Network.{node_line, no_line}
use Rattle.report_text.proofs.Lines.{more_lines}
use Rattle.report_text.proofs.network.push_period.Goals as goal

pub loop-place-preserved : goal.loop-place-preserved
loop-place-preserved c =
    let place = c.loop-place.place in
    let nodes = c.args.net.now.nodes in
    let lines = c.args.row.now.lines.items in
    let within : place < length lines = search rules in
    let node : c.index-nodes-place.result ≡ node_at nodes place =
    c.index-nodes-place.is ∙ ap (λ (xs : List NodeSpec). get_or xs place c.index-nodes-place.result) c.as_slice-nodes.ensures
    ∙ get_or_default nodes place c.index-nodes-place.result no_node (omega (arith, within, c.requires)) in
    let line : c.line-item.result ≡ get_or lines place no_line =
    c.line-item.is ∙ ap (λ (xs : List Line). get_or xs place c.line-item.result) c.deref-line-items.ensures.value
    ∙ get_or_default lines place c.line-item.result no_line within in
    let Written : NodeSpec → Line → Type 0 = λ n l. c.push_line.new.out ≡ c.loop-place.out ++ node_line c.args.period n.name l in
    let ByNode : NodeSpec → Type 0 = λ n. Written n c.line-item.result in
    let ByLine : Line → Type 0 = Written (node_at nodes place) in
    more_lines (λ k. node_line c.args.period (node_at nodes k).name (get_or lines k no_line)) place _ _ _ c.loop-place.invariant
    (subst ByLine line (subst ByNode node c.in_ok-push_line.ensures))
