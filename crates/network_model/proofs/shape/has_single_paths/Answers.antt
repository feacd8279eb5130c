use Rattle.std.proofs.Common.{◌≡◌, ap, sym, ◌∙◌, true, arith}
use Rattle.std.proofs.lemmas.List.{get_or_default}
use Rattle.network_model.specs.Nodes.{no_node, node_at, is_echelon}
use Rattle.network_model.proofs.PathSteps.{single_counts}
use Rattle.network_model.proofs.shape.has_single_paths.Goals as goal

pub returns-else-not-is_echelon : goal.returns-else-not-is_echelon
returns-else-not-is_echelon c =
    let nodes = c.args.nodes.now in
    let place = c.args.place in
    let is : is_echelon (node_at nodes place).rule ≡ true = ap (λ n. is_echelon n.rule) (get_or_default nodes place no_node _ c.requires.within) ∙ sym c.is_echelon.ensures ∙ c.if-not-is_echelon.false in
    c.are_single.ensures ∙ single_counts nodes place c.count_paths.result (omega arith) is c.count_paths.ensures.exact
