use Rattle.std.proofs.Common.{◌≡◌, ℕ, ◌-◌, min, slice_index, replicate, ap, ◌∙◌, arith, rules}
use Rattle.std.proofs.lemmas.List.{get_or_default, length-replicate}
use Rattle.network_model.specs.Nodes.{no_node, node_at}
use Rattle.network_model.specs.Shape.{paths_over}
use Rattle.network_model.proofs.PathSteps.{counts_here, counts_next}
use Rattle.network_model.proofs.shape.count_paths.Goals as goal

pub loop-node-init : goal.loop-node-init
loop-node-init c = record {
  length = search rules;
  within = omega arith;
  counted = counts_here c.args.nodes.now c.args.place (replicate 64 0) (simp length-replicate (omega arith));
}

pub loop-node-preserved : goal.loop-node-preserved
loop-node-preserved c =
    let nodes = c.args.nodes.now in
    let place = c.args.place in
    let counts = c.loop-node.counts in
    let node : ℕ = c.loop-node.node - 1 in
    let sources : c.paths_over.result ≡ min 2 (paths_over (slice_index counts) place (node_at nodes node).sources) =
    c.paths_over.ensures ∙ ap (λ s. min 2 (paths_over (slice_index counts) place s)) c.as_slice.ensures ∙ ap (λ n. min 2 (paths_over (slice_index counts) place n.sources)) (get_or_default nodes node _ no_node (omega arith)) in
    record {
      length = search rules;
      within = omega arith;
      counted = counts_next nodes place c.loop-node.node node c.paths_over.result counts c.requires.earlier (omega arith) (omega arith) (omega arith) c.loop-node.invariant.counted sources;
    }
