use Rattle.std.proofs.Common.{◌≡◌, ◌<◌, ◌∙◌, List, [], ◌∷◌, arith, length, ap, length-append, get_or}
use Rattle.node_state.specs.Holdings.{Holding, new_holding, legs_of, no_holding}
use Rattle.network_model.specs.declared.network.NodeSpec.{NodeSpec}
use Rattle.network_model.specs.Nodes.{node_at, no_node}
use Rattle.network_sim.specs.declared.station.Station.{Station}
use Rattle.network_sim.specs.Machine.{node, station, no_station}
use Rattle.network_sim.proofs.Lists.{pushed}
use Rattle.network_sim.proofs.Ordered.{get_or_any}
use Rattle.network_sim.proofs.stations.make_nodes.Goals as goal

pub loop-place-preserved : goal.loop-place-preserved
loop-place-preserved c =
    let in_specs : c.loop-place.place < length c.as_slice-specs.result.now = c.loop-place-test.true in
    let lt : c.loop-place.place < length c.args.stations.now = let a = ap length c.as_slice-specs.ensures in let b = c.requires.stations.all in omega arith in
    let spec : c.index-specs-place.result ≡ node_at c.args.network.now.nodes c.loop-place.place =
    c.index-specs-place.is ∙ get_or_any c.as_slice-specs.result.now c.loop-place.place c.index-specs-place.result no_node in_specs ∙ ap (λ (xs : List NodeSpec). get_or xs c.loop-place.place no_node) c.as_slice-specs.ensures in
    let known = get_or_any c.args.stations.now c.loop-place.place c.index-stations-place.result no_station lt in
    let e = c.in_ok-push.ensures.items in
    record {
      all = ap length e ∙ (let a = length-append c.loop-place.nodes.items (c.in_ok-node.node ∷ []) in let b = c.loop-place.invariant.all in omega arith);
      each = λ k less. ap (λ (xs : List Holding). node xs k) e
          ∙ pushed (λ n h. h ≡ new_holding (node_at c.args.network.now.nodes n).initial (legs_of (node_at c.args.network.now.nodes n).sources) (length (station c.args.stations.now n).callers))
          c.loop-place.nodes.items c.in_ok-node.node no_holding c.loop-place.place c.loop-place.invariant.all c.loop-place.invariant.each
          (c.in_ok-node.ensures ∙ (λ j. new_holding (spec j).initial (legs_of ((c.as_slice.ensures ∙ ap (λ (x : NodeSpec). x.sources) spec) j)) (length ((c.as_slice-callers.ensures ∙ ap (λ (s : Station). s.callers) known) j)))) k less;
    }
