use Rattle.std.proofs.Common.{◌≡◌, ℕ, ◌<◌, List, length, refl, ◌∙◌, ap, subst}
use Rattle.network_model.specs.declared.network.Span.{Span}
use Rattle.network_model.specs.Nodes.{node_at}
use Rattle.network_model.specs.Pauses.{is_paused}
use Rattle.node_state.specs.Holdings.{new_holding, legs_of}
use Rattle.network_sim.specs.declared.station.Station.{Station}
use Rattle.network_sim.specs.Machine.{node, station}
use Rattle.network_sim.proofs.Begun.{new_holds, begun, replicate_length, nothing_demanded}
use Rattle.network_sim.proofs.state.State.new.Goals as goal

pub returns : goal.returns
returns c = λ demand handed.
    let net = c.args.network.now in
    let stations = c.in_ok-stations.ensures in
    let each = subst (λ (xs : List Station). (k : ℕ) → k < length net.nodes → node c.in_ok-nodes.nodes.items k ≡ new_holding (node_at net.nodes k).initial (legs_of (node_at net.nodes k).sources) (length (station xs k).callers))
    c.deref.ensures.value c.in_ok-nodes.ensures.each in
    let count = ap length c.as_slice-count.ensures in
    begun net c.requires demand handed _
    (new_holds net c.requires demand handed c.in_ok-stations.stations.items c.in_ok-nodes.nodes.items stations c.in_ok-nodes.ensures.all each)
    stations
    (nothing_demanded net demand handed (length c.as_slice-count.result.now) 0 c.in_ok-demanded.demanded.items refl (c.in_ok-demanded.ensures.items_if_clones_equal (λ y e. e)) count)
    (λ what i t. c.in-Ok.ensures.ok what i t ∙ ap (λ (spans : List Span). is_paused spans what i t) c.as_slice.ensures)
    (ap length (c.in_ok-ordered.ensures.items_if_clones_equal (λ y e. e)) ∙ replicate_length (length c.as_slice-count.result.now) 0 ∙ count)
    (c.in_ok-paused.ensures.orders ∙ count)
    (c.in_ok-paused.ensures.receipts ∙ count)
    (c.in_ok-paused.ensures.shipments ∙ count)
    refl refl refl
