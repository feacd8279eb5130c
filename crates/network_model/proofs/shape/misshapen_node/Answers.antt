use Rattle.std.proofs.Common.{◌≡◌, ◌<◌, true, false, length, option_map, suc, subst, ap, sym, ◌∙◌, arith}
use Rattle.network_model.specs.Shape.{is_shaped_at, misshapen_node}
use Rattle.network_model.specs.Paths.{AreLaterBelow}
use Rattle.network_model.specs.NetworkFacts.{later_before}
use Rattle.network_model.proofs.Failing.{none_more, found_from_one}
use Rattle.network_model.proofs.shape.misshapen_node.Goals as goal

pub is_shaped_at-requires-clause-earlier : goal.is_shaped_at-requires-clause-earlier
is_shaped_at-requires-clause-earlier c =
    subst (λ nodes. AreLaterBelow nodes c.loop-place.place) (sym c.as_slice-nodes.ensures) (later_before c.args.network.now.nodes c.loop-place.place c.loop-place.invariant)

pub loop-place-preserved : goal.loop-place-preserved
loop-place-preserved c =
    let place = c.loop-place.place in
    let here : is_shaped_at c.args.network.now.nodes place ≡ true = ap (λ nodes. is_shaped_at nodes place) (sym c.as_slice-nodes.ensures) ∙ sym c.is_shaped_at.ensures ∙ c.if-not-is_shaped_at.false in
    none_more (is_shaped_at c.args.network.now.nodes) place c.loop-place.invariant here

pub returns-then-not-is_shaped_at : goal.returns-then-not-is_shaped_at
unfolding misshapen_node
returns-then-not-is_shaped_at c =
    let nodes = c.args.network.now.nodes in
    let place = c.loop-place.place in
    let here : is_shaped_at nodes place ≡ false = ap (λ nodes. is_shaped_at nodes place) (sym c.as_slice-nodes.ensures) ∙ sym c.is_shaped_at.ensures ∙ c.if-not-is_shaped_at.true in
    let within : place < length nodes = rw c.as_slice-nodes.ensures at c.loop-place-test.true in
    sym (found_from_one (is_shaped_at nodes) place (length nodes) c.loop-place.invariant here within)

pub returns : goal.returns
unfolding misshapen_node
returns c =
    let same = c.as_slice-nodes.ensures in
    let ended : c.loop-place.place ≡ length c.args.network.now.nodes = rw (← same) (omega arith) in
    sym (ap (option_map suc) (rw ended at c.loop-place.invariant))
