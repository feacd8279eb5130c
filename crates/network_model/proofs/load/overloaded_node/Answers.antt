use Rattle.std.proofs.Common.{◌≡◌, suc, ◌<◌, ◌≤◌, take, length, nat_le, option_map, ap, sym, ◌∙◌, arith}
use Rattle.std.proofs.lemmas.List.{length-set}
use Rattle.network_model.specs.Load.{load, order_limit, overloaded_node}
use Rattle.network_model.specs.NetworkFacts.{later_below}
use Rattle.network_model.proofs.Failing.{none_more, found_from_one}
use Rattle.network_model.proofs.LoadSteps.{node_read, limit_is, load_is, orders_next, light_next, is_light, is_heavy}
use Rattle.network_model.proofs.load.overloaded_node.Goals as goal

pub order_most-order-requires-clause-earlier : goal.order_most-order-requires-clause-earlier
order_most-order-requires-clause-earlier c =
    let same = c.as_slice-nodes.ensures in
    let within : c.loop-place.place < length c.args.network.now.nodes = rw (← same) c.loop-place-test.true in
    later_below c.args.network.now c.requires.shaped c.loop-place.place (omega arith)

pub loop-place-preserved : goal.loop-place-preserved
loop-place-preserved c =
    let net = c.args.network.now in
    let place = c.loop-place.place in
    let orders = c.loop-place.orders in
    let kept = c.loop-place.invariant in
    let need = c.need_by-need.result in
    let order = c.order_most-order.result in
    let same = c.as_slice-nodes.ensures in
    let within : place < length net.nodes = rw (← same) c.loop-place-test.true in
    let room : place < length orders = omega (arith, kept.length, c.requires.readable.few_nodes) in
    let limit : order ≡ order_limit net place = limit_is net place (take place orders) need order kept.filled c.need_by-need.ensures.exact c.order_most-order.ensures.exact in
    let initial = ap (λ n. n.initial) (node_read net c.as_slice-nodes.result.now place c.index-nodes-place.result same within) in
    let is = load_is net place (take place orders) _ need order kept.filled initial c.need_by-need.ensures.exact limit in
    let light : load net place ≤ 1000000000000 = omega (arith, is, c.if-nodes-place-gt-MOST_LOAD.false) in
    let small : order ≤ 1000000000000 = omega (arith, c.if-nodes-place-gt-MOST_LOAD.false) in
    record {
      length = length-set orders place order ∙ kept.length;
      passed = none_more (λ k. nat_le (load net k) 1000000000000) place kept.passed (is_light (load net place) 1000000000000 light);
      filled = orders_next net place orders order room kept.filled limit;
      light = light_next place 1000000000000 orders order room kept.light small;
    }

pub returns-then-nodes-place-gt-MOST_LOAD : goal.returns-then-nodes-place-gt-MOST_LOAD
unfolding overloaded_node
returns-then-nodes-place-gt-MOST_LOAD c =
    let net = c.args.network.now in
    let place = c.loop-place.place in
    let orders = c.loop-place.orders in
    let kept = c.loop-place.invariant in
    let need = c.need_by-need.result in
    let order = c.order_most-order.result in
    let same = c.as_slice-nodes.ensures in
    let within : place < length net.nodes = rw (← same) c.loop-place-test.true in
    let limit : order ≡ order_limit net place = limit_is net place (take place orders) need order kept.filled c.need_by-need.ensures.exact c.order_most-order.ensures.exact in
    let initial = ap (λ n. n.initial) (node_read net c.as_slice-nodes.result.now place c.index-nodes-place.result same within) in
    let is = load_is net place (take place orders) _ need order kept.filled initial c.need_by-need.ensures.exact limit in
    let heavy : 1000000000000 < load net place = omega (arith, is, c.if-nodes-place-gt-MOST_LOAD.true) in
    sym (found_from_one (λ k. nat_le (load net k) 1000000000000) place (length net.nodes) kept.passed (is_heavy (load net place) 1000000000000 heavy) within)

pub returns : goal.returns
unfolding overloaded_node
returns c =
    let same = c.as_slice-nodes.ensures in
    let ended : c.loop-place.place ≡ length c.args.network.now.nodes = rw (← same) (omega arith) in
    sym (ap (option_map suc) (rw ended at c.loop-place.invariant.passed))
