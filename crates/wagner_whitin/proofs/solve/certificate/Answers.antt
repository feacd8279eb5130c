use Rattle.std.proofs.Common.{◌≡◌, ℕ, ◌+◌, ◌-◌, List, length, map, vec_len, slice_index, ◌∙◌, ap, arith, rules}
use Rattle.std.specs.List.{range_with_len}
use Rattle.std.proofs.lemmas.List.{get_or_read}
use Rattle.lot_lemmas.specs.LotRecursionFacts.{length-least_costs}
use Rattle.wagner_whitin.proofs.Steps.{difference, costs_rise, solved_by}
use Rattle.wagner_whitin.proofs.solve.certificate.Goals as goal

pub differences-requires-clause-some : goal.differences-requires-clause-some
differences-requires-clause-some c =
    let item = c.args.lots.now in
    let same = c.deref-2.ensures.value ∙ c.in_ok-recursion.ensures.costs in
    omega (arith, ap length same, length-least_costs item (length item.demand))

pub differences-requires-clause-rising : goal.differences-requires-clause-rising
differences-requires-clause-rising c = costs_rise c.args.lots.now c.requires c.deref-2.result.now (c.deref-2.ensures.value ∙ c.in_ok-recursion.ensures.costs)

pub index-requires : goal.index-requires
index-requires c =
    let item = c.args.lots.now in
    let wide : vec_len c.in_ok-recursion.recursion.costs ≡ length c.in_ok-recursion.recursion.costs.items = search rules in
    omega (arith, wide, ap length c.in_ok-recursion.ensures.costs, length-least_costs item (length item.demand), ap length c.as_slice.ensures)

pub returns : goal.returns
returns c =
    let costs = c.in_ok-recursion.recursion.costs.items in
    let item = c.args.lots.now in
    let at_end : c.as_slice.result.now ≡ item.demand = c.as_slice.ensures in
    let many : length costs ≡ length item.demand + 1 = ap length c.in_ok-recursion.ensures.costs ∙ length-least_costs item (length item.demand) in
    let cost : c.from-cost.result ≡ slice_index costs (length item.demand) =
    c.from-cost.ensures ∙ get_or_read costs (length c.as_slice.result.now) c.index.result.now (omega (arith, many, ap length at_end)) c.index.ensures 0 ∙ ap (λ (xs : List ℕ). slice_index costs (length xs)) at_end in
    solved_by item c.new.result c.new-2.result costs c.from-cost.result c.in_ok-recursion.ensures.costs
    (c.new.ensures ∙ c.in_ok-orders.ensures)
    (c.new-2.ensures ∙ c.in_ok-duals.ensures ∙ ap (λ (xs : List ℕ). map (difference xs) (range_with_len 0 (length xs - 1))) c.deref-2.ensures.value)
    cost
