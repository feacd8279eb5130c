use Rattle.std.proofs.Common.{rules, ◌≡◌, ◌+◌, ◌*◌, ◌^◌, ◌≤◌, ℤ, pos, take, slice_index, sym, subst, ◌∙◌, ap, arith, w64, FitsSigned, to_z, of_z}
use mir.Syntax.{w128}
use Rattle.std.proofs.lemmas.Int.{ints, to_z-of_z}
use Rattle.std.proofs.lemmas.List.{take_all}
use Rattle.least_values.specs.Stock.{stock_cost, HasRoom}
use Rattle.least_values.proofs.WalkSteps.{cost_nil}
use Rattle.least_values.proofs.WalkBounds.{cost_next, cost_front, cost_most}
use Rattle.least_values.proofs.WalkCasts.{stored_place}
use Rattle.least_values.proofs.stock.cost_of_stock.Goals as goal

pub loop-demand-init : goal.loop-demand-init
loop-demand-init c = sym (cost_nil c.args.over c.args.under (to_z w64 (of_z w64 c.args.position)))

-- the cost with the next demand
next : (c : goal.After-cost_at) → pos (c.loop-demand.cost + slice_index c.args.weights.now c.loop-demand.demand * c.cost_at.result) ≡ stock_cost c.args.over c.args.under (take (c.loop-demand.demand + 1) c.args.weights.now) (to_z w64 (of_z w64 c.args.position))
next c = cost_next c.args.over c.args.under c.args.weights.now (to_z w64 (of_z w64 c.args.position)) c.loop-demand.demand c.loop-demand.cost c.cost_at.result c.loop-demand-test.true c.loop-demand.invariant c.cost_at.ensures

small : (c : goal.After-cost_at) → c.loop-demand.cost + slice_index c.args.weights.now c.loop-demand.demand * c.cost_at.result ≤ 2 ^ 126
small c =
    let ws = c.args.weights.now in
    let y : ℤ = to_z w64 (of_z w64 c.args.position) in
    let room : HasRoom c.args.over c.args.under ws y = subst (HasRoom c.args.over c.args.under ws) (sym (stored_place c.args.position c.requires.room.near)) c.requires.room in
    omega (arith, ints, next c, cost_front c.args.over c.args.under ws y (c.loop-demand.demand + 1), cost_most c.args.over c.args.under ws y room)

pub overflow_mul-cost : goal.overflow_mul-cost
overflow_mul-cost c = omega (arith, small c)

pub overflow_add-cost : goal.overflow_add-cost
overflow_add-cost c = omega (arith, small c)

pub loop-demand-preserved : goal.loop-demand-preserved
loop-demand-preserved c = next c

-- the cost when all demands are added
whole : (c : goal.After-loop-demand) → pos c.loop-demand.cost ≡ stock_cost c.args.over c.args.under c.args.weights.now c.args.position
whole c =
    let ws = c.args.weights.now in
    let all : take c.loop-demand.demand ws ≡ ws = take_all c.loop-demand.demand ws (omega arith) in
    c.loop-demand.invariant ∙ ap (λ xs. stock_cost c.args.over c.args.under xs (to_z w64 (of_z w64 c.args.position))) all ∙ ap (stock_cost c.args.over c.args.under ws) (stored_place c.args.position c.requires.room.near)

pub overflow_cast-result : goal.overflow_cast-result
overflow_cast-result c =
    let most = cost_most c.args.over c.args.under c.args.weights.now c.args.position c.requires.room in
    let low : c.loop-demand.cost ≤ 2 ^ 126 = omega (arith, ints, whole c, most) in
    search rules

pub returns : goal.returns
returns c =
    let most = cost_most c.args.over c.args.under c.args.weights.now c.args.position c.requires.room in
    let low : c.loop-demand.cost ≤ 2 ^ 126 = omega (arith, ints, whole c, most) in
    let fits : FitsSigned w128 (pos c.loop-demand.cost) = search rules in
    to_z-of_z w128 (pos c.loop-demand.cost) fits ∙ whole c
