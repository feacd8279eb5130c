use Rattle.std.proofs.Common.{rules, ◌≡◌, ℕ, ◌+◌, ◌<◌, ◌^◌, ℤ, pos, ◌+ℤ◌, ◌*ℤ◌, ◌≤ℤ◌, length, take, slice_index, sym, subst, ◌∙◌, ap, FitsSigned, to_z, of_z}
use mir.Syntax.{w128}
use Rattle.std.proofs.lemmas.Int.{to_z-of_z}
use Rattle.demand_law.specs.Integers.{le_trans}
use Rattle.finite_recursion.specs.Demands.{listed_sum}
use Rattle.finite_recursion.specs.Rows.{value_at}
use Rattle.finite_recursion.proofs.Demands.{listed_sum_more, listed_sum_front, listed_sum_so_far}
use Rattle.finite_recursion.proofs.costs.weigh.Goals as goal

-- the values that the listed demands lead to are at least 0
least : (c : goal.After-add_weighed-arg-1) → (i : ℕ) → i < length c.args.listed.now → pos 0 ≤ℤ value_at c.args.later.now (slice_index c.args.listed.now i)
least c i lt = c.requires.least (slice_index c.args.listed.now i) (c.requires.within i lt)

-- the sum so far
so_far : (c : goal.After-add_weighed-arg-1) → to_z w128 c.loop-demand.sum-bits ≡ listed_sum c.args.weights.now (take c.loop-demand.demand-index c.args.listed.now) (value_at c.args.later.now)
so_far c = c.loop-demand.invariant

pub add_weighed-sum-requires-clause-sum : goal.add_weighed-sum-requires-clause-sum
add_weighed-sum-requires-clause-sum c =
    rw (so_far c) (listed_sum_so_far c.args.weights.now c.args.listed.now c.loop-demand.demand-index (value_at c.args.later.now) (least c))

-- the sum with the next demand
next : (c : goal.After-add_weighed-arg-1) → to_z w128 c.loop-demand.sum-bits +ℤ pos (slice_index c.args.weights.now (slice_index c.args.listed.now c.loop-demand.demand-index)) *ℤ value_at c.args.later.now (slice_index c.args.listed.now c.loop-demand.demand-index) ≡ listed_sum c.args.weights.now (take (c.loop-demand.demand-index + 1) c.args.listed.now) (value_at c.args.later.now)
next c =
    let here = slice_index c.args.listed.now c.loop-demand.demand-index in
    ap (λ z. z +ℤ pos (slice_index c.args.weights.now here) *ℤ value_at c.args.later.now here) (so_far c)
    ∙ sym (listed_sum_more c.args.weights.now c.args.listed.now c.loop-demand.demand-index (value_at c.args.later.now) c.loop-demand-test.true)

stored : (c : goal.After-add_weighed-arg-1) → to_z w128 (of_z w128 (value_at c.args.later.now (slice_index c.args.listed.now c.loop-demand.demand-index))) ≡ value_at c.args.later.now (slice_index c.args.listed.now c.loop-demand.demand-index)
stored c =
    let fits : FitsSigned w128 (value_at c.args.later.now (slice_index c.args.listed.now c.loop-demand.demand-index)) = search rules in
    to_z-of_z w128 (value_at c.args.later.now (slice_index c.args.listed.now c.loop-demand.demand-index)) fits

pub add_weighed-sum-requires-clause-fits : goal.add_weighed-sum-requires-clause-fits
add_weighed-sum-requires-clause-fits c =
    let front = listed_sum_front c.args.weights.now c.args.listed.now (c.loop-demand.demand-index + 1) (value_at c.args.later.now) (least c) in
    rw (stored c) (subst (λ (z : ℤ). z ≤ℤ pos (2 ^ 120)) (sym (next c)) (le_trans _ _ _ front c.requires.fits))

pub loop-demand-preserved : goal.loop-demand-preserved
loop-demand-preserved c =
    let here = slice_index c.args.listed.now c.loop-demand.demand-index in
    let fits : FitsSigned w128 c.add_weighed-sum.result = search rules in
    let value : FitsSigned w128 (value_at c.args.later.now here) = search rules in
    let before : to_z w128 c.loop-demand.sum-bits ≡ listed_sum c.args.weights.now (take c.loop-demand.demand-index c.args.listed.now) (value_at c.args.later.now) = c.loop-demand.invariant in
    to_z-of_z w128 c.add_weighed-sum.result fits
    ∙ c.add_weighed-sum.ensures
    ∙ ap (λ z. to_z w128 c.loop-demand.sum-bits +ℤ pos (slice_index c.args.weights.now here) *ℤ z) (to_z-of_z w128 (value_at c.args.later.now here) value)
    ∙ ap (λ z. z +ℤ pos (slice_index c.args.weights.now here) *ℤ value_at c.args.later.now here) before
    ∙ sym (listed_sum_more c.args.weights.now c.args.listed.now c.loop-demand.demand-index (value_at c.args.later.now) c.loop-demand-test.true)
