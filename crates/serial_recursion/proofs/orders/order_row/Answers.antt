use Rattle.std.proofs.Common.{◌≡◌, ◌+◌, ◌-◌, ◌*◌, ◌^◌, ◌≤◌, ℕ, ℤ, List, pos, ◌+ℤ◌, ◌*ℤ◌, sum, length, rules, sym, ◌∙◌, ap, subst, arith, slice_index_or, to_z-of_z, FitsSigned}
use Rattle.std.specs.Int.{w128}
use Rattle.std.specs.Prelude.{unsigned_abs}
use Rattle.std.proofs.lemmas.Int.{unsigned_abs-mul}
use Rattle.std.proofs.lemmas.Nat.{mul-le}
use Rattle.demand_law.specs.Law.{weighted}
use Rattle.demand_law.specs.WeightedSums.{weighted-ext_within}
use Rattle.serial_lemmas.specs.Sizes.{weighted_times}
use Rattle.serial_recursion.proofs.Places.{written_none, written_more}
use Rattle.serial_recursion.specs.Rows.{place_cost, place_line, row_at, value_at}
use Rattle.serial_recursion.proofs.orders.order_row.Goals as goal

-- the value that a demand leads to from a place
there : (values : List ℤ) (start greatest k d : ℕ) → d ≤ greatest → value_at values (start + greatest + k - d) ≡ row_at values start (greatest + k - d)
there values start greatest k d le = ap (value_at values) (omega (arith, le))

pub sum_demands-requires-clause-small : goal.sum_demands-requires-clause-small
sum_demands-requires-clause-small c = λ k d lt less.
    let room = c.requires.room in
    let frame = c.args.frame.now in
    let g = frame.greatest in
    let v = unsigned_abs (row_at c.args.values.now c.args.start (g + k - d)) in
    let s = sum c.args.weights.now in
    let le : d ≤ g = omega (arith, less, room.demands) in
    let fits = room.values (g + k - d) (omega (arith, lt, le)) in
    let more = mul-le 1 (s * v) frame.num (s * v) room.some_num (omega arith) in
    subst (λ (z : ℤ). s * unsigned_abs z ≤ 2 ^ 120) (sym (there c.args.values.now c.args.start g k d le)) (omega (arith, fits, more))

pub loop-place-init : goal.loop-place-init
loop-place-init c =
    let frame = c.args.frame.now in
    let room = c.requires.room in
    let row = row_at c.args.values.now c.args.start in
    written_none (λ k z. z ≡ place_cost frame c.args.weights.now c.args.unit row k) (λ k z. z ≡ weighted c.args.weights.now (λ d. row (frame.greatest + k - d))) frame.count (length c.args.costs.now) c.sum_demands.new.sums c.sum_demands.ensures.same
    (λ k lt. c.sum_demands.ensures.sums k lt
    ∙ weighted-ext_within c.args.weights.now (λ d. value_at c.args.values.now (c.args.start + frame.greatest + k - d)) (λ d. row (frame.greatest + k - d))
    (λ d less. there c.args.values.now c.args.start frame.greatest k d (omega (arith, less, room.demands))))

pub order_cost-requires-clause-later : goal.order_cost-requires-clause-later
order_cost-requires-clause-later c =
    let frame = c.args.frame.now in
    let room = c.requires.room in
    let k = c.loop-place.place in
    let ws = c.args.weights.now in
    let f : ℕ → ℤ = λ d. row_at c.args.values.now c.args.start (frame.greatest + k - d) in
    let fits : FitsSigned w128 (slice_index_or c.loop-place.costs k (pos 0)) = search rules in
    let is = c.loop-place.invariant.left k (omega arith) c.loop-place-test.true in
    let whole = weighted_times frame.num (2 ^ 120) ws f (λ d less. room.values (frame.greatest + k - d) (omega (arith, less, room.demands, c.loop-place-test.true))) in
    subst (λ (z : ℤ). frame.num * unsigned_abs z ≤ 2 ^ 120) (sym (to_z-of_z fits ∙ is)) (omega (arith, whole, unsigned_abs-mul (pos frame.num) (weighted ws f)))

pub loop-place-preserved : goal.loop-place-preserved
unfolding place_cost
loop-place-preserved c =
    let frame = c.args.frame.now in
    let k = c.loop-place.place in
    let row = row_at c.args.values.now c.args.start in
    let ws = c.args.weights.now in
    let cost_fits : FitsSigned w128 (slice_index_or c.loop-place.costs k (pos 0)) = search rules in
    let fits : FitsSigned w128 c.order_cost.result = search rules in
    let is = c.loop-place.invariant.left k (omega arith) c.loop-place-test.true in
    let exact = to_z-of_z fits ∙ c.order_cost.ensures ∙ ap (λ z. place_line frame c.args.unit k +ℤ pos frame.num *ℤ z) (to_z-of_z cost_fits ∙ is) in
    written_more (λ k z. z ≡ place_cost frame ws c.args.unit row k) (λ k z. z ≡ weighted ws (λ d. row (frame.greatest + k - d))) frame.count (length c.args.costs.now) c.loop-place.costs k _ c.loop-place.invariant (omega (arith, c.loop-place-test.true, c.requires.costs)) exact
