use Rattle.std.proofs.Common.{rules, ◌≡◌, ℤ, ◌+◌, ◌*◌, ◌^◌, ◌≤◌, max, pos, ◌+ℤ◌, ◌-ℤ◌, ◌*ℤ◌, length, slice_index_or, sym, ◌∙◌, ap, subst, arith, FitsSigned, to_z, of_z, to_z-of_z}
use Rattle.std.specs.Int.{w128}
use Rattle.std.specs.Prelude.{unsigned_abs}
use Rattle.std.proofs.lemmas.Int.{ints}
use Rattle.decision_model.specs.Stock.{stock_cost}
use Rattle.serial_recursion.proofs.Places.{written_more}
use Rattle.serial_recursion.proofs.Stocks.{place_lacks, base_lacks, walk_room, sum_told}
use Rattle.serial_recursion.specs.Rows.{place_line, place_value, stock_sum, value_at}
use Rattle.serial_recursion.proofs.values.value_row.Goals as goal

pub own_value-own-requires-clause-base : goal.own_value-own-requires-clause-base
own_value-own-requires-clause-base c =
    subst (λ (z : ℤ). unsigned_abs z ≤ 2 ^ 62) (sym c.loop-place.invariant.is_base) (base_lacks c.args.frame.now c.args.rates.now c.args.weights.now c.requires.room)

-- what lacks at the place
lacks_is : (c : goal.After-value) → to_z w128 (of_z w128 c.value.result) ≡ stock_cost 0 1 c.args.weights.now (c.args.frame.now.low +ℤ pos c.loop-place.place)
lacks_is c =
    let fits : FitsSigned w128 c.value.result = search rules in
    to_z-of_z fits ∙ c.value.ensures 0 1 c.args.weights.now c.loop-place.invariant.is_walk ∙ ap (stock_cost 0 1 c.args.weights.now) c.loop-place.invariant.stands

pub own_value-own-requires-clause-lacks : goal.own_value-own-requires-clause-lacks
own_value-own-requires-clause-lacks c =
    subst (λ (z : ℤ). unsigned_abs z ≤ 2 ^ 62) (sym (lacks_is c)) (place_lacks c.args.frame.now c.args.rates.now c.args.weights.now c.requires.room c.loop-place.place (omega (arith, c.loop-place-test.true)))

-- the stock of the place
sum_is : (c : goal.After-value) → pos c.args.rates.now.holding *ℤ (pos (c.args.frame.now.total * c.loop-place.place) -ℤ to_z w128 (of_z w128 c.value-base.result)) +ℤ pos c.args.rates.now.lacking *ℤ to_z w128 (of_z w128 c.value.result) ≡ stock_sum c.args.frame.now c.args.rates.now c.args.weights.now c.loop-place.place
sum_is c = sum_told c.args.frame.now c.args.rates.now c.args.weights.now c.requires.room _ _ c.loop-place.place c.loop-place.invariant.is_base (lacks_is c)

pub own_value-own-requires-clause-own : goal.own_value-own-requires-clause-own
own_value-own-requires-clause-own c =
    subst (λ (z : ℤ). c.args.frame.now.own_scale * unsigned_abs z ≤ 2 ^ 120) (sym (sum_is c)) (c.requires.room.owns c.loop-place.place c.loop-place-test.true)

pub value_of-requires-clause-charge : goal.value_of-requires-clause-charge
value_of-requires-clause-charge c =
    let k = c.loop-place.place in
    let fits : FitsSigned w128 (slice_index_or c.loop-place.charges k (pos 0)) = search rules in
    subst (λ (z : ℤ). unsigned_abs z ≤ 2 ^ 122) (sym (to_z-of_z fits ∙ c.loop-place.invariant.written.left k (omega arith) c.loop-place-test.true)) (c.requires.charge_sizes k c.loop-place-test.true)

pub up-requires-clause-room : goal.up-requires-clause-room
up-requires-clause-room c =
    walk_room c.args.frame.now c.args.rates.now c.args.weights.now c.requires.room c.loop-place.walk c.loop-place.place _ c.loop-place.invariant.is_walk c.loop-place.invariant.stands (omega (arith, c.loop-place-test.true))

pub up-requires-clause-next : goal.up-requires-clause-next
up-requires-clause-next c =
    walk_room c.args.frame.now c.args.rates.now c.args.weights.now c.requires.room c.loop-place.walk (c.loop-place.place + 1) _ c.loop-place.invariant.is_walk (omega (arith, ints, c.loop-place.invariant.stands)) (omega (arith, c.loop-place-test.true))

pub loop-place-preserved : goal.loop-place-preserved
unfolding place_value
loop-place-preserved c =
    let frame = c.args.frame.now in
    let rates = c.args.rates.now in
    let ws = c.args.weights.now in
    let costs = c.args.costs.now in
    let old = c.args.charges.now in
    let k = c.loop-place.place in
    let inv = c.loop-place.invariant in
    let lacks_fits : FitsSigned w128 c.value.result = search rules in
    let own_fits : FitsSigned w128 c.own_value-own.result = search rules in
    let order_fits : FitsSigned w128 (slice_index_or costs c.max.result (pos 0)) = search rules in
    let charge_fits : FitsSigned w128 (slice_index_or c.loop-place.charges k (pos 0)) = search rules in
    let fits : FitsSigned w128 c.value_of.result = search rules in
    let lacks = to_z-of_z lacks_fits ∙ c.value.ensures 0 1 ws inv.is_walk ∙ ap (stock_cost 0 1 ws) inv.stands in
    let sum = sum_told frame rates ws c.requires.room _ _ k inv.is_base lacks in
    let own = to_z-of_z own_fits ∙ c.own_value-own.ensures.exact ∙ ap (λ z. pos frame.own_scale *ℤ z -ℤ place_line frame rates.unit k) sum in
    let order = to_z-of_z order_fits ∙ ap (value_at costs) c.max.ensures in
    let charge = to_z-of_z charge_fits ∙ inv.written.left k (omega arith) c.loop-place-test.true in
    let O = pos frame.own_scale *ℤ stock_sum frame rates ws k -ℤ place_line frame rates.unit k in
    let value = to_z-of_z fits ∙ c.value_of.ensures
    ∙ ap (λ z. z +ℤ to_z w128 (of_z w128 (slice_index_or costs c.max.result (pos 0))) +ℤ to_z w128 (of_z w128 (slice_index_or c.loop-place.charges k (pos 0)))) own
    ∙ ap (λ z. O +ℤ z +ℤ to_z w128 (of_z w128 (slice_index_or c.loop-place.charges k (pos 0)))) order
    ∙ ap (λ z. O +ℤ value_at costs (max k c.args.level) +ℤ z) charge in
    record {
      is_base = inv.is_base;
      is_walk = c.up.ensures.stands 0 1 inv.is_walk;
      stands = omega (arith, ints, c.up.ensures.place, inv.stands);
      written = written_more (λ k z. z ≡ place_value frame rates ws costs c.args.level (value_at old k) k) (λ k z. z ≡ value_at old k) frame.count (length old) c.loop-place.charges k _ inv.written (omega (arith, c.loop-place-test.true, c.requires.charges)) value;
    }
