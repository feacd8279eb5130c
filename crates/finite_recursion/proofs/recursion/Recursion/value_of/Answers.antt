use Rattle.std.proofs.Common.{rules, ◌≡◌, ◌⊎◌, inl, inr, ◌-◌, ◌^◌, ◌<◌, ℤ, pos, ◌+ℤ◌, ◌-ℤ◌, ◌*ℤ◌, ◌≤ℤ◌, ◌<ℤ◌, sym, subst, ◌∙◌, ap, arith, FitsSigned, to_z, of_z, w64}
use mir.Syntax.{w128}
use Rattle.std.proofs.lemmas.Int.{ints, to_z-of_z}
use Rattle.demand_law.specs.Integers.{le_trans}
use Rattle.value_cert.specs.FiniteRules.{last_period}
use Rattle.value_cert.specs.FiniteValues.{value_of}
use Rattle.finite_recursion.specs.Choices.{order_value}
use Rattle.finite_recursion.specs.Recursions.{next_at}
use Rattle.finite_recursion.specs.Rows.{value_at}
use Rattle.finite_recursion.specs.Sizes.{IsSmallValue}
use Rattle.finite_recursion.proofs.BestOrders.{from_case}
use Rattle.finite_recursion.proofs.FoundFacts.{units, from_last, below_cap, stored_at, stay_most, stored_cost, cost_with, above_small, above_known, top_setup, bottom_setup}
use Rattle.finite_recursion.proofs.Known.{valid_known}
use Rattle.finite_recursion.proofs.OrderValues.{stay_value}
use Rattle.finite_recursion.proofs.RowFacts.{row_facts}
use Rattle.finite_recursion.proofs.recursion.Recursion.value_of.Goals as goal

pub returns-then-to-at-clause-value : goal.returns-then-to-at-clause-value
returns-then-to-at-clause-value c = λ first knows exact.
    let r = c.args.self.now in
    let stay : FitsSigned w128 c.args.found.now.stay = search rules in
    let at : FitsSigned w64 c.position-at.result = search rules in
    let same : c.args.to ≡ c.position-at.result = sym (to_z-of_z w64 c.args.to c.ranges.to) ∙ ap (to_z w64) c.if-to-at.true ∙ to_z-of_z w64 c.position-at.result at in
    let to_is : c.args.to ≡ next_at r.finite.now first = same ∙ c.position-at.ensures.known first knows in
    to_z-of_z w128 c.args.found.now.stay stay ∙ exact ∙ sym (stay_value r.finite.now first.later (first.rows - 1) (last_period r.finite.now first) (next_at r.finite.now first))
    ∙ ap (λ y. value_of r.finite.now first.later (first.rows - 1) (last_period r.finite.now first) (next_at r.finite.now first) y) (sym to_is)

cap_is : (c : goal.After-place_at-arg-1) → to_z w64 (of_z w64 c.args.self.now.finite.now.cap) ≡ c.args.self.now.finite.now.cap
cap_is c = let cap : FitsSigned w64 c.args.self.now.finite.now.cap = search rules in to_z-of_z w64 c.args.self.now.finite.now.cap cap

pub place_at-requires-clause-cap : goal.place_at-requires-clause-cap
place_at-requires-clause-cap c =
    let r = c.args.self.now in
    let cap = (valid_known r.finite.now r.valid).regular.readable.cap in
    rw (cap_is c) (omega (arith, ints, cap.least, cap.most))

pub place_at-requires-clause-near : goal.place_at-requires-clause-near
place_at-requires-clause-near c =
    let r = c.args.self.now in
    let f = row_facts r c.requires.left in
    rw (cap_is c, to_z-of_z w64 c.args.to c.ranges.to) (omega (arith, ints, c.requires.from, f.few))

-- the place that an order leads to
at_is : (c : goal.After-place_at) → c.args.self.now.finite.now.cap -ℤ pos c.place_at.result ≡ c.args.to
at_is c =
    let cap : FitsSigned w64 c.args.self.now.finite.now.cap = search rules in
    ap (λ z. z -ℤ pos c.place_at.result) (sym (to_z-of_z w64 c.args.self.now.finite.now.cap cap)) ∙ c.place_at.ensures ∙ to_z-of_z w64 c.args.to c.ranges.to

-- it is above the next one
above : (c : goal.After-place_at) → c.place_at.result < c.args.self.now.row.place
above c = by (from_case (c.args.self.now.finite.now.cap -ℤ pos c.args.self.now.row.place) c.args.to c.requires.from)
  where
    by : ((c.args.self.now.finite.now.cap -ℤ pos c.args.self.now.row.place) ≡ c.args.to) ⊎ ((c.args.self.now.finite.now.cap -ℤ pos c.args.self.now.row.place) <ℤ c.args.to) → c.place_at.result < c.args.self.now.row.place
    by (inl same) = absurd (c.if-to-at.false (ap (of_z w64) (sym same ∙ sym c.position-at.ensures.next)))
    by (inr more) = omega (arith, ints, more, at_is c)

pub offset_bounds-self-place_at : goal.offset_bounds-self-place_at
offset_bounds-self-place_at c = let f = row_facts c.args.self.now c.requires.left in omega (arith, above c, f.few)

pub bounds-self-place_at : goal.bounds-self-place_at
bounds-self-place_at c = let f = row_facts c.args.self.now c.requires.left in omega (arith, above c, f.within, c.args.self.now.tables.are_costs)

-- the cost of that place
cost_is : (c : goal.After-cost_with_units-arg-1) → to_z w128 (of_z w128 (value_at c.args.self.now.costs.now c.place_at.result)) ≡ value_at c.args.self.now.costs.now c.place_at.result
cost_is c = let r = c.args.self.now in stored_cost r c.requires.left c.place_at.result (above c.before.before)

pub cost_with_units-cost-requires-clause-stay_least : goal.cost_with_units-cost-requires-clause-stay_least
cost_with_units-cost-requires-clause-stay_least c =
    let r = c.args.self.now in
    subst (λ (z : ℤ). pos 0 ≤ℤ z) (sym (cost_is c)) (r.small.small_costs c.place_at.result (above c.before.before)).least

pub cost_with_units-cost-requires-clause-stay_most : goal.cost_with_units-cost-requires-clause-stay_most
cost_with_units-cost-requires-clause-stay_most c =
    let r = c.args.self.now in
    subst (λ (z : ℤ). z ≤ℤ pos (2 ^ 120)) (sym (cost_is c)) (stay_most r c.requires.left (value_at r.costs.now c.place_at.result) (r.small.small_costs c.place_at.result (above c.before.before)))

-- the units up to the position that the order leads to
pub cost_with_units-cost-requires-clause-least : goal.cost_with_units-cost-requires-clause-least
cost_with_units-cost-requires-clause-least c =
    let r = c.args.self.now in
    let unit : FitsSigned w128 r.row.scales.unit = search rules in
    rw (to_z-of_z w128 r.row.scales.unit unit, to_z-of_z w64 c.args.to c.ranges.to) (units r c.requires.left c.args.to (le_trans _ _ _ (from_last r c.requires.left) c.requires.from) c.requires.below).0

pub cost_with_units-cost-requires-clause-most : goal.cost_with_units-cost-requires-clause-most
cost_with_units-cost-requires-clause-most c =
    let r = c.args.self.now in
    let unit : FitsSigned w128 r.row.scales.unit = search rules in
    rw (to_z-of_z w128 r.row.scales.unit unit, to_z-of_z w64 c.args.to c.ranges.to) (units r c.requires.left c.args.to (le_trans _ _ _ (from_last r c.requires.left) c.requires.from) c.requires.below).1

pub order_value-requires-clause-setup_least : goal.order_value-requires-clause-setup_least
order_value-requires-clause-setup_least c = bottom_setup c.args.self.now c.requires.left

pub order_value-requires-clause-setup_most : goal.order_value-requires-clause-setup_most
order_value-requires-clause-setup_most c = top_setup c.args.self.now c.requires.left

-- the position of the next place
next : (c : goal.After-cost_with_units-cost) → to_z w64 (of_z w64 c.position-at.result) ≡ c.args.self.now.finite.now.cap -ℤ pos c.args.self.now.row.place
next c =
    let r = c.args.self.now in
    ap (λ z. to_z w64 (of_z w64 z)) c.position-at.ensures.next ∙ stored_at r c.requires.left (r.finite.now.cap -ℤ pos r.row.place) (from_last r c.requires.left) (below_cap r c.requires.left)

pub order_value-requires-clause-least : goal.order_value-requires-clause-least
order_value-requires-clause-least c =
    let r = c.args.self.now in
    subst (λ (z : ℤ). (pos 0 -ℤ pos (2 ^ 120)) ≤ℤ (r.row.scales.unit *ℤ z)) (sym (next c)) (units r c.requires.left (r.finite.now.cap -ℤ pos r.row.place) (from_last r c.requires.left) (below_cap r c.requires.left)).0

pub order_value-requires-clause-most : goal.order_value-requires-clause-most
order_value-requires-clause-most c =
    let r = c.args.self.now in
    subst (λ (z : ℤ). (r.row.scales.unit *ℤ z) ≤ℤ pos (2 ^ 120)) (sym (next c)) (units r c.requires.left (r.finite.now.cap -ℤ pos r.row.place) (from_last r c.requires.left) (below_cap r c.requires.left)).1

-- what the order leads to costs
told : (c : goal.After-cost_with_units-cost) → to_z w128 (of_z w128 c.cost_with_units-cost.result) ≡ value_at c.args.self.now.costs.now c.place_at.result +ℤ c.args.self.now.row.scales.unit *ℤ (c.args.self.now.finite.now.cap -ℤ pos c.place_at.result)
told c =
    let r = c.args.self.now in
    let unit : FitsSigned w128 r.row.scales.unit = search rules in
    let result : FitsSigned w128 c.cost_with_units-cost.result = search rules in
    to_z-of_z w128 c.cost_with_units-cost.result result
    ∙ c.cost_with_units-cost.ensures
    ∙ ap (λ z. z +ℤ to_z w128 (of_z w128 r.row.scales.unit) *ℤ to_z w64 (of_z w64 c.args.to)) (cost_is c.before)
    ∙ ap (λ u. value_at r.costs.now c.place_at.result +ℤ u *ℤ to_z w64 (of_z w64 c.args.to)) (to_z-of_z w128 r.row.scales.unit unit)
    ∙ ap (λ y. value_at r.costs.now c.place_at.result +ℤ r.row.scales.unit *ℤ y) (to_z-of_z w64 c.args.to c.ranges.to ∙ sym (at_is c.before.before.before))

pub order_value-requires-clause-cost_least : goal.order_value-requires-clause-cost_least
order_value-requires-clause-cost_least c =
    subst (λ (z : ℤ). (pos 0 -ℤ pos (2 ^ 121)) ≤ℤ z) (sym (told c)) (cost_with c.args.self.now c.requires.left c.place_at.result (above c.before.before.before)).0

pub order_value-requires-clause-cost_most : goal.order_value-requires-clause-cost_most
order_value-requires-clause-cost_most c =
    subst (λ (z : ℤ). z ≤ℤ pos (2 ^ 121)) (sym (told c)) (cost_with c.args.self.now c.requires.left c.place_at.result (above c.before.before.before)).1

-- the value that is returned
returned : (c : goal.After-order_value) → to_z w128 (of_z w128 c.order_value.result) ≡ order_value c.args.self.now.row.scales.setup c.args.self.now.row.scales.unit (c.args.self.now.finite.now.cap -ℤ pos c.args.self.now.row.place) (value_at c.args.self.now.costs.now c.place_at.result +ℤ c.args.self.now.row.scales.unit *ℤ (c.args.self.now.finite.now.cap -ℤ pos c.place_at.result))
returned c =
    let r = c.args.self.now in
    let result : FitsSigned w128 c.order_value.result = search rules in
    to_z-of_z w128 c.order_value.result result
    ∙ c.order_value.ensures
    ∙ ap (λ z. order_value r.row.scales.setup r.row.scales.unit z (to_z w128 (of_z w128 c.cost_with_units-cost.result))) (next c.before)
    ∙ ap (order_value r.row.scales.setup r.row.scales.unit (r.finite.now.cap -ℤ pos r.row.place)) (told c.before)

pub returns-clause-value : goal.returns-clause-value
returns-clause-value c = λ first knows exact.
    let r = c.args.self.now in
    returned c
    ∙ above_known r c.requires.left first c.place_at.result knows (above c.before.before.before.before)
    ∙ ap (value_of r.finite.now first.later (first.rows - 1) (last_period r.finite.now first) (next_at r.finite.now first)) (at_is c.before.before.before.before)

pub returns-clause-small : goal.returns-clause-small
returns-clause-small c =
    let r = c.args.self.now in
    subst (IsSmallValue r.finite.now r.rows) (sym (returned c)) (above_small r c.requires.left c.place_at.result (above c.before.before.before.before))
