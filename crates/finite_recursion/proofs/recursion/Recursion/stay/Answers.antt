use Rattle.std.proofs.Common.{rules, ◌≡◌, ℕ, suc, ◌+◌, ◌-◌, ◌<◌, ◌≤◌, ◌^◌, ℤ, pos, ◌+ℤ◌, ◌-ℤ◌, ◌*ℤ◌, ◌≤ℤ◌, List, length, take, drop, false, length-take, length-drop, sym, subst, ◌∙◌, ap, arith, FitsSigned, to_z, of_z}
use mir.Syntax.{w128}
use Rattle.std.proofs.lemmas.Int.{to_z-of_z}
use Rattle.demand_law.specs.Law.{weighted}
use Rattle.decision_model.specs.FiniteProblem.{law_of_period}
use Rattle.decision_model.specs.Stock.{stock_cost}
use Rattle.value_cert.specs.FiniteValues.{lead_law, cost_after}
use Rattle.finite_recursion.specs.Demands.{listed_sum, AreDemandsOf}
use Rattle.finite_recursion.specs.Recursions.{is_whole}
use Rattle.finite_recursion.specs.Rows.{row_period, value_at}
use Rattle.finite_recursion.specs.Sizes.{IsSmallStay}
use Rattle.finite_recursion.specs.ValueSizes.{lead_cost_least}
use Rattle.finite_recursion.specs.declared.recursion.Recursion.{Recursion}
use Rattle.finite_recursion.proofs.Bounds.{width_few}
use Rattle.finite_recursion.proofs.Known.{valid_known}
use Rattle.finite_recursion.proofs.RowFacts.{row_facts}
use Rattle.finite_recursion.proofs.StayCosts.{from_place, listed_told, later_inside, later_least, later_most, stay_told, stay_most, stay_known, stay_in_range, table}
use Rattle.finite_recursion.proofs.recursion.Recursion.stay.Goals as goal

module _ (r : Recursion) (left : is_whole r ≡ false) (weights : List ℕ) (is : weights ≡ law_of_period r.finite.now (r.finite.now.periods - (r.rows - 1))) where
  -- the weights are those of the row's period
  weights_are : weights ≡ law_of_period r.finite.now (row_period r.finite.now r.rows)
  weights_are =
      let f = row_facts r left in
      let same : r.finite.now.periods - (r.rows - 1) ≡ row_period r.finite.now r.rows = omega (arith, f.some, r.within) in
      is ∙ ap (law_of_period r.finite.now) same

  -- they lead to places of the table
  room : 0 < length weights → length weights ≤ length r.values.now - r.row.place
  room some =
      let f = row_facts r left in
      let last = later_inside r.finite.now f.valid r.rows r.row.place r.values.now f.some r.within f.inside (length weights - 1) (omega (arith, some, ap length weights_are)) in
      let few = width_few r.finite.now f.valid (suc r.finite.now.periods - (r.rows - 1)) (omega arith) in
      omega (arith, last, few, r.tables.are_values)

  -- the values there are at least 0
  least : (k : ℕ) → k < length weights → pos 0 ≤ℤ value_at (take (length r.values.now - r.row.place) (drop r.row.place r.values.now)) k
  least k lt =
      let f = row_facts r left in
      let inside = later_inside r.finite.now f.valid r.rows r.row.place r.values.now f.some r.within f.inside k (omega (arith, lt, ap length weights_are)) in
      subst (λ (z : ℤ). pos 0 ≤ℤ z) (sym (from_place r.values.now r.row.place k)) (r.small.later (r.row.place + k) (omega arith) inside).least

  -- what comes later
  later_is : listed_sum weights (take (r.laws.half + r.laws.listed - r.laws.half) (drop r.laws.half r.sums.now)) (value_at (take (length r.values.now - r.row.place) (drop r.row.place r.values.now))) ≡ weighted (law_of_period r.finite.now (row_period r.finite.now r.rows)) (λ d. value_at r.values.now (r.row.place + d))
  later_is =
      let f = row_facts r left in
      listed_told weights r.sums.now r.values.now r.laws.half r.laws.listed r.row.place (subst (λ law. AreDemandsOf law (take r.laws.listed (drop r.laws.half r.sums.now))) (sym weights_are) f.row.are_laws.listed)
      ∙ ap (λ law. weighted law (λ d. value_at r.values.now (r.row.place + d))) weights_are

  module _ (stock later : ℤ) (is_stock : stock ≡ stock_cost r.finite.now.holding r.finite.now.stockout (lead_law r.finite.now (row_period r.finite.now r.rows)) (r.finite.now.cap -ℤ pos r.row.place)) (is_later : later ≡ listed_sum weights (take (r.laws.half + r.laws.listed - r.laws.half) (drop r.laws.half r.sums.now)) (value_at (take (length r.values.now - r.row.place) (drop r.row.place r.values.now)))) where
    abbrev cost : ℤ
    cost = cost_after r.finite.now (table r.finite.now (row_facts r left).valid r.rows r.row.place r.values.now (row_facts r left).some r.within (row_facts r left).inside) (r.rows - 1) (row_period r.finite.now r.rows) (r.finite.now.cap -ℤ pos r.row.place)

    told : r.row.scales.stock *ℤ stock +ℤ pos r.finite.now.discount_num *ℤ later ≡ cost
    told =
        let f = row_facts r left in
        stay_told r.finite.now f.valid r.rows r.row.place r.values.now f.some r.within f.inside r.row.scales.stock stock later f.row.are_scales.stock is_stock (is_later ∙ later_is)

    fits : (r.row.scales.stock *ℤ stock +ℤ pos r.finite.now.discount_num *ℤ later) ≤ℤ pos (2 ^ 120)
    fits =
        let f = row_facts r left in
        subst (λ (z : ℤ). z ≤ℤ pos (2 ^ 120)) (sym told) (stay_most r.finite.now f.valid r.rows r.row.place r.values.now f.some r.within f.inside r.small.later)

    in_range : IsSmallStay r.finite.now r.rows cost
    in_range = let f = row_facts r left in stay_in_range r.finite.now f.valid r.rows r.row.place r.values.now f.some r.within f.inside r.small.later

pub weights_of-weights-requires-clause-valid : goal.weights_of-weights-requires-clause-valid
weights_of-weights-requires-clause-valid c = valid_known c.args.self.now.finite.now c.args.self.now.valid

pub offset_bounds-self-self-2 : goal.offset_bounds-self-self-2
offset_bounds-self-self-2 c = let f = row_facts c.args.self.now c.requires.left in omega (arith, f.few)

pub slice_bounds-weigh-count : goal.slice_bounds-weigh-count
slice_bounds-weigh-count c = let f = row_facts c.args.self.now c.requires.left in omega (arith, f.within, c.args.self.now.tables.are_values)

pub slice_bounds-weigh-start : goal.slice_bounds-weigh-start
slice_bounds-weigh-start c = let f = row_facts c.args.self.now c.requires.left in let inside : c.args.self.now.row.place ≤ length c.args.self.now.values.now = omega (arith, f.within, c.args.self.now.tables.are_values) in search rules

pub weigh-later-requires-clause-room : goal.weigh-later-requires-clause-room
weigh-later-requires-clause-room c =
    let r = c.args.self.now in
    let fit = room r c.requires.left c.weights_of-weights.result.now c.weights_of-weights.ensures.weights c.weights_of-weights.ensures.law.some in
    omega (arith, fit, length-take (length r.values.now - r.row.place) (drop r.row.place r.values.now), length-drop r.row.place r.values.now)

pub weigh-later-requires-clause-least : goal.weigh-later-requires-clause-least
weigh-later-requires-clause-least c = least c.args.self.now c.requires.left c.weights_of-weights.result.now c.weights_of-weights.ensures.weights

pub weigh-later-requires-clause-fits : goal.weigh-later-requires-clause-fits
weigh-later-requires-clause-fits c =
    let r = c.args.self.now in
    let f = row_facts r c.requires.left in
    subst (λ (z : ℤ). z ≤ℤ pos (2 ^ 120)) (sym (later_is r c.requires.left c.weights_of-weights.result.now c.weights_of-weights.ensures.weights)) (later_most r.finite.now f.valid r.rows r.row.place r.values.now f.some r.within f.inside r.small.later)

-- the cost of stock
stock : (c : goal.After-value) → c.value.result ≡ stock_cost c.args.self.now.finite.now.holding c.args.self.now.finite.now.stockout (lead_law c.args.self.now.finite.now (row_period c.args.self.now.finite.now c.args.self.now.rows)) (c.args.self.now.finite.now.cap -ℤ pos c.args.self.now.row.place)
stock c =
    let r = c.args.self.now in
    let f = row_facts r c.requires.left in
    c.value.ensures r.finite.now.holding r.finite.now.stockout (lead_law r.finite.now (row_period r.finite.now r.rows)) f.row.is_walk
    ∙ ap (stock_cost r.finite.now.holding r.finite.now.stockout (lead_law r.finite.now (row_period r.finite.now r.rows))) f.stands

pub total_cost-requires-clause-stock : goal.total_cost-requires-clause-stock
total_cost-requires-clause-stock c =
    let r = c.args.self.now in
    let f = row_facts r c.requires.left in
    let fits : FitsSigned w128 c.value.result = search rules in
    subst (λ (z : ℤ). pos 0 ≤ℤ z) (sym (to_z-of_z w128 c.value.result fits ∙ stock c)) (lead_cost_least r.finite.now f.valid.regular.readable (row_period r.finite.now r.rows) (r.finite.now.cap -ℤ pos r.row.place))

pub total_cost-requires-clause-later : goal.total_cost-requires-clause-later
total_cost-requires-clause-later c =
    let r = c.args.self.now in
    let f = row_facts r c.requires.left in
    let fits : FitsSigned w128 c.weigh-later.result = search rules in
    subst (λ (z : ℤ). pos 0 ≤ℤ z) (sym (to_z-of_z w128 c.weigh-later.result fits ∙ c.weigh-later.ensures ∙ later_is r c.requires.left c.weights_of-weights.result.now c.weights_of-weights.ensures.weights)) (later_least r.finite.now f.valid r.rows r.row.place r.values.now f.some r.within f.inside r.small.later)

pub total_cost-requires-clause-fits : goal.total_cost-requires-clause-fits
total_cost-requires-clause-fits c =
    let r = c.args.self.now in
    let value : FitsSigned w128 c.value.result = search rules in
    let later : FitsSigned w128 c.weigh-later.result = search rules in
    let factor : FitsSigned w128 r.row.scales.stock = search rules in
    simp to_z-of_z (fits r c.requires.left c.weights_of-weights.result.now c.weights_of-weights.ensures.weights c.value.result c.weigh-later.result (stock c) c.weigh-later.ensures)

-- the cost as it is returned
returned : (c : goal.After-total_cost) → to_z w128 (of_z w128 c.total_cost.result) ≡ cost c.args.self.now c.requires.left c.weights_of-weights.result.now c.weights_of-weights.ensures.weights c.value.result c.weigh-later.result (stock c.before) c.weigh-later.ensures
returned c =
    let r = c.args.self.now in
    let value : FitsSigned w128 c.value.result = search rules in
    let later : FitsSigned w128 c.weigh-later.result = search rules in
    let factor : FitsSigned w128 r.row.scales.stock = search rules in
    let result : FitsSigned w128 c.total_cost.result = search rules in
    to_z-of_z w128 c.total_cost.result result ∙ (simp to_z-of_z at c.total_cost.ensures) ∙ told r c.requires.left c.weights_of-weights.result.now c.weights_of-weights.ensures.weights c.value.result c.weigh-later.result (stock c.before) c.weigh-later.ensures

pub returns-clause-exact : goal.returns-clause-exact
returns-clause-exact c = λ first knows.
    let r = c.args.self.now in
    let f = row_facts r c.requires.left in
    returned c ∙ stay_known r.finite.now f.valid r.rows r.row.place r.values.now f.some r.within f.inside first r.costs.now knows

pub returns-clause-small : goal.returns-clause-small
returns-clause-small c =
    let r = c.args.self.now in
    subst (IsSmallStay r.finite.now r.rows) (sym (returned c)) (in_range r c.requires.left c.weights_of-weights.result.now c.weights_of-weights.ensures.weights c.value.result c.weigh-later.result (stock c.before) c.weigh-later.ensures)
