use Rattle.std.proofs.Common.{◌≡◌, ◌-◌, ◌≤◌, ◌^◌, sym, subst, ◌∙◌, ap, arith}
use Rattle.demand_law.specs.Law.{IsLaw}
use Rattle.decision_model.specs.SerialProblem.{law_of_period}
use Rattle.serial_recursion.proofs.Rooms.{room_values}
use Rattle.serial_recursion.specs.Rows.{HasValueRoom, period_of, rates_for}
use Rattle.serial_recursion.specs.declared.rates.Rates.{Rates}
use Rattle.serial_recursion.proofs.echelons.end_rows.Goals as goal

pub value_row-requires-clause-room : goal.value_row-requires-clause-room
value_row-requires-clause-room c =
    let serial = c.args.serial.now in
    let frame = c.args.frame.now in
    let rates = c.rates_of-rates.ensures.rates in
    let here : serial.periods - (c.args.periods - 1) ≡ period_of serial c.args.periods = omega (arith, c.requires.some, c.requires.within) in
    let weights = c.weights_of-weights.ensures.weights ∙ ap (law_of_period serial) here in
    let holding = subst (λ (r : Rates). r.holding ≤ 2 ^ 30) rates c.rates_of-rates.ensures.holding in
    let lacking = subst (λ (r : Rates). r.lacking ≤ 2 ^ 30) rates c.rates_of-rates.ensures.lacking in
    subst (λ (r : Rates). HasValueRoom frame r c.weights_of-weights.result.now) (sym rates)
    (subst (HasValueRoom frame (rates_for serial c.args.echelon)) (sym weights)
    (room_values serial c.requires.valid c.args.periods c.requires.some c.requires.within frame c.requires.frame c.args.echelon (subst IsLaw weights c.weights_of-weights.ensures.law) holding lacking))
