use Rattle.std.proofs.Common.{◌≡◌, ◌+◌, ◌≤◌, ℤ, pos, ◌+ℤ◌, arith, sym, ◌∙◌, ap, w64, to_z, of_z}
use Rattle.std.specs.Prelude.{unsigned_abs}
use Rattle.std.proofs.lemmas.Int.{ints}
use Rattle.least_values.specs.Stock.{stock_cost, upto, weight_at}
use Rattle.least_values.proofs.WalkSteps.{step_up, upto_up}
use Rattle.least_values.proofs.WalkBounds.{left_fits, lacks_fits, cost_least, cost_most}
use Rattle.least_values.proofs.WalkCasts.{stored_cost, stored_place, told_change}
use Rattle.least_values.proofs.walk.Walk.up.Goals as goal

pub change-requires-clause-left : goal.change-requires-clause-left
change-requires-clause-left c = let w = c.args.self.now in rw c.requires.stands.is_upto (left_fits w.over w.under c.args.weights.now w.at c.requires.next)

pub change-requires-clause-lacks : goal.change-requires-clause-lacks
change-requires-clause-lacks c = let w = c.args.self.now in rw (c.requires.stands.is_total, c.requires.stands.is_upto) (lacks_fits w.over w.under c.args.weights.now w.at c.requires.weights c.requires.room)

pub plus-self-requires-clause-least : goal.plus-self-requires-clause-least
plus-self-requires-clause-least c =
    let w = c.args.self.now in
    let ws = c.args.weights.now in
    let cost = stored_cost w.over w.under ws w.at w.value c.requires.room c.requires.stands.is_cost in
    let changed = told_change w.over w.under ws w.at w.total w.upto c.change.result c.requires.room c.requires.next c.requires.stands.is_total c.requires.stands.is_upto c.change.ensures in
    omega (arith, ints, cost, changed, step_up w.over w.under ws w.at, cost_least w.over w.under ws (w.at +ℤ pos 1))

pub plus-self-requires-clause-most : goal.plus-self-requires-clause-most
plus-self-requires-clause-most c =
    let w = c.args.self.now in
    let ws = c.args.weights.now in
    let cost = stored_cost w.over w.under ws w.at w.value c.requires.room c.requires.stands.is_cost in
    let changed = told_change w.over w.under ws w.at w.total w.upto c.change.result c.requires.room c.requires.next c.requires.stands.is_total c.requires.stands.is_upto c.change.ensures in
    omega (arith, ints, cost, changed, step_up w.over w.under ws w.at, cost_most w.over w.under ws (w.at +ℤ pos 1) c.requires.next)

pub returns-clause-stands : goal.returns-clause-stands
returns-clause-stands c = λ over under of.
    let w = c.args.self.now in
    let ws = c.args.weights.now in
    let y : ℤ = w.at +ℤ pos 1 in
    let above_is : c.above-at.result ≡ y = c.above-at.ensures ∙ ap (λ z. z +ℤ pos 1) (stored_place w.at c.requires.room.near) in
    let small : unsigned_abs c.above-at.result ≤ 1000000000 = omega (arith, ap unsigned_abs above_is, c.requires.next.near) in
    let place : to_z w64 (of_z w64 c.above-at.result) ≡ y = stored_place c.above-at.result small ∙ above_is in
    let cost = stored_cost w.over w.under ws w.at w.value c.requires.room c.requires.stands.is_cost in
    let changed = told_change w.over w.under ws w.at w.total w.upto c.change.result c.requires.room c.requires.next c.requires.stands.is_total c.requires.stands.is_upto c.change.ensures in
    let sum_is : c.plus-self.result ≡ stock_cost w.over w.under ws y = omega (arith, ints, c.plus-self.ensures, cost, changed, step_up w.over w.under ws w.at) in
    let rates : stock_cost w.over w.under ws y ≡ stock_cost over under ws y = ap (λ o. stock_cost o w.under ws y) of.is_over ∙ ap (λ u. stock_cost over u ws y) of.is_under in
    record {
      is_over = of.is_over;
      is_under = of.is_under;
      is_total = of.is_total;
      is_upto = ap (λ k. k + c.weight_at.result) of.is_upto ∙ ap (λ k. upto ws w.at + k) (c.weight_at.ensures ∙ ap (weight_at ws) place) ∙ sym (upto_up ws w.at) ∙ ap (upto ws) (sym place);
      is_cost = stored_cost w.over w.under ws y c.plus-self.result c.requires.next sum_is ∙ rates ∙ ap (stock_cost over under ws) (sym place);
    }
