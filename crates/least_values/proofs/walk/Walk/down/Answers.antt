use Rattle.std.proofs.Common.{◌≡◌, ◌-◌, ◌≤◌, ℤ, pos, ◌-ℤ◌, arith, sym, ◌∙◌, ap, w64, to_z, of_z}
use Rattle.std.specs.Prelude.{unsigned_abs}
use Rattle.std.proofs.lemmas.Int.{ints}
use Rattle.least_values.specs.Stock.{stock_cost, upto}
use Rattle.least_values.proofs.WalkSteps.{step_up}
use Rattle.least_values.proofs.WalkBounds.{left_fits, lacks_fits, cost_least, cost_most}
use Rattle.least_values.proofs.WalkCasts.{stored_cost, stored_place, told_change, down_facts}
use Rattle.least_values.proofs.walk.Walk.down.Goals as goal

pub change-requires-clause-left : goal.change-requires-clause-left
change-requires-clause-left c =
    let w = c.args.self.now in
    let facts = down_facts w.over w.under c.args.weights.now w.at w.upto c.weight_at.result c.requires.room c.requires.stands.is_upto c.weight_at.ensures in
    rw facts.below (left_fits w.over w.under c.args.weights.now (w.at -ℤ pos 1) facts.room)

pub change-requires-clause-lacks : goal.change-requires-clause-lacks
change-requires-clause-lacks c =
    let w = c.args.self.now in
    let facts = down_facts w.over w.under c.args.weights.now w.at w.upto c.weight_at.result c.requires.room c.requires.stands.is_upto c.weight_at.ensures in
    rw (c.requires.stands.is_total, facts.below) (lacks_fits w.over w.under c.args.weights.now (w.at -ℤ pos 1) c.requires.weights c.requires.next)

pub minus-self-requires-clause-least : goal.minus-self-requires-clause-least
minus-self-requires-clause-least c =
    let w = c.args.self.now in
    let ws = c.args.weights.now in
    let y : ℤ = w.at -ℤ pos 1 in
    let facts = down_facts w.over w.under ws w.at w.upto c.weight_at.result c.requires.room c.requires.stands.is_upto c.weight_at.ensures in
    let cost = stored_cost w.over w.under ws w.at w.value c.requires.room c.requires.stands.is_cost in
    let changed = told_change w.over w.under ws y w.total (w.upto - c.weight_at.result) c.change.result c.requires.next facts.room c.requires.stands.is_total facts.below c.change.ensures in
    omega (arith, ints, cost, changed, facts.cost, step_up w.over w.under ws y, cost_least w.over w.under ws y)

pub minus-self-requires-clause-most : goal.minus-self-requires-clause-most
minus-self-requires-clause-most c =
    let w = c.args.self.now in
    let ws = c.args.weights.now in
    let y : ℤ = w.at -ℤ pos 1 in
    let facts = down_facts w.over w.under ws w.at w.upto c.weight_at.result c.requires.room c.requires.stands.is_upto c.weight_at.ensures in
    let cost = stored_cost w.over w.under ws w.at w.value c.requires.room c.requires.stands.is_cost in
    let changed = told_change w.over w.under ws y w.total (w.upto - c.weight_at.result) c.change.result c.requires.next facts.room c.requires.stands.is_total facts.below c.change.ensures in
    omega (arith, ints, cost, changed, facts.cost, step_up w.over w.under ws y, cost_most w.over w.under ws y c.requires.next)

pub returns-clause-stands : goal.returns-clause-stands
returns-clause-stands c = λ over under of.
    let w = c.args.self.now in
    let ws = c.args.weights.now in
    let y : ℤ = w.at -ℤ pos 1 in
    let facts = down_facts w.over w.under ws w.at w.upto c.weight_at.result c.requires.room c.requires.stands.is_upto c.weight_at.ensures in
    let below_is : c.below-self.result ≡ y = c.below-self.ensures ∙ ap (λ z. z -ℤ pos 1) (stored_place w.at c.requires.room.near) in
    let small : unsigned_abs c.below-self.result ≤ 1000000000 = omega (arith, ap unsigned_abs below_is, c.requires.next.near) in
    let place : to_z w64 (of_z w64 c.below-self.result) ≡ y = stored_place c.below-self.result small ∙ below_is in
    let cost = stored_cost w.over w.under ws w.at w.value c.requires.room c.requires.stands.is_cost in
    let changed = told_change w.over w.under ws y w.total (w.upto - c.weight_at.result) c.change.result c.requires.next facts.room c.requires.stands.is_total facts.below c.change.ensures in
    let left_is : c.minus-self.result ≡ stock_cost w.over w.under ws y = omega (arith, ints, c.minus-self.ensures, cost, changed, facts.cost, step_up w.over w.under ws y) in
    let rates : stock_cost w.over w.under ws y ≡ stock_cost over under ws y = ap (λ o. stock_cost o w.under ws y) of.is_over ∙ ap (λ u. stock_cost over u ws y) of.is_under in
    record {
      is_over = of.is_over;
      is_under = of.is_under;
      is_total = of.is_total;
      is_upto = facts.below ∙ ap (upto ws) (sym place);
      is_cost = stored_cost w.over w.under ws y c.minus-self.result c.requires.next left_is ∙ rates ∙ ap (stock_cost over under ws) (sym place);
    }
