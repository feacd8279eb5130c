use Rattle.std.proofs.Common.{rules, ◌≡◌, ◌^◌, ℤ, pos, ◌+ℤ◌, ◌-ℤ◌, ◌*ℤ◌, ◌≤ℤ◌, sym, ◌∙◌, ap, arith, subst, FitsSigned, to_z, of_z, w64}
use mir.Syntax.{w128}
use Rattle.std.proofs.lemmas.Int.{ints, to_z-of_z}
use Rattle.finite_recursion.proofs.Casts.{wide}
use Rattle.finite_recursion.proofs.Products.{stored_order}
use Rattle.finite_recursion.proofs.costs.order_value.Goals as goal

-- what the units cost
units : (c : goal.After-units_cost) → c.units_cost.result ≡ c.args.scales.now.unit *ℤ c.args.at
units c =
    let unit : FitsSigned w128 c.args.scales.now.unit = search rules in
    c.units_cost.ensures ∙ ap (λ z. z *ℤ to_z w64 (of_z w64 c.args.at)) (to_z-of_z w128 c.args.scales.now.unit unit) ∙ ap (λ z. c.args.scales.now.unit *ℤ z) (to_z-of_z w64 c.args.at c.ranges.at)

pub overflow_sub-result : goal.overflow_sub-result
overflow_sub-result c =
    let cost = wide c.args.cost (omega (arith, ints, c.requires.cost_least)) (omega (arith, ints, c.requires.cost_most)) in
    let setup = wide c.args.scales.now.setup (omega (arith, ints, c.requires.setup_least)) (omega (arith, ints, c.requires.setup_most)) in
    let least = subst (λ (z : ℤ). (pos 0 -ℤ pos (2 ^ 120)) ≤ℤ z) (sym (units c)) c.requires.least in
    let most = subst (λ (z : ℤ). z ≤ℤ pos (2 ^ 120)) (sym (units c)) c.requires.most in
    search rules

pub returns : goal.returns
returns c =
    let least = subst (λ (z : ℤ). (pos 0 -ℤ pos (2 ^ 120)) ≤ℤ z) (sym (units c)) c.requires.least in
    let most = subst (λ (z : ℤ). z ≤ℤ pos (2 ^ 120)) (sym (units c)) c.requires.most in
    stored_order c.args.cost c.args.scales.now.setup c.units_cost.result c.requires.cost_least c.requires.cost_most c.requires.setup_least c.requires.setup_most least most
    ∙ ap (λ z. c.args.cost +ℤ c.args.scales.now.setup -ℤ z) (units c)
