use Rattle.std.proofs.Common.{rules, ◌≡◌, ◌^◌, ℤ, pos, ◌-ℤ◌, ◌*ℤ◌, ◌≤ℤ◌, sym, subst, ◌∙◌, ap, FitsSigned, to_z, of_z, w64}
use mir.Syntax.{w128}
use Rattle.std.proofs.lemmas.Int.{to_z-of_z}
use Rattle.finite_recursion.specs.Choices.{chosen_to, chosen_value}
use Rattle.finite_recursion.specs.Sizes.{IsSmallValue}
use Rattle.finite_recursion.proofs.FoundFacts.{top_setup, units, from_last, below_cap, stored_at, best_least, best_most, value_small, to_known, value_known}
use Rattle.finite_recursion.proofs.recursion.Recursion.find.Goals as goal

-- the position of the next place
next : (c : goal.After-least-best) → to_z w64 (of_z w64 c.position-at.result) ≡ c.args.self.now.finite.now.cap -ℤ pos c.args.self.now.row.place
next c =
    let r = c.args.self.now in
    ap (λ z. to_z w64 (of_z w64 z)) c.position-at.ensures.next ∙ stored_at r c.requires.left (r.finite.now.cap -ℤ pos r.row.place) (from_last r c.requires.left) (below_cap r c.requires.left)

pub choose-requires-clause-setup_most : goal.choose-requires-clause-setup_most
choose-requires-clause-setup_most c = top_setup c.args.self.now c.requires.left

pub choose-requires-clause-least : goal.choose-requires-clause-least
choose-requires-clause-least c =
    let r = c.args.self.now in
    subst (λ (z : ℤ). (pos 0 -ℤ pos (2 ^ 120)) ≤ℤ (r.row.scales.unit *ℤ z)) (sym (next c)) (units r c.requires.left (r.finite.now.cap -ℤ pos r.row.place) (from_last r c.requires.left) (below_cap r c.requires.left)).0

pub choose-requires-clause-most : goal.choose-requires-clause-most
choose-requires-clause-most c =
    let r = c.args.self.now in
    subst (λ (z : ℤ). (r.row.scales.unit *ℤ z) ≤ℤ pos (2 ^ 120)) (sym (next c)) (units r c.requires.left (r.finite.now.cap -ℤ pos r.row.place) (from_last r c.requires.left) (below_cap r c.requires.left)).1

pub choose-requires-clause-best_least : goal.choose-requires-clause-best_least
choose-requires-clause-best_least c = best_least c.args.self.now c.requires.left c.least-best.result c.least-best.ensures

pub choose-requires-clause-best_most : goal.choose-requires-clause-best_most
choose-requires-clause-best_most c = best_most c.args.self.now c.requires.left c.least-best.result c.least-best.ensures

-- what staying costs
stay_is : (c : goal.After-choose) → to_z w128 (of_z w128 c.stay-stay.result) ≡ c.stay-stay.result
stay_is c = let fits : FitsSigned w128 c.stay-stay.result = search rules in to_z-of_z w128 c.stay-stay.result fits

pub returns-clause-stay : goal.returns-clause-stay
returns-clause-stay c = λ first knows. c.choose.ensures.stay ∙ stay_is c ∙ c.stay-stay.ensures.exact first knows

pub returns-clause-to : goal.returns-clause-to
returns-clause-to c = λ first knows.
    let r = c.args.self.now in
    c.choose.ensures.to
    ∙ ap (λ z. chosen_to r.row.scales.setup r.row.scales.unit z (to_z w64 (of_z w64 c.position-at.result)) c.least-best.result) (stay_is c)
    ∙ ap (λ z. chosen_to r.row.scales.setup r.row.scales.unit c.stay-stay.result z c.least-best.result) (next c.before)
    ∙ to_known r c.requires.left c.least-best.result c.least-best.ensures first knows c.stay-stay.result (c.stay-stay.ensures.exact first knows)

-- the value that is found
value_is : (c : goal.After-choose) → c.choose.result.value ≡ chosen_value c.args.self.now.row.scales.setup c.args.self.now.row.scales.unit c.stay-stay.result (c.args.self.now.finite.now.cap -ℤ pos c.args.self.now.row.place) c.least-best.result
value_is c =
    let r = c.args.self.now in
    c.choose.ensures.value
    ∙ ap (λ z. chosen_value r.row.scales.setup r.row.scales.unit z (to_z w64 (of_z w64 c.position-at.result)) c.least-best.result) (stay_is c)
    ∙ ap (λ z. chosen_value r.row.scales.setup r.row.scales.unit c.stay-stay.result z c.least-best.result) (next c.before)

pub returns-clause-value : goal.returns-clause-value
returns-clause-value c = λ first knows. value_is c ∙ value_known c.args.self.now c.requires.left c.least-best.result c.least-best.ensures first knows c.stay-stay.result (c.stay-stay.ensures.exact first knows)

pub returns-clause-value_small : goal.returns-clause-value_small
returns-clause-value_small c =
    let r = c.args.self.now in
    subst (IsSmallValue r.finite.now r.rows) (sym (value_is c)) (value_small r c.requires.left c.least-best.result c.least-best.ensures c.stay-stay.result c.stay-stay.ensures.small)
