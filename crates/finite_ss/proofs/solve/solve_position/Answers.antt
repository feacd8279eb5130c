use Rattle.std.proofs.Common.{rules, ◌≡◌, ℕ, suc, ◌+◌, ◌<◌, ℤ, pos, List, [], ◌∷◌, ◌++◌, sym, ◌∙◌, ap, subst, FitsSigned, to_z-of_z}
use mir.Syntax.{w64, w128}
use Rattle.decision_model.specs.declared.finite.Finite.{Finite}
use Rattle.finite_lemmas.specs.SolvedFronts.{front_values, row_front, front_more, AreLater}
use Rattle.finite_recursion.specs.Recursions.{finite_of, KnowsRows}
use Rattle.finite_ss.specs.Solving.{HasFront}
use Rattle.finite_ss.proofs.Fronts.{place_left, at_is, to_is, value_is}
use Rattle.value_cert.specs.FiniteRules.{FirstRows}
use Rattle.finite_ss.proofs.solve.solve_position.Goals as goal

pub returns-clause-cell : goal.returns-clause-cell
returns-clause-cell c = λ n count lt front.
    let r = c.args.recursion.now in
    let finite = finite_of r in
    let readable = c.requires.valid.regular.readable in
    let inside = place_left r front.later n count front.knows c.requires.left in
    let first = row_front finite front.later n count in
    let fits : FitsSigned w64 c.position-at.result = search rules in
    let at = c.cell_of.ensures.at ∙ to_z-of_z fits ∙ c.position-at.ensures.known first front.knows ∙ at_is finite readable front.later n count lt front.are_later inside in
    let to = c.cell_of.ensures.to ∙ c.find-found.ensures.to first front.knows ∙ to_is finite readable front.later n count lt front.are_later inside in
    let value = c.cell_of.ensures.value ∙ c.find-found.ensures.value first front.knows ∙ value_is finite readable front.later n count lt front.are_later inside in
    λ i. record { at = at i; to = to i; value = value i }

pub returns-clause-front : goal.returns-clause-front
returns-clause-front c = λ n count lt front.
    let r = c.args.recursion.now in
    let new = c.keep.new.self in
    let finite = finite_of r in
    let readable = c.requires.valid.regular.readable in
    let inside = place_left r front.later n count front.knows c.requires.left in
    let first = row_front finite front.later n count in
    let value = c.find-found.ensures.value first front.knows ∙ value_is finite readable front.later n count lt front.are_later inside in
    let Values : List ℤ → Type 0 = λ values. KnowsRows new (record { rows = suc n; later = front.later; values = values }) in
    let Later : Finite → Type 0 = λ f. AreLater f front.later n in
    let Knows : Finite → Type 0 = λ f. KnowsRows new (row_front f front.later n (count + 1)) in
    let fits : FitsSigned w128 c.find-found.result.value = search rules in
    let knows = c.keep.ensures.knows first (pos 0) (pos 0) front.knows (c.find-found.ensures.stay first front.knows) in
    let kept = subst Values (front_more finite n count _ (to_z-of_z fits ∙ value)) knows in
    record {
      later = front.later;
      are_later = subst Later (sym c.keep.ensures.finite) front.are_later;
      knows = subst Knows (sym c.keep.ensures.finite) kept;
    }
