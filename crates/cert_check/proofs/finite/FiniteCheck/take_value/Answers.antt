use Rattle.std.proofs.Common.{rules, ◌≡◌, ◌≤◌, ◌-◌, ◌^◌, ℤ, true, unsigned_abs, sym, ap, ◌∙◌, subst, of_z}
use Rattle.std.specs.Int.{w64, w128}
use Rattle.std.specs.Int.RustNames.{FitsSigned}
use Rattle.std.proofs.lemmas.Int.{to_z-of_z}
use Rattle.finite_recursion.specs.Recursions.{finite_of, KnowsRows, next_position}
use Rattle.value_cert.specs.FiniteRules.{FirstRows, named_values, is_allowed, last_period, value_rule}
use Rattle.value_cert.specs.declared.line.CertLine.TheVariants.{Value}
use Rattle.cert_check.proofs.FiniteLines.{same_bits, left_near, test_of_choice, barred_rule, other_position_rule, next_position_rule, next_here, choice_rule, choice_fits, stored_choice}
use Rattle.cert_check.proofs.finite.FiniteCheck.take_value.Goals as goal

pub returns-then-at-from-clause-rule : goal.returns-then-at-from-clause-rule
returns-then-at-from-clause-rule c = λ first knows.
    let recursion = c.args.self.now.recursion in
    let position : FitsSigned w64 c.position-position.result = search rules in
    let here = c.from.ensures ∙ to_z-of_z w64 c.position-position.result position ∙ c.position-position.ensures.known first knows in
    let left = sym (c.is_row_whole.ensures.known first knows) ∙ c.if-is_row_whole.false in
    sym (other_position_rule (finite_of recursion) first c.args.at c.args.to c.args.value left (λ same. c.if-at-from.true (ap (of_z w128) (same ∙ sym here))))

pub is_allowed-requires-clause-near : goal.is_allowed-requires-clause-near
is_allowed-requires-clause-near c =
    let recursion = c.args.self.now.recursion in
    let position : FitsSigned w64 c.position-position.result = search rules in
    let left = sym c.is_row_whole.ensures.whole ∙ c.if-is_row_whole.false in
    subst (λ (x : ℤ). unsigned_abs x ≤ 10 ^ 13) (sym (to_z-of_z w64 c.position-position.result position ∙ c.position-position.ensures.next)) (left_near recursion c.finite.ensures.valid left)

pub returns-then-not-is_allowed-clause-rule : goal.returns-then-not-is_allowed-clause-rule
returns-then-not-is_allowed-clause-rule c = λ first knows.
    let finite = finite_of c.args.self.now.recursion in
    let position : FitsSigned w64 c.position-position.result = search rules in
    let from : FitsSigned w128 c.from.result = search rules in
    let stored = same_bits c.args.at c.from.result c.ranges.at from c.if-at-from.false ∙ c.from.ensures in
    let here = stored ∙ to_z-of_z w64 c.position-position.result position ∙ c.position-position.ensures.known first knows in
    let left = sym (c.is_row_whole.ensures.known first knows) ∙ c.if-is_row_whole.false in
    let barred = test_of_choice c.is_allowed.result _ finite _ c.args.at _ c.args.to c.is_allowed.ensures c.finite.ensures.finite (sym stored) (to_z-of_z w128 c.args.to c.ranges.to) ∙ c.if-not-is_allowed.true in
    sym (next_position_rule finite first c.args.at c.args.to c.args.value left here ∙ barred_rule finite first.later (first.rows - 1) (last_period finite first) c.args.at c.args.to c.args.value barred)

pub overflow_cast-to : goal.overflow_cast-to
overflow_cast-to c =
    let recursion = c.args.self.now.recursion in
    let position : FitsSigned w64 c.position-position.result = search rules in
    let left = sym c.is_row_whole.ensures.whole ∙ c.if-is_row_whole.false in
    let allowed = test_of_choice c.is_allowed.result _ (finite_of recursion) _ (next_position recursion) _ c.args.to c.is_allowed.ensures c.finite.ensures.finite (to_z-of_z w64 c.position-position.result position ∙ c.position-position.ensures.next) (to_z-of_z w128 c.args.to c.ranges.to) ∙ c.if-not-is_allowed.false in
    subst (λ (z : ℤ). FitsSigned w64 z) (sym (to_z-of_z w128 c.args.to c.ranges.to)) (choice_fits recursion c.args.to c.finite.ensures.valid left allowed)

pub take_choice-requires-clause-allowed : goal.take_choice-requires-clause-allowed
take_choice-requires-clause-allowed c =
    let recursion = c.args.self.now.recursion in
    let position : FitsSigned w64 c.position-position.result = search rules in
    let left = sym c.is_row_whole.ensures.whole ∙ c.if-is_row_whole.false in
    let allowed = test_of_choice c.is_allowed.result _ (finite_of recursion) _ (next_position recursion) _ c.args.to c.is_allowed.ensures c.finite.ensures.finite (to_z-of_z w64 c.position-position.result position ∙ c.position-position.ensures.next) (to_z-of_z w128 c.args.to c.ranges.to) ∙ c.if-not-is_allowed.false in
    subst (λ (z : ℤ). is_allowed (finite_of recursion) (next_position recursion) z ≡ true) (sym (stored_choice recursion c.args.to c.finite.ensures.valid left allowed c.ranges.to)) allowed

pub returns-clause-rule : goal.returns-clause-rule
returns-clause-rule c = λ first knows.
    let recursion = c.args.self.now.recursion in
    let finite = finite_of recursion in
    let position : FitsSigned w64 c.position-position.result = search rules in
    let from : FitsSigned w128 c.from.result = search rules in
    let whole = sym c.is_row_whole.ensures.whole ∙ c.if-is_row_whole.false in
    let next = to_z-of_z w64 c.position-position.result position ∙ c.position-position.ensures.next in
    let at = same_bits c.args.at c.from.result c.ranges.at from c.if-at-from.false ∙ c.from.ensures ∙ next in
    let left = sym (c.is_row_whole.ensures.known first knows) ∙ c.if-is_row_whole.false in
    let allowed = test_of_choice c.is_allowed.result _ finite _ (next_position recursion) _ c.args.to c.is_allowed.ensures c.finite.ensures.finite next (to_z-of_z w128 c.args.to c.ranges.to) ∙ c.if-not-is_allowed.false in
    c.take_choice.ensures.rule first knows
    ∙ ap (choice_rule recursion first _) (to_z-of_z w128 c.args.value c.ranges.value)
    ∙ ap (λ (z : ℤ). choice_rule recursion first z c.args.value) (stored_choice recursion c.args.to c.finite.ensures.valid whole allowed c.ranges.to)
    ∙ ap (λ (x : ℤ). value_rule finite first.later (first.rows - 1) (last_period finite first) x c.args.to c.args.value) (sym at)
    ∙ sym (next_position_rule finite first c.args.at c.args.to c.args.value left (at ∙ next_here recursion first knows))

pub returns-clause-rows : goal.returns-clause-rows
returns-clause-rows c = λ first knows none.
    let recursion = c.args.self.now.recursion in
    let named : ℤ → FirstRows = λ value. named_values (finite_of recursion) first (Value c.args.at c.args.to value) in
    subst (λ (value : ℤ). KnowsRows c.take_choice.new.self.recursion (named value)) (to_z-of_z w128 c.args.value c.ranges.value) (c.take_choice.ensures.rows first knows none)
