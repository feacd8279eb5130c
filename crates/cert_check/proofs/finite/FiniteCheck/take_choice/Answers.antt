use Rattle.std.proofs.Common.{rules, ◌≡◌, ℤ, ◌≤ℤ◌, sym, ap, ◌∙◌, subst, of_z}
use Rattle.std.specs.Int.{w64, w128}
use Rattle.std.specs.Int.RustNames.{FitsSigned}
use Rattle.std.proofs.lemmas.Int.{to_z-of_z}
use Rattle.finite_recursion.specs.Recursions.{finite_of, KnowsRows, next_position}
use Rattle.value_cert.specs.FiniteRules.{FirstRows, named_values}
use Rattle.value_cert.specs.declared.line.CertLine.TheVariants.{Value}
use Rattle.cert_check.proofs.FiniteLines.{below_by, at_least_by, same_bits, allowed_from, allowed_to, choice_value, least_at, dear_choice, other_choice, own_choice}
use Rattle.cert_check.proofs.finite.FiniteCheck.take_choice.Goals as goal

pub returns-then-value-found-clause-rule : goal.returns-then-value-found-clause-rule
returns-then-value-found-clause-rule c = λ first knows.
    let recursion = c.args.self.now.recursion in
    let found : FitsSigned w128 c.find-found.result.value = search rules in
    dear_choice recursion first knows c.args.to c.args.value c.requires.allowed
    (below_by _ _ (least_at (finite_of recursion) first) c.args.value c.if-value-found.true (to_z-of_z w128 c.find-found.result.value found ∙ c.find-found.ensures.value first knows) (to_z-of_z w128 c.args.value c.ranges.value))

pub value_of-requires-clause-from : goal.value_of-requires-clause-from
value_of-requires-clause-from c =
    subst (λ (to : ℤ). next_position c.args.self.now.recursion ≤ℤ to) (sym (to_z-of_z w64 c.args.to c.ranges.to))
    (allowed_from (finite_of c.args.self.now.recursion) (next_position c.args.self.now.recursion) c.args.to c.requires.allowed)

pub value_of-requires-clause-below : goal.value_of-requires-clause-below
value_of-requires-clause-below c =
    subst (λ (to : ℤ). to ≤ℤ (finite_of c.args.self.now.recursion).cap) (sym (to_z-of_z w64 c.args.to c.ranges.to))
    (allowed_to (finite_of c.args.self.now.recursion) (next_position c.args.self.now.recursion) c.args.to c.requires.allowed)

pub returns-then-value-value_of-clause-rule : goal.returns-then-value-value_of-clause-rule
returns-then-value-value_of-clause-rule c = λ first knows.
    let recursion = c.args.self.now.recursion in
    let found : FitsSigned w128 c.find-found.result.value = search rules in
    let low = at_least_by _ _ (least_at (finite_of recursion) first) c.args.value c.if-value-found.false (to_z-of_z w128 c.find-found.result.value found ∙ c.find-found.ensures.value first knows) (to_z-of_z w128 c.args.value c.ranges.value) in
    let own : c.value_of.result ≡ choice_value (finite_of recursion) first c.args.to = c.value_of.ensures.value first knows (c.find-found.ensures.stay first knows) ∙ ap (choice_value (finite_of recursion) first) (to_z-of_z w64 c.args.to c.ranges.to) in
    other_choice recursion first knows c.args.to c.args.value c.requires.allowed low (λ same. c.if-value-value_of.true (ap (of_z w128) (same ∙ sym own)))

pub returns-clause-rule : goal.returns-clause-rule
returns-clause-rule c = λ first knows.
    let recursion = c.args.self.now.recursion in
    let found : FitsSigned w128 c.find-found.result.value = search rules in
    let result : FitsSigned w128 c.value_of.result = search rules in
    let low = at_least_by _ _ (least_at (finite_of recursion) first) c.args.value c.if-value-found.false (to_z-of_z w128 c.find-found.result.value found ∙ c.find-found.ensures.value first knows) (to_z-of_z w128 c.args.value c.ranges.value) in
    let own : c.value_of.result ≡ choice_value (finite_of recursion) first c.args.to = c.value_of.ensures.value first knows (c.find-found.ensures.stay first knows) ∙ ap (choice_value (finite_of recursion) first) (to_z-of_z w64 c.args.to c.ranges.to) in
    own_choice recursion first knows c.args.to c.args.value c.requires.allowed low (same_bits c.args.value c.value_of.result c.ranges.value result c.if-value-value_of.false ∙ own)

pub returns-clause-rows : goal.returns-clause-rows
returns-clause-rows c = λ first knows none.
    let recursion = c.args.self.now.recursion in
    let named : ℤ → FirstRows = λ value. named_values (finite_of recursion) first (Value (next_position recursion) c.args.to value) in
    subst (λ (value : ℤ). KnowsRows c.keep.new.self (named value)) (to_z-of_z w128 c.args.value c.ranges.value)
    (c.keep.ensures.knows first (next_position recursion) c.args.to knows (c.find-found.ensures.stay first knows))
