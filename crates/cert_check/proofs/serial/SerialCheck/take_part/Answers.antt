use Rattle.std.proofs.Common.{rules, ◌≡◌, sym, ap, ◌∙◌, of_z}
use Rattle.std.proofs.lemmas.Int.{to_z-of_z}
use Rattle.std.specs.Int.{w64, w128}
use Rattle.std.specs.Int.RustNames.{FitsSigned}
use Rattle.serial_recursion.specs.Periods.{next_at}
use Rattle.serial_recursion.specs.Recursions.{serial_of}
use Rattle.cert_check.proofs.FiniteLines.{same_bits}
use Rattle.cert_check.proofs.SerialLines.{next_value, other_value, own_value}
use Rattle.cert_check.proofs.serial.SerialCheck.take_part.Goals as goal

pub returns-then-value-find-clause-rule : goal.returns-then-value-find-clause-rule
returns-then-value-find-clause-rule c = λ first knows.
    let serial = serial_of c.args.self.now.recursion in
    let position : FitsSigned w64 c.position.result = search rules in
    let from : FitsSigned w128 c.from.result = search rules in
    let left = sym (c.is_position_next.ensures.known first knows) ∙ c.if-not-is_position_next.false in
    let at : c.args.at ≡ next_at serial first.periods first.cells =
    same_bits c.args.at c.from.result c.ranges.at from c.if-at-from.false ∙ c.from.ensures ∙ to_z-of_z w64 c.position.result position ∙ c.position.ensures.known first knows in
    let own : c.find.result ≡ next_value serial first c.args.at = c.find.ensures first knows ∙ ap (next_value serial first) (sym at) in
    sym (other_value serial first c.args.at c.args.value left at (λ same. c.if-value-find.true (ap (of_z w128) (same ∙ sym own))))

pub returns-clause-rule : goal.returns-clause-rule
returns-clause-rule c = λ first knows.
    let serial = serial_of c.args.self.now.recursion in
    let position : FitsSigned w64 c.position.result = search rules in
    let from : FitsSigned w128 c.from.result = search rules in
    let found : FitsSigned w128 c.find.result = search rules in
    let left = sym (c.is_position_next.ensures.known first knows) ∙ c.if-not-is_position_next.false in
    let at : c.args.at ≡ next_at serial first.periods first.cells =
    same_bits c.args.at c.from.result c.ranges.at from c.if-at-from.false ∙ c.from.ensures ∙ to_z-of_z w64 c.position.result position ∙ c.position.ensures.known first knows in
    let own : c.find.result ≡ next_value serial first c.args.at = c.find.ensures first knows ∙ ap (next_value serial first) (sym at) in
    sym (own_value serial first c.args.at c.args.value left at (same_bits c.args.value c.find.result c.ranges.value found c.if-value-find.false ∙ own))

pub returns-clause-rows : goal.returns-clause-rows
returns-clause-rows c = λ first knows none.
    let position : FitsSigned w64 c.position.result = search rules in
    let from : FitsSigned w128 c.from.result = search rules in
    let found : FitsSigned w128 c.find.result = search rules in
    let at = same_bits c.args.at c.from.result c.ranges.at from c.if-at-from.false ∙ c.from.ensures ∙ to_z-of_z w64 c.position.result position ∙ c.position.ensures.known first knows in
    let value = same_bits c.args.value c.find.result c.ranges.value found c.if-value-find.false ∙ c.find.ensures first knows in
    c.keep.ensures.knows first c.args.at c.args.value knows at value
