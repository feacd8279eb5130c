use Rattle.std.proofs.Common.{rules, ◌≡◌, suc, ◌+◌, ℤ, pos, ◌+ℤ◌, subst, sym, ap, ◌∙◌, arith, to_z, of_z}
use Rattle.std.proofs.lemmas.Int.{ints, to_z-of_z}
use Rattle.std.specs.Int.{w128}
use Rattle.std.specs.Int.RustNames.{FitsSigned}
use Rattle.serial_recursion.specs.Recursions.{serial_of, KnowsRows}
use Rattle.value_cert.specs.SerialRules.{named_rows}
use Rattle.value_cert.specs.declared.line.CertLine.TheVariants.{Echelon}
use Rattle.cert_check.proofs.FiniteLines.{same_bits}
use Rattle.cert_check.proofs.SerialLines.{next_level_rule, own_echelon}
use Rattle.cert_check.proofs.serial.SerialCheck.take_echelon.Goals as goal

pub returns-clause-rule : goal.returns-clause-rule
returns-clause-rule c = λ first knows.
    let serial = serial_of c.args.self.now.recursion in
    let ready = sym (c.is_echelon_next.ensures.known first knows) ∙ c.if-not-is_echelon_next.false in
    let wide : to_z w128 c.echelons.result ≡ pos c.echelons.result = search rules in
    let next : to_z w128 c.echelons.result +ℤ pos 1 ≡ pos (c.echelons.result + 1) = omega (arith, ints, wide) in
    let small : FitsSigned w128 (pos (c.echelons.result + 1)) = search rules in
    let fits : FitsSigned w128 (to_z w128 c.echelons.result +ℤ pos 1) = subst (λ (z : ℤ). FitsSigned w128 z) (sym next) small in
    let count : c.echelons.result + 1 ≡ suc first.echelons = omega (arith, c.echelons.ensures.known first knows) in
    let number : c.args.echelon ≡ pos (suc first.echelons) =
    same_bits c.args.echelon (to_z w128 c.echelons.result +ℤ pos 1) c.ranges.echelon fits c.if-echelon-echelons.false ∙ next ∙ ap pos count in
    c.take_level.ensures.rule first knows
    ∙ ap (next_level_rule serial first) (to_z-of_z w128 c.args.level c.ranges.level)
    ∙ sym (own_echelon serial first c.args.echelon c.args.level ready number)

pub returns-clause-rows : goal.returns-clause-rows
returns-clause-rows c = λ first knows none.
    let Knows : ℤ → ℤ → Type 0 = λ echelon level. KnowsRows c.take_level.new.self.recursion (named_rows first (Echelon echelon level)) in
    subst (λ (echelon : ℤ). Knows echelon c.args.level) (to_z-of_z w128 c.args.echelon c.ranges.echelon)
    (subst (λ (level : ℤ). Knows (to_z w128 (of_z w128 c.args.echelon)) level) (to_z-of_z w128 c.args.level c.ranges.level) (c.take_level.ensures.rows first knows none))
