use Rattle.std.proofs.Common.{rules, ℤ, subst, sym, ap, ◌∙◌, to_z, of_z}
use Rattle.std.proofs.lemmas.Int.{to_z-of_z}
use Rattle.std.specs.Int.{w128}
use Rattle.std.specs.Int.RustNames.{FitsSigned}
use Rattle.serial_recursion.specs.Recursions.{serial_of, KnowsRows}
use Rattle.value_cert.specs.SerialRules.{named_rows, serial_rule}
use Rattle.value_cert.specs.declared.line.CertLine.{CertLine}
use Rattle.value_cert.specs.declared.line.CertLine.TheVariants.{Period, Echelon, Part}
use Rattle.cert_check.proofs.serial.SerialCheck.take.Goals as goal

pub returns-in-Period-clause-rows : goal.returns-in-Period-clause-rows
returns-in-Period-clause-rows c = λ first knows none.
    let period = c.in-Period.period in
    let fits : FitsSigned w128 period = search rules in
    let Knows : CertLine → Type 0 = λ line. KnowsRows c.take_period.new.self.recursion (named_rows first line) in
    subst Knows (sym c.in-Period.is) (subst (λ (p : ℤ). Knows (Period p)) (to_z-of_z w128 period fits) (c.take_period.ensures.rows first knows none))

pub returns-in-Echelon-clause-rule : goal.returns-in-Echelon-clause-rule
returns-in-Echelon-clause-rule c = λ first knows.
    let serial = serial_of c.args.self.now.recursion in
    let echelon = c.in-Echelon.echelon in
    let level = c.in-Echelon.level in
    let echelon_fits : FitsSigned w128 echelon = search rules in
    let level_fits : FitsSigned w128 level = search rules in
    c.take_echelon.ensures.rule first knows
    ∙ ap (λ (e : ℤ). serial_rule serial first (Echelon e (to_z w128 (of_z w128 level)))) (to_z-of_z w128 echelon echelon_fits)
    ∙ ap (λ (l : ℤ). serial_rule serial first (Echelon echelon l)) (to_z-of_z w128 level level_fits)
    ∙ ap (serial_rule serial first) (sym c.in-Echelon.is)

pub returns-in-Echelon-clause-rows : goal.returns-in-Echelon-clause-rows
returns-in-Echelon-clause-rows c = λ first knows none.
    let echelon = c.in-Echelon.echelon in
    let level = c.in-Echelon.level in
    let echelon_fits : FitsSigned w128 echelon = search rules in
    let level_fits : FitsSigned w128 level = search rules in
    let Knows : CertLine → Type 0 = λ line. KnowsRows c.take_echelon.new.self.recursion (named_rows first line) in
    subst Knows (sym c.in-Echelon.is)
    (subst (λ (e : ℤ). Knows (Echelon e level)) (to_z-of_z w128 echelon echelon_fits)
    (subst (λ (l : ℤ). Knows (Echelon (to_z w128 (of_z w128 echelon)) l)) (to_z-of_z w128 level level_fits) (c.take_echelon.ensures.rows first knows none)))

pub returns-in-Part-clause-rule : goal.returns-in-Part-clause-rule
returns-in-Part-clause-rule c = λ first knows.
    let serial = serial_of c.args.self.now.recursion in
    let at = c.in-Part.at in
    let value = c.in-Part.value in
    let at_fits : FitsSigned w128 at = search rules in
    let value_fits : FitsSigned w128 value = search rules in
    c.take_part.ensures.rule first knows
    ∙ ap (λ (x : ℤ). serial_rule serial first (Part x (to_z w128 (of_z w128 value)))) (to_z-of_z w128 at at_fits)
    ∙ ap (λ (v : ℤ). serial_rule serial first (Part at v)) (to_z-of_z w128 value value_fits)
    ∙ ap (serial_rule serial first) (sym c.in-Part.is)

pub returns-in-Part-clause-rows : goal.returns-in-Part-clause-rows
returns-in-Part-clause-rows c = λ first knows none.
    let at = c.in-Part.at in
    let value = c.in-Part.value in
    let at_fits : FitsSigned w128 at = search rules in
    let value_fits : FitsSigned w128 value = search rules in
    let Knows : CertLine → Type 0 = λ line. KnowsRows c.take_part.new.self.recursion (named_rows first line) in
    subst Knows (sym c.in-Part.is)
    (subst (λ (x : ℤ). Knows (Part x value)) (to_z-of_z w128 at at_fits)
    (subst (λ (v : ℤ). Knows (Part (to_z w128 (of_z w128 at)) v)) (to_z-of_z w128 value value_fits) (c.take_part.ensures.rows first knows none)))
