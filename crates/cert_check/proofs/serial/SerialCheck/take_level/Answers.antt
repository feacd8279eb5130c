use Rattle.std.proofs.Common.{ℤ, subst}
use Rattle.std.proofs.lemmas.Int.{to_z-of_z}
use Rattle.std.specs.Int.{w128}
use Rattle.serial_recursion.specs.Recursions.{KnowsRows}
use Rattle.value_cert.specs.SerialRules.{named_rows}
use Rattle.value_cert.specs.declared.line.CertLine.TheVariants.{Echelon}
use Rattle.cert_check.proofs.serial.SerialCheck.take_level.Goals as goal

pub returns-clause-rows : goal.returns-clause-rows
returns-clause-rows c = λ first knows none.
    subst (λ (level : ℤ). KnowsRows c.begin_echelon.new.self (named_rows first (Echelon c.args.echelon level))) (to_z-of_z w128 c.args.level c.ranges.level)
    (c.begin_echelon.ensures.knows first c.args.echelon knows)
