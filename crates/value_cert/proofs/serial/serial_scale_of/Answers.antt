use Rattle.std.proofs.Common.{◌*◌, ◌^◌, ap, arith, ◌∙◌}
use Rattle.decision_model.specs.WidthFacts.{serial_scale_some}
use Rattle.value_cert.proofs.serial.serial_scale_of.Goals as goal

pub returns-clause-some : goal.returns-clause-some
returns-clause-some c =
    let serial = c.args.serial.now in
    let base = ap (λ d. d * c.total.result) c.from.ensures ∙ ap (λ w. serial.discount_den * w) c.total.ensures in
    omega (arith, c.power.ensures, ap (λ b. b ^ c.args.left) base, serial_scale_some serial c.requires.valid.regular.readable c.args.left)
