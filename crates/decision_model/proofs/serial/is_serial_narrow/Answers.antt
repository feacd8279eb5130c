use Rattle.std.proofs.Common.{◌≡◌, ◌*◌, ◌^◌, length, refl}
use Rattle.decision_model.specs.DemandLaws.{common_total}
use Rattle.decision_model.specs.Serial.{serial_cost_bound, serial_width}
use Rattle.decision_model.specs.WidthFacts.{serial_parts_fit, serial_weights_fit, serial_discounts_fit}
use Rattle.decision_model.proofs.Narrow.{refused, decided, regroup_four}
use Rattle.decision_model.proofs.serial.is_serial_narrow.Goals as goal

pub returns-in_default : goal.returns-in_default
returns-in_default c =
    let serial = c.args.serial.now in
    let past = rw (c.as_slice.ensures, c.from.ensures) at c.in_default.ensures in
    refused _ (2 * serial.periods) (length serial.holding) (serial_width serial) refl past (serial_parts_fit serial c.requires.readable)

pub returns-in_default-checked_pow : goal.returns-in_default-checked_pow
returns-in_default-checked_pow c =
    let serial = c.args.serial.now in
    refused _ _ serial.periods (serial_width serial) c.total.ensures c.in_default-checked_pow.ensures (serial_weights_fit serial c.requires.readable)

pub returns-in_default-checked_pow-2 : goal.returns-in_default-checked_pow-2
returns-in_default-checked_pow-2 c =
    let serial = c.args.serial.now in
    refused _ _ serial.periods (serial_width serial) c.from-2.ensures c.in_default-checked_pow-2.ensures (serial_discounts_fit serial c.requires.readable)

pub returns : goal.returns
unfolding serial_width
returns c =
    let serial = c.args.serial.now in
    let parts : c.in-Some.parts ≡ (2 * serial.periods) ^ length serial.holding = rw (c.as_slice.ensures, c.from.ensures) at c.in-Some.ensures.1 in
    let weights : c.in-Some-checked_pow.weights ≡ common_total serial.laws ^ serial.periods = rw c.total.ensures at c.in-Some-checked_pow.ensures.1 in
    let discounts : c.in-Some-checked_pow-2.discounts ≡ serial.discount_den ^ serial.periods = rw c.from-2.ensures at c.in-Some-checked_pow-2.ensures.1 in
    decided c.within.result _ (serial_width serial) c.within.ensures
    (rw (parts, c.serial_cost_bound-cost.ensures.bound, weights, discounts) (regroup_four _ (serial_cost_bound serial) _ _))
