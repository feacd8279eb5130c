use Rattle.std.proofs.Common.{length, sum, sym, ap, arith, add-one, pow-suc, pos}
use Rattle.std.proofs.Math.Nat.{pow-zero}
use Rattle.value_cert.specs.AverageValues.{moving}
use Rattle.average_cost.proofs.SpanSteps.{moving_is, start_told, step_told, end_told, lower_product, upper_product, power_next}
use Rattle.average_cost.proofs.relative.greatest_of.Goals as goal

pub loop-back-init : goal.loop-back-init
loop-back-init c = record { most_is = start_told c.args.item.now c.requires.valid c.args.cert.now c.requires.certified c.args.start; power_is = sym (pow-zero (sum (moving c.args.item.now.law))) }

pub overflow_mul-cell : goal.overflow_mul-cell
overflow_mul-cell c =
    let fits = lower_product c.args.item.now c.requires.valid c.args.cert.now c.requires.certified c.loop-back.back c.loop-back.power (record { at = pos 0; lower = 0; upper = 0 }) c.as_slice-cells.result.now c.as_slice-cells.ensures (omega (arith, c.loop-back-test.true, ap length c.as_slice-cells.ensures)) c.loop-back.invariant.power_is in
    omega (arith, fits)

pub overflow_mul-cell-in-loop-back : goal.overflow_mul-cell-in-loop-back
overflow_mul-cell-in-loop-back c =
    let fits = upper_product c.args.item.now c.requires.valid c.args.cert.now c.requires.certified c.loop-back.back c.loop-back.power (record { at = pos 0; lower = 0; upper = 0 }) c.as_slice-cells.result.now c.as_slice-cells.ensures (omega (arith, c.loop-back-test.true, ap length c.as_slice-cells.ensures)) c.loop-back.invariant.power_is in
    omega (arith, fits)

pub overflow_mul-power : goal.overflow_mul-power
overflow_mul-power c =
    let fits = power_next c.args.item.now c.requires.valid c.args.cert.now c.requires.certified c.loop-back.back (omega (arith, c.loop-back-test.true, ap length c.as_slice-cells.ensures)) in
    rw (c.loop-back.invariant.power_is, c.total.ensures, c.weight.ensures, moving_is c.args.item.now c.requires.valid c.args.cert.now c.requires.certified) (omega (arith, fits))

pub loop-back-preserved : goal.loop-back-preserved
loop-back-preserved c = record {
  most_is = step_told c.args.item.now c.requires.valid c.args.cert.now c.requires.certified c.args.start c.loop-back.back c.loop-back.most c.loop-back.power c.max.result c.max-most.result (record { at = pos 0; lower = 0; upper = 0 }) c.as_slice-cells.result.now c.as_slice-cells.ensures (omega (arith, c.loop-back-test.true, ap length c.as_slice-cells.ensures)) c.loop-back.invariant.most_is c.loop-back.invariant.power_is c.max.ensures c.max-most.ensures;
  power_is = rw (c.loop-back.invariant.power_is, c.total.ensures, c.weight.ensures, moving_is c.args.item.now c.requires.valid c.args.cert.now c.requires.certified, add-one) (sym (pow-suc (sum (moving c.args.item.now.law)) c.loop-back.back));
}

pub returns : goal.returns
returns c = end_told c.args.item.now c.requires.valid c.args.cert.now c.requires.certified c.args.start c.loop-back.back c.loop-back.most (omega (arith, c.loop-back-test.false, c.loop-back.auto.back-end, ap length c.as_slice-cells.ensures)) c.loop-back.invariant.most_is
