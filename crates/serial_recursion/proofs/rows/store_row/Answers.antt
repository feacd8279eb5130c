use Rattle.std.proofs.Common.{◌≡◌, pos, rules, arith, to_z-of_z, FitsSigned, slice_index_or}
use Rattle.std.specs.Int.{w128}
use Rattle.serial_recursion.specs.Rows.{value_at}
use Rattle.serial_recursion.proofs.Places.{stored_none, stored_more}
use Rattle.serial_recursion.proofs.rows.store_row.Goals as goal

pub loop-place-init : goal.loop-place-init
loop-place-init c = stored_none (λ k z. z ≡ value_at c.args.row.now k) c.args.start c.args.values.now

pub loop-place-preserved : goal.loop-place-preserved
loop-place-preserved c =
    let fits : FitsSigned w128 (slice_index_or c.args.row.now c.loop-place.place (pos 0)) = search rules in
    stored_more (λ k z. z ≡ value_at c.args.row.now k) c.args.start c.args.values.now c.loop-place.values c.loop-place.place _ c.loop-place.invariant (omega (arith, c.loop-place-test.true, c.requires.values)) (to_z-of_z fits)

pub returns-clause-stored : goal.returns-clause-stored
returns-clause-stored c = λ k lt. c.loop-place.invariant.done k (omega (arith, lt, c.loop-place-test.false))

pub returns-clause-below : goal.returns-clause-below
returns-clause-below c = λ k lt. c.loop-place.invariant.below k lt

pub returns-clause-above : goal.returns-clause-above
returns-clause-above c = λ k le. c.loop-place.invariant.above k (omega (arith, le, c.loop-place-test.false, c.loop-place.auto.place-end))
