use Rattle.std.proofs.Common.{◌≡◌, ◌+◌, ◌≤◌, ◌^◌, ℤ, pos, ◌+ℤ◌, ◌*ℤ◌, rules, arith, to_z-of_z, FitsSigned, slice_index_or, length, refl, sym, subst}
use Rattle.std.specs.Int.{w128}
use Rattle.std.specs.Prelude.{unsigned_abs}
use Rattle.serial_recursion.specs.Rows.{value_at, row_at}
use Rattle.serial_recursion.proofs.Places.{written_none, written_more}
use Rattle.serial_recursion.proofs.orders.add_demand.Goals as goal

pub loop-place-init : goal.loop-place-init
loop-place-init c =
    written_none (λ k z. z ≡ value_at c.args.sums.now k +ℤ pos c.args.weight *ℤ row_at c.args.values.now c.args.from k) (λ k z. z ≡ value_at c.args.sums.now k) c.args.count (length c.args.sums.now) c.args.sums.now refl (λ k lt. refl)

pub add_weighed-requires-clause-sum : goal.add_weighed-requires-clause-sum
add_weighed-requires-clause-sum c =
    let fits : FitsSigned w128 (slice_index_or c.loop-place.sums c.loop-place.place (pos 0)) = search rules in
    subst (λ (z : ℤ). unsigned_abs z ≤ 2 ^ 120) (sym (to_z-of_z fits))
    (subst (λ (z : ℤ). unsigned_abs z ≤ 2 ^ 120) (sym (c.loop-place.invariant.left c.loop-place.place (omega arith) c.loop-place-test.true)) (c.requires.small c.loop-place.place c.loop-place-test.true))

pub loop-place-preserved : goal.loop-place-preserved
loop-place-preserved c =
    let k = c.loop-place.place in
    let sum_fits : FitsSigned w128 (slice_index_or c.loop-place.sums k (pos 0)) = search rules in
    let value_fits : FitsSigned w128 (slice_index_or c.args.values.now (c.args.from + k) (pos 0)) = search rules in
    let fits : FitsSigned w128 c.add_weighed.result = search rules in
    let sum_is = to_z-of_z sum_fits in
    let value_is = to_z-of_z value_fits in
    let stored = to_z-of_z fits in
    let before = c.loop-place.invariant.left k (omega arith) c.loop-place-test.true in
    let exact = c.add_weighed.ensures in
    written_more (λ k z. z ≡ value_at c.args.sums.now k +ℤ pos c.args.weight *ℤ row_at c.args.values.now c.args.from k) (λ k z. z ≡ value_at c.args.sums.now k) c.args.count (length c.args.sums.now) c.loop-place.sums k _ c.loop-place.invariant (omega (arith, c.loop-place-test.true, c.requires.sums))
    (cc (exact, stored, sum_is, value_is, before))
