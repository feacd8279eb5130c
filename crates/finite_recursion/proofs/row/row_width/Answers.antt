use Rattle.std.proofs.Common.{rules, ◌≡◌, ◌≤◌, pos, ◌+ℤ◌, ◌-ℤ◌, ◌≤ℤ◌, sym, ◌∙◌, ap, arith, to_z, of_z, w64}
use Rattle.std.specs.Prelude.{unsigned_abs}
use Rattle.std.proofs.lemmas.Int.{ints}
use Rattle.decision_model.specs.Positions.{above_zero}
use Rattle.decision_model.specs.PositionTests.{above_zero_is}
use Rattle.finite_recursion.proofs.Places.{low_cap}
use Rattle.finite_recursion.proofs.Places.{width_told}
use Rattle.finite_recursion.proofs.row.row_width.Goals as goal

told : (c : goal.After-low) → to_z w64 (of_z w64 (to_z w64 (of_z w64 (to_z w64 (of_z w64 c.args.finite.now.cap) -ℤ to_z w64 (of_z w64 c.low.result))) +ℤ pos 1)) ≡ c.args.finite.now.cap -ℤ c.low.result +ℤ pos 1
told c =
    let cap = c.requires.valid.regular.readable.cap in
    width_told c.args.finite.now.cap c.low.result (omega (arith, ints, cap.least, cap.most)) c.low.ensures.small

positive : (c : goal.After-low) → pos 0 ≤ℤ (c.args.finite.now.cap -ℤ c.low.result +ℤ pos 1)
positive c = omega (arith, ints, low_cap c.args.finite.now c.requires.valid.regular.readable c.args.period, c.low.ensures.low)

pub overflow_cast-result : goal.overflow_cast-result
overflow_cast-result c =
    let cap = c.requires.valid.regular.readable.cap in
    let least = positive c in
    let small : unsigned_abs (c.args.finite.now.cap -ℤ c.low.result +ℤ pos 1) ≤ 4000000 = omega (arith, ints, cap.least, cap.most, c.low.ensures.small) in
    rw (told c) (search rules)

pub returns : goal.returns
returns c =
    let is = above_zero_is (c.args.finite.now.cap -ℤ c.low.result +ℤ pos 1) (positive c) in
    ap unsigned_abs (told c ∙ sym is) ∙ ap (λ z. above_zero (c.args.finite.now.cap -ℤ z +ℤ pos 1)) c.low.ensures.low
