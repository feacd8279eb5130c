use Rattle.std.proofs.Common.{◌≡◌, ℕ, ◌<◌, false, nat_le, length, slice_index, sym, arith}
use Rattle.std.proofs.lemmas.Bool.Decides.{nat_tests}
use Rattle.network_model.proofs.Failing.{below_fails}
use Rattle.network_model.proofs.shape.are_single.Goals as goal

fails : (count : ℕ) → 1 < count → nat_le count 1 ≡ false
fails count more = grind (arith, nat_tests)

pub returns-then-counts-place-gt1 : goal.returns-then-counts-place-gt1
returns-then-counts-place-gt1 c =
    let counts = c.args.counts.now in
    sym (below_fails (λ j. nat_le (slice_index counts j) 1) c.loop-place.place (length counts) (fails _ c.if-counts-place-gt1.true) c.loop-place-test.true)
