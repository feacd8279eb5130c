use Rattle.std.proofs.Common.{◌==◌, not, slice_index, arith, refl, sym, ◌≡◌, ◌∙◌}
use Rattle.bracket_cost.proofs.LowerFacts.{front_init, front_more, front_here, front_end, differs, agrees}
use Rattle.bracket_cost.proofs.lower.count_orders.Goals as goal

pub loop-k-init : goal.loop-k-init
loop-k-init c = front_init (λ j. not (slice_index c.args.entries.now j == c.args.setup)) c.args.high

pub returns-then-entries-k : goal.returns-then-entries-k
returns-then-entries-k c =
    front_here (λ j. not (slice_index c.args.entries.now j == c.args.setup)) c.args.high c.loop-k.k c.loop-k.invariant c.loop-k-test.true
    (differs (slice_index c.args.entries.now c.loop-k.k) c.args.setup (slice_index c.args.entries.now c.loop-k.k) refl c.if-entries-k.true)

pub loop-k-preserved : goal.loop-k-preserved
loop-k-preserved c =
    front_more (λ j. not (slice_index c.args.entries.now j == c.args.setup)) c.args.high c.loop-k.k c.loop-k.invariant
    (agrees (slice_index c.args.entries.now c.loop-k.k) c.args.setup (slice_index c.args.entries.now c.loop-k.k) refl c.if-entries-k.false)

pub returns : goal.returns
returns c =
    let end : c.loop-k.k ≡ c.args.high = omega (arith, c.loop-k-test.false, c.loop-k.auto.k-end) in
    sym end ∙ front_end (λ j. not (slice_index c.args.entries.now j == c.args.setup)) c.args.high c.loop-k.k c.loop-k.invariant end
