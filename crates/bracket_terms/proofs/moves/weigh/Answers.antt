use Rattle.std.proofs.Common.{◌+◌, ◌*◌, length, slice_index, slice_index_or, ap, arith, sym}
use Rattle.bracket_lemmas.specs.EntryFacts.{entry_after}
use Rattle.bracket_terms.specs.declared.moves.Move.{Move}
use Rattle.bracket_terms.proofs.MoveFacts.{sum_more, sum_front, no_moves}
use Rattle.bracket_terms.proofs.moves.weigh.Goals as goal

pub loop-step-init : goal.loop-step-init
loop-step-init c = sym (no_moves (entry_after c.args.below (slice_index c.args.entries.now) (length c.args.entries.now)))

pub add_weighed-sum-requires : goal.add_weighed-sum-requires
add_weighed-sum-requires c =
    let f = entry_after c.args.below (slice_index c.args.entries.now) (length c.args.entries.now) in
    let i = c.loop-step.step-index in
    let none : Move = record { back = 0; weight = 0 } in
    omega (arith, c.requires, c.loop-step.invariant, sum_more c.args.moves.now i none f c.loop-step-test.true, sum_front c.args.moves.now (i + 1) f, ap (λ z. (slice_index_or c.args.moves.now i none).weight * z) c.entry_after.ensures)

pub loop-step-preserved : goal.loop-step-preserved
loop-step-preserved c =
    let f = entry_after c.args.below (slice_index c.args.entries.now) (length c.args.entries.now) in
    let i = c.loop-step.step-index in
    let none : Move = record { back = 0; weight = 0 } in
    omega (arith, c.add_weighed-sum.ensures, c.loop-step.invariant, sum_more c.args.moves.now i none f c.loop-step-test.true, ap (λ z. (slice_index_or c.args.moves.now i none).weight * z) c.entry_after.ensures)
