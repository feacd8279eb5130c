use Rattle.std.proofs.Common.{◌≡◌, length, take, slice_index}
use Rattle.bracket_lemmas.specs.EntryFacts.{entry_after}
use Rattle.bracket_terms.specs.Moves.{move_sum}
use Rattle.bracket_terms.proofs.moves.weigh.Given as goal

abbrev pub invariant-loop-step : goal.invariant-loop-step
invariant-loop-step l = l.sum ≡ move_sum (take l.step-index l.moves) (entry_after l.below (slice_index l.entries) (length l.entries))
