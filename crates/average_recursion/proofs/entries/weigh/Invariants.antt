use Rattle.std.proofs.Common.{◌≡◌, length, take}
use Rattle.average_recursion.specs.Entries.{entry_at, after, listed_count}
use Rattle.average_recursion.proofs.entries.weigh.Given as goal

abbrev pub invariant-loop-back : goal.invariant-loop-back
invariant-loop-back l = l.sum ≡ listed_count l.weights (take l.back-index l.listed) (after (entry_at l.cells) l.below (length l.cells))
