use Rattle.std.proofs.Common.{◌≡◌, take}
use Rattle.value_cert.specs.Bracket.{depth_over}
use Rattle.bracket_cost.proofs.SpanFacts.{overs}
use Rattle.bracket_cost.proofs.span.depth_over.Given as goal

abbrev pub invariant-loop-cell : goal.invariant-loop-cell
invariant-loop-cell l = l.depth ≡ depth_over 0 (overs (take l.cell-index l.cells))
