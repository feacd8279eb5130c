use Rattle.std.proofs.Common.{◌≡◌, take}
use Rattle.value_cert.specs.Bracket.{greatest_over}
use Rattle.bracket_cost.proofs.SpanFacts.{overs}
use Rattle.bracket_cost.proofs.span.greatest_over.Given as goal

abbrev pub invariant-loop-cell : goal.invariant-loop-cell
invariant-loop-cell l = l.greatest ≡ greatest_over l.most (overs (take l.cell-index l.cells))
