use Rattle.std.proofs.Common.{◌≡◌, map, slice_index}
use Rattle.std.specs.List.{range_with_len}
use Rattle.decision_model.specs.Average.{average_positions}
use Rattle.value_cert.specs.BracketValues.{most_over}
use Rattle.bracket_lemmas.specs.SolvedCert.{cell_at}
use Rattle.bracket_terms.specs.Known.{item_of}
use Rattle.bracket_cost.proofs.solve.list_cells.Given as goal

abbrev pub invariant-loop-k : goal.invariant-loop-k
invariant-loop-k l = l.cells.items ≡ map (cell_at (item_of l.terms) (slice_index l.under) (slice_index l.over) (most_over (item_of l.terms) (average_positions (item_of l.terms)))) (range_with_len 0 l.k)
