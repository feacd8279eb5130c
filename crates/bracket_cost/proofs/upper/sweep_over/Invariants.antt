use Rattle.std.proofs.Common.{◌≡◌}
use Rattle.decision_model.specs.Average.{average_positions}
use Rattle.bracket_lemmas.specs.BracketSolved.{over_entries}
use Rattle.value_cert.specs.BracketValues.{most_over}
use Rattle.bracket_terms.specs.Known.{item_of}
use Rattle.bracket_cost.proofs.upper.sweep_over.Given as goal

abbrev pub invariant-loop-k : goal.invariant-loop-k
invariant-loop-k l = l.entries.items ≡ over_entries (item_of l.terms) (most_over (item_of l.terms) (average_positions (item_of l.terms))) l.orders l.g l.k
