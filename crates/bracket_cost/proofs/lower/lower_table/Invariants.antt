use Rattle.std.proofs.Common.{◌≡◌, slice_index}
use Rattle.decision_model.specs.Average.{average_positions}
use Rattle.bracket_lemmas.specs.BracketSolved.{under_entries, under_worth}
use Rattle.bracket_cost.proofs.LowerFacts.{IsBest}
use Rattle.bracket_terms.specs.Known.{item_of}
use Rattle.bracket_cost.proofs.lower.lower_table.Given as goal

abbrev pub invariant-loop-k : goal.invariant-loop-k
invariant-loop-k l = record {
  listed : l.entries.items ≡ under_entries (item_of l.terms) l.g l.k;
  best_is : IsBest (under_worth (item_of l.terms) l.g (slice_index (under_entries (item_of l.terms) l.g (average_positions (item_of l.terms))))) l.k l.best;
}
