use Rattle.std.proofs.Common.{◌≡◌, true, slice_index}
use Rattle.decision_model.specs.Average.{average_positions}
use Rattle.bracket_lemmas.specs.BracketSolved.{all_below, fits_under, under_entries}
use Rattle.bracket_terms.specs.Known.{item_of}
use Rattle.bracket_cost.proofs.lower.try_lower.Given as goal

abbrev pub invariant-loop-k : goal.invariant-loop-k
invariant-loop-k l = record {
  listed : l.entries.items ≡ under_entries (item_of l.terms) l.g l.k;
  passes : all_below (fits_under (item_of l.terms) l.g (slice_index (under_entries (item_of l.terms) l.g (average_positions (item_of l.terms))))) l.k ≡ true;
}
