use Rattle.std.proofs.Common.{◌-◌, ◌≡◌, suc, ◌<◌, ◌≤◌, true, false}
use Rattle.decision_model.specs.Average.{average_positions}
use Rattle.value_cert.specs.BracketValues.{most_bound}
use Rattle.bracket_lemmas.specs.BracketSolved.{passes_under}
use Rattle.bracket_terms.specs.Known.{item_of}
use Rattle.bracket_cost.proofs.lower.find_lower.Given as goal

abbrev pub invariant-turns : goal.invariant-turns
invariant-turns l = record {
  ordered : l.good ≤ l.top;
  within : l.top ≤ most_bound (item_of l.terms);
  passes : passes_under (item_of l.terms) (average_positions (item_of l.terms)) l.good ≡ true;
  fails : l.top < most_bound (item_of l.terms) → passes_under (item_of l.terms) (average_positions (item_of l.terms)) (suc l.top) ≡ false;
}

abbrev pub decreases-turns : goal.decreases-turns
decreases-turns l = l.top - l.good
