use Rattle.std.proofs.Common.{◌-◌, ◌≡◌, ℕ, suc, ◌≤◌, true, false}
use Rattle.decision_model.specs.Average.{average_positions}
use Rattle.value_cert.specs.BracketValues.{most_bound, most_over}
use Rattle.bracket_lemmas.specs.BracketSolved.{passes_over}
use Rattle.bracket_terms.specs.Known.{item_of}
use Rattle.bracket_cost.proofs.upper.find_upper.Given as goal

abbrev pub invariant-turns : goal.invariant-turns
invariant-turns l = record {
  ordered : l.bottom ≤ l.good;
  within : l.good ≤ most_bound (item_of l.terms);
  passes : passes_over (item_of l.terms) (most_over (item_of l.terms) (average_positions (item_of l.terms))) l.pair.orders l.pair.high l.good ≡ true;
  fails : (b : ℕ) → suc b ≡ l.bottom → passes_over (item_of l.terms) (most_over (item_of l.terms) (average_positions (item_of l.terms))) l.pair.orders l.pair.high b ≡ false;
}

abbrev pub decreases-turns : goal.decreases-turns
decreases-turns l = l.good - l.bottom
