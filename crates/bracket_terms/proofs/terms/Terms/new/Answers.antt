use Rattle.std.proofs.Common.{◌∙◌, ap, subst}
use Rattle.demand_law.specs.CountedSums.{counted}
use Rattle.decision_model.specs.declared.average.Average.{Average}
use Rattle.decision_model.specs.Average.{average_positions}
use Rattle.bracket_terms.specs.Grids.{AreCosts}
use Rattle.bracket_terms.proofs.terms.Terms.new.Goals as goal

pub invariant_of-result : goal.invariant_of-result
invariant_of-result c = record {
  wide = ∣ c.requires ∣₁;
  moves_are = λ f. c.in_ok-moves.ensures f ∙ ap (λ ws. counted ws f) c.moving_weights.ensures;
  costs_are = subst (λ (x : Average). AreCosts x (average_positions x) c.in_ok-costs.costs) c.in_ok-grid.ensures c.in_ok-costs.ensures;
  sizes_are = c.sizes_of-sizes.ensures;
}
