use Rattle.std.proofs.Common.{◌∙◌}
use Rattle.bracket_cost.proofs.CellFacts.{entry_back, position_back}
use Rattle.value_cert.specs.AverageValues.{at_place}
use Rattle.bracket_terms.specs.Known.{item_of}
use Rattle.bracket_cost.proofs.solve.cell_of.Goals as goal

pub returns : goal.returns
returns c = λ i. record {
  at = position_back c.position_of.result (at_place (item_of c.args.terms.now) c.args.k) c.position_of.ensures.near c.position_of.ensures.at i;
  under = c.args.under;
  over = (entry_back c.lowered.result c.lowered.ensures.small ∙ c.lowered.ensures.exact) i;
}
