use Rattle.average_lemmas.specs.LeadWeights.{lead_known}
use Rattle.bracket_terms.proofs.grid.lead_demand.Goals as goal

pub returns-in-Ok : goal.returns-in-Ok
returns-in-Ok c = lead_known c.args.item.now c.in-Ok.law c.from_ref.result.now c.from_ref.ensures.value c.in-Ok.ensures.is_sum
