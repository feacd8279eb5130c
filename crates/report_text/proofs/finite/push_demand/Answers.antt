use Rattle.decision_model.specs.LeadTimes.{finite_lead_time}
use Rattle.report_text.proofs.finite.push_demand.Goals as goal

pub push_periods-requires-clause-have_sums : goal.push_periods-requires-clause-have_sums
push_periods-requires-clause-have_sums c = rw c.as_slice.ensures (λ place lt. finite_lead_time c.args.finite.now place c.requires lt)
