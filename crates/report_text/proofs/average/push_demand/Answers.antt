use Rattle.decision_model.specs.LeadTimes.{average_lead_time}
use Rattle.report_text.proofs.average.push_demand.Goals as goal

pub push_sum-requires-clause-has_sum : goal.push_sum-requires-clause-has_sum
push_sum-requires-clause-has_sum c = rw c.from_ref.ensures.value (average_lead_time c.args.average.now 0 c.requires)
