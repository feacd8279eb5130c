use Rattle.std.proofs.Common.{rules, ◌≡◌, ◌+◌, ◌*◌, ◌≤◌, ◌++◌, length, take, ap, sym, subst, arith}
use Rattle.demand_law.specs.Law.{greatest_of}
use Rattle.decision_model.specs.LeadTimes.{HasSum, average_lead_time}
use Rattle.average_lemmas.specs.LeadWeights.{lead_known}
use Rattle.finite_recursion.specs.Demands.{AreDemandsOf}
use Rattle.average_recursion.specs.Laws.{HoldsLaws}
use Rattle.average_recursion.specs.Tables.{sums_needed}
use Rattle.average_recursion.proofs.LawSums.{holds_laws, lead_width}
use Rattle.average_recursion.proofs.laws.hold_laws.Goals as goal

pub lead_into-lead-requires-clause-fits : goal.lead_into-lead-requires-clause-fits
lead_into-lead-requires-clause-fits c = (subst (λ laws. HasSum laws 0 (c.args.average.now.lead + 1)) (sym c.from_ref.ensures.value) (average_lead_time c.args.average.now 0 c.requires.valid)).fits

pub returns-clause-holds : goal.returns-clause-holds
returns-clause-holds c =
    let item = c.args.average.now in
    let half = (item.lead + 1) * c.greatest.result + 1 in
    let same : length c.lead_into-lead.new.sums ≡ sums_needed item = search rules in
    let law = lead_known item (take c.lead_into-lead.result c.lead_into-lead.new.sums) c.from_ref.result.now c.from_ref.ensures.value c.lead_into-lead.ensures.is_sum in
    let half_is : half ≡ (item.lead + 1) * greatest_of item.law + 1 = ap (λ g. (item.lead + 1) * g + 1) c.greatest.ensures in
    let demands = subst (λ law. AreDemandsOf law (take c.list_demands-listed.result c.list_demands-listed.new.listed)) c.moving_weights.ensures c.list_demands-listed.ensures.demands in
    let width : c.lead_into-lead.result ≤ half = omega (arith, ap length law, c.lead_into-lead.ensures.width, c.lead_into-lead.ensures.is_sum.width, lead_width item c.requires.valid, half_is) in
    subst (λ front. HoldsLaws item (record { lead = c.lead_into-lead.result; half = half; listed = c.list_demands-listed.result }) (front ++ c.list_demands-listed.new.listed)) (sym c.split_at_mut-demands.ensures.front)
    (holds_laws item c.lead_into-lead.result half c.list_demands-listed.result c.lead_into-lead.new.sums c.list_demands-listed.new.listed half_is width (omega (arith, same, half_is)) law c.list_demands-listed.ensures.within demands)
