use Rattle.std.proofs.Common.{rules, ◌≡◌, ◌+◌, ◌-◌, ◌*◌, ◌≤◌, ◌++◌, length, take, ap, sym, subst, ◌∙◌, arith}
use Rattle.demand_law.specs.Sequences.{laws_at, greatest_in, greatest_sum, IsSumOf}
use Rattle.std.proofs.lemmas.Nat.{mul-le}
use Rattle.demand_law.specs.ServedLaws.{greatest_sum-laws_at}
use Rattle.decision_model.specs.FiniteSound.{sound_readable}
use Rattle.finite_recursion.specs.Demands.{AreDemandsOf}
use Rattle.finite_recursion.specs.Rows.{HoldsLaws}
use Rattle.finite_recursion.specs.Tables.{sums_needed}
use Rattle.decision_model.specs.LeadTimes.{HasSum, finite_lead_time}
use Rattle.finite_recursion.proofs.LawRows.{lead_told, holds_laws}
use Rattle.finite_recursion.proofs.laws.hold_laws.Goals as goal

-- the laws of the lead time have a sum that fits
has_sum : (c : goal.After-lead_into-arg-1) → HasSum c.as_slice.result.now (c.args.period - 1) (c.args.finite.now.lead + 1)
has_sum c =
    let finite = c.args.finite.now in
    subst (λ laws. HasSum laws (c.args.period - 1) (finite.lead + 1)) (sym c.as_slice.ensures) (finite_lead_time finite (c.args.period - 1) c.requires.valid (omega (arith, c.requires.from_one, c.requires.within)))

pub lead_into-lead-requires-clause-short : goal.lead_into-lead-requires-clause-short
lead_into-lead-requires-clause-short c = (has_sum c).short

pub lead_into-lead-requires-clause-fits : goal.lead_into-lead-requires-clause-fits
lead_into-lead-requires-clause-fits c = (has_sum c).fits

-- the sums have room for the demands behind the law
half_room : (c : goal.After-list_demands-arg-1) → length c.weights_of.result.now ≤ length c.split_at_mut-demands.result.1.now
half_room c =
    let finite = c.args.finite.now in
    let law = (sound_readable finite c.requires.valid.regular.readable).within c.args.period in
    let same : length c.lead_into-lead.new.sums ≡ sums_needed finite = search rules in
    let greatest = mul-le 1 (greatest_in finite.laws) (finite.lead + 1) (greatest_in finite.laws) (omega arith) (omega arith) in
    omega (arith, ap length c.weights_of.ensures.weights, law, same, c.greatest.ensures, c.split_at_mut-demands.ensures.back_len, greatest, ap (λ g. (finite.lead + 1) * g) c.greatest.ensures)

pub list_demands-listed-requires : goal.list_demands-listed-requires
list_demands-listed-requires c = record { room = half_room c }

pub returns-clause-holds : goal.returns-clause-holds
returns-clause-holds c =
    let finite = c.args.finite.now in
    let half = (finite.lead + 1) * c.greatest.result + 1 in
    let same : length c.lead_into-lead.new.sums ≡ sums_needed finite = search rules in
    let law = lead_told finite c.args.period (take c.lead_into-lead.result c.lead_into-lead.new.sums) (subst (λ laws. IsSumOf (take c.lead_into-lead.result c.lead_into-lead.new.sums) (laws_at laws (c.args.period - 1) (finite.lead + 1))) c.as_slice.ensures c.lead_into-lead.ensures.is_sum) in
    let width = c.lead_into-lead.ensures.width ∙ ap (λ laws. greatest_sum (laws_at laws (c.args.period - 1) (finite.lead + 1)) + 1) c.as_slice.ensures in
    let most = greatest_sum-laws_at finite.laws (c.args.period - 1) (finite.lead + 1) (finite_lead_time finite (c.args.period - 1) c.requires.valid (omega (arith, c.requires.from_one, c.requires.within))).serves in
    let half_is : half ≡ (finite.lead + 1) * greatest_in finite.laws + 1 = ap (λ g. (finite.lead + 1) * g + 1) c.greatest.ensures in
    let demands = subst (λ law. AreDemandsOf law (take c.list_demands-listed.result c.list_demands-listed.new.listed)) c.weights_of.ensures.weights c.list_demands-listed.ensures.demands in
    subst (λ front. HoldsLaws finite c.args.period (record { lead = c.lead_into-lead.result; half = half; listed = c.list_demands-listed.result }) (front ++ c.list_demands-listed.new.listed)) (sym c.split_at_mut-demands.ensures.front)
    (holds_laws finite c.args.period c.lead_into-lead.result half c.list_demands-listed.result c.lead_into-lead.new.sums c.list_demands-listed.new.listed half_is (omega (arith, width, most, half_is)) (omega (arith, same, half_is)) law c.list_demands-listed.ensures.within demands)
