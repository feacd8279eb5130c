use Rattle.std.proofs.Common.{◌≡◌, length, sym, subst, rules}
use Rattle.std.proofs.lemmas.List.{take_at}
use Rattle.demand_law.specs.Law.{IsLaw}
use Rattle.demand_law.proofs.Leads.{lead_is_law}
use Rattle.demand_law.proofs.sums.lead_into.Goals as goal

pub returns-clause-is_law : goal.returns-clause-is_law
returns-clause-is_law c =
    let sums = c.sum_into.new.sums in
    let whole : length sums ≡ c.lead_width-width.result = search rules in
    subst IsLaw (sym (take_at sums _ _ whole)) (lead_is_law sums c.args.laws.now c.args.from c.args.count c.requires.serves c.requires.short c.lead_width-width.ensures.are_laws c.requires.fits c.sum_into.ensures)
