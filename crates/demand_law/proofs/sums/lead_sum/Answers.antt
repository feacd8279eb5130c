use Rattle.std.proofs.Common.{◌≡◌, ◌^◌, ◌≤◌, length, sym, subst, rules}
use Rattle.std.proofs.lemmas.List.{take_at}
use Rattle.demand_law.specs.Law.{IsLaw}
use Rattle.demand_law.specs.Sequences.{laws_at, totals_of}
use Rattle.demand_law.proofs.Leads.{lead_is_law}
use Rattle.demand_law.proofs.sums.lead_sum.Goals as goal

pub from_weights-requires : goal.from_weights-requires
from_weights-requires c =
    let sums = c.sum_into.new.sums in
    let whole : length sums ≡ c.in_ok-sums.sums.len = search rules in
    let fits : totals_of (laws_at c.args.laws.now c.args.from c.args.count) ≤ 2 ^ 120 = search rules in
    subst IsLaw (sym (take_at sums _ _ whole)) (lead_is_law sums c.args.laws.now c.args.from c.args.count c.requires.serves c.requires.short c.lead_width-width.ensures.are_laws fits c.sum_into.ensures)
