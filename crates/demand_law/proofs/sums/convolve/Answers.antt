use Rattle.std.proofs.Common.{◌≡◌, ◌+◌, ◌*◌, ◌^◌, ◌≤◌, length, sum, subst, sym, rules}
use Rattle.std.proofs.lemmas.List.{take_at}
use Rattle.demand_law.specs.Law.{IsLaw, greatest_of}
use Rattle.demand_law.proofs.Leads.{IsLaw-pair}
use Rattle.demand_law.proofs.sums.convolve.Goals as goal

pub from_weights-requires : goal.from_weights-requires
from_weights-requires c =
    let first = c.weights-first.result.now in
    let second = c.weights-second.result.now in
    let sums = c.convolve_into.new.sums in
    let whole : length sums ≡ c.in_ok-weights.weights.len = search rules in
    let fits : sum first * sum second ≤ 2 ^ 120 = search rules in
    let short : greatest_of first + greatest_of second ≤ 4000000000 = search rules in
    let is_first : IsLaw first = subst IsLaw (sym c.weights-first.ensures.weights) c.weights-first.ensures.law in
    let is_second : IsLaw second = subst IsLaw (sym c.weights-second.ensures.weights) c.weights-second.ensures.law in
    subst IsLaw (sym (take_at sums _ _ whole)) (IsLaw-pair sums first second is_first is_second fits short c.convolve_into.ensures)
