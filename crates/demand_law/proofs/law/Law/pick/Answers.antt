use Rattle.std.proofs.Common.{◌*◌, ◌/◌, ◌^◌, ◌∙◌, ap, subst, sum, sym, arith, rules, leb}
use Rattle.std.proofs.lemmas.List.Sorted.{IsPartitionPoint-from_clause, IsPartitionedBy-leb}
use Rattle.std.specs.List.Sorted.{IsNonDecreasing}
use Rattle.demand_law.specs.Law.{IsLaw, running_sums}
use Rattle.demand_law.proofs.RunningSums.{Picks, running_sums-grow, picks_at}
use Rattle.demand_law.proofs.law.Law.pick.Goals as goal

picks : (c : goal.After-partition_point) → Picks c.args.self.now c.args.word c.partition_point.result
picks c =
    let ws = c.args.self.now in
    let v = c.args.word * sum ws / 2 ^ 32 in
    let law = subst IsLaw c.self.view_is c.self.invariant.0 in
    let same = c.deref.ensures.value ∙ c.self.invariant.1 ∙ ap running_sums c.self.view_is in
    let parted = IsPartitionedBy-leb (λ s. s) _ v (subst IsNonDecreasing (sym same) (running_sums-grow ws)) in
    let point = IsPartitionPoint-from_clause (λ s. leb s v) _ _ c.partition_point.ensures.partitioned parted (λ a r q k. search rules) in
    picks_at ws _ c.args.word _ law same (omega arith) c.partition_point.ensures.bound point

pub overflow_cast-result : goal.overflow_cast-result
overflow_cast-result c =
    let law = subst IsLaw c.self.view_is c.self.invariant.0 in
    omega (arith, (picks c).within, law.short)

pub returns : goal.returns
returns c =
    let is = picks c in
    record { value = is.value; above = is.above; least = is.least }
