use Rattle.std.proofs.Common.{◌≡◌, ℕ, List, [], ◌∷◌, ◌++◌, ◌∙◌, ap, rules}
use Rattle.wagner_whitin.proofs.Steps.{no_recursion, first_within, recursion_more}
use Rattle.wagner_whitin.proofs.solve.run_recursion.Goals as goal

pub loop-period-init : goal.loop-period-init
loop-period-init c =
    let costs : c.push.new.self.items ≡ 0 ∷ [] = c.in_ok-push.ensures.items ∙ ap (λ (xs : List ℕ). xs ++ 0 ∷ []) c.new-costs.ensures.items in
    rw (costs, c.new-last_orders.ensures.items) (no_recursion c.args.lots.now)

pub next-last-requires-clause-first : goal.next-last-requires-clause-first
next-last-requires-clause-first c =
    first_within c.args.lots.now c.requires c.loop-period.costs.items c.loop-period.last_orders.items c.loop-period.first c.loop-period.period c.loop-period.invariant (search rules)

pub next-last-requires-clause-costs : goal.next-last-requires-clause-costs
next-last-requires-clause-costs c = c.deref.ensures.value ∙ c.loop-period.invariant.costs_are

pub loop-period-preserved : goal.loop-period-preserved
loop-period-preserved c =
    rw (c.in_ok-push-2.ensures.items, c.in_ok-push-3.ensures.items)
    (recursion_more c.args.lots.now c.loop-period.costs.items c.loop-period.last_orders.items c.loop-period.first c.loop-period.period c.next-last.result.period c.next-last.result.cost c.loop-period.invariant c.next-last.ensures.period c.next-last.ensures.cost)
