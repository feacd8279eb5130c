use Rattle.std.proofs.Common.{◌<◌, length, refl, ap, arith}
use Rattle.cert_check.proofs.LotOrders.{dual_small}
use Rattle.cert_check.proofs.LotChecks.{takes, past_rule, kept_rule, knows_more, covered_before}
use Rattle.cert_check.proofs.lots.LotsCheck.take_order.Goals as goal

pub returns-then-not-add_dual-clause-rule : goal.returns-then-not-add_dual-clause-rule
returns-then-not-add_dual-clause-rule c = λ first knows.
    let check = c.args.self.now in
    let inside : check.totals.periods < length check.lots.now.demand = omega (arith, ap length c.as_slice.ensures) in
    let past = c.add_dual.ensures.past c.if-not-add_dual.true in
    let took = takes check first.orders first.duals c.args.order c.args.dual c.is_covered.result c.is_dual_of_demand.result knows inside c.is_covered.ensures c.if-not-is_covered.false c.is_dual_of_demand.ensures c.if-not-is_dual_of_demand.false in
    past_rule check.lots.now first.orders first.duals check.excesses.now check.totals.periods c.args.order c.args.dual took past.0 past.1 past.2

pub with_order-self-requires-clause-dual : goal.with_order-self-requires-clause-dual
with_order-self-requires-clause-dual c =
    let check = c.args.self.now in
    let inside : check.totals.periods < length check.lots.now.demand = omega (arith, ap length c.as_slice.ensures) in
    dual_small check.lots.now check.valid.readable check.excesses.now c.args.dual check.totals.periods inside (c.add_dual.ensures.own c.if-not-add_dual.false)

pub returns-clause-rule : goal.returns-clause-rule
returns-clause-rule c = λ first knows.
    let check = c.args.self.now in
    let inside : check.totals.periods < length check.lots.now.demand = omega (arith, ap length c.as_slice.ensures) in
    let took = takes check first.orders first.duals c.args.order c.args.dual c.is_covered.result c.is_dual_of_demand.result knows inside c.is_covered.ensures c.if-not-is_covered.false c.is_dual_of_demand.ensures c.if-not-is_dual_of_demand.false in
    kept_rule check.lots.now first.orders first.duals check.excesses.now check.totals.periods c.args.order c.args.dual took (c.add_dual.ensures.within c.if-not-add_dual.false (covered_before check first knows))

pub returns-clause-plan : goal.returns-clause-plan
returns-clause-plan c = λ first knows none.
    let check = c.args.self.now in
    let inside : check.totals.periods < length check.lots.now.demand = omega (arith, ap length c.as_slice.ensures) in
    let took = takes check first.orders first.duals c.args.order c.args.dual c.is_covered.result c.is_dual_of_demand.result knows inside c.is_covered.ensures c.if-not-is_covered.false c.is_dual_of_demand.ensures c.if-not-is_dual_of_demand.false in
    knows_more check _ first.orders first.duals c.args.order c.args.dual knows took refl refl (c.add_dual.ensures.cells c.if-not-add_dual.false) (c.add_dual.ensures.within c.if-not-add_dual.false (covered_before check first knows))
    c.with_order-self.ensures.periods c.with_order-self.ensures.ordered c.with_order-self.ensures.demanded c.with_order-self.ensures.duals c.with_order-self.ensures.cost
