use Rattle.std.proofs.Common.{◌≡◌, ◌+◌, ◌-◌, ◌*◌, suc, get_or, sym, ◌∙◌, ap, arith}
use Rattle.value_cert.specs.LotRecursion.{cost_by, least_costs}
use Rattle.lot_lemmas.specs.LotRecursionFacts.{cost_before, cost_by-is, is_latest_least}
use Rattle.wagner_whitin.proofs.Search.{IsStretch, one_period, first_best, stretch_cost, next_stretch, next_better, next_no_better, stretch_small, costs_known, is_last_order}
use Rattle.wagner_whitin.proofs.solve.find_last_order.Goals as goal
use Rattle.wagner_whitin.proofs.solve.find_last_order.Goals.{After-cost_with-cost}

pub cost_with-requires-clause-costs : goal.cost_with-requires-clause-costs
cost_with-requires-clause-costs c = (costs_known c.args.lots.now c.requires.valid c.args.costs.now c.args.period c.requires.costs c.requires.within c.args.period (omega arith)).0

pub cost_with-requires-clause-small : goal.cost_with-requires-clause-small
cost_with-requires-clause-small c = (costs_known c.args.lots.now c.requires.valid c.args.costs.now c.args.period c.requires.costs c.requires.within c.args.period (omega arith)).1

pub loop-start-init : goal.loop-start-init
loop-start-init c =
    let item = c.args.lots.now in
    let period = c.args.period in
    let units = get_or c.as_slice-demand.result.now period 0 in
    let stretch : IsStretch item period period units 0 = rw c.as_slice-demand.ensures (one_period item c.requires.valid.readable period c.requires.within) in
    record {
      from_first = omega (arith, c.requires.first, (is_latest_least (cost_by item (least_costs item period) period) period).within);
      stretch = stretch;
      best = first_best item period c.cost_with.result (c.cost_with.ensures ∙ stretch_cost item c.args.costs.now period period units 0 c.requires.costs stretch);
    }

pub cost_with-cost-requires-clause-costs : goal.cost_with-cost-requires-clause-costs
cost_with-cost-requires-clause-costs c =
    (costs_known c.args.lots.now c.requires.valid c.args.costs.now c.args.period c.requires.costs c.requires.within (c.loop-start.start - 1) (omega (arith, c.loop-start.invariant.stretch.upto))).0

pub cost_with-cost-requires-clause-small : goal.cost_with-cost-requires-clause-small
cost_with-cost-requires-clause-small c =
    (costs_known c.args.lots.now c.requires.valid c.args.costs.now c.args.period c.requires.costs c.requires.within (c.loop-start.start - 1) (omega (arith, c.loop-start.invariant.stretch.upto))).1

pub cost_with-cost-requires-clause-held : goal.cost_with-cost-requires-clause-held
cost_with-cost-requires-clause-held c =
    let readable = c.requires.valid.readable in
    let stretch = next_stretch c.args.lots.now readable c.as_slice-demand.result.now c.as_slice-holding.result.now c.as_slice-demand.ensures c.as_slice-holding.ensures c.args.period c.loop-start.start c.loop-start.units c.loop-start.held (omega arith) c.loop-start.invariant.stretch in
    (stretch_small c.args.lots.now readable c.args.period (c.loop-start.start - 1) _ _ stretch).1

-- the stretch from one period earlier
longer : (c : After-cost_with-cost) → IsStretch c.args.lots.now c.args.period (c.loop-start.start - 1) (c.loop-start.units + get_or c.as_slice-demand.result.now (c.loop-start.start - 1) 0) (c.loop-start.held + get_or c.as_slice-holding.result.now (c.loop-start.start - 1) 0 * c.loop-start.units)
longer c =
    next_stretch c.args.lots.now c.requires.valid.readable c.as_slice-demand.result.now c.as_slice-holding.result.now c.as_slice-demand.ensures c.as_slice-holding.ensures c.args.period c.loop-start.start c.loop-start.units c.loop-start.held (omega arith) c.loop-start.invariant.stretch

-- the cost with the last order one period earlier
cost_earlier : (c : After-cost_with-cost) → c.cost_with-cost.result ≡ cost_before c.args.lots.now (c.loop-start.start - 1) (suc c.args.period)
cost_earlier c = c.cost_with-cost.ensures ∙ stretch_cost c.args.lots.now c.args.costs.now c.args.period (c.loop-start.start - 1) _ _ c.requires.costs (longer c)

pub loop-start-preserved : goal.loop-start-preserved
loop-start-preserved c =
    let w = (goal.at.loop-start-preserved c).After-cost_with-cost in
    record {
      from_first = omega arith;
      stretch = longer w;
      best = next_no_better c.args.lots.now c.args.period c.loop-start.start c.loop-start.last.period c.loop-start.last.cost c.cost_with-cost.result (omega arith) c.loop-start.invariant.best (cost_earlier w) c.if-cost-last.false;
    }

pub loop-start-preserved-then-cost-last : goal.loop-start-preserved-then-cost-last
loop-start-preserved-then-cost-last c =
    let w = (goal.at.loop-start-preserved-then-cost-last c).After-cost_with-cost in
    record {
      from_first = omega arith;
      stretch = longer w;
      best = next_better c.args.lots.now c.args.period c.loop-start.start c.loop-start.last.period c.loop-start.last.cost c.cost_with-cost.result (omega arith) c.loop-start.invariant.best (cost_earlier w) c.if-cost-last.true;
    }

pub returns-clause-period : goal.returns-clause-period
returns-clause-period c =
    is_last_order c.args.lots.now c.args.period c.loop-start.start c.loop-start.last.period c.loop-start.last.cost c.loop-start.invariant.best (omega (arith, c.requires.first))

pub returns-clause-cost : goal.returns-clause-cost
returns-clause-cost c =
    let item = c.args.lots.now in
    let best = c.loop-start.invariant.best in
    let found = is_last_order item c.args.period c.loop-start.start c.loop-start.last.period c.loop-start.last.cost best (omega (arith, c.requires.first)) in
    best.cost_is ∙ sym (cost_by-is item c.args.period c.loop-start.last.period best.within) ∙ ap (cost_by item (least_costs item c.args.period) c.args.period) found
