use Rattle.std.proofs.Common.{◌<◌, length, take, arith}
use Rattle.finite_recursion.proofs.Demands.{first_none, first_put, first_kept, first_all}
use Rattle.finite_recursion.proofs.laws.list_demands.Goals as goal
use Rattle.finite_recursion.proofs.laws.list_demands.Goals.{then-weight-ne0, else-weight-ne0}

pub loop-demand-init : goal.loop-demand-init
loop-demand-init c = record { few = omega arith; demands = first_none c.args.weights.now }

-- the place of the next demand is one of the list
inside : (c : goal.Joined-weight-ne0) → c.loop-demand.count < length c.loop-demand.listed
inside c = omega (arith, c.requires.room, c.loop-demand.invariant.few, c.loop-demand-test.true, c.loop-demand.auto.listed)

pub loop-demand-preserved : goal.loop-demand-preserved
loop-demand-preserved c = elim c.if-weight-ne0.branch [
  | then-weight-ne0 w ↦ record {
    few = omega (arith, w.count-is, c.loop-demand.invariant.few);
    demands = first_put c.args.weights.now c.loop-demand.demand c.loop-demand.count c.if-weight-ne0.count c.loop-demand.listed c.if-weight-ne0.listed c.loop-demand-test.true (inside c) c.loop-demand.invariant.demands w.count-is w.listed-is;
  }
  | else-weight-ne0 w ↦ record {
    few = omega (arith, w.count-is, c.loop-demand.invariant.few);
    demands = first_kept c.args.weights.now c.loop-demand.demand c.loop-demand.count c.if-weight-ne0.count c.loop-demand.listed c.if-weight-ne0.listed c.loop-demand-test.true w.if-weight-ne0.false c.loop-demand.invariant.demands w.count-is w.listed-is;
  }
]

pub returns-clause-demands : goal.returns-clause-demands
returns-clause-demands c = first_all c.args.weights.now c.loop-demand.demand (take c.loop-demand.count c.loop-demand.listed) (omega arith) c.loop-demand.invariant.demands
