use Rattle.std.proofs.Common.{◌<◌, length, arith, ◌∙◌}
use Rattle.demand_law.proofs.PointsPlaced.{step_at, no_fault_at, is_law, is_law_of, state_end}
use Rattle.demand_law.proofs.law.Law.from_points.Goals as goal

pub loop-demand-preserved : goal.loop-demand-preserved
loop-demand-preserved c =
    let h = c.in_ok-place.ensures.ok in
    let k = c.in_ok-place.ensures.fits in
    let within = c.loop-demand-test.true in
    record {
      state = step_at _ _ (0, 0) _ _ within c.loop-demand.invariant.state h k.0 k.1 k.3;
      total = omega (arith, h.total, c.from.ensures, c.loop-demand.invariant.total);
      bound = omega (arith, c.from.ensures, c.loop-demand.invariant.bound, k.2);
      fault = no_fault_at _ _ (0, 0) _ within c.loop-demand.invariant.state k.0 k.1 k.3 ∙ c.loop-demand.invariant.fault;
    }

pub from_weights-requires : goal.from_weights-requires
from_weights-requires c =
    let some : 0 < length c.args.points.now = grind (arith, c.is_empty.ensures, c.if-is_empty.false) in
    is_law _ _ some (state_end _ _ _ c.loop-demand-test.false c.loop-demand.invariant.state) (omega (arith, c.if-total-gt-MOST_TOTAL.false, c.loop-demand.invariant.total))

pub returns-clause-ok : goal.returns-clause-ok
returns-clause-ok c = c.in_ok-from_weights.ensures ∙ is_law_of _ _ (state_end _ _ _ c.loop-demand-test.false c.loop-demand.invariant.state)
