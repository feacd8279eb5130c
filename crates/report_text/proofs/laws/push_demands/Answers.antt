use Rattle.std.proofs.Common.{slice_index}
use Rattle.report_text.specs.Laws.{demand_line}
use Rattle.report_text.proofs.Lines.{more_lines}
use Rattle.report_text.proofs.laws.push_demands.Goals as goal

pub loop-demand-preserved : goal.loop-demand-preserved
loop-demand-preserved c = more_lines (λ d. demand_line d (slice_index c.args.weights.now d)) c.loop-demand.demand _ _ _ c.loop-demand.invariant c.in_ok-push_demand.ensures
