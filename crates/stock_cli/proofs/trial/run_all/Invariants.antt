use Rattle.std.proofs.Common.{◌≡◌, [], map, length}
use Rattle.stock_cli.specs.Runs.{Stands}
use Rattle.stock_cli.proofs.trial.run_all.Given as goal

abbrev pub invariant-loop-period : goal.invariant-loop-period
invariant-loop-period g l = record {
  stands : Stands l.net [] l.period l.sim (map (λ b. (g.dyn-1.0.entry b.vtable).1.meaning b.value) l.sim.rules.items);
  row : length l.row.lines.items ≡ length l.net.nodes;
}
