use Rattle.std.proofs.Common.{◌≡◌, ◌≤◌, List, map, None, length}
use Rattle.std.specs.Io.KnownBytes.{Appends}
use Rattle.node_state.specs.Handed.{Handed}
use Rattle.report_text.specs.Network.{first_periods}
use Rattle.stock_cli.specs.Runs.{Stands, run_of}
use Rattle.stock_cli.proofs.runs.run_rows.Given as goal

abbrev pub invariant-loop-period : goal.invariant-loop-period
invariant-loop-period g l = record {
  stands : (handed : List Handed) → Stands l.net handed 0 l.fn.sim (map (λ b. (g.dyn-1.0.entry b.vtable).1.meaning b.value) l.fn.sim.rules.items) →
      Stands l.net handed l.period l.sim (map (λ b. (g.dyn-1.0.entry b.vtable).1.meaning b.value) l.sim.rules.items)
      × (run_of l.net handed l.period ≡ record { ran = l.period; over = None })
      × Appends (g.K.Sink.written l.fn.out) (g.K.Sink.written l.out) (first_periods l.net handed l.period);
  row : length l.row.lines.items ≡ length l.net.nodes;
  later : g.K.Sink.faults l.fn.out ≤ g.K.Sink.faults l.out;
}
