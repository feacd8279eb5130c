use Rattle.std.proofs.Common.{◌≡◌, ◌++◌, drop, length}
use Rattle.network_sim.specs.Wiring.{with_callers, suppliers_among}
use Rattle.network_sim.proofs.wiring.enter.Given as goal

abbrev pub invariant-loop-source : goal.invariant-loop-source
invariant-loop-source l =
    (with_callers l.node l.source (drop l.source l.sources) l.callers ≡ with_callers l.node 0 l.sources l.initial.callers)
    × (l.suppliers.items ++ suppliers_among l.node l.source (drop l.source l.sources) l.callers ≡ suppliers_among l.node 0 l.sources l.initial.callers)
    × (length l.callers ≡ length l.initial.callers)
