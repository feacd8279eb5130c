use Rattle.std.proofs.Common.{◌≡◌, ℕ, ◌<◌, length}
use Rattle.network_model.specs.declared.network.Pause.TheVariants.{Shipments}
use Rattle.network_model.specs.Pauses.{is_paused}
use Rattle.network_sim.specs.Machine.{flag_at}
use Rattle.network_sim.proofs.pauses.note_shipments.Given as goal

abbrev pub invariant-loop-node : goal.invariant-loop-node
invariant-loop-node l = record {
  all : length l.paused ≡ length l.initial.paused;
  each : (k : ℕ) → k < l.node → flag_at l.paused k ≡ is_paused l.calendar Shipments k l.t;
}
