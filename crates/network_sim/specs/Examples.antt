-- A rule of the caller's own for examples, and simulators in mid-run.
use Rattle.std.specs.Prelude.{ℕ, ◌+◌, List, [], ◌∷◌, cond, nat_lt}
use Rattle.network_model.specs.declared.network.Network.{Network}
use Rattle.node_state.specs.Handed.{Ask, Handed}
use Rattle.node_state.specs.Table.{setting_of}
use Rattle.network_sim.specs.declared.sim.Sim.{Sim}
use Rattle.network_sim.specs.Simulated.{IsAfter, HasDrawn}

-- answers 1 twice, and 11 from then on
abbrev pub greedy_replies : ℕ → List Ask → List ℕ
greedy_replies n [] = []
greedy_replies n (a ∷ more) = cond (nat_lt n 2) 1 11 ∷ greedy_replies (cond (nat_lt n 2) (n + 1) n) more

abbrev pub greedy : ℕ → Handed
greedy n = record { most = 10; replies = greedy_replies n }

-- the simulator stands for the first n periods of a network with its own demands, and with some rules
pub record IsGoing {I : Type 0} {D : I → Type 0} (network : Network) (n : ℕ) (sim : Sim I D) (now : List Handed) : Type 0 where
  pub handed : List Handed
  pub after : IsAfter (setting_of network handed) n sim now
  pub drawn : HasDrawn network n sim
