-- What a simulation has written, and how it ends.
use Rattle.std.specs.Prelude.{◌≡◌, ℕ, zero, suc, ◌≤◌, List, [], ◌++◌, take, if◌then◌else◌, ◌==◌, Some, None, Result, Ok, Err}
use Rattle.std.specs.declared.option.Option.{Option}
use Rattle.std.specs.Io.KnownBytes.{Appends}
use Rattle.network_model.specs.declared.network.Network.{Network}
use Rattle.node_state.specs.Handed.{Handed}
use Rattle.node_state.specs.Table.{network_row, network_total, setting_of}
use Rattle.network_sim.specs.Houses.{period_over}
use Rattle.network_sim.specs.Simulated.{IsAfter, IsOver, HasDrawn}
use Rattle.network_sim.specs.declared.errors.RuleOver.{RuleOver}
use Rattle.network_sim.specs.declared.errors.SimErr.{SimErr}
use Rattle.network_sim.specs.declared.errors.SimErr.TheVariants as refusal
use Rattle.network_sim.specs.declared.sim.Sim.{Sim}
use Rattle.report_text.specs.Network.{period_lines, total_line, first_periods, table_text}
use Rattle.report_text.specs.declared.faults.Fault.{Fault}
use Rattle.report_text.specs.declared.faults.Fault.TheVariants as fault
use Rattle.stock_edge.specs.Causes.{AppendsPrefix}
use Rattle.stock_cli.specs.declared.runs.RunErr.{RunErr}
use Rattle.stock_cli.specs.declared.runs.RunErr.TheVariants.{Over, Write, Memory}

abbrev pub run_fault : RunErr → Fault
run_fault (Over over) = fault.RuleOver over
run_fault Write = fault.WriteFault
run_fault Memory = fault.Memory

abbrev pub sim_fault : SimErr → Fault
sim_fault (refusal.NoRule index) = fault.NoRule index
sim_fault (refusal.RuleShared index) = fault.RuleShared index
sim_fault (refusal.RuleCap index) = fault.RuleCap index
sim_fault refusal.Memory = fault.Memory

-- a network isn't run: memory was refused, or that is why
abbrev pub IsRefusedBy : Option SimErr → Fault → Type 0
IsRefusedBy first fault.Memory = Unit {0}
IsRefusedBy first f = (e : SimErr) × (first ≡ Some e) × (f ≡ sim_fault e)

-- a run was cut short by its sink or for want of memory
abbrev pub IsCutShort : RunErr → Type 0
IsCutShort (Over over) = ⊥
IsCutShort e = Unit {0}

-- ---- how far a network runs
-- the periods that ran, and the answer that ended the run where one did
pub record Run : Type 0 where
  pub ran : ℕ
  pub over : Option RuleOver

-- one more period, unless an answer in it ends the run
abbrev pub next_run : ℕ → Option RuleOver → Run
next_run t None = record { ran = suc t; over = None }
next_run t (Some over) = record { ran = t; over = Some over }

abbrev pub run_further : Run → Option RuleOver → ℕ → Option RuleOver → Run
run_further run None t over = next_run t over
run_further run (Some earlier) t over = run

-- the run of the first n periods
abbrev pub run_of : Network → List Handed → ℕ → Run
run_of net handed zero = record { ran = 0; over = None }
run_of net handed (suc t) = run_further (run_of net handed t) (run_of net handed t).over t (period_over (setting_of net handed) t)

-- what a run writes: the lines of its periods, and behind those of the last one the total
abbrev pub ended_text : Network → List Handed → ℕ → Option RuleOver → List ℕ
ended_text net handed ran None = table_text net handed
ended_text net handed ran (Some over) = first_periods net handed ran

abbrev pub run_text : Network → List Handed → Run → List ℕ
run_text net handed run = ended_text net handed run.ran run.over

-- ---- a run that is cut short
-- the lines of period suc t, and behind those of the last period the total
abbrev pub lines_and_total : Network → List Handed → ℕ → List ℕ
lines_and_total net handed t =
    period_lines (suc t) net.nodes (network_row net handed t) ++ (if suc t == net.periods then total_line (network_total net handed net.periods) else [])

-- what a simulation writes once it has run period k, until it runs the next one
abbrev pub last_text : Network → List Handed → ℕ → List ℕ
last_text net handed zero = []
last_text net handed (suc t) = lines_and_total net handed t

-- what a simulation has written before the lines of period k
abbrev pub text_before : Network → List Handed → ℕ → List ℕ
text_before net handed zero = []
text_before net handed (suc t) = first_periods net handed t

-- a simulation was cut short after k periods: it wrote the lines of those before the k-th, and of the rest no more than a front of the lines of the k-th (with the total, where that is the last one)
pub record IsCut (net : Network) (handed : List Handed) (k : ℕ) (old new : Option (List ℕ)) : Type 0 where
  pub within : k ≤ net.periods
  pub count : ℕ
  pub appended : Appends old new (text_before net handed k ++ take count (last_text net handed k))

-- ---- what a simulator has run
-- the simulator stands for the first n periods of the network with these rules, all words drawn
pub record Stands {I : Type 0} {D : I → Type 0} (net : Network) (handed : List Handed) (n : ℕ) (sim : Sim I D) (now : List Handed) : Type 0 where
  pub after : IsAfter (setting_of net handed) n sim now
  pub drawn : HasDrawn net n sim

-- .. with some rules
pub record StandsForSome {I : Type 0} {D : I → Type 0} (net : Network) (n : ℕ) (sim : Sim I D) (now : List Handed) : Type 0 where
  pub handed : List Handed
  pub stands : Stands net handed n sim now

-- period suc t ran and its lines were written, or an answer ended the run and nothing was, or it ran and was cut short
abbrev pub RanPeriod : {I : Type 0} → {D : I → Type 0} → Network → List Handed → ℕ → Sim I D → List Handed → Option (List ℕ) → Option (List ℕ) → {T : Type 0} → Result T RunErr → Type 0
RanPeriod net handed t sim now old new (Ok v) =
    Stands net handed (suc t) sim now
    × (period_over (setting_of net handed) t ≡ None)
    × Appends old new (period_lines (suc t) net.nodes (network_row net handed t))
RanPeriod net handed t sim now old new (Err (Over over)) = IsOver (setting_of net handed) t over sim now × Appends old new []
RanPeriod net handed t sim now old new (Err e) =
    Stands net handed (suc t) sim now
    × (period_over (setting_of net handed) t ≡ None)
    × AppendsPrefix old new (period_lines (suc t) net.nodes (network_row net handed t))

-- all periods ran and the table was written, or an answer ended the run behind the lines of those before, or it was cut short
abbrev pub RanAll : {I : Type 0} → {D : I → Type 0} → Network → List Handed → Sim I D → List Handed → Option (List ℕ) → Option (List ℕ) → {T : Type 0} → Result T RunErr → Type 0
RanAll net handed sim now old new (Ok v) =
    Stands net handed net.periods sim now
    × (run_of net handed net.periods ≡ record { ran = net.periods; over = None })
    × Appends old new (table_text net handed)
RanAll net handed sim now old new (Err (Over over)) =
    (k : ℕ) × IsOver (setting_of net handed) k over sim now
    × (run_of net handed net.periods ≡ record { ran = k; over = Some over })
    × Appends old new (first_periods net handed k)
RanAll net handed sim now old new (Err e) =
    (k : ℕ) × Stands net handed k sim now
    × (run_of net handed k ≡ record { ran = k; over = None })
    × IsCut net handed k old new
