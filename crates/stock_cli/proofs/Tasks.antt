-- What was left to do, and how it ended.
use Rattle.std.proofs.Common.{◌≡◌, ◌⊎◌, inl, inr, ℕ, List, Option, Some, None, Result, Ok, Err, IfSome, IsOk, refl, sym, ap, ◌∙◌, subst}
use Rattle.std.specs.Io.KnownBytes.{Appends}
use Rattle.network_model.specs.declared.network.Network.{Network}
use Rattle.node_state.specs.Handed.{Handed}
use Rattle.network_sim.specs.Houses.{rules_refusal}
use Rattle.network_sim.specs.declared.errors.RuleOver.{RuleOver}
use Rattle.network_sim.specs.declared.errors.SimErr.{SimErr}
use Rattle.network_sim.specs.declared.errors.SimErr.TheVariants as refusal
use Rattle.network_sim.specs.declared.sim.Sim.{Sim}
use Rattle.report_text.specs.declared.faults.Fault.{Fault}
use Rattle.report_text.specs.declared.faults.Fault.TheVariants as fault
use Rattle.stock_edge.specs.Causes.{AppendsPrefix}
use Rattle.stock_edge.specs.Known.{appends_none}
use Rattle.stock_cli.specs.Causes.{Counts, IsToldOf, IsCause, IsTold}
use Rattle.stock_cli.specs.Inputs.{Origin}
use Rattle.stock_cli.specs.Outcome.{Ending, Output, Plan, Planned, finished, outcome_of, ran_output, run_outcome, refused_or, network_outcome, message_of, status_of_outcome, text_of, Finishes, EndsWith, EndsBy}
use Rattle.stock_cli.specs.Runs.{run_of, run_text, ended_text, run_fault, sim_fault, IsRefusedBy, RanAll}
use Rattle.stock_cli.specs.Status.{IsDecided, IsOfWriting, status_of}
use Rattle.stock_cli.specs.declared.runs.RunErr.{RunErr}
use Rattle.stock_cli.specs.declared.runs.RunErr.TheVariants as cut
use Rattle.stock_cli.specs.declared.status.Status.{Status}
use Rattle.stock_cli.specs.declared.status.Status.TheVariants as status

-- ---- a network that isn't run
ends_refused : (first : Option SimErr) (outcome : Result Output Fault) (f : Fault) (e : SimErr) (w : Option (List ℕ)) → first ≡ Some e → f ≡ sim_fault e → EndsWith (refused_or first outcome) w w f
ends_refused first outcome f e w is same =
    let E : Option SimErr → Type 0 = λ o. EndsWith (refused_or o outcome) w w f in
    subst E (sym is) (record { told = ap Some (sym same); status_is = ap status_of (sym same); written = appends_none w })

not_written : (e : SimErr) → fault.WriteFault ≡ sim_fault e → ⊥
not_written (refusal.NoRule index) is = cc is
not_written (refusal.RuleShared index) is = cc is
not_written (refusal.RuleCap index) is = cc is
not_written refusal.Memory is = cc is

pub ends_by_refusal : (rose : Type 0) (first : Option SimErr) (outcome : Result Output Fault) (w : Option (List ℕ)) (f : Fault) → IsRefusedBy first f → EndsBy rose (refused_or first outcome) w w f
ends_by_refusal rose first outcome w fault.WriteFault h = absurd (not_written h.0 h.2)
ends_by_refusal rose first outcome w fault.Memory h = tt
ends_by_refusal rose first outcome w f h = ends_refused first outcome f h.0 w h.1 h.2

sim_writing : (e : SimErr) → IsOfWriting (sim_fault e)
sim_writing (refusal.NoRule index) = tt
sim_writing (refusal.RuleShared index) = tt
sim_writing (refusal.RuleCap index) = tt
sim_writing refusal.Memory = tt

pub refusal_writing : (first : Option SimErr) (f : Fault) → IsRefusedBy first f → IsOfWriting f
refusal_writing first fault.Memory h = tt
refusal_writing first f h = subst IsOfWriting (sym h.2) (sim_writing h.0)

-- ---- a network that ran
outcome_is : (net : Network) (handed : List Handed) (ran : ℕ) (over : Option RuleOver) → rules_refusal net.nodes handed ≡ None → run_of net handed net.periods ≡ record { ran = ran; over = over } → network_outcome net handed ≡ Ok (ran_output net handed ran over)
outcome_is net handed ran over none is = λ j. refused_or (none j) (run_outcome net handed (is j))

pub ran_done : {I : Type 0} {D : I → Type 0} (net : Network) (handed : List Handed) (sim : Sim I D) (now : List Handed) (old new : Option (List ℕ)) {T : Type 0} (v : T) → RanAll net handed sim now old new (Ok v) → Finishes (network_outcome net handed) status.Done old new
ran_done net handed sim now old new v ran = record {
  output = ran_output net handed net.periods None;
  is = outcome_is net handed net.periods None ran.0.after.ready ran.1;
  status_is = refl;
  silent = refl;
  written = ran.2;
}

pub ran_cut : {I : Type 0} {D : I → Type 0} (rose : Type 0) (net : Network) (handed : List Handed) (sim : Sim I D) (now : List Handed) (old new : Option (List ℕ)) (T : Type 0) (e : RunErr) → rules_refusal net.nodes handed ≡ None → (e ≡ cut.Write → rose) →
    RanAll net handed sim now old new {T = T} (Err e) → EndsBy rose (network_outcome net handed) old new (run_fault e)
ran_cut rose net handed sim now old new T (cut.Over over) none fails ran =
    let E : Result Output Fault → Type 0 = λ outcome. EndsWith outcome old new (fault.RuleOver over) in
    subst E (sym (outcome_is net handed ran.0 (Some over) none ran.2)) (record { told = refl; status_is = refl; written = ran.3 })
ran_cut rose net handed sim now old new T cut.Write none fails ran =
    let E : Option SimErr → Type 0 = λ first. IsOk (refused_or first (run_outcome net handed (run_of net handed net.periods))) in
    (fails refl, subst E (sym none) refl)
ran_cut rose net handed sim now old new T cut.Memory none fails ran = tt

pub run_writing : (e : RunErr) → IsOfWriting (run_fault e)
run_writing (cut.Over over) = tt
run_writing cut.Write = tt
run_writing cut.Memory = tt

output_text : (net : Network) (handed : List Handed) (ran : ℕ) (over : Option RuleOver) → (ran_output net handed ran over).text ≡ ended_text net handed ran over
output_text net handed ran None = refl
output_text net handed ran (Some over) = refl

-- the front of a run's text is one of its outcome's
pub outcome_part : (net : Network) (handed : List Handed) (old new : Option (List ℕ)) → rules_refusal net.nodes handed ≡ None → AppendsPrefix old new (run_text net handed (run_of net handed net.periods)) → AppendsPrefix old new (text_of (network_outcome net handed))
outcome_part net handed old new none part =
    let P : List ℕ → Type 0 = AppendsPrefix old new in
    let E : Option SimErr → Type 0 = λ first. AppendsPrefix old new (text_of (refused_or first (run_outcome net handed (run_of net handed net.periods)))) in
    subst E (sym none) (subst P (sym (output_text net handed (run_of net handed net.periods).ran (run_of net handed net.periods).over)) part)

-- ---- how a run ends by its task
-- a fault whose status is decided is how the run ends
decided_end : (rose : Type 0) (outcome : Result Output Fault) (old new : Option (List ℕ)) (f : Fault) → IsDecided (status_of f) → EndsBy rose outcome old new f → EndsWith outcome old new f
decided_end rose outcome old new fault.WriteFault decided h = absurd decided
decided_end rose outcome old new fault.Memory decided h = absurd decided
decided_end rose outcome old new f decided h = h

pub task_outcome : (rose : Type 0) (ending : Ending) (outcome : Result Output Fault) (old new : Option (List ℕ)) (f : Fault) (given : Status) → IfSome ending (λ end. end ≡ outcome) → EndsBy rose outcome old new f → (given ≡ status_of f) ⊎ (given ≡ status.Memory)
    → IfSome ending (λ end. IsDecided given → (given ≡ status_of_outcome end) × Appends old new (text_of end))
task_outcome rose None outcome old new f given same h cases = tt
task_outcome rose (Some end) outcome old new f given same h (inl e) = λ decided.
    let ends = decided_end rose outcome old new f (subst IsDecided e decided) h in
    let E : Result Output Fault → Type 0 = λ r. (given ≡ status_of_outcome r) × Appends old new (text_of r) in
    subst E (sym same) (e ∙ sym ends.status_is, ends.written)
task_outcome rose (Some end) outcome old new f given same h (inr e) = λ decided. absurd (subst IsDecided e decided)

-- where the sink didn't fail, it is how the run ends, or memory was refused
by_sink : (rose : Type 0) (outcome : Result Output Fault) (old new : Option (List ℕ)) (f : Fault) (given : Status) → given ≡ status_of f → EndsBy rose outcome old new f → (rose → ⊥) → (given ≡ status_of_outcome outcome) ⊎ (given ≡ status.Memory)
by_sink rose outcome old new fault.WriteFault given e h none = absurd (none h.0)
by_sink rose outcome old new fault.Memory given e h none = inr e
by_sink rose outcome old new f given e h none = inl (e ∙ sym h.status_is)

pub task_completes : (rose input files : Type 0) (ending : Ending) (outcome : Result Output Fault) (old new : Option (List ℕ)) (f : Fault) (given : Status) → IfSome ending (λ end. end ≡ outcome) → EndsBy rose outcome old new f → (given ≡ status_of f) ⊎ (given ≡ status.Memory)
    → IfSome ending (λ end. IsOk end → ¬ input → ¬ files → ¬ rose → (given ≡ status_of_outcome end) ⊎ (given ≡ status.Memory))
task_completes rose input files None outcome old new f given same h cases = tt
task_completes rose input files (Some end) outcome old new f given same h (inl e) = λ ok ni nf none.
    let E : Result Output Fault → Type 0 = λ r. (given ≡ status_of_outcome r) ⊎ (given ≡ status.Memory) in
    subst E (sym same) (by_sink rose outcome old new f given e h none)
task_completes rose input files (Some end) outcome old new f given same h (inr e) = λ ok ni nf none. inr e

-- a text that wasn't written for a fault of the sink is there
write_ok : (rose : Type 0) (outcome : Result Output Fault) (old new : Option (List ℕ)) (f : Fault) → IsOfWriting f → status_of f ≡ status.WriteFault → EndsBy rose outcome old new f → rose × IsOk outcome
write_ok rose outcome old new fault.WriteFault w e h = h
write_ok rose outcome old new fault.Memory w e h = absurd (cc e)
write_ok rose outcome old new (fault.NoRule index) w e h = absurd (cc e)
write_ok rose outcome old new (fault.RuleShared index) w e h = absurd (cc e)
write_ok rose outcome old new (fault.RuleCap index) w e h = absurd (cc e)
write_ok rose outcome old new (fault.RuleOver over) w e h = absurd (cc e)
write_ok rose outcome old new _ w e h = absurd w

pub task_unwritten : (rose : Type 0) (ending : Ending) (outcome : Result Output Fault) (old new : Option (List ℕ)) (f : Fault) (given : Status) → IfSome ending (λ end. end ≡ outcome) → IsOfWriting f → EndsBy rose outcome old new f → (given ≡ status_of f) ⊎ (given ≡ status.Memory)
    → given ≡ status.WriteFault → rose × IfSome ending IsOk
task_unwritten rose None outcome old new f given same w h (inl e) is = ((write_ok rose outcome old new f w (sym e ∙ is) h).0, tt)
task_unwritten rose (Some end) outcome old new f given same w h (inl e) is =
    let both = write_ok rose outcome old new f w (sym e ∙ is) h in
    let O : Result Output Fault → Type 0 = λ r. IsOk r in
    (both.0, subst O (sym same) both.1)
task_unwritten rose ending outcome old new f given same w h (inr e) is = absurd (cc (sym e ∙ is))

-- what was written is the front of the run's text
pub task_part : (ending : Ending) (outcome : Result Output Fault) (old new : Option (List ℕ)) → IfSome ending (λ end. end ≡ outcome) → AppendsPrefix old new (text_of outcome) → IfSome ending (λ end. AppendsPrefix old new (text_of end))
task_part None outcome old new same part = tt
task_part (Some end) outcome old new same part =
    let P : Result Output Fault → Type 0 = λ r. AppendsPrefix old new (text_of r) in
    subst P (sym same) part

-- ---- what is told of it
task_cause : (counts : Counts) (ending : Ending) (reads : Origin → Type 0) (given : Status) (rose : Type 0) (outcome : Result Output Fault) (old new : Option (List ℕ)) (f : Fault) → IfSome ending (λ end. end ≡ outcome) → IsOfWriting f → EndsBy rose outcome old new f → given ≡ status_of f → IsCause counts ending reads given f
task_cause counts ending reads given rose outcome old new (fault.ReadFault name) same w h e = absurd w
task_cause counts None reads given rose outcome old new f same w h e = λ decided. tt
task_cause counts (Some end) reads given rose outcome old new f same w h e = λ decided.
    let ends = decided_end rose outcome old new f (subst IsDecided e decided) h in
    ap message_of same ∙ ends.told

memory_cause : (counts : Counts) (ending : Ending) (reads : Origin → Type 0) (given : Status) → given ≡ status.Memory → IsCause counts ending reads given fault.Memory
memory_cause counts ending reads given e = λ decided. absurd (subst IsDecided e decided)

pub task_message : (counts : Counts) (ending : Ending) (reads : Origin → Type 0) (given : Status) (rose : Type 0) (outcome : Result Output Fault) (was is : Option (List ℕ)) (f : Fault) (before now : ℕ) (old new : Option (List ℕ)) →
    IfSome ending (λ end. end ≡ outcome) → IsOfWriting f → EndsBy rose outcome was is f → IsToldOf f given before now old new → IsTold counts ending reads given before now old new
task_message counts ending reads given rose outcome was is f before now old new same w h t =
    record { refusal = t.told; status_is = t.status_is; cause = by_case t.of; part = t.part; whole = t.whole }
  where
    by_case : (t.told ≡ f) ⊎ (t.told ≡ fault.Memory) → IsCause counts ending reads given t.told
    by_case (inl e) = let P : Fault → Type 0 = IsCause counts ending reads given in subst P (sym e) (task_cause counts ending reads given rose outcome was is f same w h (t.status_is ∙ ap status_of e))
    by_case (inr e) = let P : Fault → Type 0 = IsCause counts ending reads given in subst P (sym e) (memory_cause counts ending reads given (t.status_is ∙ ap status_of e))

-- the status isn't one of the words, of a rejection or of an input
pub of_writing_only : (f : Fault) (given other : Status) → IsOfWriting f → (given ≡ status_of f) ⊎ (given ≡ status.Memory) → given ≡ other → (status.WriteFault ≡ other) ⊎ ((status.Memory ≡ other) ⊎ (status.House ≡ other))
of_writing_only fault.WriteFault given other w (inl e) is = inl (sym e ∙ is)
of_writing_only fault.Memory given other w (inl e) is = inr (inl (sym e ∙ is))
of_writing_only (fault.NoRule index) given other w (inl e) is = inr (inr (sym e ∙ is))
of_writing_only (fault.RuleShared index) given other w (inl e) is = inr (inr (sym e ∙ is))
of_writing_only (fault.RuleCap index) given other w (inl e) is = inr (inr (sym e ∙ is))
of_writing_only (fault.RuleOver over) given other w (inl e) is = inr (inr (sym e ∙ is))
of_writing_only f given other w (inr e) is = inr (inl (sym e ∙ is))
of_writing_only _ given other w (inl e) is = absurd w

-- ---- from the plan to the end
pub ends_so : (handed : List Handed) (planned : Planned) (plan : Result Plan Fault) → IfSome planned (λ end. end ≡ plan) → IfSome (finished handed planned) (λ end. end ≡ outcome_of handed plan)
ends_so handed None plan same = tt
ends_so handed (Some end) plan same = ap (outcome_of handed) same

pub task_done : (ending : Ending) (outcome : Result Output Fault) (given : Status) (old new : Option (List ℕ)) → IfSome ending (λ end. end ≡ outcome) → Finishes outcome given old new → IfSome ending (λ end. (given ≡ status_of_outcome end) × Appends old new (text_of end))
task_done None outcome given old new same ends = tt
task_done (Some end) outcome given old new same ends =
    let E : Result Output Fault → Type 0 = λ r. (given ≡ status_of_outcome r) × Appends old new (text_of r) in
    subst E (sym (same ∙ ends.is)) (sym ends.status_is, ends.written)
