use Rattle.std.proofs.Common.{◌≡◌, Result, Ok, IfSome, List, map, sym, ◌∙◌}
use Rattle.node_state.specs.Handed.{Handed}
use Rattle.stock_cli.specs.Asks.{asked_of}
use Rattle.stock_cli.specs.Causes.{ReadsInput, counts_of, IsRefused, IsUnread}
use Rattle.stock_cli.specs.Commands.{ending_of, plan_of}
use Rattle.stock_cli.specs.Outcome.{Plan, outcome_of, task_plan, task_status}
use Rattle.stock_cli.specs.Words.{command_of}
use Rattle.stock_cli.specs.declared.status.Status.TheVariants as status
use Rattle.report_text.specs.declared.faults.Fault.{Fault}
use Rattle.stock_edge.specs.Causes.{Rose}
use Rattle.stock_cli.proofs.Refusals.{given_cases, nothing_written, refusal_complete, refusal_message, refusal_outcome, refusal_read, refusal_words, refused_finished}
use Rattle.stock_cli.proofs.Tasks.{ends_so, task_outcome, task_completes, task_part, task_message, task_unwritten}
use Rattle.stock_cli.proofs.Finishing.{claims_finished}
use Rattle.stock_cli.proofs.top.stock.Goals as goal

pub returns-clause-outcome : goal.returns-clause-outcome
returns-clause-outcome g c =
    let left = g.I.Source.left c.args.input.now in
    let held = g.F.Files.held c.args.files.now in
    let handed : List Handed = map (λ b. (g.dyn-1.0.entry b.vtable).1.meaning b.value) c.args.rules.items in
    let counts = counts_of (g.I.Source.faults c.args.input.now) (g.I.Source.faults c.perform.new.input) (g.F.Files.faults c.args.files.now) (g.F.Files.faults c.perform.new.files) in
    let reads = ReadsInput left held c.args.words.now (command_of c.args.words.now) in
    let planned = plan_of left held c.args.words.now in
    let ending = ending_of left held c.args.words.now handed in
    let refused : IsRefused (IsUnread counts reads) ending c.in-Err.fault = refused_finished (IsUnread counts reads) handed planned c.in-Err.fault c.in-Err.ensures.refused in
    refusal_outcome (IsUnread counts reads) ending c.in-Err.fault _ _ refused (given_cases _ _ _ _ _ _ c.refuse-in-Err.ensures.told)

pub returns-clause-no_command : goal.returns-clause-no_command
returns-clause-no_command g c = refusal_words c.args.words.now c.in-Err.fault _ (λ f is. cc (c.in-Err.ensures.words f is)) (given_cases _ _ _ _ _ _ c.refuse-in-Err.ensures.told)

pub returns-clause-read_fault : goal.returns-clause-read_fault
returns-clause-read_fault g c =
    let left = g.I.Source.left c.args.input.now in
    let held = g.F.Files.held c.args.files.now in
    let handed : List Handed = map (λ b. (g.dyn-1.0.entry b.vtable).1.meaning b.value) c.args.rules.items in
    let counts = counts_of (g.I.Source.faults c.args.input.now) (g.I.Source.faults c.perform.new.input) (g.F.Files.faults c.args.files.now) (g.F.Files.faults c.perform.new.files) in
    let reads = ReadsInput left held c.args.words.now (command_of c.args.words.now) in
    let planned = plan_of left held c.args.words.now in
    let ending = ending_of left held c.args.words.now handed in
    let refused : IsRefused (IsUnread counts reads) ending c.in-Err.fault = refused_finished (IsUnread counts reads) handed planned c.in-Err.fault c.in-Err.ensures.refused in
    refusal_read counts reads ending c.in-Err.fault _ refused (given_cases _ _ _ _ _ _ c.refuse-in-Err.ensures.told)

pub returns-clause-complete : goal.returns-clause-complete
returns-clause-complete g c =
    let left = g.I.Source.left c.args.input.now in
    let held = g.F.Files.held c.args.files.now in
    let handed : List Handed = map (λ b. (g.dyn-1.0.entry b.vtable).1.meaning b.value) c.args.rules.items in
    let counts = counts_of (g.I.Source.faults c.args.input.now) (g.I.Source.faults c.perform.new.input) (g.F.Files.faults c.args.files.now) (g.F.Files.faults c.perform.new.files) in
    let reads = ReadsInput left held c.args.words.now (command_of c.args.words.now) in
    let planned = plan_of left held c.args.words.now in
    let ending = ending_of left held c.args.words.now handed in
    let refused : IsRefused (IsUnread counts reads) ending c.in-Err.fault = refused_finished (IsUnread counts reads) handed planned c.in-Err.fault c.in-Err.ensures.refused in
    refusal_complete counts reads ending c.in-Err.fault _ _ refused (given_cases _ _ _ _ _ _ c.refuse-in-Err.ensures.told)

pub returns-clause-message : goal.returns-clause-message
returns-clause-message g c = λ has.
    let left = g.I.Source.left c.args.input.now in
    let held = g.F.Files.held c.args.files.now in
    let handed : List Handed = map (λ b. (g.dyn-1.0.entry b.vtable).1.meaning b.value) c.args.rules.items in
    let counts = counts_of (g.I.Source.faults c.args.input.now) (g.I.Source.faults c.perform.new.input) (g.F.Files.faults c.args.files.now) (g.F.Files.faults c.perform.new.files) in
    let reads = ReadsInput left held c.args.words.now (command_of c.args.words.now) in
    let planned = plan_of left held c.args.words.now in
    let ending = ending_of left held c.args.words.now handed in
    let refused : IsRefused (IsUnread counts reads) ending c.in-Err.fault = refused_finished (IsUnread counts reads) handed planned c.in-Err.fault c.in-Err.ensures.refused in
    refusal_message counts ending reads _ c.in-Err.fault _ _ _ _ refused c.refuse-in-Err.ensures.told

pub returns-clause-part : goal.returns-clause-part
returns-clause-part g c = nothing_written _ _

pub returns-in-Ok-perform_task-clause-claims : goal.returns-in-Ok-perform_task-clause-claims
returns-in-Ok-perform_task-clause-claims g c = λ command asked done.
    let left = g.I.Source.left c.args.input.now in
    let held = g.F.Files.held c.args.files.now in
    let handed : List Handed = map (λ b. (g.dyn-1.0.entry b.vtable).1.meaning b.value) c.args.rules.items in
    let ends = c.in-Ok-perform_task.ensures.whole in
    let finished : task_status c.in-Ok.task ≡ status.Done = sym c.status_with.ensures ∙ done in
    (ends.output.text, claims_finished left held c.args.words.now handed (task_plan c.in-Ok.task) ends.output (asked_of command) ends.is ends.silent (c.in-Ok.ensures.claims command asked finished), ends.written)

pub returns-in-Ok-clause-outcome : goal.returns-in-Ok-clause-outcome
returns-in-Ok-clause-outcome g c =
    let left = g.I.Source.left c.args.input.now in
    let held = g.F.Files.held c.args.files.now in
    let handed : List Handed = map (λ b. (g.dyn-1.0.entry b.vtable).1.meaning b.value) c.args.rules.items in
    let planned = plan_of left held c.args.words.now in
    let ending = ending_of left held c.args.words.now handed in
    let plan : Result Plan Fault = Ok (task_plan c.in-Ok.task) in
    let outcome = outcome_of handed plan in
    let same : IfSome ending (λ end. end ≡ outcome) = ends_so handed planned plan c.in-Ok.ensures.ok in
    task_outcome (Rose (g.O.Sink.faults c.args.out.now) (g.O.Sink.faults c.perform_task.new.out)) ending outcome (g.O.Sink.written c.args.out.now) (g.O.Sink.written c.perform_task.new.out) c.in-Err-perform_task.fault _ same c.in-Err-perform_task.ensures.cut (given_cases _ _ _ _ _ _ c.refuse.ensures.told)

pub returns-in-Ok-clause-part : goal.returns-in-Ok-clause-part
returns-in-Ok-clause-part g c =
    let left = g.I.Source.left c.args.input.now in
    let held = g.F.Files.held c.args.files.now in
    let handed : List Handed = map (λ b. (g.dyn-1.0.entry b.vtable).1.meaning b.value) c.args.rules.items in
    let planned = plan_of left held c.args.words.now in
    let ending = ending_of left held c.args.words.now handed in
    let plan : Result Plan Fault = Ok (task_plan c.in-Ok.task) in
    let outcome = outcome_of handed plan in
    let same : IfSome ending (λ end. end ≡ outcome) = ends_so handed planned plan c.in-Ok.ensures.ok in
    task_part ending outcome _ _ same c.in-Err-perform_task.ensures.part

pub returns-in-Ok-clause-complete : goal.returns-in-Ok-clause-complete
returns-in-Ok-clause-complete g c =
    let left = g.I.Source.left c.args.input.now in
    let held = g.F.Files.held c.args.files.now in
    let handed : List Handed = map (λ b. (g.dyn-1.0.entry b.vtable).1.meaning b.value) c.args.rules.items in
    let planned = plan_of left held c.args.words.now in
    let ending = ending_of left held c.args.words.now handed in
    let plan : Result Plan Fault = Ok (task_plan c.in-Ok.task) in
    let outcome = outcome_of handed plan in
    let same : IfSome ending (λ end. end ≡ outcome) = ends_so handed planned plan c.in-Ok.ensures.ok in
    task_completes (Rose (g.O.Sink.faults c.args.out.now) (g.O.Sink.faults c.perform_task.new.out)) _ _ ending outcome (g.O.Sink.written c.args.out.now) (g.O.Sink.written c.perform_task.new.out) c.in-Err-perform_task.fault _ same c.in-Err-perform_task.ensures.cut (given_cases _ _ _ _ _ _ c.refuse.ensures.told)

pub returns-in-Ok-clause-message : goal.returns-in-Ok-clause-message
returns-in-Ok-clause-message g c = λ has.
    let left = g.I.Source.left c.args.input.now in
    let held = g.F.Files.held c.args.files.now in
    let handed : List Handed = map (λ b. (g.dyn-1.0.entry b.vtable).1.meaning b.value) c.args.rules.items in
    let planned = plan_of left held c.args.words.now in
    let ending = ending_of left held c.args.words.now handed in
    let plan : Result Plan Fault = Ok (task_plan c.in-Ok.task) in
    let outcome = outcome_of handed plan in
    let same : IfSome ending (λ end. end ≡ outcome) = ends_so handed planned plan c.in-Ok.ensures.ok in
    task_message _ ending _ _ (Rose (g.O.Sink.faults c.args.out.now) (g.O.Sink.faults c.perform_task.new.out)) outcome (g.O.Sink.written c.args.out.now) (g.O.Sink.written c.perform_task.new.out) c.in-Err-perform_task.fault _ _ _ _ same c.in-Err-perform_task.ensures.of_writing c.in-Err-perform_task.ensures.cut c.refuse.ensures.told

pub returns-in-Ok-perform_task-clause-part : goal.returns-in-Ok-perform_task-clause-part
returns-in-Ok-perform_task-clause-part g c =
    let left = g.I.Source.left c.args.input.now in
    let held = g.F.Files.held c.args.files.now in
    let handed : List Handed = map (λ b. (g.dyn-1.0.entry b.vtable).1.meaning b.value) c.args.rules.items in
    let planned = plan_of left held c.args.words.now in
    let ending = ending_of left held c.args.words.now handed in
    let plan : Result Plan Fault = Ok (task_plan c.in-Ok.task) in
    let outcome = outcome_of handed plan in
    let same : IfSome ending (λ end. end ≡ outcome) = ends_so handed planned plan c.in-Ok.ensures.ok in
    task_part ending outcome _ _ same c.in-Ok-perform_task.ensures.part

pub returns-in-Ok-clause-writing : goal.returns-in-Ok-clause-writing
returns-in-Ok-clause-writing g c = λ is.
    let left = g.I.Source.left c.args.input.now in
    let held = g.F.Files.held c.args.files.now in
    let handed : List Handed = map (λ b. (g.dyn-1.0.entry b.vtable).1.meaning b.value) c.args.rules.items in
    let planned = plan_of left held c.args.words.now in
    let ending = ending_of left held c.args.words.now handed in
    let plan : Result Plan Fault = Ok (task_plan c.in-Ok.task) in
    let outcome = outcome_of handed plan in
    let same : IfSome ending (λ end. end ≡ outcome) = ends_so handed planned plan c.in-Ok.ensures.ok in
    (task_unwritten (Rose (g.O.Sink.faults c.args.out.now) (g.O.Sink.faults c.perform_task.new.out)) ending outcome (g.O.Sink.written c.args.out.now) (g.O.Sink.written c.perform_task.new.out) c.in-Err-perform_task.fault _ same c.in-Err-perform_task.ensures.of_writing c.in-Err-perform_task.ensures.cut (given_cases _ _ _ _ _ _ c.refuse.ensures.told) is).1
