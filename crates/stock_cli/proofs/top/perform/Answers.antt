use Rattle.std.proofs.Common.{◌≡◌, None, Result, Ok, ap, subst, sym, ◌∙◌}
use Rattle.std.proofs.lemmas.Result.{IfOk-weaker}
use Rattle.stock_cli.specs.Asks.{IsInputOf, asked_of}
use Rattle.stock_cli.specs.Causes.{ComesTo, ReadsInput, TakesInput}
use Rattle.stock_cli.specs.Commands.{PlanClaims}
use Rattle.stock_cli.specs.Outcome.{task_plan}
use Rattle.stock_cli.specs.declared.asked.Asked.{Asked}
use Rattle.stock_cli.specs.declared.words.Command.{Command}
use Rattle.stock_cli.specs.declared.words.WordErr.{WordErr}
use Rattle.stock_cli.proofs.top.perform.Goals as goal

pub returns-in-Ok-clause-claims : goal.returns-in-Ok-clause-claims
returns-in-Ok-clause-claims g c =
    IfOk-weaker c.task_of.result _ _
    (λ task claimed given is done.
    let P : Asked → Type 0 = PlanClaims (g.I.Source.left c.args.input.now) (g.F.Files.held c.args.files.now) c.args.words.now (task_plan task) in
    let same : c.in-Ok.command ≡ given = cc (c.in-Ok.ensures.is ∙ is) in
    subst P (c.asked_of.ensures ∙ ap asked_of same) (claimed done))
    c.task_of.ensures.claims

pub returns-in-Ok-clause-end : goal.returns-in-Ok-clause-end
returns-in-Ok-clause-end g c =
    IfOk-weaker c.task_of.result _ _
    (λ answer ends done takes.
    let P : Result Command WordErr → Type 0 = λ read. TakesInput read None in
    let Q : Asked → Type 0 = λ asking. IsInputOf asking None in
    let mine : P (Ok c.in-Ok.command) = subst P (sym c.in-Ok.ensures.is) takes in
    ends done (subst Q (sym c.asked_of.ensures) mine))
    c.task_of.ensures.end

pub returns-in-Ok-clause-spared_input : goal.returns-in-Ok-clause-spared_input
returns-in-Ok-clause-spared_input g c = λ spares.
    let P : Result Command WordErr → Type 0 = λ read. ReadsInput (g.I.Source.left c.args.input.now) (g.F.Files.held c.args.files.now) c.args.words.now read None in
    let Q : Asked → Type 0 = λ asking. ComesTo (g.I.Source.left c.args.input.now) (g.F.Files.held c.args.files.now) c.args.words.now asking None in
    c.task_of.ensures.spared_input (λ reads.
    let mine : P (Ok c.in-Ok.command) = subst Q c.asked_of.ensures reads in
    spares (subst P c.in-Ok.ensures.is mine))

pub returns-in-Ok-clause-reach : goal.returns-in-Ok-clause-reach
returns-in-Ok-clause-reach g c = λ command about place is asked.
    let same : c.in-Ok.command ≡ command = cc (c.in-Ok.ensures.is ∙ is) in
    c.task_of.ensures.reach about place (c.asked_of.ensures ∙ ap asked_of same ∙ asked)
