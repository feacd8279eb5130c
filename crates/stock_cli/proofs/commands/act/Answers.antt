use Rattle.std.proofs.Common.{◌≡◌, None, subst, sym, ◌∙◌}
use Rattle.stock_cli.specs.Causes.{ActsOn, ComparesInput, ReadsNoFile}
use Rattle.stock_cli.specs.Inputs.{Origin, content_of, input_at, origin_of}
use Rattle.stock_cli.specs.Subjects.{Stands}
use Rattle.stock_cli.specs.declared.words.Action.{Action}
use Rattle.stock_cli.specs.declared.words.Action.TheVariants as action
use Rattle.stock_cli.proofs.commands.act.Goals as goal

pub returns-in-Solve-clause-spared_files : goal.returns-in-Solve-clause-spared_files
returns-in-Solve-clause-spared_files g c = λ spares.
    let P : Action → Type 0 = λ a. ReadsNoFile (ActsOn (Stands g.S.Subject.subject) (g.I.Source.left c.args.input.now) (g.F.Files.held c.args.files.now) c.args.words.now a) in
    let mine : P (action.Solve c.in-Solve.place) = subst P c.in-Solve.is spares in
    c.ask.ensures.spared_files (record { none = λ name e. mine.none name (e ∙ c.named.ensures) })

pub returns-in-Certify-clause-spared_files : goal.returns-in-Certify-clause-spared_files
returns-in-Certify-clause-spared_files g c = λ spares.
    let P : Action → Type 0 = λ a. ReadsNoFile (ActsOn (Stands g.S.Subject.subject) (g.I.Source.left c.args.input.now) (g.F.Files.held c.args.files.now) c.args.words.now a) in
    let mine : P (action.Certify c.in-Certify.place) = subst P c.in-Certify.is spares in
    c.ask-in-Certify.ensures.spared_files (record { none = λ name e. mine.none name (e ∙ c.named-in-Certify.ensures) })

pub returns-in-Check-clause-spared_input : goal.returns-in-Check-clause-spared_input
returns-in-Check-clause-spared_input g c = λ spares.
    let inside = c.in-Check in
    let stands = Stands g.S.Subject.subject in
    let left = g.I.Source.left c.args.input.now in
    let held = g.F.Files.held c.args.files.now in
    let words = c.args.words.now in
    let First : Origin → Type 0 = λ from. ComparesInput stands (content_of left held from) from (origin_of c.named-cert.result) None in
    let Second : Origin → Type 0 = λ cert. ComparesInput stands (content_of left held (input_at words inside.place)) (input_at words inside.place) cert None in
    let All : Action → Type 0 = λ a. ActsOn stands left held words a None in
    c.compare.ensures.spared_input (λ reads. spares (subst All (sym inside.is) (subst Second c.named-cert.ensures (subst First c.named-from.ensures reads))))
