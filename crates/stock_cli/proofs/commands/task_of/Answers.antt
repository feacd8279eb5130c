use Rattle.std.proofs.Common.{◌≡◌, subst, ◌∙◌}
use Rattle.stock_cli.specs.Causes.{ComesTo, ReadsNoFile}
use Rattle.stock_cli.specs.declared.asked.Asked.{Asked}
use Rattle.stock_cli.specs.declared.asked.Asked.TheVariants as asked
use Rattle.stock_cli.proofs.commands.task_of.Goals as goal

pub returns-in-Kind-clause-spared_files : goal.returns-in-Kind-clause-spared_files
returns-in-Kind-clause-spared_files g c = λ spares.
    let inside = c.in-Kind in
    let P : Asked → Type 0 = λ asking. ReadsNoFile (ComesTo (g.I.Source.left c.args.input.now) (g.F.Files.held c.args.files.now) c.args.words.now asking) in
    let mine : P (asked.Kind inside.question inside.place) = subst P inside.is spares in
    c.ask_kind.ensures.spared_files (record { none = λ name e. mine.none name (e ∙ c.named.ensures) })
