use Rattle.std.proofs.Common.{◌≡◌, ◌⊎◌, ap, subst, sym, ◌∙◌}
use Rattle.stock_cli.specs.Inputs.{contents}
use Rattle.stock_cli.specs.Told.{told_of}
use Rattle.stock_cli.specs.declared.asked.About.{About}
use Rattle.stock_cli.specs.declared.asked.About.TheVariants as about
use Rattle.stock_cli.specs.declared.names.Part.{Part}
use Rattle.stock_cli.specs.declared.names.Part.TheVariants as part
use Rattle.stock_cli.proofs.commands.act_on.Goals as goal

pub returns-in-Kinds-clause-reach : goal.returns-in-Kinds-clause-reach
returns-in-Kinds-clause-reach g c = λ place is.
    let P : About → Type 0 = λ x. (c.act.new.input ≡ c.args.input.now) ⊎ (told_of x).Reaches (contents (g.I.Source.left c.args.input.now) (g.F.Files.held c.args.files.now) c.args.words.now place) (g.I.Source.left c.args.input.now) (g.I.Source.left c.act.new.input) in
    subst P (sym c.in-Kinds.is) (c.act.ensures.reach place is)

pub returns-in-Part-Bracket-clause-reach : goal.returns-in-Part-Bracket-clause-reach
returns-in-Part-Bracket-clause-reach g c = λ place is.
    let inside = c.in-Part-Bracket in
    let same : c.args.about ≡ about.Part part.Bracket = inside.is ∙ ap (λ (p : Part). about.Part p) (rw inside.is at inside.field-0-is) in
    let P : About → Type 0 = λ x. (c.act-in-Part-Bracket.new.input ≡ c.args.input.now) ⊎ (told_of x).Reaches (contents (g.I.Source.left c.args.input.now) (g.F.Files.held c.args.files.now) c.args.words.now place) (g.I.Source.left c.args.input.now) (g.I.Source.left c.act-in-Part-Bracket.new.input) in
    subst P (sym same) (c.act-in-Part-Bracket.ensures.reach place is)
