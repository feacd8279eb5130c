use Rattle.std.proofs.Common.{ap, ◌∙◌}
use Rattle.json_forms.specs.LawTexts.{is_law, text_passes}
use Rattle.json_forms.proofs.law_texts.is_law.Goals as goal

pub returns-in-Some : goal.returns-in-Some
unfolding is_law
returns-in-Some c = c.text_passes.ensures ∙ ap (text_passes c.args.test) c.in-Some.ensures

pub returns-in-None : goal.returns-in-None
unfolding is_law
returns-in-None c = ap (text_passes c.args.test) c.in-None.ensures
