use Rattle.std.proofs.Common.{sym, ◌∙◌}
use Rattle.json_forms.proofs.Texts.{text_of_valid, text_of_invalid}
use Rattle.json_forms.proofs.node_names.name_text.Goals as goal

pub returns-in-Ok : goal.returns-in-Ok
returns-in-Ok c = c.in-Ok.ensures.cases.0 ∙ sym (text_of_valid c.args.name.now c.in-Ok.ensures.cases.1)

pub returns-in-Err : goal.returns-in-Err
returns-in-Err c = sym (text_of_invalid c.args.name.now c.in-Err.ensures.cases.0)
