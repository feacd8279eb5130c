use Rattle.json_forms.proofs.KeyErrs.{gives_given}
use Rattle.json_forms.proofs.form.given.Goals as goal

pub returns-in-Err-clause-value : goal.returns-in-Err-clause-value
returns-in-Err-clause-value g c = gives_given (g.F.Form.reading c.args.form) _ _ _ _ _ c.in-Some.ensures c.in-Err.ensures.value c.key_err.ensures
