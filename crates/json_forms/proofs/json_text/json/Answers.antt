use Rattle.json_forms.proofs.Values.{value_in-is, value_in-none}
use Rattle.json_forms.proofs.json_text.json.Goals as goal

pub returns-in-Ok-clause-ok : goal.returns-in-Ok-clause-ok
returns-in-Ok-clause-ok c = value_in-is _ _ c.in-Ok.ensures.ok.0 c.in-Ok.ensures.ok.1

pub returns-in_default-clause-err : goal.returns-in_default-clause-err
returns-in_default-clause-err c = value_in-none _ (c.in-Err.ensures.err (λ m. c.in_default.not-Memory (c.classify.ensures.memory.1 m)))
