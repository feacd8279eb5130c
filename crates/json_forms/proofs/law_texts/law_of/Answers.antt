use Rattle.std.proofs.Common.{Option, sym, ap, subst}
use Rattle.json_forms.specs.Faults.{GivesField}
use Rattle.json_forms.specs.LawTexts.{law_of, text_made}
use Rattle.json_forms.proofs.law_texts.law_of.Goals as goal

pub returns-in-Some-clause-value : goal.returns-in-Some-clause-value
unfolding law_of
returns-in-Some-clause-value c = subst (λ (text : Option _). GivesField c.law_of_text.result (text_made text)) c.in-Some.ensures c.law_of_text.ensures.value

pub returns-in-None-clause-value : goal.returns-in-None-clause-value
unfolding law_of
returns-in-None-clause-value c = ap text_made (sym c.in-None.ensures)
