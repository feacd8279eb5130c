use Rattle.std.proofs.Common.{sym, ap, ◌∙◌}
use Rattle.serde_json.proofs.Views.{members_len-members_view}
use Rattle.json_forms.specs.LawTexts.{key_count}
use Rattle.json_forms.proofs.law_texts.count_keys.Goals as goal

pub returns-in-Some : goal.returns-in-Some
returns-in-Some c = c.len.ensures.len ∙ sym (members_len-members_view c.in-Some.members.now.entries) ∙ ap key_count c.in-Some.ensures
