use Rattle.json_forms.proofs.Listed.{items_are}
use Rattle.json_forms.proofs.numbers.items.Goals as goal

pub returns-in-Some : goal.returns-in-Some
returns-in-Some c = items_are c.in-Some.list.now.items _ _ c.as_slice.ensures.value c.in-Some.ensures
