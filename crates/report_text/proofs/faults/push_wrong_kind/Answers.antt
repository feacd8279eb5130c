use Rattle.report_text.proofs.faults.push_wrong_kind.Goals as goal

pub returns : goal.returns
returns c = rw (c.as_bytes.ensures.value, c.word.ensures) at c.push_both.ensures
