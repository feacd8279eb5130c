use Rattle.report_text.proofs.faults.push_missing.Goals as goal

pub returns : goal.returns
returns c = rw c.bytes.ensures at c.push_both.ensures
