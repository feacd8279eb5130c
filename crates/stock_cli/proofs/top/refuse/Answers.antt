use Rattle.std.proofs.Common.{refl, sym, inl, inr}
use Rattle.report_text.specs.Messages.{fault_message}
use Rattle.report_text.specs.declared.faults.Fault.TheVariants as fault
use Rattle.stock_edge.specs.Known.{prefix_none}
use Rattle.stock_cli.proofs.top.refuse.Goals as goal

pub returns-in-WriteFault-clause-told : goal.returns-in-WriteFault-clause-told
returns-in-WriteFault-clause-told g c = record {
  told = fault.WriteFault;
  of = inl (sym c.in-WriteFault.is);
  status_is = refl;
  part = rw (c.as_bytes.ensures.value, c.cannot_write_text.ensures) at c.tell.ensures.part;
  whole = inr (rw (c.as_bytes.ensures.value, c.cannot_write_text.ensures) at c.tell.ensures.whole);
}

pub returns-in-Err : goal.returns-in-Err
returns-in-Err g c = record {
  told = record { told = fault.Memory; of = inr refl; status_is = refl; part = prefix_none _ (fault_message fault.Memory); whole = inl refl };
  write_fault = λ e. absurd (c.in_default.not-WriteFault e);
}
