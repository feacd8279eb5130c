use Rattle.std.proofs.Common.{take}
use Rattle.disruption.specs.Tables.{IsTableOf}
use Rattle.disruption.proofs.calendar.Calendar.new.Given as goal

abbrev pub invariant-loop-span : goal.invariant-loop-span
invariant-loop-span l = IsTableOf (take l.span-index l.spans) l.table.items
