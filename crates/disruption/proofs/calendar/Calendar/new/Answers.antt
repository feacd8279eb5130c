use Rattle.std.proofs.Common.{◌≡◌, ◌+◌, take, None, sym, ◌∙◌, subst}
use Rattle.network_model.specs.Pauses.{overlapping_span}
use Rattle.disruption.specs.Tables.{IsTableOf}
use Rattle.disruption.proofs.CalendarSteps.{none_of, apart_new, added, left_out}
use Rattle.disruption.proofs.calendar.Calendar.new.Goals as goal
use Rattle.disruption.proofs.calendar.Calendar.new.Goals.{then-span+in_ok-put, else-span}

pub put-requires-clause-apart : goal.put-requires-clause-apart
put-requires-clause-apart c =
    let spans = c.args.spans.now in
    let none : overlapping_span spans ≡ None = sym c.overlapping_span.ensures ∙ none_of c.overlapping_span.result c.in_default.not-Some in
    apart_new spans c.loop-span.table.items c.loop-span.span-index none c.loop-span-test.true c.loop-span.invariant

pub loop-span-preserved : goal.loop-span-preserved
loop-span-preserved c =
    let spans = c.args.spans.now in
    let i = c.loop-span.span-index in
    elim c.if-span.branch [
      | then-span+in_ok-put w ↦ subst (λ t. IsTableOf (take (i + 1) spans) t.items) (sym w.table-is) (added spans c.loop-span.table.items w.put.new.table.items i c.loop-span-test.true c.loop-span.invariant w.in_ok-put.ensures.table w.in_ok-put.ensures.one_more)
      | else-span w ↦ subst (λ t. IsTableOf (take (i + 1) spans) t.items) (sym w.table-is) (left_out spans c.loop-span.table.items i c.loop-span-test.true w.if-span.false c.loop-span.invariant)
    ]
