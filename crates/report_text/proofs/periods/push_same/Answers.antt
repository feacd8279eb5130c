use Rattle.std.proofs.Common.{◌+◌, List, ℕ, ◌++◌, ◌∙◌, ap, append_assoc}
use Rattle.report_text.specs.Demand.{numbered_text}
use Rattle.report_text.proofs.Lines.{more_lines}
use Rattle.report_text.proofs.periods.push_same.Goals as goal

pub loop-place-preserved : goal.loop-place-preserved
loop-place-preserved c =
    let text = c.args.text.now in
    more_lines (λ place. numbered_text (place + 1) ++ text) c.loop-place.place _ _ _ c.loop-place.invariant
    (c.in_ok-push.ensures.ok ∙ ap (λ (front : List ℕ). front ++ text) c.in_ok-push_number_of.ensures ∙ append_assoc _ _ text)
