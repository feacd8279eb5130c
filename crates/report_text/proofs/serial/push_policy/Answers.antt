use Rattle.std.proofs.Common.{◌++◌, List, ℕ, ◌∙◌, ap, append_assoc, codes}
use Rattle.std.proofs.lemmas.Result.{on_ok_weaker}
use Rattle.report_text.specs.Serial.{periods_lines}
use Rattle.report_text.proofs.serial.push_policy.Goals as goal

pub returns : goal.returns
returns c =
    on_ok_weaker c.push_levels.result
    (λ whole.
    whole
    ∙ ap (λ (front : List ℕ). front ++ periods_lines c.as_slice.result.now) c.in_ok-push.ensures.ok
    ∙ append_assoc c.args.out.now (codes "kind serial\n") (periods_lines c.as_slice.result.now)
    ∙ ap (λ periods. c.args.out.now ++ (codes "kind serial\n" ++ periods_lines periods)) c.as_slice.ensures)
    c.push_levels.ensures
