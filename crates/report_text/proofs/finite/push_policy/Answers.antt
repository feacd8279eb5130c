use Rattle.std.proofs.Common.{◌++◌, List, ℕ, ◌∙◌, ap, append_assoc, codes}
use Rattle.std.proofs.lemmas.Result.{on_ok_weaker}
use Rattle.report_text.specs.Finite.{rows_lines}
use Rattle.report_text.proofs.finite.push_policy.Goals as goal

pub returns : goal.returns
returns c =
    on_ok_weaker c.push_rows.result
    (λ whole.
    whole
    ∙ ap (λ (front : List ℕ). front ++ rows_lines c.as_slice.result.now) c.in_ok-push.ensures.ok
    ∙ append_assoc c.args.out.now (codes "kind finite\n") (rows_lines c.as_slice.result.now)
    ∙ ap (λ rows. c.args.out.now ++ (codes "kind finite\n" ++ rows_lines rows)) c.as_slice.ensures)
    c.push_rows.ensures
