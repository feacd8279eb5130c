use Rattle.std.proofs.Common.{ap, ◌∙◌, ◌++◌, take, refl, append_assoc}
use Rattle.line_check.specs.TextCheckFacts.{taken_on}
use Rattle.line_check.specs.Verdicts.{is_rejection}
use Rattle.cert_check.proofs.text_check.TextCheck.push.Goals as goal

pub loop-rest-preserved : goal.loop-rest-preserved
loop-rest-preserved c =
    let known = c.loop-rest.invariant in
    let rest = c.loop-rest.rest.now in
    let count = c.take_line-taken.result in
    record {
      front = known.front ++ take count rest;
      split = taken_on c.args.piece.now known.front rest count _ known.split refl;
      stands = λ item bytes stands. rw append_assoc at (c.take_line-taken.ensures.stands item (bytes ++ known.front) (known.stands item bytes stands));
      kept = λ rejected. let same = known.kept rejected in c.take_line-taken.ensures.kept (ap is_rejection same ∙ rejected) ∙ same;
    }
