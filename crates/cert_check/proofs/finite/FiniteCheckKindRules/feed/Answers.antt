use Rattle.cert_check.proofs.ProvenFinite.{finite_answers}
use Rattle.cert_check.proofs.finite.FiniteCheckKindRules.feed.Goals as goal

pub returns : goal.returns
returns c = λ instance before knows.
    finite_answers instance before c.args.line.now c.args.self.now c.take.new.self c.take.result knows c.take.ensures.finite c.take.ensures.rule c.take.ensures.rows
