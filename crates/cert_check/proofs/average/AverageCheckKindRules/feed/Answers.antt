use Rattle.cert_check.proofs.ProvenAverage.{average_answers}
use Rattle.cert_check.proofs.average.AverageCheckKindRules.feed.Goals as goal

pub returns : goal.returns
returns c = λ instance before knows.
    average_answers instance before c.args.line.now c.args.self.now c.take.new.self c.take.result knows c.take.ensures.average c.take.ensures.rule c.take.ensures.points
