use Rattle.cert_check.proofs.ProvenLots.{lots_answers}
use Rattle.cert_check.proofs.lots.LotsCheckKindRules.feed.Goals as goal

pub returns : goal.returns
returns c = λ instance before knows.
    lots_answers instance before c.args.line.now c.args.self.now c.take.new.self c.take.result knows c.take.ensures.lots c.take.ensures.rule c.take.ensures.plan
