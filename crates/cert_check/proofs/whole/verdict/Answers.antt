use Rattle.std.proofs.Common.{[]}
use Rattle.cert_check.proofs.whole.verdict.Goals as goal

pub returns-clause-own : goal.returns-clause-own
returns-clause-own c = λ own. c.end.ensures.own c.args.instance.now c.args.text.now (c.push.ensures.stands c.args.instance.now [] c.new-check.ensures) own
