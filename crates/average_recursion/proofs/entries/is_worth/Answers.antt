use Rattle.average_recursion.proofs.Worths.{worth_told, worth_small}
use Rattle.average_recursion.proofs.entries.is_worth.Goals as goal

pub returns-clause-exact : goal.returns-clause-exact
returns-clause-exact c = λ x y e f. worth_told c.args.entry c.args.gain c.args.loss c.args.power x y c.requires e f c.if-gain-loss.false

pub returns-clause-small : goal.returns-clause-small
returns-clause-small c = worth_small c.args.entry c.args.gain c.args.loss c.args.power
