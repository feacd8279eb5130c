use Rattle.average_recursion.proofs.Worths.{most_told}
use Rattle.average_recursion.proofs.entries.is_at_most.Goals as goal

pub returns : goal.returns
returns c = λ x y e f. most_told c.args.entry c.args.gain c.args.loss c.args.power x y c.requires e f c.if-gain-loss.false
