use Rattle.std.proofs.Common.{◌∙◌, ap, arith}
use Rattle.demand_law.specs.Law.{upto_of}
use Rattle.demand_law.proofs.RunningSums.{upto_of-whole}
use Rattle.demand_law.proofs.law.Law.total.Goals as goal

pub returns : goal.returns
returns c = c.upto.ensures ∙ ap (upto_of c.args.self.now) c.greatest.ensures ∙ upto_of-whole c.args.self.now _ (omega arith)
