use Rattle.std.proofs.Common.{rules}
use Rattle.json_forms.proofs.LawSum.{IsLaw-some}
use Rattle.json_forms.proofs.laws.sum_of.Goals as goal

pub returns-clause-some : goal.returns-clause-some
returns-clause-some c = let s = IsLaw-some _ c.weights-weights.ensures.law in search rules
