use Rattle.std.proofs.Common.{◌*◌, ◌∙◌, ap, arith}
use Rattle.average_cost.specs.Turns.{ratio_of}
use Rattle.average_cost.proofs.LineFacts.{limit_by_g}
use Rattle.average_cost.proofs.TableFacts.{cost_is, limit_told}
use Rattle.average_cost.proofs.tables.limit_at.Goals as goal

pub overflow_mul-result : goal.overflow_mul-result
overflow_mul-result c =
    let fits = limit_by_g c.args.item.now c.requires.valid (ratio_of c.args.g) (cost_is c.args.item.now c.requires.valid (ratio_of c.args.g) c.requires.cost).turn c.args.k c.requires.within in
    rw c.limit_line.ensures (omega (arith, fits))

pub returns : goal.returns
returns c = ap (λ z. z * c.args.g.den) c.limit_line.ensures ∙ limit_told c.args.item.now c.requires.valid (ratio_of c.args.g) c.requires.cost c.args.k
