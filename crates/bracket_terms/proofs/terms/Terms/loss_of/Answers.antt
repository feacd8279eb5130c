use Rattle.std.proofs.Common.{◌*◌, arith, ap}
use Rattle.bracket_terms.proofs.SizeFacts.{loss_fits}
use Rattle.bracket_terms.specs.Known.{item_of, wide_of}
use Rattle.bracket_terms.proofs.terms.Terms.loss_of.Goals as goal

pub overflow_mul-result : goal.overflow_mul-result
overflow_mul-result c = let terms = c.args.self.now in let fits = loss_fits (item_of terms) (wide_of terms) c.args.g c.requires in omega (arith, fits, ap (λ z. z * c.args.g) terms.sizes_are.total)

pub returns-clause-small : goal.returns-clause-small
returns-clause-small c = let terms = c.args.self.now in omega (arith, loss_fits (item_of terms) (wide_of terms) c.args.g c.requires, ap (λ z. z * c.args.g) terms.sizes_are.total)
