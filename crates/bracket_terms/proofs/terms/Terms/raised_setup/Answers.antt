use Rattle.std.proofs.Common.{arith}
use Rattle.bracket_terms.proofs.SizeFacts.{setup_raised}
use Rattle.bracket_terms.specs.Known.{item_of, wide_of}
use Rattle.bracket_terms.proofs.terms.Terms.raised_setup.Goals as goal

pub overflow_add-result : goal.overflow_add-result
overflow_add-result c = let terms = c.args.self.now in let fits = setup_raised (item_of terms) (wide_of terms) in omega (arith, fits, terms.sizes_are.setup, terms.sizes_are.raise)

pub returns-clause-small : goal.returns-clause-small
returns-clause-small c = let terms = c.args.self.now in omega (arith, setup_raised (item_of terms) (wide_of terms), terms.sizes_are.setup, terms.sizes_are.raise)
