use Rattle.std.proofs.Common.{◌*◌, ◌∙◌, ap, arith}
use Rattle.average_cost.specs.Turns.{ratio_of}
use Rattle.average_cost.specs.Moves.{keep_of}
use Rattle.average_cost.proofs.TableFacts.{stock_by_g, below_by_g, rest_fits, gain_is}
use Rattle.average_cost.proofs.tables.gain_at.Goals as goal

pub overflow_mul-stock : goal.overflow_mul-stock
overflow_mul-stock c = let fits = stock_by_g c.args.item.now c.requires.valid (ratio_of c.args.g) c.requires.cost c.args.k c.requires.within in rw c.stock_at.ensures (omega (arith, fits))

pub overflow_mul-below : goal.overflow_mul-below
overflow_mul-below c = let fits = below_by_g c.args.item.now c.requires.valid (ratio_of c.args.g) c.requires.cost in rw c.requires.terms.below (omega (arith, fits))

pub overflow_mul-below-2 : goal.overflow_mul-below-2
overflow_mul-below-2 c = let fits = rest_fits c.args.item.now c.requires.valid (ratio_of c.args.g) c.requires.cost c.args.terms.now c.requires.terms c.args.place.now c.args.k c.requires.within c.requires.place c.args.entries.now c.requires.many c.requires.fits in omega (arith, fits)

pub keep_line-requires : goal.keep_line-requires
keep_line-requires c =
    let is = ap (λ moves. keep_of moves (c.stock_at.result * c.args.g.den) (c.args.place.now.rest * (c.args.terms.now.below * c.args.g.den)) c.args.place.now.power c.args.entries.now) c.deref.ensures.value ∙ gain_is c.args.item.now c.requires.valid (ratio_of c.args.g) c.requires.cost c.args.terms.now c.requires.terms c.args.place.now c.args.k c.requires.within c.requires.place c.args.entries.now c.requires.many c.stock_at.result c.stock_at.ensures in
    omega (arith, is, c.requires.fits)

pub returns : goal.returns
returns c =
    c.keep_line.ensures ∙ ap (λ moves. keep_of moves (c.stock_at.result * c.args.g.den) (c.args.place.now.rest * (c.args.terms.now.below * c.args.g.den)) c.args.place.now.power c.args.entries.now) c.deref.ensures.value ∙ gain_is c.args.item.now c.requires.valid (ratio_of c.args.g) c.requires.cost c.args.terms.now c.requires.terms c.args.place.now c.args.k c.requires.within c.requires.place c.args.entries.now c.requires.many c.stock_at.result c.stock_at.ensures
