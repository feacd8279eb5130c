use Rattle.std.proofs.Common.{◌^◌, ◌∙◌, ◌*◌, ap, arith}
use Rattle.average_cost.specs.Moves.{keep_of}
use Rattle.average_cost.proofs.LineFacts.{constant_is, rest_small}
use Rattle.average_cost.proofs.gain.constant_line.Goals as goal

pub overflow_mul-below : goal.overflow_mul-below
overflow_mul-below c = let fits = rest_small c.args.item.now c.args.terms.now c.requires.terms c.args.place.now c.args.k c.requires.within c.requires.place c.args.constants.now c.requires.many (2 ^ 119) c.requires.valid.regular.has_demand c.requires.fits in omega (arith, fits)

pub keep_line-requires : goal.keep_line-requires
keep_line-requires c =
    let is = ap (λ moves. keep_of moves c.stock_at-stock.result (c.args.place.now.rest * c.args.terms.now.below) c.args.place.now.power c.args.constants.now) c.deref.ensures.value ∙ constant_is c.args.item.now c.args.terms.now c.requires.terms c.args.place.now c.args.k c.requires.within c.requires.place c.args.constants.now c.requires.many c.stock_at-stock.result c.stock_at-stock.ensures in
    omega (arith, is, c.requires.fits)

pub returns : goal.returns
returns c =
    c.keep_line.ensures ∙ ap (λ moves. keep_of moves c.stock_at-stock.result (c.args.place.now.rest * c.args.terms.now.below) c.args.place.now.power c.args.constants.now) c.deref.ensures.value ∙ constant_is c.args.item.now c.args.terms.now c.requires.terms c.args.place.now c.args.k c.requires.within c.requires.place c.args.constants.now c.requires.many c.stock_at-stock.result c.stock_at-stock.ensures
