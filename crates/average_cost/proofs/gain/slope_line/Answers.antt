use Rattle.std.proofs.Common.{◌∙◌, ap, arith}
use Rattle.average_cost.specs.Moves.{keep_of}
use Rattle.average_cost.proofs.LineFacts.{slope_is}
use Rattle.average_cost.proofs.gain.slope_line.Goals as goal

pub keep_line-requires : goal.keep_line-requires
keep_line-requires c =
    let is = ap (λ moves. keep_of moves c.args.terms.now.unit 0 c.args.place.now.power c.args.slopes.now) c.deref.ensures.value ∙ slope_is c.args.item.now c.args.terms.now c.requires.terms c.args.place.now c.args.k c.requires.within c.requires.place c.args.slopes.now c.requires.many in
    omega (arith, is, c.requires.fits)

pub returns : goal.returns
returns c =
    c.keep_line.ensures ∙ ap (λ moves. keep_of moves c.args.terms.now.unit 0 c.args.place.now.power c.args.slopes.now) c.deref.ensures.value ∙ slope_is c.args.item.now c.args.terms.now c.requires.terms c.args.place.now c.args.k c.requires.within c.requires.place c.args.slopes.now c.requires.many
