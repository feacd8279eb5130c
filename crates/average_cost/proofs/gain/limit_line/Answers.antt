use Rattle.std.proofs.Common.{arith}
use Rattle.average_cost.proofs.LineFacts.{limit_is, limit_most, limit_front}
use Rattle.average_cost.proofs.gain.limit_line.Goals as goal

pub overflow_mul-result : goal.overflow_mul-result
overflow_mul-result c = let fits = limit_front c.args.item.now c.requires.valid c.args.terms.now c.requires.terms c.args.place.now c.args.k c.requires.within c.requires.place in omega (arith, fits)

pub overflow_mul-result-2 : goal.overflow_mul-result-2
overflow_mul-result-2 c = let fits = limit_most c.args.item.now c.requires.valid c.args.k c.requires.within in omega (arith, fits, limit_is c.args.item.now c.requires.valid c.args.terms.now c.requires.terms c.args.place.now c.args.k c.requires.place)

pub returns : goal.returns
returns c = limit_is c.args.item.now c.requires.valid c.args.terms.now c.requires.terms c.args.place.now c.args.k c.requires.place
