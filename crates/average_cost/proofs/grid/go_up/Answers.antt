use Rattle.std.proofs.Common.{◌∙◌, arith}
use Rattle.average_cost.proofs.GridFacts.{room_here, room_next, step_power, step_rest, place_next}
use Rattle.average_cost.proofs.grid.go_up.Goals as goal

pub up-requires-clause-room : goal.up-requires-clause-room
up-requires-clause-room c = room_here c.args.item.now c.requires.valid c.args.k c.requires.within c.args.place.now c.requires.place c.weights.result.now (c.weights.ensures.weights ∙ c.requires.terms.lead)

pub up-requires-clause-next : goal.up-requires-clause-next
up-requires-clause-next c = room_next c.args.item.now c.requires.valid c.args.k c.if-k-gt0.true c.requires.within c.args.place.now c.requires.place c.weights.result.now (c.weights.ensures.weights ∙ c.requires.terms.lead)

pub overflow_mul-place : goal.overflow_mul-place
overflow_mul-place c = let fits = step_power c.args.item.now c.requires.valid c.args.k c.if-k-gt0.true c.requires.within c.args.place.now c.requires.place c.args.terms.now c.requires.terms in omega (arith, fits)

pub overflow_sub-place : goal.overflow_sub-place
overflow_sub-place c = step_rest c.args.item.now c.args.k c.if-k-gt0.true c.args.place.now c.requires.place c.weight.result c.weight.ensures

pub returns-then-k-gt0 : goal.returns-then-k-gt0
returns-then-k-gt0 c = place_next c.args.item.now c.args.terms.now c.requires.terms c.args.k c.if-k-gt0.true c.args.place.now c.requires.place c.up.new.self c.up.ensures.place c.weights.result.now (c.weights.ensures.weights ∙ c.requires.terms.lead) c.up.ensures.stands c.weight.result c.weight.ensures
