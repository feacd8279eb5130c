use Rattle.std.proofs.Common.{◌+◌, sym, subst, refl, arith}
use Rattle.decision_model.specs.Stock.{AreWeights}
use Rattle.decision_model.specs.Walks.{IsWalkOf}
use Rattle.average_recursion.proofs.LawSums.{lead_weights}
use Rattle.average_recursion.proofs.Places.{room_at, room_next, place_next}
use Rattle.average_recursion.proofs.place.go_up.Goals as goal

pub up-requires-clause-weights : goal.up-requires-clause-weights
up-requires-clause-weights c = subst AreWeights (sym c.requires.weights) (lead_weights c.args.average.now c.requires.valid)

pub up-requires-clause-room : goal.up-requires-clause-room
up-requires-clause-room c = room_at c.args.average.now c.requires.valid c.args.place.now c.requires.place c.requires.within c.args.weights.now c.requires.weights

pub up-requires-clause-next : goal.up-requires-clause-next
up-requires-clause-next c =
    room_next c.args.average.now c.requires.valid c.args.place.now c.requires.place (c.args.place.now.count + 1) refl (omega (arith, c.if-place-terms.true, c.requires.terms.positions)) c.args.weights.now c.requires.weights

pub returns-then-place-terms-clause-place : goal.returns-then-place-terms-clause-place
returns-then-place-terms-clause-place c =
    let item = c.args.average.now in
    let place = c.args.place.now in
    let on = c.up.ensures.stands item.holding item.stockout (subst (λ ws. IsWalkOf place.walk item.holding item.stockout ws) (sym c.requires.weights) c.requires.place.walk) in
    place_next item c.requires.valid c.args.terms.now c.requires.terms place c.requires.place c.requires.within (place.count + 1) c.up.new.self refl (subst (λ ws. IsWalkOf c.up.new.self item.holding item.stockout ws) c.requires.weights on) (λ inside. c.up.ensures.place)
