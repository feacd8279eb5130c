use Rattle.std.proofs.Common.{sym, subst}
use Rattle.decision_model.specs.Stock.{AreWeights}
use Rattle.average_lemmas.specs.PlaceSizes.{room_first}
use Rattle.average_recursion.proofs.LawSums.{lead_weights}
use Rattle.average_recursion.proofs.place.first_place.Goals as goal

pub new-requires-clause-weights : goal.new-requires-clause-weights
new-requires-clause-weights c = subst AreWeights (sym c.requires.weights) (lead_weights c.args.average.now c.requires.valid)

pub new-requires-clause-room : goal.new-requires-clause-room
new-requires-clause-room c = room_first c.args.average.now c.requires.valid c.args.weights.now c.requires.weights
