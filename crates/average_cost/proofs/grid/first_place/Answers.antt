use Rattle.std.proofs.Common.{◌∙◌}
use Rattle.average_lemmas.specs.PlaceSizes.{room_first}
use Rattle.average_cost.proofs.grid.first_place.Goals as goal

pub new-requires-clause-room : goal.new-requires-clause-room
new-requires-clause-room c = room_first c.args.item.now c.requires.valid c.weights.result.now (c.weights.ensures.weights ∙ c.requires.terms.lead)
