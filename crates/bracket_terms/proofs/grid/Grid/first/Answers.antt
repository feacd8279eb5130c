use Rattle.std.proofs.Common.{◌∙◌}
use Rattle.bracket_terms.proofs.WalkFacts.{room_first}
use Rattle.bracket_terms.specs.GridKnown.{grid_wide}
use Rattle.bracket_terms.proofs.grid.Grid.first.Goals as goal

pub new-requires-clause-room : goal.new-requires-clause-room
new-requires-clause-room c = let grid = c.args.self.now in room_first grid.item.now (grid_wide grid) c.weights.result.now (c.weights.ensures.weights ∙ grid.lead_is)
