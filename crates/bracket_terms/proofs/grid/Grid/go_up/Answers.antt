use Rattle.std.proofs.Common.{◌∙◌}
use Rattle.bracket_terms.proofs.WalkFacts.{room_here, room_next}
use Rattle.bracket_terms.specs.GridKnown.{grid_wide}
use Rattle.bracket_terms.proofs.grid.Grid.go_up.Goals as goal

pub up-requires-clause-room : goal.up-requires-clause-room
up-requires-clause-room c = let grid = c.args.self.now in room_here grid.item.now (grid_wide grid) c.args.k c.requires.within c.args.walk.now c.requires.at c.weights.result.now (c.weights.ensures.weights ∙ grid.lead_is)

pub up-requires-clause-next : goal.up-requires-clause-next
up-requires-clause-next c = let grid = c.args.self.now in room_next grid.item.now (grid_wide grid) c.args.k c.if-k-gt0.true c.requires.within c.args.walk.now c.requires.at c.weights.result.now (c.weights.ensures.weights ∙ grid.lead_is)
