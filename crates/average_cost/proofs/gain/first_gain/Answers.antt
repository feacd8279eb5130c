use Rattle.std.proofs.Common.{[], slice_index}
use Rattle.decision_model.specs.WidthFacts.{average_positions_some}
use Rattle.average_cost.proofs.LineFacts.{first_constant_small, first_slope_small, first_is_turn}
use Rattle.average_cost.proofs.gain.first_gain.Goals as goal

pub constant_line-requires-clause-within : goal.constant_line-requires-clause-within
constant_line-requires-clause-within c = average_positions_some c.args.item.now c.requires.valid.regular.readable

pub constant_line-requires-clause-fits : goal.constant_line-requires-clause-fits
constant_line-requires-clause-fits c = first_constant_small c.args.item.now c.requires.valid (slice_index [])

pub slope_line-requires-clause-within : goal.slope_line-requires-clause-within
slope_line-requires-clause-within c = average_positions_some c.args.item.now c.requires.valid.regular.readable

pub slope_line-requires-clause-fits : goal.slope_line-requires-clause-fits
slope_line-requires-clause-fits c = first_slope_small c.args.item.now c.requires.valid (slice_index [])

pub returns : goal.returns
returns c = first_is_turn c.args.item.now c.requires.valid c.constant_line.result c.slope_line.result (slice_index []) (slice_index []) c.constant_line.ensures c.slope_line.ensures
