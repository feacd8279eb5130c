use Rattle.node_state.specs.Balance.{new_balanced, placed_balanced, received_balanced, finished_balanced, served_balanced}
use Rattle.node_state.proofs.laws.nodes_balance.Goals as goal

pub returns-clause-new : goal.returns-clause-new
returns-clause-new c = new_balanced

pub returns-clause-placed : goal.returns-clause-placed
returns-clause-placed c = placed_balanced

pub returns-clause-received : goal.returns-clause-received
returns-clause-received c = received_balanced

pub returns-clause-finished : goal.returns-clause-finished
returns-clause-finished c = finished_balanced

pub returns-clause-served : goal.returns-clause-served
returns-clause-served c = served_balanced
