use Rattle.policy_bound.specs.ListedLeast.{least_listed}
use Rattle.policy_bound.proofs.laws.positions_are_states.Goals as goal

pub returns : goal.returns
returns c = least_listed
