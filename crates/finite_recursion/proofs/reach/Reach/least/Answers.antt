use Rattle.std.proofs.Common.{ℤ, ℕ, List, Option, None, Some, subst}
use Rattle.least_values.specs.declared.sweep.Sweep.{Sweep}
use Rattle.decision_model.specs.Sweeps.{IsLeastOf, IsSweepOf}
use Rattle.finite_recursion.specs.Rows.{IsReachOf, reached}
use Rattle.finite_recursion.specs.declared.reach.Reach.{Reach}
use Rattle.finite_recursion.specs.declared.reach.Reach.TheVariants.{All}
use Rattle.finite_recursion.proofs.reach.Reach.least.Goals as goal

-- a sweep's least is that of all pairs
swept : (sweep : Sweep) (room : List ℤ) (result : Option (ℤ × ℤ)) → ((pairs : List (ℤ × ℤ)) → IsSweepOf sweep pairs → IsLeastOf pairs result) → (most : Option ℕ) (positions : ℕ) (pairs : List (ℤ × ℤ)) → IsReachOf most positions (All sweep) room pairs → IsLeastOf (reached most positions pairs) result
swept sweep room result least None positions pairs is = least pairs is
swept sweep room result least (Some most) positions pairs is = absurd is

pub returns-in-All : goal.returns-in-All
returns-in-All c = λ most positions pairs is. swept c.in-All.sweep c.args.room.now c.least.result c.least.ensures most positions pairs (subst (λ (r : Reach). IsReachOf most positions r c.args.room.now pairs) c.in-All.is is)
