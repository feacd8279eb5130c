use Rattle.std.proofs.Common.{min, FitsSigned, w64, ℤ, ℕ, List, [], ◌∷◌, ◌++◌, Option, None, Some, subst}
use mir.Syntax.{w128}
use Rattle.std.proofs.lemmas.Int.{to_z-of_z}
use Rattle.least_values.specs.declared.sweep.Sweep.{Sweep}
use Rattle.least_values.specs.declared.window.Window.{Window}
use Rattle.decision_model.specs.Sweeps.{IsSweepOf}
use Rattle.decision_model.specs.Windows.{IsWindowOf}
use Rattle.finite_recursion.specs.Rows.{IsReachOf}
use Rattle.finite_recursion.specs.declared.reach.Reach.{Reach}
use Rattle.finite_recursion.specs.declared.reach.Reach.TheVariants.{All, Last}
use Rattle.finite_recursion.proofs.reach.Reach.push.Goals as goal

-- a sweep has seen one pair more
swept : (old new : Sweep) (room : List ℤ) (pair : ℤ × ℤ) → ((pairs : List (ℤ × ℤ)) → IsSweepOf old pairs → IsSweepOf new (pairs ++ pair ∷ [])) → (most : Option ℕ) (positions : ℕ) (pairs : List (ℤ × ℤ)) → IsReachOf most positions (All old) room pairs → IsReachOf most positions (All new) room (pairs ++ pair ∷ [])
swept old new room pair seen None positions pairs is = seen pairs is
swept old new room pair seen (Some most) positions pairs is = absurd is

-- so has a window
shown : (old new : Window) (room after : List ℤ) (pair : ℤ × ℤ) → ((width : ℕ) (pairs : List (ℤ × ℤ)) → IsWindowOf width old room pairs → IsWindowOf width new after (pairs ++ pair ∷ [])) → (most : Option ℕ) (positions : ℕ) (pairs : List (ℤ × ℤ)) → IsReachOf most positions (Last old) room pairs → IsReachOf most positions (Last new) after (pairs ++ pair ∷ [])
shown old new room after pair seen None positions pairs is = absurd is
shown old new room after pair seen (Some most) positions pairs is = seen (min most positions) pairs is

pub returns-in-All-clause-seen : goal.returns-in-All-clause-seen
returns-in-All-clause-seen c = λ most positions pairs is.
    let at : FitsSigned w64 c.args.at = c.ranges.at in
    let cost : FitsSigned w128 c.args.cost = c.ranges.cost in
    swept c.in-All.sweep c.push.new.self c.args.room.now (c.args.at, c.args.cost) (simp to_z-of_z at c.push.ensures) most positions pairs (subst (λ (r : Reach). IsReachOf most positions r c.args.room.now pairs) c.in-All.is is)

pub returns-in-Last-clause-seen : goal.returns-in-Last-clause-seen
returns-in-Last-clause-seen c = λ most positions pairs is.
    let at : FitsSigned w64 c.args.at = c.ranges.at in
    let cost : FitsSigned w128 c.args.cost = c.ranges.cost in
    shown c.in-Last.window c.push-in-Last.new.self c.args.room.now c.push-in-Last.new.room (c.args.at, c.args.cost) (simp to_z-of_z at c.push-in-Last.ensures.seen) most positions pairs (subst (λ (r : Reach). IsReachOf most positions r c.args.room.now pairs) c.in-Last.is is)
