use Rattle.std.proofs.Common.{ℕ, List, ℤ, sym, subst, arith, FitsSigned, w64, rules}
use Rattle.std.proofs.lemmas.Int.{to_z-of_z}
use Rattle.std.specs.Int.Signed.{≤ℤ_refl}
use Rattle.decision_model.specs.Stock.{AreWeights, HasRoom}
use Rattle.finite_recursion.proofs.Places.{low_cap}
use Rattle.finite_recursion.specs.Rows.{row_period}
use Rattle.finite_recursion.proofs.Bounds.{positions_some, lead_weights, has_room}
use Rattle.finite_recursion.proofs.row.begun_row.Goals as goal

pub new-requires-clause-weights : goal.new-requires-clause-weights
new-requires-clause-weights c =
    subst AreWeights (sym c.requires.weights) (lead_weights c.args.finite.now c.requires.valid (row_period c.args.finite.now c.args.rows) (omega (arith, c.requires.within)) (omega (arith, c.requires.some)))

pub new-requires-clause-room : goal.new-requires-clause-room
new-requires-clause-room c =
    let finite = c.args.finite.now in
    let period : ℕ = row_period finite c.args.rows in
    let room = has_room finite c.requires.valid period finite.cap (omega (arith, c.requires.within)) (omega (arith, c.requires.some)) (low_cap finite c.requires.valid.regular.readable period) (≤ℤ_refl finite.cap) in
    let cap : FitsSigned w64 finite.cap = search rules in
    subst (λ (y : ℤ). HasRoom finite.holding finite.stockout c.args.weights.now y) (sym (to_z-of_z w64 finite.cap cap)) (subst (λ (ws : List ℕ). HasRoom finite.holding finite.stockout ws finite.cap) (sym c.requires.weights) room)

pub new-requires-2-clause-some : goal.new-requires-2-clause-some
new-requires-2-clause-some c = omega (arith, c.requires.positions, positions_some c.args.finite.now c.requires.valid)
