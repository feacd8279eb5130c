-- Costs of stock are convex.
use Rattle.std.proofs.Common.{ℕ, ◌*◌, ◌^◌, ℤ, pos, ◌-ℤ◌, List}
use Rattle.decision_model.specs.declared.finite.Finite.{Finite}
use Rattle.decision_model.specs.DemandLaws.{common_total}
use Rattle.decision_model.specs.FiniteProblem.{end_cost}
use Rattle.decision_model.specs.Positions.{above_zero}
use Rattle.decision_model.specs.Stock.{cost_at, stock_cost}
use Rattle.value_cert.specs.FiniteValues.{end_value}
use Rattle.finite_lemmas.specs.KConvex.{IsKConvexOn, kconvex-left, kconvex-lacking, convex-add, convex-scale, convex-weighted}

-- at a demand
pub cost_at_convex : (over under d : ℕ) (low cap : ℤ) → IsKConvexOn 0 low cap (λ y. pos (cost_at over under y d))
cost_at_convex over under d low cap =
    convex-add low cap (λ y. pos (over * above_zero (y -ℤ pos d))) (λ y. pos (under * above_zero (pos d -ℤ y)))
    (convex-scale low cap over (λ y. pos (above_zero (y -ℤ pos d))) (kconvex-left low cap (pos d)))
    (convex-scale low cap under (λ y. pos (above_zero (pos d -ℤ y))) (kconvex-lacking low cap (pos d)))

-- over a law
pub stock_convex : (over under : ℕ) (weights : List ℕ) (low cap : ℤ) → IsKConvexOn 0 low cap (stock_cost over under weights)
unfolding stock_cost
stock_convex over under weights low cap = convex-weighted low cap weights (λ y d. pos (cost_at over under y d)) (λ d lt. cost_at_convex over under d low cap)

-- after the last period
pub end_convex : (finite : Finite) (low cap : ℤ) → IsKConvexOn 0 low cap (end_value finite)
unfolding end_value
end_convex finite low cap = convex-scale low cap (common_total finite.laws ^ finite.lead) (end_cost finite) (cost_at_convex finite.end_holding finite.end_stockout 0 low cap)
