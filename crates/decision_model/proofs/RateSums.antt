-- The sum of the rates of some echelons.
use Rattle.std.proofs.Common.{ℕ, ◌≤◌, List, length, sum, All, arith}
use Rattle.std.proofs.lemmas.List.Sums.{sum_by-le}
use Rattle.decision_model.specs.Rates.{IsRate}

pub sum_in_range : (rates : List ℕ) → length rates ≤ 8 → All IsRate rates → sum rates ≤ 8000000
sum_in_range rates few in_range = omega (arith, few, sum_by-le (λ x. x) 1000000 rates in_range)
