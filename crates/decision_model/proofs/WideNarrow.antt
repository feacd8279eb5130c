-- From a product of factors to the width number of bounds.
use Rattle.std.proofs.Common.{◌≡◌, ℕ, ◌+◌, ◌*◌, ◌^◌, ◌≤◌, max, sum, arith, ap, ◌∙◌}
use Rattle.std.proofs.lemmas.Nat.{mul-le}
use Rattle.decision_model.specs.declared.average.Average.{Average}
use Rattle.decision_model.specs.Average.{IsReadableAverage, average_positions, average_cost_bound}
use Rattle.decision_model.specs.Limits.{parts}
use Rattle.decision_model.specs.WideAverage.{wide_width}
use Rattle.decision_model.specs.WidthFacts.{average_positions_some}

-- a factor is at most a product of it and others
factor_fits : (n parts cost weights turned : ℕ) → 1 ≤ n → 1 ≤ parts → 1 ≤ cost → turned ≡ weights → 4 * n * parts * cost * weights ≤ 2 ^ 120 → turned ≤ 2 ^ 120
factor_fits n parts cost weights turned some_n some_parts some_cost same fits =
    let front : 1 ≤ n * parts * cost = omega (arith, mul-le 1 1 (n * parts) cost (omega (arith, mul-le 1 1 n parts some_n some_parts)) some_cost) in
    omega (arith, fits, same, mul-le 1 weights (n * parts * cost) weights front (omega arith))

some_cost : (average : Average) → 1 ≤ average.setup + average_cost_bound average
unfolding average_cost_bound
some_cost average = omega arith

-- the weights of all demands that a cost or two looks at
pub wide_weights_fit : (average : Average) → IsReadableAverage average → wide_width average ≤ 2 ^ 120 → sum average.law ^ max (average.lead + 1) 2 ≤ 2 ^ 120
unfolding wide_width
wide_weights_fit average readable fits =
    let turned : max (average.lead + 1) 2 ≡ max 2 (average.lead + 1) = omega arith in
    factor_fits (average_positions average) parts (average.setup + average_cost_bound average) (sum average.law ^ max 2 (average.lead + 1)) (sum average.law ^ max (average.lead + 1) 2)
    (average_positions_some average readable) (omega arith) (some_cost average) (ap (λ e. sum average.law ^ e) turned) fits

-- factors, one after another
pub regroup_wide : (average : Average) (n cost weights : ℕ) → n ≡ average_positions average → cost ≡ average.setup + average_cost_bound average → weights ≡ sum average.law ^ max (average.lead + 1) 2
    → 4 * (n * (1000000 * (cost * (weights * 1)))) ≡ wide_width average
unfolding wide_width
regroup_wide average n cost weights e f g =
    let turned : max (average.lead + 1) 2 ≡ max 2 (average.lead + 1) = omega arith in
    plain n cost weights ∙ (λ i. 4 * e i * 1000000 * f i * (g ∙ (λ j. sum average.law ^ turned j)) i)
  where
    plain : (n cost weights : ℕ) → 4 * (n * (1000000 * (cost * (weights * 1)))) ≡ 4 * n * 1000000 * cost * weights
    plain n cost weights = grind arith
