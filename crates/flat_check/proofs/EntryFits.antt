-- What is weighed against the worth of a place fits.
use Rattle.std.proofs.Common.{◌≡◌, ℕ, ◌+◌, ◌*◌, ◌^◌, ◌≤◌, sum, arith}
use Rattle.std.proofs.lemmas.Nat.{mul-le}
use Rattle.bracket_lemmas.specs.WideSizes.{moving_less, one_small, changes_fit, setup_less}
use Rattle.decision_model.specs.declared.average.Average.{Average}
use Rattle.decision_model.specs.Average.{average_positions}
use Rattle.decision_model.specs.WideAverage.{IsWideAverage}
use Rattle.value_cert.specs.AverageValues.{moving}
use Rattle.value_cert.specs.BracketValues.{setup_parts, most_bound, most_over}

module _ (item : Average) (wide : IsWideAverage item) (weights entry loss : ℕ) (same : weights ≡ sum (moving item.law)) (small : loss ≤ 2 ^ 118) where
  -- a lower entry and what the bound takes
  pub under_fits : entry ≤ setup_parts item → weights * entry + loss ≤ 2 ^ 122
  under_fits le =
      omega (arith, small, one_small item wide, mul-le weights entry (sum item.law) (most_bound item) (omega (arith, same, moving_less item wide)) (omega (arith, le, setup_less item wide)))

  -- a raised upper one
  pub over_fits : entry ≤ 2 * most_over item (average_positions item) → weights * entry + loss ≤ 2 ^ 122
  over_fits le =
      omega (arith, small, changes_fit item wide, mul-le weights entry (sum item.law) (2 * most_over item (average_positions item)) (omega (arith, same, moving_less item wide)) le)
