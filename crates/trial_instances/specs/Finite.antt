-- The finite horizon of a trial: words 404 to 417.
use Rattle.std.proofs.Common.{◌≡◌, ℕ, ◌*◌, ◌^◌, ◌≤◌, [], ◌∷◌, sum, pos, ◌-ℤ◌, None, ap, arith}
use Rattle.std.proofs.Math.Nat.{mul-le-mul, pow-le-pow_left}
use Rattle.std.proofs.lemmas.Int.{ints}
use Rattle.decision_model.specs.declared.finite.Finite.{Finite}
use Rattle.decision_model.specs.declared.instance.Instance.TheVariants as instance
use Rattle.decision_model.specs.Valid.{IsValid}
use Rattle.decision_model.specs.Finite.{finite_positions, finite_most_lacking, finite_cost_bound, finite_width}
use Rattle.decision_model.specs.Positions.{above_zero, low_after, positions_from}
use Rattle.demand_law.specs.Sequences.{greatest_in}
use Rattle.trial_instances.specs.Numbers.{number, numbers}
use Rattle.trial_instances.specs.NumberFacts.{number_most, length_numbers, sum_numbers_most, numbers_law, one_law}

-- one law, with a weight for each demand from 0 to 9
unfoldable pub trial_finite : ℕ → Finite
trial_finite trial = record {
  periods = 20;
  lead = 1;
  setup = number trial 404 20 80;
  unit = number trial 405 1 5;
  holding = number trial 406 1 5;
  stockout = number trial 407 10 30;
  end_holding = 0;
  end_stockout = 0;
  discount_num = 1;
  discount_den = 1;
  laws = numbers trial 408 10 1 2 ∷ [];
  cap = pos 219;
  start = pos 0;
  most = None;
}

-- ---- the grid and the width number
greatest_is : (trial : ℕ) → greatest_in (numbers trial 408 10 1 2 ∷ []) ≡ 9
greatest_is trial = omega (arith, length_numbers trial 408 10 1 2)

positions_are : (trial : ℕ) → finite_positions (trial_finite trial) ≡ 400
unfolding trial_finite finite_positions
positions_are trial = ap (λ g. positions_from (low_after (pos 0) g 20) (pos 219)) (greatest_is trial)

lacking_is : (trial : ℕ) → finite_most_lacking (trial_finite trial) ≡ 198
unfolding trial_finite
lacking_is trial = ap (λ g. above_zero (pos (2 * g) -ℤ low_after (pos 0) g 20)) (greatest_is trial)

cost_fits : (trial : ℕ) → finite_cost_bound (trial_finite trial) ≤ 10000
unfolding trial_finite finite_cost_bound
cost_fits trial =
    let unit = number trial 405 1 5 in
    let stockout = number trial 407 10 30 in
    let of_unit = ap (λ n. unit * n) (positions_are trial) in
    let of_stockout = ap (λ n. stockout * n) (lacking_is trial) in
    omega (arith, of_unit, of_stockout, number_most trial 404 20 80 (omega arith), number_most trial 405 1 5 (omega arith), number_most trial 406 1 5 (omega arith), number_most trial 407 10 30 (omega arith))

product_fits : (cost weights : ℕ) → cost ≤ 10000 → weights ≤ 20 ^ 21 → 20 * cost * weights * 1 ^ 20 ≤ 2 ^ 120
product_fits cost weights cheap few =
    let product : cost * weights ≤ 10000 * 20 ^ 21 = mul-le-mul cheap few in
    omega arith

width_fits : (trial : ℕ) → finite_width (trial_finite trial) ≤ 2 ^ 120
unfolding trial_finite finite_width
width_fits trial =
    product_fits (finite_cost_bound (trial_finite trial)) (sum (numbers trial 408 10 1 2) ^ 21) (cost_fits trial)
    (pow-le-pow_left (sum_numbers_most trial 408 10 1 2 (omega arith)) 21)

pub trial_finite_valid : (trial : ℕ) → IsValid (instance.Finite (trial_finite trial))
unfolding trial_finite
trial_finite_valid trial =
    let setup = number_most trial 404 20 80 (omega arith) in
    let unit = number_most trial 405 1 5 (omega arith) in
    let holding = number_most trial 406 1 5 (omega arith) in
    let stockout = number_most trial 407 10 30 (omega arith) in
    let positions = positions_are trial in
    record {
      regular = record {
        readable = record {
          periods = record { least = omega arith; most = omega arith };
          lead = omega arith;
          setup = omega (arith, setup);
          unit = omega (arith, unit);
          holding = omega (arith, holding);
          stockout = omega (arith, stockout);
          end_holding = omega arith;
          end_stockout = omega arith;
          discount = record { least = omega arith; proper = omega arith; most = omega arith };
          most = tt;
          laws = one_law (numbers trial 408 10 1 2) 21 (numbers_law trial 408 10 2 (omega arith) (omega arith) (omega arith) (omega arith));
          cap = record { least = omega (arith, ints); most = omega (arith, ints) };
          start = record { least = omega (arith, ints); most = omega (arith, ints) };
          start_below = omega (arith, ints);
        };
        grid = record { positions = omega (arith, positions); cells = omega (arith, positions) };
      };
      width = width_fits trial;
    }
