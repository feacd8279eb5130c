-- The average cost of a trial: words 418 to 420.
use Rattle.std.proofs.Common.{ℕ, [], ◌∷◌, pos, negsuc, true, arith}
use Rattle.std.proofs.lemmas.Int.{ints}
use Rattle.decision_model.specs.declared.average.Average.{Average}
use Rattle.decision_model.specs.declared.instance.Instance.TheVariants as instance
use Rattle.decision_model.specs.Valid.{IsValid}
use Rattle.decision_model.specs.Average.{average_positions, average_cost_bound, average_width}
use Rattle.trial_instances.specs.Numbers.{number}
use Rattle.trial_instances.specs.NumberFacts.{number_most}

-- demands 0 and 1 are as likely, and positions from -20 to 179 are on the grid
unfoldable pub trial_average : ℕ → Average
trial_average trial = record {
  lead = 2;
  setup = number trial 418 10 90;
  holding = number trial 419 1 5;
  stockout = number trial 420 10 50;
  law = 1 ∷ 1 ∷ [];
  floor = negsuc 19;
  cap = pos 179;
  lots = true;
}

pub trial_average_valid : (trial : ℕ) → IsValid (instance.Average (trial_average trial))
unfolding trial_average average_positions average_cost_bound average_width
trial_average_valid trial =
    let setup = number_most trial 418 10 90 (omega arith) in
    let holding = number_most trial 419 1 5 (omega arith) in
    let stockout = number_most trial 420 10 50 (omega arith) in
    record {
      regular = record {
        readable = record {
          lead = omega arith;
          setup = omega (arith, setup);
          holding = omega (arith, holding);
          stockout = omega (arith, stockout);
          law = record { some_demand = omega arith; greatest_in_range = omega arith; greatest_has_weight = omega arith; total_in_range = omega arith };
          floor = record { least = omega (arith, ints); most = omega (arith, ints) };
          cap = record { least = omega (arith, ints); most = omega (arith, ints) };
          floor_below = omega (arith, ints);
        };
        has_demand = omega arith;
        unit_demand = λ lots. omega arith;
        grid = omega arith;
      };
      width = omega (arith, setup, holding, stockout);
    }
