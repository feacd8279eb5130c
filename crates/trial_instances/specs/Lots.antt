-- The lots of a trial: words 202 to 403.
use Rattle.std.proofs.Common.{ℕ, ◌≤◌, arith}
use Rattle.std.proofs.lemmas.List.Elements.{All-weaker}
use Rattle.decision_model.specs.declared.lots.LotSize.{LotSize}
use Rattle.decision_model.specs.declared.instance.Instance.TheVariants as instance
use Rattle.decision_model.specs.Valid.{IsValid}
use Rattle.trial_instances.specs.Numbers.{number, numbers, repeated}
use Rattle.trial_instances.specs.NumberFacts.{number_most, length_numbers, numbers_most, length_repeated, repeated_most}

-- 200 periods, each with a demand of its own
unfoldable pub trial_lots : ℕ → LotSize
trial_lots trial = record {
  demand = numbers trial 202 200 0 100;
  setup = repeated 200 (number trial 402 100 900);
  unit = repeated 200 0;
  holding = repeated 200 (number trial 403 1 9);
}

pub trial_lots_valid : (trial : ℕ) → IsValid (instance.Lots (trial_lots trial))
unfolding trial_lots
trial_lots_valid trial = record {
  readable = record {
    some_period = omega (arith, length_numbers trial 202 200 0 100);
    most_periods = omega (arith, length_numbers trial 202 200 0 100);
    setup_each = omega (arith, length_numbers trial 202 200 0 100, length_repeated 200 (number trial 402 100 900));
    unit_each = omega (arith, length_numbers trial 202 200 0 100, length_repeated 200 0);
    holding_each = omega (arith, length_numbers trial 202 200 0 100, length_repeated 200 (number trial 403 1 9));
    demand = All-weaker (λ units. units ≤ 100) (λ units. units ≤ 1000000) (λ units few. omega arith) (numbers trial 202 200 0 100) (numbers_most trial 202 200 0 100 (omega arith));
    setup = repeated_most 200 (number trial 402 100 900) 1000000000000 (omega (arith, number_most trial 402 100 900 (omega arith)));
    unit = repeated_most 200 0 1000000 (omega arith);
    holding = repeated_most 200 (number trial 403 1 9) 1000000 (omega (arith, number_most trial 403 1 9 (omega arith)));
  };
  no_speculation = λ t from within. omega (arith, repeated_most 200 0 0 (omega arith) t 0 (omega arith));
}
