-- The newsvendor of a trial: the first 202 words.
use Rattle.std.proofs.Common.{ℕ, arith}
use Rattle.newsvendor.specs.Item.{NewsvendorItem, IsNewsvendor}
use Rattle.decision_model.specs.declared.instance.Instance.TheVariants as instance
use Rattle.decision_model.specs.Valid.{IsValid}
use Rattle.trial_instances.specs.Numbers.{number, numbers}
use Rattle.trial_instances.specs.NumberFacts.{number_in_range, numbers_law}

-- a weight for each demand from 0 to 199
unfoldable pub trial_news : ℕ → NewsvendorItem
trial_news trial = record {
  holding = number trial 0 1 9;
  stockout = number trial 1 10 99;
  law = numbers trial 2 200 1 1000;
}

pub trial_news_is : (trial : ℕ) → IsNewsvendor (trial_news trial)
unfolding trial_news
trial_news_is trial =
    let holding = number_in_range trial 0 1 9 (omega arith) in
    let stockout = number_in_range trial 1 10 99 (omega arith) in
    let law = numbers_law trial 2 200 1000 (omega arith) (omega arith) (omega arith) (omega arith) in
    record {
      holding_in_range = omega (arith, holding.most_least);
      stockout_in_range = omega (arith, stockout.most_least);
      some_rate = omega (arith, holding.least_most);
      some_demand = law.some_demand;
      greatest_in_range = law.greatest_in_range;
      total_in_range = law.total_in_range;
      greatest_has_weight = law.greatest_has_weight;
    }

pub trial_news_valid : (trial : ℕ) → IsValid (instance.News (trial_news trial))
trial_news_valid trial = tt
