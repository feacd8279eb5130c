-- The instances of a trial can be solved and checked.
use Rattle.std.proofs.Common.{ℕ, refl}
use Rattle.decision_model.specs.declared.instance.Instance.TheVariants as instance
use Rattle.trial_instances.specs.News.{trial_news, trial_news_valid}
use Rattle.trial_instances.specs.Lots.{trial_lots, trial_lots_valid}
use Rattle.trial_instances.specs.Finite.{trial_finite, trial_finite_valid}
use Rattle.trial_instances.specs.Average.{trial_average, trial_average_valid}
use Rattle.trial_instances.specs.Serial.{trial_serial, trial_serial_valid}
use Rattle.stock_cli.specs.Trial.{IsTried}

pub news_is_tried : (number : ℕ) → IsTried (instance.News (trial_news number))
news_is_tried number = record { valid = trial_news_valid number; solved = refl }

pub lots_are_tried : (number : ℕ) → IsTried (instance.Lots (trial_lots number))
lots_are_tried number = record { valid = trial_lots_valid number; solved = refl }

pub finite_is_tried : (number : ℕ) → IsTried (instance.Finite (trial_finite number))
finite_is_tried number = record { valid = trial_finite_valid number; solved = refl }

pub average_is_tried : (number : ℕ) → IsTried (instance.Average (trial_average number))
average_is_tried number = record { valid = trial_average_valid number; solved = refl }

pub serial_is_tried : (number : ℕ) → IsTried (instance.Serial (trial_serial number))
serial_is_tried number = record { valid = trial_serial_valid number; solved = refl }
