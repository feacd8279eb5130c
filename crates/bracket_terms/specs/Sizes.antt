-- The numbers that the rules of all places share.
use Rattle.std.specs.Prelude.{◌≡◌, sum}
use Rattle.decision_model.specs.declared.average.Average.{Average}
use Rattle.decision_model.specs.Average.{average_positions}
use Rattle.value_cert.specs.AverageValues.{moving}
use Rattle.value_cert.specs.BracketValues.{setup_parts, most_bound, most_over}
use Rattle.bracket_terms.specs.declared.sizes.Sizes.{Sizes}

pub record AreSizes (item : Average) (sizes : Sizes) : Type 0 where
  pub total : sizes.total ≡ sum item.law
  pub all_moving : sizes.moving ≡ sum (moving item.law)
  pub setup : sizes.setup ≡ setup_parts item
  pub most : sizes.most ≡ most_bound item
  pub raise : sizes.raise ≡ most_over item (average_positions item)
  pub count : sizes.count ≡ average_positions item
