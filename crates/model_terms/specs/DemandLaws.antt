-- The laws of demand of an instance.
use Rattle.std.specs.Prelude.{◌≡◌, ◌⊎◌, ℕ, ◌+◌, ◌-◌, ◌<◌, ◌≤◌, List, [], ◌∷◌, length, slice_index, sum, All}
use Rattle.model_terms.specs.Limits.{most_demand, most_total}

-- a law of demands to 10,000, the greatest of which has a weight, and whose weights add up to at most 1,000,000,000
pub record IsDemandLaw (law : List ℕ) : Type 0 where
  pub some_demand : 0 < length law
  pub greatest_in_range : length law ≤ most_demand + 1
  pub greatest_has_weight : 0 < slice_index law (length law - 1)
  pub total_in_range : sum law ≤ most_total

-- the sum of the weights of the first law
abbrev pub common_total : List (List ℕ) → ℕ
common_total [] = 0
common_total (law ∷ laws) = sum law

-- one law, which serves every place, or one a place; and all have one sum of weights
pub record AreDemandLaws (laws : List (List ℕ)) (places : ℕ) : Type 0 where
  pub listed : (length laws ≡ 1) ⊎ (length laws ≡ places)
  pub each : All IsDemandLaw laws
  pub common : All (λ law. sum law ≡ common_total laws) laws
