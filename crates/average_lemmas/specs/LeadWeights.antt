-- The law of the demands until an order has come, and its weights.
use Rattle.std.proofs.Common.{◌≡◌, ℕ, zero, suc, ◌+◌, ◌-◌, ◌*◌, ◌^◌, ◌≤◌, List, [], ◌∷◌, sum, slice_index, refl, sym, ◌∙◌, ap, arith, add-one, pow-suc}
use Rattle.demand_law.specs.LawSums.{law_of_sum-is}
use Rattle.demand_law.specs.Sequences.{laws_at, law_at, law_of_sum, IsSumOf}
use Rattle.demand_law.specs.SequenceSums.{laws_from-ext}
use Rattle.decision_model.specs.declared.average.Average.{Average}
use Rattle.std.proofs.Math.Nat.{pow-le-pow_right}
use Rattle.decision_model.specs.Average.{IsValidAverage}
use Rattle.decision_model.specs.WidthFacts.{average_weights_fit}
use Rattle.value_cert.specs.AverageValues.{lead_demand, moving}
use Rattle.average_lemmas.specs.Certified.{moving_some}
use Rattle.average_lemmas.specs.Tables.{sum_first}

-- one law serves every place
one_law : (law : List ℕ) (place : ℕ) → law_at (law ∷ []) place ≡ law
one_law law zero = refl
one_law law (suc place) = refl

-- the law of the lead time
pub lead_known : (item : Average) (law : List ℕ) (laws : List (List ℕ)) → laws ≡ item.law ∷ [] → IsSumOf law (laws_at laws 0 (item.lead + 1)) → law ≡ lead_demand item
unfolding lead_demand
lead_known item law laws e is =
    law_of_sum-is law (laws_at laws 0 (item.lead + 1)) is
    ∙ ap (λ (all : List (List ℕ)). law_of_sum (laws_at all 0 (item.lead + 1))) e
    ∙ ap (λ count. law_of_sum (laws_at (item.law ∷ []) 0 count)) (add-one item.lead)
    ∙ ap law_of_sum (laws_from-ext (law_at (item.law ∷ [])) (λ t. item.law) 0 1 (suc item.lead) (λ k lt. one_law item.law (0 + k)))

module _ (item : Average) (valid : IsValidAverage item) where
  pub weight_some : 1 ≤ sum item.law
  weight_some = omega (arith, moving_some item.law valid.regular.has_demand, sum_first item.law)

  all_weights : sum item.law ^ (2 * item.lead + 2) ≤ 2 ^ 120
  all_weights = average_weights_fit item valid.regular.readable valid.regular.has_demand valid.width

  pub weights_fit : sum item.law ^ item.lead ≤ 2 ^ 120
  weights_fit = let le : item.lead ≤ 2 * item.lead + 2 = omega arith in omega (arith, all_weights, pow-le-pow_right {n = sum item.law} weight_some le)

  pub unit_is : sum item.law ^ item.lead * sum item.law ≡ sum item.law ^ suc item.lead
  unit_is = sym (pow-suc (sum item.law) item.lead)

  pub unit_fits : sum item.law ^ item.lead * sum item.law ≤ 2 ^ 120
  unit_fits = let le : suc item.lead ≤ 2 * item.lead + 2 = omega arith in omega (arith, unit_is, all_weights, pow-le-pow_right {n = sum item.law} weight_some le)

  pub moving_is : sum item.law - slice_index item.law 0 ≡ sum (moving item.law)
  moving_is = omega (arith, sum_first item.law)
