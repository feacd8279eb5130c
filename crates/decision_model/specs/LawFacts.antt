-- What follows from the rules on an instance's laws.
use Rattle.std.proofs.Common.{◌≡◌, ◌⊎◌, ℕ, ◌+◌, ◌-◌, ◌^◌, ◌<◌, ◌≤◌, List, [], ◌∷◌, length, sum, All, inl, inr, arith}
use Rattle.std.proofs.lemmas.List.Sums.{get_or-le-sum_by}
use Rattle.demand_law.specs.Law.{IsLaw}
use Rattle.demand_law.specs.Sequences.{Serves, laws_at, totals_of, greatest_in}
use Rattle.demand_law.specs.ServedLaws.{greatest_in_most, totals_of-laws_at}
use Rattle.decision_model.specs.DemandLaws.{IsDemandLaw, common_total, AreDemandLaws}

-- a law in range is a law
pub IsLaw_demand : (law : List ℕ) → IsDemandLaw law → IsLaw law
IsLaw_demand law is = record {
  some = is.some_demand;
  last = is.greatest_has_weight;
  short = omega (arith, is.greatest_in_range);
  fits = omega (arith, is.total_in_range);
}

-- its weights add up to at least 1
pub sum_demand_law_some : (law : List ℕ) → IsDemandLaw law → 1 ≤ sum law
sum_demand_law_some law is = omega (arith, is.greatest_has_weight, get_or-le-sum_by (λ w. w) law (length law - 1))

-- the laws of a list are laws
pub AreDemandLaws_are_laws : (laws : List (List ℕ)) (places : ℕ) → AreDemandLaws laws places → All IsLaw laws
AreDemandLaws_are_laws laws places are k d lt = IsLaw_demand _ (are.each k d lt)

-- no demand is above 10,000
pub greatest_in_range : (laws : List (List ℕ)) (places : ℕ) → AreDemandLaws laws places → greatest_in laws ≤ 10000
greatest_in_range laws places are = greatest_in_most laws 10000 (λ k d lt. omega (arith, (are.each k d lt).greatest_in_range))

-- a list for at least one place isn't empty
pub laws_some : (laws : List (List ℕ)) (places : ℕ) → 1 ≤ places → AreDemandLaws laws places → 0 < length laws
laws_some laws places some are = by_length are.listed
  where
    by_length : (length laws ≡ 1) ⊎ (length laws ≡ places) → 0 < length laws
    by_length (inl one) = omega arith
    by_length (inr each) = omega arith

-- the common sum of weights is from 1
pub common_total_some : (laws : List (List ℕ)) (places : ℕ) → 1 ≤ places → AreDemandLaws laws places → 1 ≤ common_total laws
common_total_some [] places some are = absurd (omega (arith, laws_some [] places some are))
common_total_some (law ∷ laws) places some are = sum_demand_law_some law (are.each 0 [] (omega arith))

-- .. to 1,000,000,000
pub common_total_in_range : (laws : List (List ℕ)) (places : ℕ) → AreDemandLaws laws places → common_total laws ≤ 1000000000
common_total_in_range [] places are = omega arith
common_total_in_range (law ∷ laws) places are = omega (arith, (are.each 0 [] (omega arith)).total_in_range)

-- the list serves any of its places
pub AreDemandLaws-serve : (laws : List (List ℕ)) (places from count : ℕ) → from + count ≤ places → AreDemandLaws laws places → Serves laws from count
AreDemandLaws-serve laws places from count le are = by_length are.listed
  where
    by_length : (length laws ≡ 1) ⊎ (length laws ≡ places) → Serves laws from count
    by_length (inl one) = inl one
    by_length (inr each) = inr (omega arith)

-- the sums of weights of some places multiply to a power of the common one
pub totals_of-common : (laws : List (List ℕ)) (places from count : ℕ) → 1 ≤ places → AreDemandLaws laws places → totals_of (laws_at laws from count) ≡ common_total laws ^ count
totals_of-common laws places from count some are = totals_of-laws_at laws (common_total laws) from count (laws_some laws places some are) are.common
