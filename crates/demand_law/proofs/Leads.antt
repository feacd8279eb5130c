-- The law of a lead time, law by law.
use Rattle.std.proofs.Common.{◌≡◌, ℕ, ◌+◌, ◌*◌, ◌^◌, ◌<◌, ◌≤◌, List, [], ◌∷◌, ◌++◌, sum, sym, ◌∙◌, ap, subst, arith, add-zero, All}
use Rattle.std.proofs.lemmas.List.Elements.{All-cons, All-push}
use Rattle.std.proofs.Math.Nat.{mul-le-mul_right}
use Rattle.demand_law.specs.Law.{IsLaw, greatest_of}
use Rattle.demand_law.specs.Sequences.{law_at, laws_at, Serves, totals_of, greatest_in, greatest_sum, IsSumOf}
use Rattle.demand_law.specs.ServedLaws.{greatest_sum-laws_at, laws_at-last, greatest_sum-laws_at_last, totals_of-laws_at_last, Serves_less}
use Rattle.demand_law.specs.LawSums.{IsLaw-IsSumOf, IsSumOf-one, IsSumOf-last}

-- the sum of two laws is a law
pub IsLaw-pair : (law a b : List ℕ) → IsLaw a → IsLaw b → sum a * sum b ≤ 2 ^ 120 → greatest_of a + greatest_of b ≤ 4000000000 → IsSumOf law (a ∷ b ∷ []) → IsLaw law
IsLaw-pair law a b is_a is_b fits short is = IsLaw-IsSumOf law (a ∷ b ∷ []) is (All-cons IsLaw a (b ∷ []) is_a (All-cons IsLaw b [] is_b (λ k d lt. absurd (omega arith)))) (omega (arith, fits)) (omega arith)

-- ---- one place more
module _ (laws : List (List ℕ)) (from place : ℕ) (law : List ℕ) (here : law ≡ law_at laws (from + place)) where
  pub width_more : (width : ℕ) → width ≡ greatest_sum (laws_at laws from place) + 1 → width + greatest_of law ≡ greatest_sum (laws_at laws from (place + 1)) + 1
  width_more width is = omega (arith, greatest_sum-laws_at_last laws from place, ap greatest_of here)

  pub laws_more : IsLaw law → All IsLaw (laws_at laws from place) → All IsLaw (laws_at laws from (place + 1))
  laws_more is all =
      let P : List (List ℕ) → Type 0 = λ ls. All IsLaw ls in
      subst P (sym (laws_at-last laws from place)) (All-push IsLaw (laws_at laws from place) (law_at laws (from + place)) all (subst IsLaw here is))

  pub totals_more : (product : ℕ) → product ≡ totals_of (laws_at laws from place) → product * sum law ≡ totals_of (laws_at laws from (place + 1))
  totals_more product is =
      ap (λ p. p * sum law) is ∙ ap (λ l. totals_of (laws_at laws from place) * sum l) here ∙ sym (totals_of-laws_at_last laws from place)

  pub sum_more : (before after : List ℕ) → IsLaw law → IsSumOf before (laws_at laws from place) → IsSumOf after (before ∷ law ∷ []) → IsSumOf after (laws_at laws from (place + 1))
  sum_more before after is is_before is_after =
      let P : List (List ℕ) → Type 0 = λ ls. IsSumOf after ls in
      subst P (ap (λ l. laws_at laws from place ++ l ∷ []) here ∙ sym (laws_at-last laws from place)) (IsSumOf-last after before law (laws_at laws from place) is_before is.some is_after)

-- the first place alone
pub sum_first : (laws : List (List ℕ)) (from : ℕ) (law : List ℕ) → law ≡ law_at laws (from + 0) → IsLaw law → IsSumOf law (laws_at laws from 1)
sum_first laws from law here is =
    let P : List ℕ → Type 0 = λ l. IsSumOf law (l ∷ []) in
    subst P (here ∙ ap (law_at laws) (add-zero from)) (IsSumOf-one law is.some)

-- no width passes the bound
pub width_within : (laws : List (List ℕ)) (from place count : ℕ) → Serves laws from count → place < count → count * greatest_in laws ≤ 4000000000 → greatest_sum (laws_at laws from (place + 1)) ≤ 4000000000
width_within laws from place count serves lt short =
    let places : place + 1 ≤ count = omega arith in
    omega (arith, greatest_sum-laws_at laws from (place + 1) (Serves_less laws from (place + 1) count places serves), mul-le-mul_right (greatest_in laws) places)

-- the sum of the laws of some places is a law
pub lead_is_law : (law : List ℕ) (laws : List (List ℕ)) (from count : ℕ) → Serves laws from count → count * greatest_in laws ≤ 4000000000 → All IsLaw (laws_at laws from count) → totals_of (laws_at laws from count) ≤ 2 ^ 120 → IsSumOf law (laws_at laws from count) → IsLaw law
lead_is_law law laws from count serves short all fits is = IsLaw-IsSumOf law (laws_at laws from count) is all fits (omega (arith, greatest_sum-laws_at laws from count serves))
