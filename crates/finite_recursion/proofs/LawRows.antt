-- Sums that hold the laws of a row's period.
use Rattle.std.proofs.Common.{◌≡◌, ℕ, zero, suc, refl, length-append, ◌+◌, ◌-◌, ◌*◌, ◌≤◌, List, [], ◌∷◌, ◌++◌, length, take, drop, sym, ◌∙◌, ap, subst, arith}
use Rattle.std.proofs.lemmas.List.{take-append-le}
use Rattle.std.proofs.Math.Seq.{drop-append_seam}
use Rattle.demand_law.specs.Sequences.{laws_at, law_at, law_of_sum, greatest_in, IsSumOf}
use Rattle.demand_law.specs.SequenceSums.{laws_from-ext}
use Rattle.demand_law.specs.ServedLaws.{law_at-one}
use Rattle.demand_law.specs.LawSums.{law_of_sum-is}
use Rattle.decision_model.specs.declared.finite.Finite.{Finite}
use Rattle.decision_model.specs.FiniteProblem.{law_of_period}
use Rattle.value_cert.specs.FiniteValues.{lead_law}
use Rattle.finite_recursion.specs.Demands.{AreDemandsOf}
use Rattle.finite_recursion.specs.Rows.{HoldsLaws}
use Rattle.finite_recursion.specs.declared.laws.HeldLaws.{HeldLaws}

-- ---- lists
-- the first places of the first places
take_less : {X : Type 0} → (few many : ℕ) (xs : List X) → few ≤ many → take few (take many xs) ≡ take few xs
take_less zero many xs le = refl
take_less (suc few) zero xs le = absurd (omega (arith, le))
take_less (suc few) (suc many) [] le = refl
take_less (suc few) (suc many) (x ∷ xs) le = ap (λ ys. x ∷ ys) (take_less few many xs (omega (arith, le)))

-- as many places as are taken
length_take : {X : Type 0} → (count : ℕ) (xs : List X) → count ≤ length xs → length (take count xs) ≡ count
length_take zero xs le = refl
length_take (suc count) [] le = absurd (omega (arith, le))
length_take (suc count) (x ∷ xs) le = omega (arith, length_take count xs (omega (arith, le)))

-- what stands behind the first places
drop_front : {X : Type 0} → (count : ℕ) (front back : List X) → length front ≡ count → drop count (front ++ back) ≡ back
drop_front count front back is = ap (λ k. drop k (front ++ back)) (sym is) ∙ drop-append_seam front back

-- ---- laws
-- the law of the sum that was made is that of the lead time
pub lead_told : (finite : Finite) (period : ℕ) (law : List ℕ) → IsSumOf law (laws_at finite.laws (period - 1) (finite.lead + 1)) → law ≡ lead_law finite period
unfolding lead_law
lead_told finite period law is =
    law_of_sum-is law (laws_at finite.laws (period - 1) (finite.lead + 1)) is ∙ ap (λ count. law_of_sum (laws_at finite.laws (period - 1) count)) one_more
  where
    one_more : finite.lead + 1 ≡ suc finite.lead
    one_more = omega arith

-- the sums hold the laws once they are written
pub holds_laws : (finite : Finite) (period lead half listed : ℕ) (sums back : List ℕ) → half ≡ (finite.lead + 1) * greatest_in finite.laws + 1 → lead ≤ half → half ≤ length sums → take lead sums ≡ lead_law finite period
    → listed ≤ length back → AreDemandsOf (law_of_period finite period) (take listed back) → HoldsLaws finite period (record { lead = lead; half = half; listed = listed }) (take half sums ++ back)
holds_laws finite period lead half listed sums back is le within law few demands =
    let front = length_take half sums within in
    record {
      half = is;
      lead_within = le;
      lead = take-append-le lead (take half sums) back (omega (arith, le, front)) ∙ take_less lead half sums le ∙ law;
      listed_within = omega (arith, few, front, length-append (take half sums) back);
      listed = subst (λ (xs : List ℕ). AreDemandsOf (law_of_period finite period) (take listed xs)) (sym (drop_front half (take half sums) back front)) demands;
    }

-- ---- one law for all periods
-- it is that of each place
one_law : (laws : List (List ℕ)) (p q : ℕ) → length laws ≡ 1 → law_at laws p ≡ law_at laws q
one_law [] p q one = absurd (omega (arith, one))
one_law (law ∷ []) p q one = law_at-one law p ∙ sym (law_at-one law q)
one_law (law ∷ other ∷ laws) p q one = absurd (omega (arith, one))

-- so what holds the laws of one period holds those of another one
pub holds_other : (finite : Finite) (other period : ℕ) (laws : HeldLaws) (sums : List ℕ) → length finite.laws ≡ 1 → HoldsLaws finite other laws sums → HoldsLaws finite period laws sums
unfolding lead_law
holds_other finite other period laws sums one holds = record {
  half = holds.half;
  lead_within = holds.lead_within;
  lead = holds.lead ∙ ap law_of_sum (laws_from-ext (law_at finite.laws) (law_at finite.laws) (other - 1) (period - 1) (suc finite.lead) (λ k lt. one_law finite.laws (other - 1 + k) (period - 1 + k) one));
  listed_within = holds.listed_within;
  listed = subst (λ (law : List ℕ). AreDemandsOf law (take laws.listed (drop laws.half sums))) (one_law finite.laws (other - 1) (period - 1) one) holds.listed;
}
