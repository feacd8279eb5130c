-- Sums that hold the law of the lead time and the demands above 0.
use Rattle.std.proofs.Common.{◌≡◌, ℕ, zero, suc, refl, length-append, ◌+◌, ◌-◌, ◌*◌, ◌≤◌, List, [], ◌∷◌, ◌++◌, length, take, drop, sym, ◌∙◌, ap, subst, arith}
use Rattle.std.proofs.lemmas.List.{take-append-le, length-take-le}
use Rattle.std.proofs.lemmas.Nat.{mul-le}
use Rattle.std.proofs.Math.Seq.{drop-append_seam}
use Rattle.demand_law.specs.Law.{greatest_of}
use Rattle.demand_law.specs.SequenceSums.{greatest_sum_laws_from}
use Rattle.decision_model.specs.declared.average.Average.{Average}
use Rattle.decision_model.specs.Average.{IsValidAverage}
use Rattle.decision_model.specs.Stock.{AreWeights}
use Rattle.value_cert.specs.AverageValues.{moving, lead_demand}
use Rattle.average_lemmas.specs.LeadWeights.{unit_is, unit_fits}
use Rattle.average_lemmas.specs.Sizes.{lead_total}
use Rattle.average_lemmas.specs.Steps.{lead_is}
use Rattle.finite_recursion.specs.Demands.{AreDemandsOf}
use Rattle.average_recursion.specs.Laws.{HoldsLaws}

-- the first places of the first places
take_less : {X : Type 0} → (few many : ℕ) (xs : List X) → few ≤ many → take few (take many xs) ≡ take few xs
take_less zero many xs le = refl
take_less (suc few) zero xs le = absurd (omega (arith, le))
take_less (suc few) (suc many) [] le = refl
take_less (suc few) (suc many) (x ∷ xs) le = ap (λ ys. x ∷ ys) (take_less few many xs (omega (arith, le)))

-- what stands behind the first places
drop_front : {X : Type 0} → (count : ℕ) (front back : List X) → length front ≡ count → drop count (front ++ back) ≡ back
drop_front count front back is = ap (λ k. drop k (front ++ back)) (sym is) ∙ drop-append_seam front back

-- the weights from demand 1 up
pub length_moving : (law : List ℕ) → length (moving law) ≡ length law - 1
length_moving [] = refl
length_moving (w ∷ ws) = omega arith

-- the sums hold the laws once they are written
pub holds_laws : (average : Average) (lead half listed : ℕ) (sums back : List ℕ) → half ≡ (average.lead + 1) * greatest_of average.law + 1 → lead ≤ half → half ≤ length sums → take lead sums ≡ lead_demand average
    → listed ≤ length back → AreDemandsOf (moving average.law) (take listed back) → HoldsLaws average (record { lead = lead; half = half; listed = listed }) (take half sums ++ back)
holds_laws average lead half listed sums back is le within law few demands =
    let front = length-take-le half sums within in
    record {
      half = is;
      lead_within = le;
      lead = take-append-le lead (take half sums) back (omega (arith, le, front)) ∙ take_less lead half sums le ∙ law;
      listed_within = omega (arith, few, front, length-append (take half sums) back);
      listed = subst (λ (xs : List ℕ). AreDemandsOf (moving average.law) (take listed xs)) (sym (drop_front half (take half sums) back front)) demands;
    }

module _ (item : Average) (valid : IsValidAverage item) where
  -- how many weights the law of the lead time has
  pub lead_width : length (lead_demand item) ≤ (item.lead + 1) * greatest_of item.law + 1
  lead_width =
      let one : suc item.lead ≡ item.lead + 1 = omega arith in
      omega (arith, (lead_is item 1).width, greatest_sum_laws_from (λ s. item.law) (greatest_of item.law) 1 (suc item.lead) (λ s. omega arith), ap (λ k. k * greatest_of item.law) one)

  -- they are some, few, and fit
  pub lead_weights : AreWeights (lead_demand item)
  lead_weights = record {
    some = omega (arith, (lead_is item 1).width);
    few = omega (arith, lead_width, mul-le (item.lead + 1) (greatest_of item.law) 9 10000 (omega (arith, valid.regular.readable.lead)) (omega (arith, valid.regular.readable.law.greatest_in_range)));
    fits = omega (arith, lead_total item, unit_is item valid, unit_fits item valid);
  }
