-- The sum over the listed demands is that of the equations.
use Rattle.std.proofs.Common.{◌≡◌, ℕ, ◌+◌, ◌-◌, ◌*◌, List, take, drop, ◌∙◌, arith}
use Rattle.demand_law.specs.CountedSums.{counted}
use Rattle.decision_model.specs.declared.average.Average.{Average}
use Rattle.value_cert.specs.AverageValues.{moving}
use Rattle.average_recursion.specs.Entries.{listed_count, after}
use Rattle.average_recursion.specs.Laws.{HoldsLaws}
use Rattle.average_recursion.specs.declared.laws.HeldLaws.{HeldLaws}
use Rattle.average_recursion.proofs.Counts.{count_is}

pub later_is : (item : Average) (laws : HeldLaws) (sums : List ℕ) → HoldsLaws item laws sums → (weights : List ℕ) → weights ≡ moving item.law → (f : ℕ → ℕ)
    → listed_count weights (take (laws.half + laws.listed - laws.half) (drop laws.half sums)) f ≡ counted (moving item.law) f
later_is item laws sums holds weights is f =
    let many : laws.half + laws.listed - laws.half ≡ laws.listed = omega arith in
    (λ i. listed_count (is i) (take (many i) (drop laws.half sums)) f) ∙ count_is (moving item.law) (take laws.listed (drop laws.half sums)) f holds.listed

-- .. of what each demand leads to
pub later_told : (item : Average) (laws : HeldLaws) (sums : List ℕ) → HoldsLaws item laws sums → (weights : List ℕ) → weights ≡ moving item.law → (b : ℕ → ℕ) (below base count k : ℕ) → below ≡ base → count ≡ k
    → listed_count weights (take (laws.half + laws.listed - laws.half) (drop laws.half sums)) (after b below count) ≡ counted (moving item.law) (after b base k)
later_told item laws sums holds weights is b below base count k e f =
    later_is item laws sums holds weights is (after b below count) ∙ λ i. counted (moving item.law) (after b (e i) (f i))

-- .. with the cost of the period
pub whole_told : (later total stock scale cost charge : ℕ) → later ≡ total → stock ≡ scale → cost ≡ charge → later + stock * cost ≡ total + scale * charge
whole_told later total stock scale cost charge e f h = λ i. e i + f i * h i
