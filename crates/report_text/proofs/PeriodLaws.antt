-- The laws of single periods.
use Rattle.std.proofs.Common.{◌≡◌, ℕ, zero, suc, ◌<◌, List, [], ◌∷◌, length, refl, sym, ◌∙◌, ap, arith, All}
use Rattle.demand_law.specs.Law.{IsLaw}
use Rattle.demand_law.specs.Sequences.{law_at, laws_at, law_of_sum}
use Rattle.demand_law.specs.LawSums.{law_of_sum-is, IsSumOf-one}
use Rattle.demand_law.specs.ServedLaws.{law_at-one, law_at_among}
use Rattle.decision_model.specs.declared.serial.Serial.{Serial}
use Rattle.decision_model.specs.LawFacts.{laws_some, AreDemandLaws_are_laws}
use Rattle.decision_model.specs.Serial.{IsValidSerial}
use Rattle.report_text.specs.Demand.{law_of_periods}

-- the law of one period is that of its place
pub law_of_periods-one : (laws : List (List ℕ)) (place : ℕ) → 0 < length laws → All IsLaw laws → law_of_periods laws place 1 ≡ law_at laws place
law_of_periods-one laws place some are =
    sym (law_of_sum-is (law_at laws place) (laws_at laws place 1) (IsSumOf-one (law_at laws place) (law_at_among (λ law. 0 < length law) laws place some (λ k d lt. (are k d lt).some))))

pub serial_laws : (serial : Serial) → IsValidSerial serial → (λ (place : ℕ). law_of_periods serial.laws place 1) ≡ law_at serial.laws
serial_laws serial valid =
    let readable = valid.regular.readable in
    let some = laws_some serial.laws serial.periods readable.periods.least readable.laws in
    let are = AreDemandLaws_are_laws serial.laws serial.periods readable.laws in
    λ i place. law_of_periods-one serial.laws place some are i

-- one law serves as many periods from any place on
same_laws : (law : List ℕ) (a b count : ℕ) → laws_at (law ∷ []) a count ≡ laws_at (law ∷ []) b count
same_laws law a b zero = refl
same_laws law a b (suc n) =
    ap (λ (first : List ℕ). first ∷ laws_at (law ∷ []) (suc a) n) (law_at-one law a ∙ sym (law_at-one law b))
    ∙ ap (λ (rest : List (List ℕ)). law_at (law ∷ []) b ∷ rest) (same_laws law (suc a) (suc b) n)

only_law : (laws : List (List ℕ)) (a b count : ℕ) → length laws ≡ 1 → law_of_periods laws a count ≡ law_of_periods laws b count
only_law [] a b count one = absurd (omega arith)
only_law (law ∷ []) a b count one = ap law_of_sum (same_laws law a b count)
only_law (law ∷ more ∷ rest) a b count one = absurd (omega arith)

-- the law from each place on
abbrev each_law : List (List ℕ) → ℕ → ℕ → List ℕ
each_law laws count = λ place. law_of_periods laws place count

pub only_laws : (laws : List (List ℕ)) (count : ℕ) → length laws ≡ 1 → (λ (place : ℕ). law_of_periods laws 0 count) ≡ each_law laws count
only_laws laws count one = λ i place. only_law laws 0 place count one i
