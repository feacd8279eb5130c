-- What the law of a lead time asks of an instance's laws, which every valid instance has.
use Rattle.std.proofs.Common.{◌≡◌, ℕ, zero, suc, ◌+◌, ◌*◌, ◌^◌, ◌<◌, ◌≤◌, List, [], ◌∷◌, sum, All, refl, inl, arith, ap, pow-suc}
use Rattle.std.proofs.Math.Nat.{pow-le-pow_right, pow-zero}
use Rattle.std.proofs.lemmas.Nat.{mul-le}
use Rattle.demand_law.specs.Sequences.{Serves, laws_at, totals_of, greatest_in}
use Rattle.decision_model.specs.declared.finite.Finite.{Finite}
use Rattle.decision_model.specs.declared.average.Average.{Average}
use Rattle.decision_model.specs.declared.serial.Serial.{Serial}
use Rattle.decision_model.specs.DemandLaws.{IsDemandLaw, common_total, AreDemandLaws}
use Rattle.decision_model.specs.LawFacts.{greatest_in_range, sum_demand_law_some, common_total_some, common_total_in_range, AreDemandLaws-serve, totals_of-common}
use Rattle.decision_model.specs.Finite.{IsValidFinite}
use Rattle.decision_model.specs.Average.{IsValidAverage}
use Rattle.decision_model.specs.Serial.{IsValidSerial}
use Rattle.decision_model.specs.WidthFacts.{finite_weights_fit, average_weights_fit}

-- there is a law for each of some places, and the law of their sum fits
pub record HasSum (laws : List (List ℕ)) (from count : ℕ) : Type 0 where
  pub serves : Serves laws from count
  pub short : count * greatest_in laws ≤ 4000000000
  pub fits : totals_of (laws_at laws from count) ≤ 2 ^ 120

-- a power of fewer factors is no greater
fewer_fit : (base few many : ℕ) → 1 ≤ base → few ≤ many → base ^ many ≤ 2 ^ 120 → base ^ few ≤ 2 ^ 120
fewer_fit base few many some le fits = omega (arith, fits, pow-le-pow_right {n = base} some le)

-- the common sum of weights, once for each period until an order comes
pub finite_lead_weights_fit : (finite : Finite) → IsValidFinite finite → common_total finite.laws ^ (finite.lead + 1) ≤ 2 ^ 120
finite_lead_weights_fit finite valid =
    let readable = valid.regular.readable in
    let some_period = readable.periods.least in
    fewer_fit (common_total finite.laws) (finite.lead + 1) (finite.periods + finite.lead) (common_total_some finite.laws (finite.periods + finite.lead) (omega arith) readable.laws) (omega arith) (finite_weights_fit finite readable valid.width)

-- the law of the lead time of each period
pub finite_lead_time : (finite : Finite) (place : ℕ) → IsValidFinite finite → place < finite.periods → HasSum finite.laws place (finite.lead + 1)
finite_lead_time finite place valid lt =
    let readable = valid.regular.readable in
    let same = totals_of-common finite.laws (finite.periods + finite.lead) place (finite.lead + 1) (omega arith) readable.laws in
    record {
      serves = AreDemandLaws-serve finite.laws (finite.periods + finite.lead) place (finite.lead + 1) (omega arith) readable.laws;
      short = omega (arith, mul-le (finite.lead + 1) (greatest_in finite.laws) 9 10000 (omega (arith, readable.lead)) (greatest_in_range finite.laws (finite.periods + finite.lead) readable.laws));
      fits = omega (arith, same, finite_lead_weights_fit finite valid);
    }

once : (n : ℕ) → n ^ 1 ≡ n
once n = omega (arith, pow-suc n 0, ap (λ k. k * n) (pow-zero n))

-- the law of each period
pub serial_period : (serial : Serial) (place : ℕ) → IsValidSerial serial → place < serial.periods → HasSum serial.laws place 1
serial_period serial place valid lt =
    let laws = valid.regular.readable.laws in
    let same = totals_of-common serial.laws serial.periods place 1 valid.regular.readable.periods.least laws in
    record {
      serves = AreDemandLaws-serve serial.laws serial.periods place 1 (omega arith) laws;
      short = omega (arith, greatest_in_range serial.laws serial.periods laws);
      fits = omega (arith, same, once (common_total serial.laws), common_total_in_range serial.laws serial.periods laws);
    }

-- the sum of weights, twice for each period until an order comes
pub average_lead_weights_fit : (average : Average) → IsValidAverage average → sum average.law ^ (2 * average.lead + 2) ≤ 2 ^ 120
average_lead_weights_fit average valid = average_weights_fit average valid.regular.readable valid.regular.has_demand valid.width

-- the one law serves each period
alone : (law : List ℕ) → IsDemandLaw law → AreDemandLaws (law ∷ []) 1
alone law is = record { listed = inl refl; each = each; common = common }
  where
    each : All IsDemandLaw (law ∷ [])
    each zero d lt = is
    each (suc k) d lt = absurd (omega arith)

    common : All (λ other. sum other ≡ sum law) (law ∷ [])
    common zero d lt = refl
    common (suc k) d lt = absurd (omega arith)

-- the law of the lead time
pub average_lead_time : (average : Average) (place : ℕ) → IsValidAverage average → HasSum (average.law ∷ []) place (average.lead + 1)
average_lead_time average place valid =
    let readable = valid.regular.readable in
    let same = totals_of-common (average.law ∷ []) 1 place (average.lead + 1) (omega arith) (alone average.law readable.law) in
    let some = sum_demand_law_some average.law readable.law in
    record {
      serves = inl refl;
      short = omega (arith, mul-le (average.lead + 1) (greatest_in (average.law ∷ [])) 9 10000 (omega (arith, readable.lead)) (greatest_in_range (average.law ∷ []) 1 (alone average.law readable.law)));
      fits = omega (arith, same, fewer_fit (sum average.law) (average.lead + 1) (2 * average.lead + 2) some (omega arith) (average_lead_weights_fit average valid));
    }
