-- What a certificate of the average kind says of every number of periods, and the lots that (r, Q) orders.
use Rattle.std.proofs.Common.{◌≡◌, ℕ, suc, ◌+◌, ◌-◌, ◌*◌, ◌^◌, ◌<◌, ◌≤◌, ℤ, pos, ◌+ℤ◌, ◌-ℤ◌, ◌≤ℤ◌, ◌<ℤ◌, List, [], ◌∷◌, sum, refl, sym, ◌∙◌, ap, subst, arith, ◌⊎◌, inl, inr, if◌then◌else◌}
use Rattle.std.proofs.lemmas.Int.{ints}
use Rattle.std.proofs.lemmas.Bool.{cases_lt}
use Rattle.std.proofs.Math.Nat.{one-le-pow}
use Rattle.decision_model.specs.declared.average.Average.{Average}
use Rattle.decision_model.specs.Average.{HasDemand}
use Rattle.value_cert.specs.AverageValues.{Ratio, moving, at_place}
use Rattle.decision_model.specs.Policies.{Policy}
use Rattle.value_cert.specs.AverageLeast.{pair_policy, lot_choice, lot_policy, AverageLeast, MeetsEquations}
use Rattle.average_lemmas.specs.PositionValues.{setup_value, value_of}
use Rattle.average_lemmas.specs.SolvedTables.{IsSpanOf}
use Rattle.average_lemmas.specs.LeastAverage.{average_least}
use Rattle.average_lemmas.specs.Orders.{by_order, no_le_test}
use Rattle.decision_model.specs.PositionTests.{le_test}
use Rattle.average_lemmas.specs.Tables.{sum_first, place_of, value_below, value_at, value_past, lower_table, upper_table}

-- some demand above 0 has a weight
pub moving_some : (law : List ℕ) → HasDemand law → 1 ≤ sum (moving law)
moving_some law some = omega (arith, sum_first law)

-- no value of a position is above a bound of the entries and the setup cost
values_within : (item : Average) (g : Ratio) (n : ℕ) (a : ℕ → ℕ) (b : ℕ) → setup_value item g (sum (moving item.law) ^ n) ≤ b → ((k r : ℕ) → k + suc r ≡ n → a k * sum (moving item.law) ^ r ≤ b) → (x : ℤ) → value_of item g n a x ≤ b
values_within item g n a b setup each x = by_place (place_of item x)
  where
    at : (k : ℕ) → (k < n) ⊎ (n ≤ k) → value_of item g n a (at_place item k) ≤ b
    at k (inl lt) = let e : k + suc (n - suc k) ≡ n = omega arith in omega (arith, value_at item g n a k (n - suc k) e, each k (n - suc k) e)
    at k (inr le) = omega (arith, value_past item g n a k le)

    by_place : (x <ℤ item.floor) ⊎ ((k : ℕ) × (x ≡ at_place item k)) → value_of item g n a x ≤ b
    by_place (inl lt) = omega (arith, value_below item g n a x lt, setup)
    by_place (inr (k, same)) = subst (λ (z : ℤ). value_of item g n a z ≤ b) (sym same) (at k (cases_lt k n))

-- (s, S)
pub certified : (item : Average) (g span : Ratio) (low high : ℤ) (n : ℕ) (lower upper : ℕ → ℕ) → HasDemand item.law
    → item.floor +ℤ pos n ≡ item.cap +ℤ pos 1 → MeetsEquations item g low high n lower upper → IsSpanOf item g n lower upper span → AverageLeast item (pair_policy low high) g span
certified item g span low high n lower upper some all is spans =
    average_least item g span (sum (moving item.law) ^ n) (one-le-pow n (sum (moving item.law)) (omega (arith, moving_some item.law some)))
    is.g_some spans.span_some low high is.pair (value_of item g n lower) (value_of item g n upper)
    (lower_table item g n lower all is.is_lower) (upper_table item g n upper all low high is.pair is.is_upper)
    spans.greatest (values_within item g n lower spans.greatest spans.setup spans.lower_within) (values_within item g n upper spans.greatest spans.setup spans.upper_within) spans.within

-- (r, Q) is (s, S) under other names
lot_is_pair : (reorder : ℤ) (lot : ℕ) (x : ℤ) (ds : List ℕ) → lot_policy reorder lot x ds ≡ pair_policy reorder (reorder +ℤ pos lot) x ds
lot_is_pair reorder lot x [] = refl
lot_is_pair reorder lot x (d ∷ ds) = lot_is_pair reorder lot (lot_choice reorder lot x -ℤ pos d) ds

pub certified_lots : (item : Average) (g span : Ratio) (low high : ℤ) (lot : ℕ) → low +ℤ pos lot ≡ high → AverageLeast item (pair_policy low high) g span → AverageLeast item (lot_policy low lot) g span
certified_lots item g span low high lot e least =
    let same : pair_policy low high ≡ lot_policy low lot = ap (pair_policy low) (sym e) ∙ (λ i x ds. sym (lot_is_pair low lot x ds) i) in
    subst (λ (policy : ℤ → Policy ℤ). AverageLeast item policy g span) same least

-- from the reorder point on and with demands of at most 1 each order is one lot
pub one_lot : (reorder : ℤ) (lot : ℕ) (x : ℤ) → reorder ≤ℤ x → (lot_choice reorder lot x ≡ x) ⊎ (lot_choice reorder lot x ≡ x +ℤ pos lot)
one_lot reorder lot x above = go (by_order x reorder)
  where
    go : (x ≤ℤ reorder) ⊎ (reorder <ℤ x) → (lot_choice reorder lot x ≡ x) ⊎ (lot_choice reorder lot x ≡ x +ℤ pos lot)
    go (inl le) = inr (ap (λ b. if b then reorder +ℤ pos lot else x) (le_test x reorder le) ∙ omega (arith, ints))
    go (inr lt) = inl (ap (λ b. if b then reorder +ℤ pos lot else x) (no_le_test x reorder lt))

pub stays_from_reorder : (reorder : ℤ) (lot d : ℕ) (x : ℤ) → 1 ≤ lot → d ≤ 1 → reorder ≤ℤ x → reorder ≤ℤ (lot_choice reorder lot x -ℤ pos d)
stays_from_reorder reorder lot d x some unit above = go (by_order x reorder)
  where
    go : (x ≤ℤ reorder) ⊎ (reorder <ℤ x) → reorder ≤ℤ (lot_choice reorder lot x -ℤ pos d)
    go (inl le) = rw (le_test x reorder le) (omega (arith, ints))
    go (inr lt) = rw (no_le_test x reorder lt) (omega (arith, ints))
