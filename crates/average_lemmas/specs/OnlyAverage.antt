-- The average cost that the definitions name is the one of the turns, and no other number solves the lower table.
use Rattle.std.proofs.Common.{◌≡◌, ℕ, zero, suc, ◌+◌, ◌*◌, ◌<◌, ◌≤◌, Bool, true, false, ◌&&◌, ◌||◌, nat_eq, nat_le, slice_index, refl, sym, ◌∙◌, ap, subst, arith, mul-le-mul_left, ◌⊎◌, inl, inr}
use Rattle.std.specs.Int.{◌∣◌}
use Rattle.std.specs.List.{list_all, list_any, range_with_len}
use Rattle.std.proofs.lemmas.Bool.{cases_lt, and_parts, and_from, false≢true}
use Rattle.std.proofs.lemmas.Bool.Decides.{nat_tests}
use Rattle.std.proofs.lemmas.Nat.Gcd.{le_of_dvd}
use Rattle.std.proofs.Math.Nat.{dvd-mul_left}
use Rattle.fraction128.specs.Divisors.{AreCoprime, AreCoprime-swap, dvd_of_coprime}
use Rattle.decision_model.specs.declared.average.Average.{Average}
use Rattle.decision_model.specs.Average.{HasDemand, IsValidAverage, average_positions}
use Rattle.decision_model.specs.WidthFacts.{average_positions_some}
use Rattle.value_cert.specs.AverageValues.{Ratio, gain, loss, lower_entries, is_zero_place, is_average, greatest_den, greatest_num, num_for, average_cost_of}
use Rattle.average_lemmas.specs.Agreement.{gain_same}
use Rattle.average_lemmas.specs.AverageCost.{IsAverageCost, average_cost_exists}
use Rattle.average_lemmas.specs.Entries.{lower_entry, lower_only}
use Rattle.average_lemmas.specs.FirstPassing.{first_passing_is}
use Rattle.average_lemmas.specs.OneGain.{one_g}
use Rattle.average_lemmas.specs.RulesKept.{positions_count}
use Rattle.average_lemmas.specs.SolvedTables.{IsSolvedTable}

-- ---- tests of all numbers of a range, and of some
all_range : (test : ℕ → Bool) (from n : ℕ) → ((k : ℕ) → k < n → test (from + k) ≡ true) → list_all test (range_with_len from n) ≡ true
all_range test from zero h = refl
all_range test from (suc n) h =
    let here : test from ≡ true = ap test (omega arith) ∙ h 0 (omega arith) in
    let later = all_range test (from + 1) n (λ k lt. ap test (omega arith) ∙ h (suc k) (omega (arith, lt))) in
    ap (λ b. b && list_all test (range_with_len (from + 1) n)) here ∙ later

range_known : (test : ℕ → Bool) (from n : ℕ) → list_all test (range_with_len from n) ≡ true → (k : ℕ) → k < n → test (from + k) ≡ true
range_known test from zero h k lt = absurd (omega (arith, lt))
range_known test from (suc n) h zero lt = ap test (omega arith) ∙ (and_parts (test from) (list_all test (range_with_len (from + 1) n)) h).0
range_known test from (suc n) h (suc k) lt =
    ap test (omega arith) ∙ range_known test (from + 1) n (and_parts (test from) (list_all test (range_with_len (from + 1) n)) h).1 k (omega (arith, lt))

some_range : (test : ℕ → Bool) (from n k : ℕ) → k < n → test (from + k) ≡ true → list_any test (range_with_len from n) ≡ true
some_range test from zero k lt h = absurd (omega (arith, lt))
some_range test from (suc n) zero lt h =
    let here : test from ≡ true = ap test (omega arith) ∙ h in
    ap (λ b. b || list_any test (range_with_len (from + 1) n)) here
some_range test from (suc n) (suc k) lt h = either (test from) (some_range test (from + 1) n k (omega (arith, lt)) (ap test (omega arith) ∙ h))
  where
    either : (b : Bool) {c : Bool} → c ≡ true → (b || c) ≡ true
    either true h = refl
    either false h = h

some_known : (test : ℕ → Bool) (from n : ℕ) → list_any test (range_with_len from n) ≡ true → (k : ℕ) × (k < n) × (test (from + k) ≡ true)
some_known test from zero h = absurd (false≢true h)
some_known test from (suc n) h = by (test from) refl (some_known test (from + 1) n)
  where
    by : (b : Bool) → test from ≡ b → (list_any test (range_with_len (from + 1) n) ≡ true → (k : ℕ) × (k < n) × (test (from + 1 + k) ≡ true)) → (k : ℕ) × (k < suc n) × (test (from + k) ≡ true)
    by true e later = (0, omega arith, ap test (omega arith) ∙ e)
    by false e later =
        let found = later (sym (ap (λ b. b || list_any test (range_with_len (from + 1) n)) e) ∙ h) in
        (suc found.0, omega (arith, found.1), ap test (omega arith) ∙ found.2)

nat_eq_known : (a b : ℕ) → nat_eq a b ≡ true → a ≡ b
nat_eq_known a b h = grind (arith, nat_tests)

nat_eq_test : (a b : ℕ) → a ≡ b → nat_eq a b ≡ true
nat_eq_test a b h = grind (arith, nat_tests)

nat_le_known : (a b : ℕ) → nat_le a b ≡ true → a ≤ b
nat_le_known a b h = grind (arith, nat_tests)

nat_le_test : (a b : ℕ) → a ≤ b → nat_le a b ≡ true
nat_le_test a b h = grind (arith, nat_tests)

-- ---- the test of an average cost
module _ (item : Average) (g : Ratio) where
  abbrev n : ℕ
  n = average_positions item

  abbrev entries : ℕ → ℕ
  entries = slice_index (lower_entries item g n)

  -- where the solver's lower table has its least worth at 0, it is solved
  pub solved_known : is_average item g ≡ true → IsSolvedTable item g n entries
  unfolding is_average
  solved_known h =
      let both = and_parts (list_all (λ k. nat_le (loss item g k) (gain item g entries k)) (range_with_len 0 n)) (list_any (is_zero_place item g) (range_with_len 0 n)) h in
      let zero_place = some_known (is_zero_place item g) 0 n both.1 in
      record {
        none_below = λ k lt. nat_le_known (loss item g k) (gain item g entries k) (ap (λ j. nat_le (loss item g j) (gain item g entries j)) (omega arith) ∙ range_known (λ j. nat_le (loss item g j) (gain item g entries j)) 0 n both.0 k lt);
        entry = lower_entry item g n;
        zero_at = 0 + zero_place.0;
        zero_within = omega (arith, zero_place.1);
        zero = nat_eq_known (gain item g entries (0 + zero_place.0)) (loss item g (0 + zero_place.0)) zero_place.2;
      }

  -- and any solved table is that one
  pub solved_test : (a : ℕ → ℕ) → IsSolvedTable item g n a → is_average item g ≡ true
  unfolding is_average
  solved_test a solved =
      and_from (list_all (λ k. nat_le (loss item g k) (gain item g entries k)) (range_with_len 0 n)) (list_any (is_zero_place item g) (range_with_len 0 n))
      (all_range (λ k. nat_le (loss item g k) (gain item g entries k)) 0 n (λ k lt. ap (λ j. nat_le (loss item g j) (gain item g entries j)) (omega arith) ∙ nat_le_test (loss item g k) (gain item g entries k) (omega (arith, solved.none_below k lt, same k (omega (arith, lt))))))
      (some_range (is_zero_place item g) 0 n solved.zero_at solved.zero_within (ap (is_zero_place item g) (omega arith) ∙ nat_eq_test (gain item g entries solved.zero_at) (loss item g solved.zero_at) (omega (arith, solved.zero, same solved.zero_at (omega (arith, solved.zero_within))))))
    where
      same : (k : ℕ) → k ≤ n → gain item g a k ≡ gain item g entries k
      same k le = gain_same item g a entries k (lower_only item g n a solved.entry k le)

-- ---- one number
-- of one number the fraction of least denominator is the one in lowest terms
lowest_is : (num den a b : ℕ) → 1 ≤ den → 1 ≤ b → AreCoprime num den → num * b ≡ a * den → b ≤ den → (a ≡ num) × (b ≡ den)
lowest_is num den a b some_den some_b apart same le =
    let divides : den ∣ num * b = subst (λ (z : ℕ). den ∣ z) (sym same) (dvd-mul_left den a) in
    let within : den ≤ b = le_of_dvd (omega (arith, some_b)) (dvd_of_coprime den num b (AreCoprime-swap num den apart) divides) in
    let e : b ≡ den = omega (arith, le, within) in
    (cancel den a num some_den (sym same ∙ ap (λ z. num * z) e), e)
  where
    cancel : (d x y : ℕ) → 1 ≤ d → x * d ≡ y * d → x ≡ y
    cancel d x y some e = go (cases_lt x y) (cases_lt y x)
      where
        go : (x < y) ⊎ (y ≤ x) → (y < x) ⊎ (x ≤ y) → x ≡ y
        go (inl lt) second = absurd (omega (arith, e, mul-le-mul_left d lt, some))
        go (inr ge) (inl lt) = absurd (omega (arith, e, mul-le-mul_left d lt, some))
        go (inr ge) (inr le) = omega (arith, ge, le)

-- the definitions name the average cost that was found, by whatever way
pub only_average : (item : Average) (g : Ratio) → HasDemand item.law → IsAverageCost item (average_positions item) g → average_cost_of item ≡ g
only_average item g some is =
    let count = greatest_den item (average_positions item) in
    let test : ℕ → Bool = λ den. is_average item (record { num = num_for item den; den = den }) in
    let solved = solved_test item g is.table is.solved in
    let num_at = first_passing_is (λ num. is_average item (record { num = num; den = g.den })) 0 (suc (greatest_num item g.den)) g.num (omega arith) (omega (arith, is.turn.bounded)) solved in
    let den_at = first_passing_is test 1 count g.den is.turn.some (omega (arith, is.turn.small)) num_at.0.passes in
    let h = average_cost_of item in
    let cross = one_g item (average_positions item) g h is.table _ some is.solved (solved_known item h den_at.0.passes) in
    let same = lowest_is g.num g.den h.num h.den is.turn.some den_at.0.least is.lowest cross den_at.1 in
    whole h.num g.num h.den g.den same.0 same.1
  where
    ratio : ℕ → ℕ → Ratio
    ratio num den = record { num = num; den = den }

    whole : (a a' b b' : ℕ) → a ≡ a' → b ≡ b' → ratio a b ≡ ratio a' b'
    whole a a' b b' e f = ap (λ z. ratio z b) e ∙ ap (ratio a') f

-- what the definitions name is an average cost
pub average_cost_is : (item : Average) → IsValidAverage item → IsAverageCost item (average_positions item) (average_cost_of item)
average_cost_is item valid =
    let regular = valid.regular in
    let found = average_cost_exists item regular.has_demand (average_positions item) (positions_count item regular.readable) (average_positions_some item regular.readable) in
    subst (λ (g : Ratio). IsAverageCost item (average_positions item) g) (sym (only_average item found.0 regular.has_demand found.1)) found.1
