-- The solver's certificate meets the equations, breaks no rule and has a text.
use Rattle.std.proofs.Common.{◌≡◌, ℕ, suc, ◌+◌, ◌-◌, ◌*◌, ◌^◌, ◌<◌, ◌≤◌, pos, ◌-ℤ◌, ◌≤ℤ◌, ◌<ℤ◌, true, false, if◌then◌else◌, nat_eq, nat_le, length, slice_index, slice_index_or, sum, sym, ◌∙◌, ap, arith, mul-le-mul_left, ◌⊎◌, inl, inr}
use Rattle.std.proofs.lemmas.Bool.{cases_lt}
use Rattle.std.proofs.lemmas.Bool.Decides.{nat_tests}
use Rattle.std.proofs.lemmas.Int.{ints}
use Rattle.std.proofs.lemmas.List.{get_or-map}
use Rattle.std.proofs.lemmas.List.FromFn.{get_or-map-range_with_len, length-map-range_with_len}
use Rattle.std.proofs.Math.Nat.{one-le-pow}
use Rattle.fraction128.specs.Divisors.{AreCoprime}
use Rattle.fraction128.specs.Lowest.{IsGcd-gcd_of}
use Rattle.fraction128.specs.Reduced.{gcd_of}
use Rattle.decision_model.specs.declared.average.Average.{Average}
use Rattle.decision_model.specs.Average.{IsValidAverage, average_positions}
use Rattle.decision_model.specs.PositionTests.{le_test}
use Rattle.decision_model.specs.declared.instance.Instance.TheVariants as instance
use Rattle.value_cert.specs.AverageLeast.{MeetsEquations}
use Rattle.value_cert.specs.AverageRules.{cost_in, lower_in, upper_in, IsLeastAverage, first_zero, first_cheap, certificate_with, solved_average}
use Rattle.value_cert.specs.AverageValues.{Ratio, moving, at_place, stock_sum, limit, gain, loss, is_cheap, is_zero_place, lower_entries, upper_entries, average_cost_of}
use Rattle.value_cert.specs.Kept.{BreaksNoRule}
use Rattle.value_cert.specs.declared.average.AverageCell.{AverageCell}
use Rattle.value_cert.specs.declared.average.AverageCert.{AverageCert}
use Rattle.value_cert.specs.declared.cert.Cert.TheVariants as cert
use Rattle.average_lemmas.specs.Agreement.{gain_same, certificate}
use Rattle.average_lemmas.specs.Certified.{moving_some}
use Rattle.average_lemmas.specs.Entries.{upper_entry}
use Rattle.average_lemmas.specs.FirstPassing.{first_passing_is}
use Rattle.average_lemmas.specs.KeptRules.{rules_kept}
use Rattle.average_lemmas.specs.OnlyAverage.{average_cost_is, solved_known, solved_test}
use Rattle.average_lemmas.specs.Orders.{no_le_test}
use Rattle.average_lemmas.specs.RulesKept.{HoldsAt, AreRulesKept, positions_count, average_certifies}
use Rattle.average_lemmas.specs.SolvedTables.{IsSolvedTable, IsFirstZero, IsFirstCheap, IsPolicyTable}

nat_eq_known : (a b : ℕ) → nat_eq a b ≡ true → a ≡ b
nat_eq_known a b h = grind (arith, nat_tests)

nat_eq_test : (a b : ℕ) → a ≡ b → nat_eq a b ≡ true
nat_eq_test a b h = grind (arith, nat_tests)

nat_eq_refused : (a b : ℕ) → nat_eq a b ≡ false → (a ≡ b) → ⊥
nat_eq_refused a b h e = grind (arith, nat_tests)

nat_le_known : (a b : ℕ) → nat_le a b ≡ true → a ≤ b
nat_le_known a b h = grind (arith, nat_tests)

nat_le_test : (a b : ℕ) → a ≤ b → nat_le a b ≡ true
nat_le_test a b h = grind (arith, nat_tests)

nat_le_refused : (a b : ℕ) → nat_le a b ≡ false → b < a
nat_le_refused a b h = grind (arith, nat_tests)

-- ---- the upper table is that of the policy
pub upper_policy : (item : Average) (g : Ratio) (i count : ℕ) → IsPolicyTable item g i count (slice_index (upper_entries item g (at_place item i -ℤ pos 1) count))
upper_policy item g i count = record {
  below = λ k lt less. upper_entry item g (at_place item i -ℤ pos 1) count k lt ∙ ap (λ t. if t then limit item g k else gain item g (slice_index (upper_entries item g (at_place item i -ℤ pos 1) count)) k - loss item g k) (le_test (at_place item k) (at_place item i -ℤ pos 1) (down k less));
  from = λ k lt from. upper_entry item g (at_place item i -ℤ pos 1) count k lt ∙ ap (λ t. if t then limit item g k else gain item g (slice_index (upper_entries item g (at_place item i -ℤ pos 1) count)) k - loss item g k) (no_le_test (at_place item k) (at_place item i -ℤ pos 1) (above k from));
}
  where
    down : (k : ℕ) → k < i → at_place item k ≤ℤ (at_place item i -ℤ pos 1)
    down k less = omega (arith, ints, less)

    above : (k : ℕ) → i ≤ k → (at_place item i -ℤ pos 1) <ℤ at_place item k
    above k from = omega (arith, ints, from)

-- ---- at an average cost whose lower table is solved
module _ (item : Average) (valid : IsValidAverage item) (g : Ratio) (some : 1 ≤ g.den) (solved : IsSolvedTable item g (average_positions item) (slice_index (lower_entries item g (average_positions item)))) where
  abbrev n : ℕ
  n = average_positions item

  abbrev a : ℕ → ℕ
  a = slice_index (lower_entries item g n)

  power_some : (k : ℕ) → 1 ≤ sum (moving item.law) ^ k
  power_some k = one-le-pow k (sum (moving item.law)) (omega (arith, moving_some item.law valid.regular.has_demand))

  -- the first place whose keeping is worth 0
  pub first_zero_is : IsFirstZero item g n a (first_zero item g)
  unfolding first_zero
  first_zero_is =
      let found = first_passing_is (is_zero_place item g) 0 n solved.zero_at (omega arith) (omega (arith, solved.zero_within)) (nat_eq_test (gain item g a solved.zero_at) (loss item g solved.zero_at) solved.zero) in
      record {
        within = omega (arith, found.1, solved.zero_within);
        zero = nat_eq_known _ _ found.0.passes;
        first = λ k lt. more k (omega (arith, lt, found.1, solved.zero_within)) (found.0.before k (omega arith) lt);
      }
    where
      more : (k : ℕ) → k < n → nat_eq (gain item g a k) (loss item g k) ≡ false → loss item g k < gain item g a k
      more k lt h = strict (gain item g a k) (loss item g k) (solved.none_below k lt) (nat_eq_refused (gain item g a k) (loss item g k) h)
        where
          strict : (x y : ℕ) → y ≤ x → (x ≡ y → ⊥) → y < x
          strict x y le apart = go (cases_lt y x)
            where
              go : (y < x) ⊎ (x ≤ y) → y < x
              go (inl lt) = lt
              go (inr ge) = absurd (apart (omega (arith, le, ge)))

  -- the first place whose period costs at most the average cost
  pub first_cheap_is : IsFirstCheap item g (first_cheap item g) × (first_cheap item g ≤ first_zero item g)
  unfolding first_cheap
  first_cheap_is =
      let zero_place = first_zero_is in
      let cheap = cheap_at (first_zero item g) zero_place in
      let found = first_passing_is (is_cheap item g) 0 n (first_zero item g) (omega arith) (omega (arith, zero_place.within)) (nat_le_test _ _ cheap) in
      (record { cheap = nat_le_known _ _ found.0.passes; first = λ k lt. nat_le_refused _ _ (found.0.before k (omega arith) lt) }, found.1)
    where
      cheap_at : (j : ℕ) → IsFirstZero item g n a j → stock_sum item (at_place item j) * g.den ≤ g.num * sum item.law ^ suc item.lead
      cheap_at j zero_place = go (cases_lt (g.num * sum item.law ^ suc item.lead) (stock_sum item (at_place item j) * g.den))
        where
          go : (g.num * sum item.law ^ suc item.lead < stock_sum item (at_place item j) * g.den) ⊎ (stock_sum item (at_place item j) * g.den ≤ g.num * sum item.law ^ suc item.lead) → stock_sum item (at_place item j) * g.den ≤ g.num * sum item.law ^ suc item.lead
          go (inl dear) = absurd (omega (arith, mul-le-mul_left (sum (moving item.law) ^ j) dear, zero_place.zero, power_some j))
          go (inr le) = le

  -- the pair and both tables meet the equations
  pub equations_of : MeetsEquations item g (at_place item (first_cheap item g) -ℤ pos 1) (at_place item (first_zero item g)) n a (slice_index (upper_entries item g (at_place item (first_cheap item g) -ℤ pos 1) n))
  equations_of =
      certificate item g n a solved (first_cheap item g) (first_zero item g) first_cheap_is.0 first_zero_is (power_some (first_zero item g))
      (slice_index (upper_entries item g (at_place item (first_cheap item g) -ℤ pos 1) n)) (upper_policy item g (first_cheap item g) n) some (positions_count item valid.regular.readable)

-- ---- the certificate with an average cost
module _ (item : Average) (g : Ratio) where
  abbrev c : AverageCert
  c = certificate_with item g

  -- the cell of a place
  pub cell_of : (k : ℕ) (d : AverageCell) → k < average_positions item → slice_index_or c.cells k d ≡ record {
    at = at_place item k;
    lower = slice_index (lower_entries item g (average_positions item)) k;
    upper = slice_index (upper_entries item g (at_place item (first_cheap item g) -ℤ pos 1) (average_positions item)) k;
  }
  cell_of k d lt = get_or-map-range_with_len (λ j. record {
    at = at_place item j;
    lower = slice_index (lower_entries item g (average_positions item)) j;
    upper = slice_index (upper_entries item g (at_place item (first_cheap item g) -ℤ pos 1) (average_positions item)) j;
  }) 0 (average_positions item) k k d lt (omega arith)

  pub length-cells : length c.cells ≡ average_positions item
  length-cells = length-map-range_with_len (λ j. record {
    at = at_place item j;
    lower = slice_index (lower_entries item g (average_positions item)) j;
    upper = slice_index (upper_entries item g (at_place item (first_cheap item g) -ℤ pos 1) (average_positions item)) j;
  }) 0 (average_positions item)

  none : AverageCell
  none = record { at = pos 0; lower = 0; upper = 0 }

  -- its entries are those of the tables
  pub lower_of : (k : ℕ) → k < average_positions item → slice_index (lower_in c) k ≡ slice_index (lower_entries item g (average_positions item)) k
  lower_of k lt = get_or-map (λ cell. cell.lower) c.cells k none 0 (omega (arith, lt, length-cells)) ∙ ap (λ (cell : AverageCell). cell.lower) (cell_of k none lt)

  pub upper_of : (k : ℕ) → k < average_positions item → slice_index (upper_in c) k ≡ slice_index (upper_entries item g (at_place item (first_cheap item g) -ℤ pos 1) (average_positions item)) k
  upper_of k lt = get_or-map (λ cell. cell.upper) c.cells k none 0 (omega (arith, lt, length-cells)) ∙ ap (λ (cell : AverageCell). cell.upper) (cell_of k none lt)

-- ---- the solver's certificate
module _ (item : Average) (valid : IsValidAverage item) where
  abbrev g : Ratio
  g = average_cost_of item

  pub solved_entries : IsSolvedTable item g (average_positions item) (slice_index (lower_entries item g (average_positions item)))
  solved_entries = let is = average_cost_is item valid in solved_known item g (solved_test item g is.table is.solved)

  -- each place of it
  solved_place : (k : ℕ) (d : AverageCell) → k < average_positions item
      → HoldsAt item (cost_in (solved_average item)) (solved_average item).low (solved_average item).high (slice_index (lower_in (solved_average item))) (slice_index (upper_in (solved_average item))) k (slice_index_or (solved_average item).cells k d).at
  solved_place k d lt =
      let equations = equations_of item valid g (average_cost_is item valid).turn.some solved_entries in
      let lower_here = lower_of item g k lt in
      let upper_here = upper_of item g k lt in
      let lower_gain = gain_same item g (slice_index (lower_in (solved_average item))) (slice_index (lower_entries item g (average_positions item))) k (λ j below. lower_of item g j (omega (arith, below, lt))) in
      let upper_gain = gain_same item g (slice_index (upper_in (solved_average item))) (slice_index (upper_entries item g (at_place item (first_cheap item g) -ℤ pos 1) (average_positions item))) k (λ j below. upper_of item g j (omega (arith, below, lt))) in
      record {
        inside = lt;
        position = ap (λ (cell : AverageCell). cell.at) (cell_of item g k d lt);
        keep = omega (arith, lower_here, lower_gain, equations.is_lower.keep k lt);
        within = omega (arith, lower_here, equations.is_lower.within k lt);
        order = λ le. upper_here ∙ equations.is_upper.order k lt le;
        above = λ less. ap (λ z. z + loss item g k) upper_here ∙ equations.is_upper.keep k lt less ∙ sym upper_gain;
        reached = λ e. upper_here ∙ equations.is_upper.reached k lt e;
      }

  -- no common divisor but 1
  lowest_known : (num den : ℕ) → 1 ≤ den → AreCoprime num den → gcd_of num den ≡ 1
  lowest_known num den some apart = let greatest = IsGcd-gcd_of num den some in apart (gcd_of num den) greatest.0 greatest.1

  pub solved_rules : AreRulesKept item (solved_average item)
  solved_rules =
      let is = average_cost_is item valid in
      record {
        den_some = is.turn.some;
        den_small = is.turn.small;
        num_small = is.turn.bounded;
        lowest = lowest_known g.num g.den is.turn.some is.lowest;
        pair = (equations_of item valid g is.turn.some solved_entries).pair;
        many = length-cells item g;
        places = λ k d lt. solved_place k d (omega (arith, lt, length-cells item g));
      }

  -- it breaks no rule
  pub solved_kept : BreaksNoRule (instance.Average item) (cert.Average (solved_average item))
  solved_kept = rules_kept item (solved_average item) solved_rules

  -- and what it claims holds
  pub solved_certifies : IsLeastAverage item (solved_average item)
  solved_certifies = average_certifies item (solved_average item) valid solved_kept
