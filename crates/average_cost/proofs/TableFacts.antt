-- The numbers of the tables are those of the equations, and small.
use Rattle.std.proofs.Common.{◌≡◌, ℕ, zero, suc, ◌+◌, ◌-◌, ◌*◌, ◌^◌, ◌<◌, ◌≤◌, pos, ◌-ℤ◌, Bool, true, false, ◌&&◌, nat_le, nat_lt, nat_eq, if◌then◌else◌, min, List, [], ◌∷◌, ◌++◌, length, sum, slice_index, refl, sym, ◌∙◌, ap, subst, arith, mul-le-mul_left, add-one, ◌⊎◌, inl, inr}
use Rattle.std.specs.Prelude.{int_le, not}
use Rattle.std.proofs.lemmas.Bool.{cases_lt}
use Rattle.std.proofs.lemmas.Bool.Decides.{nat_tests}
use Rattle.std.proofs.lemmas.Int.{ints}
use Rattle.std.proofs.lemmas.Nat.{mul-le}
use Rattle.std.proofs.Math.Nat.{one-le-pow}
use Rattle.demand_law.specs.CountedSums.{counted}
use Rattle.decision_model.specs.declared.average.Average.{Average}
use Rattle.decision_model.specs.Average.{IsValidAverage, average_positions, average_cost_bound}
use Rattle.decision_model.specs.WidthFacts.{average_positions_some}
use Rattle.value_cert.specs.AverageRules.{first_cheap, first_zero}
use Rattle.value_cert.specs.AverageValues.{Ratio, moving, at_place, stock_sum, carried, limit, gain, loss, is_cheap, is_zero_place, lower_entries, upper_entries, first_passing, greatest_den, average_cost_of}
use Rattle.average_lemmas.specs.Agreement.{gain_same, policy_gains}
use Rattle.average_lemmas.specs.AverageCost.{IsAverageCost}
use Rattle.average_lemmas.specs.Certified.{moving_some}
use Rattle.average_lemmas.specs.CostLines.{limit_constant}
use Rattle.average_lemmas.specs.Entries.{lower_entry, lower_only}
use Rattle.average_lemmas.specs.KeptSizes.{half_small}
use Rattle.average_lemmas.specs.OnlyAverage.{average_cost_is, solved_known, solved_test}
use Rattle.average_lemmas.specs.Orders.{no_le_test}
use Rattle.average_lemmas.specs.RulesKept.{positions_count}
use Rattle.average_lemmas.specs.Sizes.{stock_most, power_grows, gain_small, loss_small}
use Rattle.average_lemmas.specs.SolvedAverage.{upper_policy}
use Rattle.average_lemmas.specs.SolvedTables.{IsSolvedTable}
use Rattle.decision_model.specs.PositionTests.{le_test}
use Rattle.average_cost.specs.Grids.{AreTerms, IsPlace}
use Rattle.average_cost.specs.Moves.{keep_of}
use Rattle.average_cost.specs.declared.grid.Place.{Place}
use Rattle.average_cost.specs.declared.grid.Terms.{Terms}
use Rattle.average_lemmas.specs.PlaceSizes.{den_fits}
use Rattle.average_cost.proofs.LineFacts.{keep_place, limit_by_g}

-- the test of a period's cost as it is told
pub cheap_told : (item : Average) (g : Ratio) (k stock unit : ℕ) → stock ≡ stock_sum item (at_place item k) → unit ≡ sum item.law ^ suc item.lead → nat_le (stock * g.den) (g.num * unit) ≡ is_cheap item g k
cheap_told item g k stock unit e f = λ i. nat_le (e i * g.den) (g.num * f i)

-- ---- the first number that passes, one more at a time
pub first_none : (test : ℕ → Bool) (from k : ℕ) → ((j : ℕ) → from ≤ j → j < from + k → test j ≡ false) → first_passing test from k ≡ from + k
unfolding first_passing
first_none test from zero h = omega arith
first_none test from (suc k) h =
    ap (λ b. if b then from else first_passing test (suc from) k) (h from (omega arith) (omega arith))
    ∙ first_none test (suc from) k (λ j le lt. h j (omega (arith, le)) (omega (arith, lt)))
    ∙ omega arith

pub first_some : (test : ℕ → Bool) (from k count : ℕ) → ((j : ℕ) → from ≤ j → j < from + k → test j ≡ false) → test (from + k) ≡ true → k < count → first_passing test from count ≡ from + k
unfolding first_passing
first_some test from k zero h e lt = absurd (omega (arith, lt))
first_some test from zero (suc count) h e lt = ap (λ b. if b then from else first_passing test (suc from) count) (ap test (omega arith) ∙ e) ∙ omega arith
first_some test from (suc k) (suc count) h e lt =
    ap (λ b. if b then from else first_passing test (suc from) count) (h from (omega arith) (omega arith))
    ∙ first_some test (suc from) k count (λ j le less. h j (omega (arith, le)) (omega (arith, less))) (ap test (omega arith) ∙ e) (omega (arith, lt))
    ∙ omega arith

first_within : (test : ℕ → Bool) (from k : ℕ) → first_passing test from k ≤ from + k
unfolding first_passing
first_within test from zero = omega arith
first_within test from (suc k) = by (test from) (first_within test (suc from) k)
  where
    by : (b : Bool) → first_passing test (suc from) k ≤ suc from + k → (if b then from else first_passing test (suc from) k) ≤ from + suc k
    by true le = omega arith
    by false le = omega (arith, le)

-- with one more number
pub first_more : (test : ℕ → Bool) (from k : ℕ) → first_passing test from (suc k) ≡ (if nat_eq (first_passing test from k) (from + k) && not (test (from + k)) then suc (from + k) else first_passing test from k)
unfolding first_passing
first_more test from zero = by (test from) (test (from + 0)) (ap test (omega arith))
  where
    same : nat_eq from (from + 0) ≡ true
    same = grind (arith, nat_tests)

    by : (b c : Bool) → b ≡ c → (if b then from else suc from) ≡ (if nat_eq from (from + 0) && not c then suc (from + 0) else from)
    by b c e = rw same (choice b c e)
      where
        choice : (b c : Bool) → b ≡ c → (if b then from else suc from) ≡ (if true && not c then suc (from + 0) else from)
        choice true true e = refl
        choice false false e = omega arith
        choice true false e = cc
        choice false true e = cc
first_more test from (suc k) = by (test from) (first_more test (suc from) k)
  where
    next : suc from + k ≡ from + suc k
    next = omega arith

    by : (b : Bool) → first_passing test (suc from) (suc k) ≡ (if nat_eq (first_passing test (suc from) k) (suc from + k) && not (test (suc from + k)) then suc (suc from + k) else first_passing test (suc from) k)
        → (if b then from else first_passing test (suc from) (suc k)) ≡ (if nat_eq (if b then from else first_passing test (suc from) k) (from + suc k) && not (test (from + suc k)) then suc (from + suc k) else (if b then from else first_passing test (suc from) k))
    by true e = let apart : nat_eq from (from + suc k) ≡ false = grind (arith, nat_tests) in rw apart refl
    by false e = subst (λ (z : ℕ). first_passing test (suc from) (suc k) ≡ (if nat_eq (first_passing test (suc from) k) z && not (test z) then suc z else first_passing test (suc from) k)) next e

module _ (item : Average) (valid : IsValidAverage item) (g : Ratio) (e : g ≡ average_cost_of item) where
  abbrev n : ℕ
  n = average_positions item

  pub cost_is : IsAverageCost item n g
  cost_is = subst (λ (z : Ratio). IsAverageCost item n z) (sym e) (average_cost_is item valid)

  pub solved_is : IsSolvedTable item g n (slice_index (lower_entries item g n))
  solved_is = solved_known item g (solved_test item g cost_is.table cost_is.solved)

  -- ---- products
  unit_small : sum item.law ^ suc item.lead ≤ greatest_den item n
  unit_small =
      let power = one-le-pow (n - 1) (sum (moving item.law)) (omega (arith, moving_some item.law valid.regular.has_demand)) in
      omega (arith, mul-le (sum item.law ^ suc item.lead) 1 (n * sum item.law ^ suc item.lead) (sum (moving item.law) ^ (n - 1)) (omega (arith, mul-le 1 (sum item.law ^ suc item.lead) n (sum item.law ^ suc item.lead) (average_positions_some item valid.regular.readable) (omega arith))) power)

  pub stock_by_g : (k : ℕ) → k < n → stock_sum item (at_place item k) * g.den ≤ 2 ^ 119
  stock_by_g k lt =
      let stock : stock_sum item (at_place item k) ≤ (item.setup + average_cost_bound item) * greatest_den item n = omega (arith, stock_most item n (positions_count item valid.regular.readable) k lt, mul-le (average_cost_bound item - 1) (sum item.law ^ suc item.lead) (item.setup + average_cost_bound item) (greatest_den item n) (omega arith) unit_small) in
      omega (arith, half_small item valid, mul-le (stock_sum item (at_place item k)) g.den ((item.setup + average_cost_bound item) * greatest_den item n) (greatest_den item n) stock cost_is.turn.small)

  pub unit_by_g : g.num * sum item.law ^ suc item.lead ≤ 2 ^ 119
  unit_by_g =
      let num : g.num ≤ greatest_den item n * (item.setup + average_cost_bound item) = omega (arith, cost_is.turn.bounded, mul-le g.den (item.setup + average_cost_bound item) (greatest_den item n) (item.setup + average_cost_bound item) cost_is.turn.small (omega arith)) in
      omega (arith, half_small item valid, mul-le g.num (sum item.law ^ suc item.lead) (greatest_den item n * (item.setup + average_cost_bound item)) (greatest_den item n) num unit_small)

  pub below_by_g : item.setup * sum item.law ^ item.lead * g.den ≤ 2 ^ 119
  below_by_g =
      let first = limit_by_g item valid g cost_is.turn 0 (average_positions_some item valid.regular.readable) in
      let power = one-le-pow 1 (sum (moving item.law)) (omega (arith, moving_some item.law valid.regular.has_demand)) in
      omega (arith, first, mul-le-mul_left (item.setup * sum item.law ^ item.lead * g.den) power)

  pub loss_fits : (k : ℕ) → k < n → loss item g k ≤ 2 ^ 119
  loss_fits k lt = omega (arith, half_small item valid, loss_small item valid.regular.has_demand n (positions_count item valid.regular.readable) g cost_is.turn.small cost_is.turn.bounded k lt)

  -- ---- one place
  module _ (terms : Terms) (are : AreTerms item terms) (place : Place) (k : ℕ) (lt : k < n) (is : IsPlace item place k) where
    power_least : 1 ≤ place.power
    power_least = omega (arith, is.power, one-le-pow k (sum (moving item.law)) (omega (arith, moving_some item.law valid.regular.has_demand)))

    pub loss_is : g.num * (terms.unit * place.power) ≡ loss item g k
    loss_is = (λ i. g.num * (are.unit i * is.power i)) ∙ omega arith

    pub unit_power : terms.unit * place.power ≤ 2 ^ 119
    unit_power =
        let u = sum item.law ^ suc item.lead in
        let v = sum (moving item.law) in
        let grows = power_grows item valid.regular.has_demand n (positions_count item valid.regular.readable) k lt in
        let most : u * v ^ k ≤ greatest_den item n = omega (arith, mul-le u (v ^ k) (n * u) (v ^ (n - 1)) (omega (arith, mul-le 1 u n u (average_positions_some item valid.regular.readable) (omega arith))) grows) in
        let told : terms.unit * place.power ≡ u * v ^ k = λ i. are.unit i * is.power i in
        den_fits item valid (terms.unit * place.power) (omega (arith, told, most))

    pub gain_is : (entries : List ℕ) → length entries ≡ k → (stock : ℕ) → stock ≡ stock_sum item (at_place item k) → keep_of terms.moves.items (stock * g.den) (place.rest * (terms.below * g.den)) place.power entries ≡ gain item g (slice_index entries) k
    gain_is entries many stock told =
        let below : terms.below * g.den ≡ item.setup * g.den * sum item.law ^ item.lead = omega (arith, ap (λ z. z * g.den) are.below) in
        keep_place item terms are place k lt is entries many (stock * g.den) (place.rest * (terms.below * g.den)) (item.setup * g.den * sum item.law ^ item.lead) (ap (λ z. place.rest * z) below)
        ∙ ap (λ z. z * g.den * sum (moving item.law) ^ k + counted (moving item.law) (carried (sum (moving item.law)) (item.setup * g.den * sum item.law ^ item.lead) (slice_index entries) k)) told

    -- what comes from below the floor is small
    pub rest_fits : (entries : List ℕ) → length entries ≡ k → gain item g (slice_index entries) k ≤ 2 ^ 119 → place.rest * (terms.below * g.den) ≤ 2 ^ 119
    rest_fits entries many fits = omega (arith, fits, gain_is entries many (stock_sum item (at_place item k)) refl, mul-le-mul_left (place.rest * (terms.below * g.den)) power_least)

  -- what ordering costs
  pub limit_told : (k : ℕ) → limit_constant item k * g.den ≡ limit item g k
  limit_told k = omega arith

  -- ---- the lower entries so far
  same_lower : (k : ℕ) → k ≤ n → (j : ℕ) → j < k → slice_index (lower_entries item g n) j ≡ slice_index (lower_entries item g k) j
  same_lower k le j lt = lower_only item g k (slice_index (lower_entries item g n)) (λ i less. lower_entry item g n i (omega (arith, less, le))) k (omega arith) j lt

  pub lower_gain : (k : ℕ) → k ≤ n → gain item g (slice_index (lower_entries item g n)) k ≡ gain item g (slice_index (lower_entries item g k)) k
  lower_gain k le = gain_same item g (slice_index (lower_entries item g n)) (slice_index (lower_entries item g k)) k (same_lower k le)

  pub lower_least : (k : ℕ) → k < n → loss item g k ≤ gain item g (slice_index (lower_entries item g k)) k
  lower_least k lt = omega (arith, solved_is.none_below k lt, lower_gain k (omega (arith, lt)))

  pub lower_fits : (k : ℕ) → k < n → gain item g (slice_index (lower_entries item g k)) k ≤ 2 ^ 119
  lower_fits k lt =
      omega (arith, half_small item valid, gain_small item valid.regular.has_demand n (positions_count item valid.regular.readable) g cost_is.turn.small cost_is.turn.bounded (slice_index (lower_entries item g k)) k lt (λ j less. inl (omega (arith, lower_entry item g k j less))))

  -- ---- the upper entries so far
  module _ (i : ℕ) where
    abbrev upper : ℕ → ℕ → ℕ
    upper k = slice_index (upper_entries item g (at_place item i -ℤ pos 1) k)

    pub upper_least : (k : ℕ) → k < n → loss item g k ≤ gain item g (upper k) k
    upper_least k lt = policy_gains item g n (slice_index (lower_entries item g n)) solved_is i (upper k) k lt (upper_policy item g i k)

    pub upper_fits : (k : ℕ) → k < n → gain item g (upper k) k ≤ 2 ^ 119
    upper_fits k lt =
        omega (arith, half_small item valid, gain_small item valid.regular.has_demand n (positions_count item valid.regular.readable) g cost_is.turn.small cost_is.turn.bounded (upper k) k lt (λ j less. by j less (cases_lt j i) (cases_lt (gain item g (upper k) j) (loss item g j))))
      where
        by : (j : ℕ) → j < k → (j < i) ⊎ (i ≤ j) → (gain item g (upper k) j < loss item g j) ⊎ (loss item g j ≤ gain item g (upper k) j) → (upper k j ≤ limit item g j) ⊎ (upper k j + loss item g j ≤ gain item g (upper k) j)
        by j less (inl before) other = inl (omega (arith, (upper_policy item g i k).below j less before))
        by j less (inr from) (inl short) = inl (omega (arith, (upper_policy item g i k).from j less from, short))
        by j less (inr from) (inr enough) = inr (omega (arith, (upper_policy item g i k).from j less from, enough))

-- ---- what the loops tell
-- the first cheap place
pub cheap_found : (item : Average) (g : Ratio) (k : ℕ) → ((j : ℕ) → j < k → is_cheap item g j ≡ false) → is_cheap item g k ≡ true → k < average_positions item → k ≡ first_cheap item g
unfolding first_cheap
cheap_found item g k none here lt =
    sym (first_some (is_cheap item g) 0 k (average_positions item) (λ j le less. none j (omega (arith, less))) (ap (is_cheap item g) (omega arith) ∙ here) lt ∙ omega arith)

pub cheap_absent : (item : Average) (g : Ratio) (k : ℕ) → k ≡ average_positions item → ((j : ℕ) → j < k → is_cheap item g j ≡ false) → k ≡ first_cheap item g
unfolding first_cheap
cheap_absent item g k e none =
    e ∙ sym (first_none (is_cheap item g) 0 (average_positions item) (λ j le less. none j (omega (arith, less, e))) ∙ omega arith)

-- one more place that fails
pub fails_more : (test : ℕ → Bool) (k : ℕ) → ((j : ℕ) → j < k → test j ≡ false) → test k ≡ false → (j : ℕ) → j < k + 1 → test j ≡ false
fails_more test k none here j lt = at (cases_lt j k)
  where
    at : (j < k) ⊎ (k ≤ j) → test j ≡ false
    at (inl less) = none j less
    at (inr from) = let e : k ≡ j = omega (arith, from, lt) in ap test (sym e) ∙ here

-- one more lower entry
pub lower_more : (item : Average) (g : Ratio) (k : ℕ) (xs seen ys : List ℕ) (gained lost limited entry : ℕ) → xs ≡ lower_entries item g k → seen ≡ xs → gained ≡ gain item g (slice_index seen) k → lost ≡ loss item g k → limited ≡ limit item g k
    → entry ≡ min (gained - lost) limited → ys ≡ xs ++ entry ∷ [] → ys ≡ lower_entries item g (k + 1)
unfolding lower_entries
lower_more item g k xs seen ys gained lost limited entry is told is_gain is_loss is_limit is_entry is_ys =
    let whole : seen ≡ lower_entries item g k = told ∙ is in
    rw add-one (is_ys ∙ (λ i. is i ++ (is_entry ∙ (λ j. min ((is_gain ∙ ap (λ (zs : List ℕ). gain item g (slice_index zs) k) whole) j - is_loss j) (is_limit j))) i ∷ []))

-- the first place worth 0, with one more place
pub zero_more : (item : Average) (valid : IsValidAverage item) (g : Ratio) → g ≡ average_cost_of item → (k : ℕ) → k < average_positions item → (found result : ℕ) (xs told : List ℕ) (gained lost : ℕ)
    → found ≡ first_passing (is_zero_place item g) 0 k → xs ≡ lower_entries item g k → told ≡ xs → gained ≡ gain item g (slice_index told) k → lost ≡ loss item g k
    → result ≡ (if nat_eq found k && not (nat_eq gained lost) then k + 1 else found) → result ≡ first_passing (is_zero_place item g) 0 (k + 1)
zero_more item valid g e k lt found result xs told gained lost is is_xs is_told is_gain is_loss is_result =
    let whole = is_gain ∙ ap (λ (zs : List ℕ). gain item g (slice_index zs) k) (is_told ∙ is_xs) ∙ sym (lower_gain item valid g e k (omega (arith, lt))) in
    let here : nat_eq gained lost ≡ is_zero_place item g (0 + k) = (λ i. nat_eq (whole i) (is_loss i)) ∙ ap (is_zero_place item g) (omega arith) in
    let place : 0 + k ≡ k = omega arith in
    let next : suc (0 + k) ≡ k + 1 = omega arith in
    rw add-one (is_result ∙ (λ i. if nat_eq (is i) (sym place i) && not (here i) then sym next i else is i) ∙ sym (first_more (is_zero_place item g) 0 k))

-- it is that of all places
pub zero_all : (item : Average) (g : Ratio) (k found : ℕ) → k ≡ average_positions item → found ≡ first_passing (is_zero_place item g) 0 k → found ≡ first_zero item g
unfolding first_zero
zero_all item g k found e is = is ∙ ap (first_passing (is_zero_place item g) 0) e

-- a place below the first cheap one orders
order_told : (item : Average) (i k : ℕ) → nat_lt k i ≡ int_le (at_place item k) (at_place item i -ℤ pos 1)
order_told item i k = go (cases_lt k i)
  where
    yes_lt : (a b : ℕ) → a < b → nat_lt a b ≡ true
    yes_lt a b h = grind (arith, nat_tests)

    no_lt : (a b : ℕ) → b ≤ a → nat_lt a b ≡ false
    no_lt a b h = grind (arith, nat_tests)

    go : (k < i) ⊎ (i ≤ k) → nat_lt k i ≡ int_le (at_place item k) (at_place item i -ℤ pos 1)
    go (inl less) = yes_lt k i less ∙ sym (le_test (at_place item k) (at_place item i -ℤ pos 1) (omega (arith, ints, less)))
    go (inr from) = no_lt k i from ∙ sym (no_le_test (at_place item k) (at_place item i -ℤ pos 1) (omega (arith, ints, from)))

-- one more upper entry
pub upper_more : (item : Average) (g : Ratio) (i k first : ℕ) → first ≡ i → (xs seen ys : List ℕ) (gained lost limited entry : ℕ) → xs ≡ upper_entries item g (at_place item i -ℤ pos 1) k → seen ≡ xs → gained ≡ gain item g (slice_index seen) k → lost ≡ loss item g k → limited ≡ limit item g k
    → entry ≡ (if nat_lt k first then limited else gained - lost) → ys ≡ xs ++ entry ∷ [] → ys ≡ upper_entries item g (at_place item i -ℤ pos 1) (k + 1)
unfolding upper_entries
upper_more item g i k first same xs seen ys gained lost limited entry is told is_gain is_loss is_limit is_entry is_ys =
    let whole : seen ≡ upper_entries item g (at_place item i -ℤ pos 1) k = told ∙ is in
    let order = ap (nat_lt k) same ∙ order_told item i k in
    rw add-one (is_ys ∙ (λ p. is p ++ (is_entry ∙ (λ j. if order j then is_limit j else (is_gain ∙ ap (λ (zs : List ℕ). gain item g (slice_index zs) k) whole) j - is_loss j)) p ∷ []))

-- no entry yet
pub no_lower : (item : Average) (g : Ratio) (xs : List ℕ) → xs ≡ [] → xs ≡ lower_entries item g 0
unfolding lower_entries
no_lower item g xs e = e

pub no_upper : (item : Average) (g : Ratio) (i : ℕ) (xs : List ℕ) → xs ≡ [] → xs ≡ upper_entries item g (at_place item i -ℤ pos 1) 0
unfolding upper_entries
no_upper item g i xs e = e

pub no_first : (test : ℕ → Bool) → 0 ≡ first_passing test 0 0
unfolding first_passing
no_first test = refl
