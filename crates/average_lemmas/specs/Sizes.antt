-- How large the numbers of a turn are, and what the next g keeps.
use Rattle.std.proofs.Common.{◌≡◌, ℕ, zero, suc, ◌+◌, ◌-◌, ◌*◌, ◌^◌, ◌<◌, ◌≤◌, ℤ, pos, ◌+ℤ◌, ◌-ℤ◌, ◌≤ℤ◌, sum, slice_index, refl, sym, ◌∙◌, ap, arith, pow-suc, mul-le-mul_left, ◌⊎◌, inl, inr, Bool, true}
use Rattle.std.proofs.lemmas.Int.{ints}
use Rattle.std.proofs.lemmas.Nat.{pow-add, mul-le}
use Rattle.std.proofs.Math.Nat.{pow-zero, one-le-pow, pow-le-pow_right}
use Rattle.std.proofs.lemmas.Bool.{cases_lt}
use Rattle.demand_law.specs.Law.{greatest_of}
use Rattle.demand_law.specs.Sequences.{laws_from}
use Rattle.demand_law.specs.SequenceSums.{totals_of-laws_from, greatest_sum_laws_from}
use Rattle.demand_law.specs.LawSums.{sum-IsSumOf}
use Rattle.decision_model.specs.declared.average.Average.{Average}
use Rattle.decision_model.specs.Positions.{above_zero}
use Rattle.decision_model.specs.Average.{average_cost_bound, average_positions, average_width, HasDemand}
use Rattle.demand_law.specs.CountedSums.{counted, counted-most}
use Rattle.value_cert.specs.AverageValues.{lead_demand, Ratio, stock_sum, moving, at_place, carried, limit, gain, loss, greatest_den}
use Rattle.decision_model.specs.AverageProblem.{stock_charge}
use Rattle.average_lemmas.specs.CostLines.{limit_constant, keep_constant, keep_slope, IsLines, IsTurn, measure, half_width}
use Rattle.average_lemmas.specs.Steps.{lead_is}
use Rattle.average_lemmas.specs.Tables.{sum_first, above_zero_is}
use Rattle.average_lemmas.specs.Certified.{moving_some}
use Rattle.average_lemmas.specs.Iteration.{carried_below, carried_most, fewer_lines, keep_most, entry_most, slopes_most, constants_most, slope_most, slope_least, constant_most, next_g, next_reached, falls}

-- ---- the cost of a period
-- a demand of the lead time costs less than the cost bound
cost_most : (item : Average) (y : ℤ) (e : ℕ) → item.floor ≤ℤ y → y ≤ℤ item.cap → e ≤ (item.lead + 1) * greatest_of item.law → stock_charge item y e + 1 ≤ average_cost_bound item
unfolding stock_charge average_cost_bound
cost_most item y e low high within =
    let left : above_zero (y -ℤ pos e) ≤ above_zero item.cap = omega (arith, ints, above_zero_is (y -ℤ pos e), above_zero_is item.cap) in
    let lacking : above_zero (pos e -ℤ y) ≤ above_zero (pos ((item.lead + 1) * greatest_of item.law) -ℤ item.floor) = omega (arith, ints, above_zero_is (pos e -ℤ y), above_zero_is (pos ((item.lead + 1) * greatest_of item.law) -ℤ item.floor)) in
    omega (arith, mul-le-mul_left item.holding left, mul-le-mul_left item.stockout lacking)

-- the sum of the lead time's weights
pub lead_total : (item : Average) → sum (lead_demand item) ≡ sum item.law ^ suc item.lead
lead_total item = sum-IsSumOf (lead_demand item) (laws_from (λ s. item.law) 1 (suc item.lead)) (lead_is item 1) ∙ totals_of-laws_from (λ s. item.law) (sum item.law) (λ s. refl) 1 (suc item.lead)

module _ (item : Average) (n : ℕ) (all : item.floor +ℤ pos n ≡ item.cap +ℤ pos 1) where
  -- less than the cost bound, as often as there are weights
  pub stock_most : (k : ℕ) → k < n → stock_sum item (at_place item k) ≤ (average_cost_bound item - 1) * sum item.law ^ suc item.lead
  stock_most k lt =
      let each = counted-most (lead_demand item) (stock_charge item (at_place item k)) (average_cost_bound item - 1) (λ e below. omega (arith, cost_most item (at_place item k) e (omega (arith, ints)) (omega (arith, ints)) (omega (arith, (lead_is item 1).width, greatest_sum_laws_from (λ s. item.law) (greatest_of item.law) 1 (suc item.lead) (λ s. omega arith))))) in
      omega (arith, each, ap (λ z. z * (average_cost_bound item - 1)) (lead_total item))

-- ---- plain numbers: u for W^(lead + 1), x for V^k, y for V^(n - 1), c for the cost bound
pub line_within : (s c u x y n k : ℕ) → k ≤ n → 1 ≤ n → x ≤ y → 1 ≤ c → s * u * x + k * ((c - 1) * u) * x ≤ (s + c) * (n * u * y)
line_within s c u x y n k le some up one =
    let a : s * u * x ≤ s * (n * u * y) = omega (arith, mul-le-mul_left s (mul-le (1 * u) x (n * u) y (omega (arith, mul-le-mul_left u some)) up)) in
    let b : k * ((c - 1) * u) * x ≤ n * (c * u) * y = omega (arith, mul-le (k * ((c - 1) * u)) x (n * (c * u)) y (mul-le k ((c - 1) * u) n (c * u) le (mul-le (c - 1) u c u (omega arith) (omega arith))) up) in
    omega arith

none_below : (P : ℕ → Type 0) (j : ℕ) → j < 0 → P j
none_below P j lt = absurd (omega arith)

cancel_left : (d a b : ℕ) → 1 ≤ d → d * a < d * b → a ≤ b
cancel_left d a b some less = go (cases_lt b a)
  where
    go : (b < a) ⊎ (a ≤ b) → a ≤ b
    go (inl lt) = absurd (omega (arith, mul-le-mul_left d lt))
    go (inr le) = le

-- ---- lines of n places
module _ (item : Average) (some_demand : HasDemand item.law) (n : ℕ) (all : item.floor +ℤ pos n ≡ item.cap +ℤ pos 1) where
  some_moving : 1 ≤ sum (moving item.law)
  some_moving = moving_some item.law some_demand

  pub power_grows : (k : ℕ) → k < n → sum (moving item.law) ^ k ≤ sum (moving item.law) ^ (n - 1)
  power_grows k lt = pow-le-pow_right {n = sum (moving item.law)} some_moving (omega arith)

  pub bound_some : 1 ≤ average_cost_bound item
  unfolding average_cost_bound
  bound_some = omega arith

  unit_is : sum item.law ^ suc item.lead ≡ sum item.law * sum item.law ^ item.lead
  unit_is = omega (arith, pow-suc (sum item.law) item.lead)

  -- the setup cost carried to place k
  pub setup_within : (k : ℕ) → item.setup * sum item.law ^ item.lead * sum (moving item.law) ^ suc k ≤ item.setup * sum item.law ^ suc item.lead * sum (moving item.law) ^ k
  setup_within k =
      let v = sum (moving item.law) in
      let q = sum item.law ^ item.lead in
      let less : v ≤ sum item.law = omega (arith, sum_first item.law) in
      omega (arith, ap (λ z. item.setup * q * z) (pow-suc v k), ap (λ z. item.setup * z * v ^ k) unit_is, mul-le-mul_left (item.setup * q * v ^ k) less)

  -- the lines of the places below a place of the grid
  module _ (k : ℕ) (lt : k < n) (limits : ℕ → Bool) (a b : ℕ → ℕ) (is : IsLines item k limits a b) where
    costs : (j : ℕ) → j ≤ k → stock_sum item (at_place item j) ≤ (average_cost_bound item - 1) * sum item.law ^ suc item.lead
    costs j le = stock_most item n all j (omega arith)

    pub constant_small : keep_constant item a k ≤ (item.setup + average_cost_bound item) * greatest_den item n
    constant_small =
        omega (
          arith,
          constant_most item k limits a b is ((average_cost_bound item - 1) * sum item.law ^ suc item.lead) costs,
          setup_within k,
          line_within item.setup (average_cost_bound item) (sum item.law ^ suc item.lead) (sum (moving item.law) ^ k) (sum (moving item.law) ^ (n - 1)) n (suc k) lt (omega arith) (power_grows k lt) bound_some,
        )

    pub slope_small : keep_slope item b k ≤ greatest_den item n
    slope_small =
        omega (arith, slope_most item k limits a b is, mul-le (suc k * sum item.law ^ suc item.lead) (sum (moving item.law) ^ k) (n * sum item.law ^ suc item.lead) (sum (moving item.law) ^ (n - 1)) (mul-le (suc k) (sum item.law ^ suc item.lead) n (sum item.law ^ suc item.lead) lt (omega arith)) (power_grows k lt))

    pub slope_some : 1 ≤ keep_slope item b k
    slope_some =
        let unit = one-le-pow (suc item.lead) (sum item.law) (omega (arith, some_moving, sum_first item.law)) in
        let power = one-le-pow k (sum (moving item.law)) (omega (arith, some_moving)) in
        omega (arith, slope_least item k limits a b is, mul-le 1 1 (sum item.law ^ suc item.lead) (sum (moving item.law) ^ k) unit power)

    -- both sides of each comparison are within half of the width number
    pub constant_fits : (g : Ratio) → IsTurn item n g → keep_constant item a k * g.den ≤ half_width item n
    constant_fits g turn = omega (arith, mul-le (keep_constant item a k) g.den ((item.setup + average_cost_bound item) * greatest_den item n) (greatest_den item n) constant_small turn.small)

    pub slope_fits : (g : Ratio) → IsTurn item n g → keep_slope item b k * g.num ≤ half_width item n
    slope_fits g turn =
        omega (arith, mul-le (keep_slope item b k) g.num (greatest_den item n) (greatest_den item n * (item.setup + average_cost_bound item)) slope_small (omega (arith, turn.bounded, mul-le g.den (item.setup + average_cost_bound item) (greatest_den item n) (item.setup + average_cost_bound item) turn.small (omega arith))))

  pub limit_small : (k : ℕ) → k < n → limit_constant item k ≤ (item.setup + average_cost_bound item) * greatest_den item n
  limit_small k lt =
      omega (arith, setup_within k, line_within item.setup (average_cost_bound item) (sum item.law ^ suc item.lead) (sum (moving item.law) ^ k) (sum (moving item.law) ^ (n - 1)) n 0 (omega arith) (omega arith) (power_grows k lt) bound_some)

  pub limit_fits : (g : Ratio) → IsTurn item n g → (k : ℕ) → k < n → limit_constant item k * g.den ≤ half_width item n
  limit_fits g turn k lt = omega (arith, mul-le (limit_constant item k) g.den ((item.setup + average_cost_bound item) * greatest_den item n) (greatest_den item n) (limit_small k lt) turn.small)

  -- what is carried to a place is small
  pub constant_each : (k : ℕ) → k < n → (limits : ℕ → Bool) (a b : ℕ → ℕ) → IsLines item k limits a b → (d : ℕ) → carried (sum (moving item.law)) (item.setup * sum item.law ^ item.lead) a k d ≤ (item.setup + average_cost_bound item) * greatest_den item n
  constant_each zero lt limits a b is d =
      let v = sum (moving item.law) in
      let s = item.setup * sum item.law ^ item.lead in
      omega (arith, carried_below v s a 0 d (omega arith), limit_small 0 lt, ap (λ z. s * z) (pow-suc v 0), mul-le-mul_left (s * v ^ 0) some_moving)
  constant_each (suc k) lt limits a b is d =
      let v = sum (moving item.law) in
      let u = sum item.law ^ suc item.lead in
      let s = item.setup * sum item.law ^ item.lead in
      let c = (average_cost_bound item - 1) * u in
      let most = carried_most v s c a k (constants_most item (suc k) limits a b is c (λ j le. stock_most item n all j (omega arith))) d in
      let line = line_within item.setup (average_cost_bound item) u (v ^ k) (v ^ (n - 1)) n (suc k) (omega arith) (omega arith) (power_grows k (omega arith)) bound_some in
      omega (arith, most, line, setup_within k)

  pub slope_each : (k : ℕ) → k < n → (limits : ℕ → Bool) (a b : ℕ → ℕ) → IsLines item k limits a b → (d : ℕ) → carried (sum (moving item.law)) 0 b k d ≤ greatest_den item n
  slope_each zero lt limits a b is d = omega (arith, carried_below (sum (moving item.law)) 0 b 0 d (omega arith))
  slope_each (suc k) lt limits a b is d =
      let v = sum (moving item.law) in
      let u = sum item.law ^ suc item.lead in
      let most = carried_most v 0 u b k (slopes_most item (suc k) limits a b is) d in
      omega (arith, most, mul-le (suc k * u) (v ^ k) (n * u) (v ^ (n - 1)) (mul-le (suc k) u n u (omega arith) (omega arith)) (power_grows k (omega arith)))

  -- ---- a turn whose X is below 0 at place k gives a lesser g
  module _ (limits : ℕ → Bool) (a b : ℕ → ℕ) (is : IsLines item n limits a b) where
    pub next_turn : (g : Ratio) → IsTurn item n g → (k : ℕ) → k < n → keep_constant item a k * g.den < keep_slope item b k * g.num → IsTurn item n (next_g item a b k)
    next_turn g turn k lt less =
        let fewer = fewer_lines item n k limits a b (omega arith) is in
        record {
          some = slope_some k lt limits a b fewer;
          small = slope_small k lt limits a b fewer;
          bounded = cancel_left g.den (keep_constant item a k) (keep_slope item b k * (item.setup + average_cost_bound item)) turn.some (omega (arith, less, mul-le-mul_left (keep_slope item b k) turn.bounded));
          reached = next_reached item n limits a b is k lt;
        }

    pub next_falls : (g : Ratio) → IsTurn item n g → (k : ℕ) → k < n → keep_constant item a k * g.den < keep_slope item b k * g.num → measure item n (next_g item a b k) < measure item n g
    next_falls g turn k lt less =
        let fewer = fewer_lines item n k limits a b (omega arith) is in
        falls g.num g.den (keep_constant item a k) (keep_slope item b k) (greatest_den item n) turn.some turn.small (slope_some k lt limits a b fewer) (slope_small k lt limits a b fewer) less

  -- ---- the first turn: the line of the floor
  all_limits : (k : ℕ) → IsLines item k (λ j. true) (limit_constant item) (λ j. 0)
  all_limits k = record { constant_is = λ j lt. refl; slope_is = λ j lt. refl }

  pub first_turn : 1 ≤ n → IsTurn item n (next_g item (limit_constant item) (λ k. 0) 0)
  first_turn some = record {
    some = slope_some 0 some (λ k. true) (limit_constant item) (λ k. 0) (all_limits 0);
    small = slope_small 0 some (λ k. true) (limit_constant item) (λ k. 0) (all_limits 0);
    bounded = bounded;
    reached = next_reached item n (λ k. true) (limit_constant item) (λ k. 0) (all_limits n) 0 some;
  }
    where
      bounded : keep_constant item (limit_constant item) 0 ≤ keep_slope item (λ k. 0) 0 * (item.setup + average_cost_bound item)
      bounded =
          let u = sum item.law ^ suc item.lead in
          let one : sum (moving item.law) ^ 0 ≡ 1 = pow-zero (sum (moving item.law)) in
          let line = line_within item.setup (average_cost_bound item) u (sum (moving item.law) ^ 0) 1 1 1 (omega arith) (omega arith) (omega arith) bound_some in
          let least = slope_least item 0 (λ k. true) (limit_constant item) (λ k. 0) (all_limits 0) in
          let at_least : u ≤ keep_slope item (λ k. 0) 0 = omega (arith, ap (λ z. u * z) one) in
          omega (arith, constant_most item 0 (λ k. true) (limit_constant item) (λ k. 0) (all_limits 0) ((average_cost_bound item - 1) * u) (λ j le. stock_most item n all j (omega arith)), setup_within 0, line, mul-le-mul_left (item.setup + average_cost_bound item) at_least)

  -- ---- the checker's numbers, at a g within its bounds
  module _ (g : Ratio) (small : g.den ≤ greatest_den item n) (bounded : g.num ≤ g.den * (item.setup + average_cost_bound item)) where
    -- entries of places below k that are at most their limit or their X
    module _ (a : ℕ → ℕ) (k : ℕ) (lt : k < n) (h : (j : ℕ) → j < k → (a j ≤ limit item g j) ⊎ (a j + loss item g j ≤ gain item g a j)) where
      by_choice : (j : ℕ) → (a j ≤ limit item g j) ⊎ (a j + loss item g j ≤ gain item g a j)
          → (a j ≤ item.setup * g.den * sum item.law ^ item.lead * sum (moving item.law) ^ suc j)
          ⊎ (a j ≤ stock_sum item (at_place item j) * g.den * sum (moving item.law) ^ j + counted (moving item.law) (carried (sum (moving item.law)) (item.setup * g.den * sum item.law ^ item.lead) a j))
      by_choice j (inl le) = inl le
      by_choice j (inr le) = inr (omega arith)

      costs_at : (j : ℕ) → j < n → stock_sum item (at_place item j) * g.den ≤ (average_cost_bound item - 1) * sum item.law ^ suc item.lead * g.den
      costs_at j below = mul-le (stock_sum item (at_place item j)) g.den ((average_cost_bound item - 1) * sum item.law ^ suc item.lead) g.den (stock_most item n all j below) (omega arith)

      entries : (j : ℕ) → j < k → a j ≤ item.setup * g.den * sum item.law ^ item.lead * sum (moving item.law) ^ suc j + suc j * ((average_cost_bound item - 1) * sum item.law ^ suc item.lead * g.den) * sum (moving item.law) ^ j
      entries = entry_most (moving item.law) (item.setup * g.den * sum item.law ^ item.lead) ((average_cost_bound item - 1) * sum item.law ^ suc item.lead * g.den) k (λ j. stock_sum item (at_place item j) * g.den) a (λ j below. by_choice j (h j below)) (λ j below. costs_at j (omega arith)) k (omega arith)

      -- the most of a place, over g's denominator
      pub most_fits : (p : ℕ) → p < n → item.setup * g.den * sum item.law ^ item.lead * sum (moving item.law) ^ suc p + suc p * ((average_cost_bound item - 1) * sum item.law ^ suc item.lead * g.den) * sum (moving item.law) ^ p ≤ half_width item n
      most_fits p below =
          let w = sum item.law in
          let v = sum (moving item.law) in
          let c = (average_cost_bound item - 1) * w ^ suc item.lead in
          let line = line_within item.setup (average_cost_bound item) (w ^ suc item.lead) (v ^ p) (v ^ (n - 1)) n (suc p) below (omega arith) (power_grows p below) bound_some in
          let times = mul-le g.den (item.setup * w ^ suc item.lead * v ^ p + suc p * c * v ^ p) (greatest_den item n) ((item.setup + average_cost_bound item) * greatest_den item n) small line in
          omega (arith, times, mul-le-mul_left g.den (setup_within p))

      -- X of place k is small
      pub gain_small : gain item g a k ≤ half_width item n
      gain_small = omega (arith, keep_most (moving item.law) (item.setup * g.den * sum item.law ^ item.lead) ((average_cost_bound item - 1) * sum item.law ^ suc item.lead * g.den) (stock_sum item (at_place item k) * g.den) a k (costs_at k lt) entries, most_fits k lt)

    -- and so is what is carried to it
    pub entries_small : (a : ℕ → ℕ) (k : ℕ) → k < n → ((j : ℕ) → j < k → (a j ≤ limit item g j) ⊎ (a j + loss item g j ≤ gain item g a j)) → (d : ℕ) → carried (sum (moving item.law)) (item.setup * g.den * sum item.law ^ item.lead) a k d ≤ half_width item n
    entries_small a zero lt h d =
        let v = sum (moving item.law) in
        let s = item.setup * g.den * sum item.law ^ item.lead in
        omega (arith, carried_below v s a 0 d (omega arith), most_fits a 0 lt h 0 lt, ap (λ z. s * z) (pow-suc v 0), mul-le-mul_left (s * v ^ 0) some_moving)
    entries_small a (suc k) lt h d =
        omega (arith, carried_most (sum (moving item.law)) (item.setup * g.den * sum item.law ^ item.lead) ((average_cost_bound item - 1) * sum item.law ^ suc item.lead * g.den) a k (entries a (suc k) lt h) d, most_fits a (suc k) lt h k (omega arith))

    pub loss_small : (k : ℕ) → k < n → loss item g k ≤ half_width item n
    loss_small k lt =
        let u = sum item.law ^ suc item.lead in
        let x = sum (moving item.law) ^ k in
        let y = sum (moving item.law) ^ (n - 1) in
        let unit : u * x ≤ greatest_den item n = omega (arith, mul-le (1 * u) x (n * u) y (mul-le 1 u n u (omega arith) (omega arith)) (power_grows k lt)) in
        let num : g.num ≤ greatest_den item n * (item.setup + average_cost_bound item) = omega (arith, bounded, mul-le g.den (item.setup + average_cost_bound item) (greatest_den item n) (item.setup + average_cost_bound item) small (omega arith)) in
        omega (arith, mul-le g.num (u * x) (greatest_den item n * (item.setup + average_cost_bound item)) (greatest_den item n) num unit)

  -- ---- it is half of the width number
  pub half_is : 2 * half_width item n ≡ average_width item
  unfolding average_width average_positions
  half_is =
      let w = sum item.law in
      let v = sum (moving item.law) in
      let c = item.setup + average_cost_bound item in
      let places : above_zero (item.cap -ℤ item.floor +ℤ pos 1) ≡ n = omega (arith, ints, above_zero_is (item.cap -ℤ item.floor +ℤ pos 1)) in
      let others : w - slice_index item.law 0 ≡ v = omega (arith, sum_first item.law) in
      let twice : 2 * item.lead + 2 ≡ suc item.lead + suc item.lead = omega arith in
      let both : 2 * n - 2 ≡ n - 1 + (n - 1) = omega arith in
      let weights : w ^ (2 * item.lead + 2) ≡ w ^ suc item.lead * w ^ suc item.lead = ap (λ m. w ^ m) twice ∙ pow-add w (suc item.lead) (suc item.lead) in
      let powers : v ^ (2 * n - 2) ≡ v ^ (n - 1) * v ^ (n - 1) = ap (λ m. v ^ m) both ∙ pow-add v (n - 1) (n - 1) in
      let square : n ^ 2 ≡ n * n = omega (arith, pow-suc n 1, pow-suc n 0, ap (λ k. k * n) (pow-suc n 0), ap (λ k. k * n * n) (pow-zero n), ap (λ k. k * n) (pow-zero n)) in
      let first : 2 * half_width item n ≡ 2 * (n * n) * c * (w ^ suc item.lead * w ^ suc item.lead) * (v ^ (n - 1) * v ^ (n - 1)) = omega arith in
      first
      ∙ (λ i. 2 * sym square i * c * sym weights i * sym powers i)
      ∙ (λ i. 2 * sym places i ^ 2 * c * w ^ (2 * item.lead + 2) * sym others i ^ (2 * sym places i - 2))

  -- ---- the span's numbers: relative values over the denominator of the last place, and that denominator
  module _ (g : Ratio) (small : g.den ≤ greatest_den item n) (bounded : g.num ≤ g.den * (item.setup + average_cost_bound item)) (some : 1 ≤ n) where
    -- an entry of a passing table
    pub relative_small : (a : ℕ → ℕ) → ((j : ℕ) → j < n → (a j ≤ limit item g j) ⊎ (a j + loss item g j ≤ gain item g a j)) → (k r : ℕ) → k + suc r ≡ n → a k * sum (moving item.law) ^ r ≤ half_width item n
    relative_small a h k r e =
        let w = sum item.law in
        let v = sum (moving item.law) in
        let s = item.setup * g.den * w ^ item.lead in
        let c = (average_cost_bound item - 1) * w ^ suc item.lead in
        let none = none_below (λ i. (a i ≤ limit item g i) ⊎ (a i + loss item g i ≤ gain item g a i)) in
        let p = n - 1 in
        let last : k + r ≡ p = omega arith in
        let next : suc k + r ≡ suc p = omega arith in
        let entry : a k ≤ s * v ^ suc k + suc k * (c * g.den) * v ^ k =
        entry_most (moving item.law) s (c * g.den) n (λ j. stock_sum item (at_place item j) * g.den) a (λ j less. by_choice g small bounded a 0 some none j (h j less)) (λ j less. costs_at g small bounded a 0 some none j less) n (omega arith) k (omega arith) in
        let low : v ^ p ≡ v ^ k * v ^ r = ap (λ m. v ^ m) (sym last) ∙ pow-add v k r in
        let high : v ^ suc p ≡ v ^ suc k * v ^ r = ap (λ m. v ^ m) (sym next) ∙ pow-add v (suc k) r in
        let places : suc k ≤ suc p = omega arith in
        omega (arith, mul-le-mul_left (v ^ r) entry, most_fits g small bounded a 0 some none p (omega arith), ap (λ z. s * z) high, ap (λ z. suc k * (c * g.den) * z) low, mul-le-mul_left (c * g.den * v ^ p) places)

    -- the setup cost
    pub setup_small : item.setup * g.den * sum item.law ^ item.lead * sum (moving item.law) ^ n ≤ half_width item n
    setup_small =
        let none = none_below (λ i. (0 ≤ limit item g i) ⊎ (0 + loss item g i ≤ gain item g (λ j. 0) i)) in
        let next : suc (n - 1) ≡ n = omega arith in
        omega (arith, most_fits g small bounded (λ j. 0) 0 some none (n - 1) (omega arith), ap (λ m. item.setup * g.den * sum item.law ^ item.lead * sum (moving item.law) ^ m) next)

    -- the denominator of both
    pub denominator_small : g.den * sum item.law ^ item.lead * sum (moving item.law) ^ n ≤ half_width item n
    denominator_small =
        let w = sum item.law in
        let v = sum (moving item.law) in
        let d = greatest_den item n in
        let next : suc (n - 1) ≡ n = omega arith in
        let less : v ≤ w = omega (arith, sum_first item.law) in
        let unit : w ^ item.lead * v ^ n ≤ d =
        omega (arith, ap (λ m. w ^ item.lead * v ^ m) (sym next), ap (λ z. w ^ item.lead * z) (pow-suc v (n - 1)), mul-le-mul_left (w ^ item.lead * v ^ (n - 1)) less, ap (λ z. z * v ^ (n - 1)) unit_is, mul-le-mul_left (w ^ suc item.lead * v ^ (n - 1)) some) in
        let bound : 1 ≤ item.setup + average_cost_bound item = omega (arith, bound_some) in
        omega (arith, mul-le g.den (w ^ item.lead * v ^ n) d d small unit, mul-le-mul_left (d * d) bound)
