-- How large the numbers of a bracket are: no number that its tables or its check hold passes 2^121.
use Rattle.std.proofs.Common.{◌≡◌, ℕ, suc, ◌+◌, ◌-◌, ◌*◌, ◌^◌, ◌<◌, ◌≤◌, max, ℤ, pos, ◌+ℤ◌, ◌-ℤ◌, ◌≤ℤ◌, sum, ap, arith, mul-le-mul_left, pow-suc}
use Rattle.std.specs.Prelude.{unsigned_abs}
use Rattle.std.proofs.lemmas.Int.{ints}
use Rattle.std.proofs.lemmas.Nat.{mul-le}
use Rattle.std.proofs.Math.Nat.{one-le-pow, pow-le-pow_right, pow-zero}
use Rattle.demand_law.specs.Law.{greatest_of}
use Rattle.demand_law.specs.SequenceSums.{greatest_sum_laws_from}
use Rattle.decision_model.specs.declared.average.Average.{Average}
use Rattle.decision_model.specs.Average.{average_positions, average_cost_bound}
use Rattle.decision_model.specs.Positions.{above_zero}
use Rattle.decision_model.specs.PositionTests.{above_zero_mono}
use Rattle.decision_model.specs.Stock.{HasRoom}
use Rattle.decision_model.specs.WidthFacts.{average_positions_some}
use Rattle.value_cert.specs.AverageValues.{at_place, moving, lead_demand, stock_sum}
use Rattle.average_lemmas.specs.Certified.{moving_some}
use Rattle.average_lemmas.specs.RulesKept.{positions_count}
use Rattle.average_lemmas.specs.Sizes.{lead_total, stock_most}
use Rattle.average_lemmas.specs.Steps.{lead_is}
use Rattle.average_lemmas.specs.Tables.{sum_first}
use Rattle.bracket_lemmas.specs.BracketSolved.{under_gain, over_gain}
use Rattle.decision_model.specs.Limits.{parts}
use Rattle.value_cert.specs.BracketValues.{setup_parts, low_cost, up_cost, most_bound, most_over}
use Rattle.bracket_lemmas.specs.EntryFacts.{past, past_most}
use Rattle.bracket_lemmas.specs.GreatestUnder.{low_most}
use Rattle.bracket_lemmas.specs.LeastOver.{up_most}
use Rattle.decision_model.specs.WideAverage.{IsWideAverage, wide_width}

module _ (item : Average) (wide : IsWideAverage item) where
  abbrev n : ℕ
  n = average_positions item

  pub some_place : 1 ≤ n
  some_place = average_positions_some item wide.readable

  pub all_places : item.floor +ℤ pos n ≡ item.cap +ℤ pos 1
  all_places = positions_count item wide.readable

  pub some_moving : 1 ≤ sum (moving item.law)
  some_moving = moving_some item.law wide.has_demand

  pub some_weight : 1 ≤ sum item.law
  some_weight = omega (arith, some_moving, sum_first item.law)

  pub moving_less : sum (moving item.law) ≤ sum item.law
  moving_less = omega (arith, sum_first item.law)

  pub most_some : 1 ≤ most_bound item
  unfolding average_cost_bound
  most_some = omega arith

  -- with either number of weights
  with_power : (e : ℕ) → e ≤ max 2 (item.lead + 1) → 4 * (n * most_bound item * sum item.law ^ e) ≤ 2 ^ 120
  unfolding wide_width
  with_power e le =
      let power = pow-le-pow_right {n = sum item.law} some_weight le in
      omega (arith, wide.width, mul-le-mul_left (n * most_bound item) power)

  square : sum item.law ^ 2 ≡ sum item.law * sum item.law
  square = omega (arith, pow-suc (sum item.law) 1, pow-suc (sum item.law) 0, ap (λ z. z * sum item.law * sum item.law) (pow-zero (sum item.law)), ap (λ z. z * sum item.law) (pow-suc (sum item.law) 0))

  pub squares_fit : 4 * (n * most_bound item * (sum item.law * sum item.law)) ≤ 2 ^ 120
  squares_fit = omega (arith, with_power 2 (omega arith), ap (λ z. n * most_bound item * z) square)

  pub units_fit : 4 * (n * most_bound item * sum item.law ^ suc item.lead) ≤ 2 ^ 120
  units_fit = with_power (suc item.lead) (omega arith)

  -- plain: a factor of at least 1 may be left out
  without : (a b : ℕ) → 1 ≤ a → b ≤ a * b
  without a b some = omega (arith, mul-le 1 b a b some (omega arith))

  pub unit_small : most_bound item * sum item.law ^ suc item.lead ≤ 2 ^ 118
  unit_small = omega (arith, units_fit, without n (most_bound item * sum item.law ^ suc item.lead) some_place)

  pub unit_fits : sum item.law ^ suc item.lead ≤ 2 ^ 118
  unit_fits = omega (arith, unit_small, without (most_bound item) (sum item.law ^ suc item.lead) most_some)

  pub unit_some : 1 ≤ sum item.law ^ suc item.lead
  unit_some = one-le-pow (suc item.lead) (sum item.law) some_weight

  -- ---- one place's change of an upper entry, and n of them
  pub change_some : 1 ≤ sum item.law * most_bound item
  change_some = mul-le 1 1 (sum item.law) (most_bound item) some_weight most_some

  -- as often as there are weights, n changes are at most a quarter of the width
  pub changes_fit : sum item.law * (n * (sum item.law * most_bound item)) ≤ 2 ^ 118
  changes_fit = omega (arith, squares_fit)

  pub change_small : sum item.law * (sum item.law * most_bound item) ≤ 2 ^ 118
  change_small = omega (arith, changes_fit, mul-le 1 (sum item.law * (sum item.law * most_bound item)) n (sum item.law * (sum item.law * most_bound item)) some_place (omega arith))

  pub one_small : sum item.law * most_bound item ≤ 2 ^ 118
  one_small = omega (arith, change_small, without (sum item.law) (sum item.law * most_bound item) some_weight)

  pub most_small : most_bound item ≤ 2 ^ 118
  most_small = omega (arith, one_small, without (sum item.law) (most_bound item) some_weight)

  pub setup_less : setup_parts item ≤ most_bound item
  setup_less = omega arith

  pub raise_small : most_over item n ≤ 2 ^ 119
  raise_small = omega (arith, changes_fit, without (sum item.law) (n * (sum item.law * most_bound item)) some_weight)

  -- ---- the walk
  has_charge : (k : ℕ) → k < n → item.holding * above_zero (at_place item k) + item.stockout * above_zero (pos (greatest_of (lead_demand item)) -ℤ at_place item k) ≤ average_cost_bound item
  unfolding average_cost_bound
  has_charge k lt =
      let top : at_place item k ≤ℤ item.cap = omega (arith, ints, lt, all_places) in
      let lacks : greatest_of (lead_demand item) ≤ (item.lead + 1) * greatest_of item.law = omega (arith, (lead_is item 1).width, greatest_sum_laws_from (λ s. item.law) (greatest_of item.law) 1 (suc item.lead) (λ s. omega arith)) in
      let left = above_zero_mono (at_place item k) item.cap top in
      let lacking = above_zero_mono (pos (greatest_of (lead_demand item)) -ℤ at_place item k) (pos ((item.lead + 1) * greatest_of item.law) -ℤ item.floor) (less (greatest_of (lead_demand item)) ((item.lead + 1) * greatest_of item.law) item.floor lacks) in
      omega (arith, mul-le-mul_left item.holding left, mul-le-mul_left item.stockout lacking)
    where
      less : (a b : ℕ) (floor : ℤ) → a ≤ b → (pos a -ℤ (floor +ℤ pos k)) ≤ℤ (pos b -ℤ floor)
      less a b floor le = omega (arith, ints, le)

  pub near_place : (k : ℕ) → k < n → unsigned_abs (at_place item k) ≤ 1000000
  near_place k lt = near (at_place item k) (omega (arith, ints)) (omega (arith, ints, lt, all_places))
    where
      near : (z : ℤ) → item.floor ≤ℤ z → z ≤ℤ item.cap → unsigned_abs z ≤ 1000000
      near z low high = omega (arith, ints, low, high, wide.readable.floor.least, wide.readable.cap.most)

  pub has_room : (k : ℕ) → k < n → HasRoom item.holding item.stockout (lead_demand item) (at_place item k)
  has_room k lt =
      let charge = item.holding * above_zero (at_place item k) + item.stockout * above_zero (pos (greatest_of (lead_demand item)) -ℤ at_place item k) in
      let bound : sum item.law ^ suc item.lead * charge ≤ sum item.law ^ suc item.lead * average_cost_bound item = mul-le-mul_left (sum item.law ^ suc item.lead) (has_charge k lt) in
      let whole : sum item.law ^ suc item.lead * average_cost_bound item ≤ 2 ^ 118 = omega (arith, unit_small) in
      record { near = omega (arith, near_place k lt); small = omega (arith, bound, whole, ap (λ z. z * charge) (lead_total item)) }

  -- ---- costs
  pub stock_fits : (k : ℕ) → k < n → parts * stock_sum item (at_place item k) ≤ 2 ^ 118
  stock_fits k lt = omega (arith, unit_small, stock_most item n all_places k lt, mul-le (average_cost_bound item - 1) (sum item.law ^ suc item.lead) (average_cost_bound item) (sum item.law ^ suc item.lead) (omega arith) (omega arith))

  pub low_small : (k : ℕ) → k < n → low_cost item k + setup_parts item ≤ most_bound item
  low_small k lt = omega (arith, low_most item some_moving n all_places k lt)

  pub up_small : (k : ℕ) → k < n → up_cost item k + setup_parts item ≤ most_bound item
  up_small k lt = omega (arith, up_most item some_moving n all_places 0 k lt)

  -- ---- sums
  -- plain: at most as often as all weights
  weighed : (v w after m : ℕ) → v ≤ w → after ≤ v * m → after ≤ w * m
  weighed v w after m le h = omega (arith, h, mul-le v m w m le (omega arith))

  -- what keeping a place is worth, by lower entries that are at most the setup cost
  pub gain_fits : (k : ℕ) → k < n → (a : ℕ → ℕ) → ((j : ℕ) → j < k → a j ≤ setup_parts item) → under_gain item a k ≤ sum item.law * most_bound item
  gain_fits k lt a each =
      let most = weighed (sum (moving item.law)) (sum item.law) (past item (setup_parts item) a k) (setup_parts item) moving_less (past_most item (setup_parts item) a k (setup_parts item) (omega arith) each) in
      omega (arith, most, mul-le-mul_left (sum item.law) (low_small k lt))

  -- .. by upper entries, raised, that are at most twice the number that they are raised by
  pub over_gain_fits : (k : ℕ) → k < n → (t : ℕ → ℕ) → ((j : ℕ) → j < k → t j ≤ 2 * most_over item n) → over_gain item (most_over item n) t k ≤ 2 ^ 121
  over_gain_fits k lt t each =
      let setup_within : setup_parts item ≤ most_over item n = omega (arith, mul-le 1 (sum item.law * most_bound item) n (sum item.law * most_bound item) some_place (omega arith), without (sum item.law) (most_bound item) some_weight) in
      let most = weighed (sum (moving item.law)) (sum item.law) (past item (setup_parts item + most_over item n) t k) (2 * most_over item n) moving_less (past_most item (setup_parts item + most_over item n) t k (2 * most_over item n) (omega (arith, setup_within)) each) in
      omega (arith, most, mul-le-mul_left (sum item.law) (up_small k lt), changes_fit, one_small)
