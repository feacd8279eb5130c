-- What is known of the numbers of a place of the grid: they are small, and stay what they are when they are stored.
use Rattle.std.proofs.Common.{Fits, ◌≡◌, ℕ, suc, ◌+◌, ◌-◌, ◌*◌, ◌^◌, ◌<◌, ◌≤◌, ℤ, pos, ◌+ℤ◌, ◌-ℤ◌, ◌≤ℤ◌, List, sum, refl, ap, subst, arith, mul-le-mul_left, pow-suc, rules, w64, FitsSigned, to_z, of_z}
use Rattle.std.specs.Prelude.{unsigned_abs}
use Rattle.std.proofs.lemmas.Int.{ints, to_z-of_z}
use mir.Syntax.{w128}
use Rattle.std.proofs.lemmas.Nat.{mul-le}
use Rattle.std.proofs.Math.Nat.{one-le-pow}
use Rattle.demand_law.specs.CountedSums.{counted_is}
use Rattle.demand_law.specs.Law.{greatest_of}
use Rattle.demand_law.specs.SequenceSums.{greatest_sum_laws_from}
use Rattle.decision_model.specs.declared.average.Average.{Average}
use Rattle.decision_model.specs.Average.{IsValidAverage, average_positions, average_cost_bound}
use Rattle.decision_model.specs.AverageProblem.{stock_charge}
use Rattle.decision_model.specs.WidthFacts.{average_positions_some}
use Rattle.decision_model.specs.Positions.{above_zero}
use Rattle.decision_model.specs.PositionTests.{above_zero_mono}
use Rattle.decision_model.specs.Stock.{HasRoom, stock_cost, cost_at}
use Rattle.value_cert.specs.AverageValues.{moving, at_place, lead_demand, stock_sum, greatest_den}
use Rattle.decision_model.specs.Limits.{least_position, most_position}
use Rattle.average_lemmas.specs.Certified.{moving_some}
use Rattle.average_lemmas.specs.KeptSizes.{half_small}
use Rattle.average_lemmas.specs.RulesKept.{positions_count}
use Rattle.average_lemmas.specs.Sizes.{lead_total, power_grows, stock_most}
use Rattle.average_lemmas.specs.Steps.{lead_is}
use Rattle.average_lemmas.specs.Tables.{sum_first}

-- the cost of a walk is that of the equations
pub walk_cost : (item : Average) (y : ℤ) → stock_cost item.holding item.stockout (lead_demand item) y ≡ pos (stock_sum item y)
unfolding stock_cost stock_charge
walk_cost item y = counted_is (lead_demand item) (cost_at item.holding item.stockout y)

-- a cost as it is read back
pub read_back : (z : ℤ) (s : ℕ) → z ≡ pos s → s ≤ 2 ^ 119 → to_z w128 (of_z w128 z) ≡ pos s
read_back z s e le = rw e (wide s le)
  where
    wide : (s : ℕ) → s ≤ 2 ^ 119 → to_z w128 (of_z w128 (pos s)) ≡ pos s
    wide s le = let fits : FitsSigned w128 (pos s) = search rules in to_z-of_z w128 (pos s) fits

-- so the cast keeps it
pub cast_fits : (z : ℤ) (s : ℕ) → (z ≡ pos s) × (s ≤ 2 ^ 119) → lib.Dec.T (lib.Signed.non_neg (to_z w128 (of_z w128 z))) × Fits w128 (lib.IntN.nat_abs (to_z w128 (of_z w128 z)))
cast_fits z s is = rw (read_back z s is.0 is.1) (search rules)

pub place_cost : {z : ℤ} {s : ℕ} → (z ≡ pos s) × (s ≤ 2 ^ 119) → unsigned_abs (to_z w128 (of_z w128 z)) ≡ s
place_cost is = rw (read_back _ _ is.0 is.1) refl

-- .. and a position
pub near_back : (z : ℤ) → unsigned_abs z ≤ 1000000000 → to_z w64 (of_z w64 z) ≡ z
near_back z small = let fits : FitsSigned w64 z = search rules in to_z-of_z w64 z fits

module _ (item : Average) (valid : IsValidAverage item) where
  abbrev n : ℕ
  n = average_positions item

  -- no power is too large
  pub den_some : 1 ≤ greatest_den item n
  den_some =
      let some = moving_some item.law valid.regular.has_demand in
      let unit = one-le-pow (suc item.lead) (sum item.law) (omega (arith, some, sum_first item.law)) in
      let power = one-le-pow (n - 1) (sum (moving item.law)) (omega (arith, some)) in
      mul-le 1 1 (n * sum item.law ^ suc item.lead) (sum (moving item.law) ^ (n - 1)) (mul-le 1 1 n (sum item.law ^ suc item.lead) (average_positions_some item valid.regular.readable) unit) power

  bound_least : 1 ≤ average_cost_bound item
  unfolding average_cost_bound
  bound_least = omega arith

  -- what is at most a greatest denominator, or as often as the cost bound, fits
  pub line_fits : (x : ℕ) → x ≤ (item.setup + average_cost_bound item) * greatest_den item n → x ≤ 2 ^ 119
  line_fits x le = omega (arith, half_small item valid, le, mul-le-mul_left ((item.setup + average_cost_bound item) * greatest_den item n) den_some)

  pub den_fits : (x : ℕ) → x ≤ greatest_den item n → x ≤ 2 ^ 119
  den_fits x le = line_fits x (omega (arith, le, bound_least, mul-le 1 (greatest_den item n) (item.setup + average_cost_bound item) (greatest_den item n) (omega (arith, bound_least)) (omega arith)))

  pub power_fits : (k : ℕ) → k < n → sum (moving item.law) ^ k ≤ 2 ^ 119
  power_fits k lt =
      let some = moving_some item.law valid.regular.has_demand in
      let unit = one-le-pow (suc item.lead) (sum item.law) (omega (arith, some, sum_first item.law)) in
      let grows = power_grows item valid.regular.has_demand n (positions_count item valid.regular.readable) k lt in
      den_fits (sum (moving item.law) ^ k) (omega (arith, mul-le 1 (sum (moving item.law) ^ k) (n * sum item.law ^ suc item.lead) (sum (moving item.law) ^ (n - 1)) (mul-le 1 1 n (sum item.law ^ suc item.lead) (average_positions_some item valid.regular.readable) unit) grows))

  -- a walk has room at each place
  pub has_room : (k : ℕ) → k < n → HasRoom item.holding item.stockout (lead_demand item) (at_place item k)
  unfolding average_cost_bound
  has_room k lt = record { near = near (at_place item k) (omega (arith, ints)) top; small = omega (arith, cost, ap (λ z. z * (item.holding * above_zero (at_place item k) + item.stockout * above_zero (pos (greatest_of (lead_demand item)) -ℤ at_place item k))) (lead_total item)) }
    where
      top : at_place item k ≤ℤ item.cap
      top = omega (arith, ints, lt, positions_count item valid.regular.readable)

      near : (z : ℤ) → item.floor ≤ℤ z → z ≤ℤ item.cap → unsigned_abs z ≤ 1000000000
      near z low high = omega (arith, ints, low, high, valid.regular.readable.floor.least, valid.regular.readable.cap.most)

      lacks : greatest_of (lead_demand item) ≤ (item.lead + 1) * greatest_of item.law
      lacks = omega (arith, (lead_is item 1).width, greatest_sum_laws_from (λ s. item.law) (greatest_of item.law) 1 (suc item.lead) (λ s. omega arith))

      charged : ℕ
      charged = item.holding * above_zero (at_place item k) + item.stockout * above_zero (pos (greatest_of (lead_demand item)) -ℤ at_place item k)

      charge : item.holding * above_zero (at_place item k) + item.stockout * above_zero (pos (greatest_of (lead_demand item)) -ℤ at_place item k) ≤ average_cost_bound item
      charge =
          let left = above_zero_mono (at_place item k) item.cap top in
          let lacking = above_zero_mono (pos (greatest_of (lead_demand item)) -ℤ at_place item k) (pos ((item.lead + 1) * greatest_of item.law) -ℤ item.floor) (less (greatest_of (lead_demand item)) ((item.lead + 1) * greatest_of item.law) item.floor lacks) in
          omega (arith, mul-le-mul_left item.holding left, mul-le-mul_left item.stockout lacking)
        where
          less : (a b : ℕ) (floor : ℤ) → a ≤ b → (pos a -ℤ (floor +ℤ pos k)) ≤ℤ (pos b -ℤ floor)
          less a b floor le = omega (arith, ints, le)

      cost : sum item.law ^ suc item.lead * (item.holding * above_zero (at_place item k) + item.stockout * above_zero (pos (greatest_of (lead_demand item)) -ℤ at_place item k)) ≤ 2 ^ 119
      cost =
          let unit : sum item.law ^ suc item.lead ≤ greatest_den item n =
          let power = one-le-pow (n - 1) (sum (moving item.law)) (omega (arith, moving_some item.law valid.regular.has_demand)) in
          omega (arith, mul-le (sum item.law ^ suc item.lead) 1 (n * sum item.law ^ suc item.lead) (sum (moving item.law) ^ (n - 1)) (omega (arith, mul-le 1 (sum item.law ^ suc item.lead) n (sum item.law ^ suc item.lead) (average_positions_some item valid.regular.readable) (omega arith))) power) in
          line_fits (sum item.law ^ suc item.lead * charged) (omega (arith, mul-le (sum item.law ^ suc item.lead) charged (greatest_den item n) (item.setup + average_cost_bound item) unit (omega (arith, charge))))

  -- the cost of a place is small
  pub stock_small : (k : ℕ) → k < n → stock_sum item (at_place item k) ≤ 2 ^ 119
  stock_small k lt =
      let power = one-le-pow (n - 1) (sum (moving item.law)) (omega (arith, moving_some item.law valid.regular.has_demand)) in
      let unit : sum item.law ^ suc item.lead ≤ greatest_den item n =
      omega (arith, mul-le (sum item.law ^ suc item.lead) 1 (n * sum item.law ^ suc item.lead) (sum (moving item.law) ^ (n - 1)) (omega (arith, mul-le 1 (sum item.law ^ suc item.lead) n (sum item.law ^ suc item.lead) (average_positions_some item valid.regular.readable) (omega arith))) power) in
      line_fits _ (omega (arith, stock_most item n (positions_count item valid.regular.readable) k lt, mul-le (average_cost_bound item - 1) (sum item.law ^ suc item.lead) (item.setup + average_cost_bound item) (greatest_den item n) (omega arith) unit))

  -- so is the sum of the weights above 0 with one more factor
  pub next_power : (k : ℕ) → suc k < n → sum (moving item.law) ^ k * sum (moving item.law) ≤ 2 ^ 119
  next_power k lt = omega (arith, power_fits (suc k) lt, pow-suc (sum (moving item.law)) k)

  -- a walk has room at the floor
  pub room_first : (weights : List ℕ) → weights ≡ lead_demand item → HasRoom item.holding item.stockout weights (to_z w64 (of_z w64 item.floor))
  room_first weights e =
      let room = has_room 0 (omega (arith, average_positions_some item valid.regular.readable)) in
      let floor : at_place item 0 ≡ item.floor = omega (arith, ints) in
      let back = near_back item.floor (near item.floor valid.regular.readable.floor.least valid.regular.readable.floor.most) in
      rw (e, back) (subst (λ (y : ℤ). HasRoom item.holding item.stockout (lead_demand item) y) floor room)
    where
      near : (z : ℤ) → least_position ≤ℤ z → z ≤ℤ most_position → unsigned_abs z ≤ 1000000000
      near z low high = omega (arith, ints, low, high)
