-- What holds of the average kind as a decision problem: some order is allowed, and no period costs less than 0 or as much
-- as the setup cost and the cost bound.
use Rattle.std.proofs.Common.{◌≡◌, ℕ, suc, ◌+◌, ◌*◌, ◌<◌, ◌≤◌, ℤ, pos, ◌-ℤ◌, ◌≤ℤ◌, ◌<ℤ◌, IsTrue, Bool, true, false, if◌then◌else◌, List, [], ◌∷◌, length, map, sum, take, ap, arith, mul-le-mul_left, ◌&&◌}
use Rattle.std.specs.Prelude.{int_le, int_lt}
use Rattle.std.specs.Int.{int_min}
use Rattle.std.specs.Int.Signed.{≤ℤ_refl}
use Rattle.std.proofs.lemmas.Bool.{and_parts, and_from}
use Rattle.std.proofs.lemmas.Int.{ints, clamps}
use Rattle.std.proofs.lemmas.List.{take_all}
use Rattle.demand_law.specs.Law.{greatest_of}
use Rattle.demand_law.specs.SequenceSums.{length-sequence, length-laws_from, sum_sequence, greatest_sum_laws_from}
use Rattle.demand_law.specs.Sequences.{IsSequence, laws_from}
use Rattle.decision_model.specs.declared.average.Average.{Average}
use Rattle.decision_model.specs.Average.{IsReadableAverage, average_most_lacking, average_cost_bound}
use Rattle.decision_model.specs.AverageProblem.{order_charge, stock_charge, lowest_state, average_problem}
use Rattle.decision_model.specs.Bounds.{IsOnGrid}
use Rattle.decision_model.specs.Listed.{position, listed, AreWithin}
use Rattle.decision_model.specs.ListedLaws.{one_within, one_steps, grid_position, allowed_position, listed_on_grid}
use Rattle.decision_model.specs.Policies.{Problem}
use Rattle.decision_model.specs.Positions.{above_zero}
use Rattle.decision_model.specs.PositionTests.{le_test, le_known, above_zero_least, above_zero_mono}
use Rattle.decision_model.specs.Stock.{cost_at}

-- some number of periods from a start, told over lists of one position
abbrev pub average_meaning : Average → ℕ → ℤ → Problem (List ℤ)
average_meaning average periods start = listed (average_problem average periods start)

-- a readable instance, and a start at or below its cap
pub record IsRegularRun (average : Average) (start : ℤ) : Type 0 where
  pub readable : IsReadableAverage average
  pub start_below : start ≤ℤ average.cap

-- a position of the floor at least, less a demand, is no lower than the lowest state
above_lowest : (start floor y : ℤ) (m d : ℕ) → d ≤ m → floor ≤ℤ y → int_min start (floor -ℤ pos m) ≤ℤ (y -ℤ pos d)
above_lowest start floor y m d le above = omega (arith, ints, clamps, le, above)

-- the start is no lower either
start_above : (start other : ℤ) → int_min start other ≤ℤ start
start_above start other = omega (arith, ints, clamps)

-- a demand leads to no higher position
demand_below : (y cap : ℤ) (d : ℕ) → y ≤ℤ cap → (y -ℤ pos d) ≤ℤ cap
demand_below y cap d below = omega (arith, ints, below)

-- what an allowed order is
pub record IsOrder (average : Average) (x y : ℤ) : Type 0 where
  pub up : x ≤ℤ y
  pub from : average.floor ≤ℤ y
  pub to : y ≤ℤ average.cap

-- an order is allowed where it leads no lower, and to the grid
pub order_allowed : (average : Average) (periods t : ℕ) (start x y : ℤ) → IsOrder average x y → IsTrue ((average_problem average periods start).allows t x y)
order_allowed average periods t start x y is =
    and_from (int_le x y) (int_le average.floor y && int_le y average.cap) (le_test x y is.up)
    (and_from (int_le average.floor y) (int_le y average.cap) (le_test average.floor y is.from) (le_test y average.cap is.to))

-- .. and only there
pub allowed_order : (average : Average) (periods t : ℕ) (start x y : ℤ) → IsTrue ((average_problem average periods start).allows t x y) → IsOrder average x y
allowed_order average periods t start x y ok =
    let up = and_parts (int_le x y) (int_le average.floor y && int_le y average.cap) ok in
    let within = and_parts (int_le average.floor y) (int_le y average.cap) up.1 in
    record { up = le_known x y up.0; from = le_known average.floor y within.0; to = le_known y average.cap within.1 }

-- allowed orders lead from grid to grid
pub average_on_grid : (average : Average) (periods : ℕ) (start : ℤ) → start ≤ℤ average.cap → IsOnGrid (average_problem average periods start)
average_on_grid average periods start below = record {
  start = and_from (int_le (lowest_state average start) start) (int_le start average.cap) (le_test (lowest_state average start) start (start_above start (average.floor -ℤ pos (greatest_of average.law)))) (le_test start average.cap below);
  next = next;
}
  where
    next : (t d : ℕ) (x y : ℤ) → 1 ≤ t → IsTrue ((average_problem average periods start).grid t x) → IsTrue ((average_problem average periods start).allows t x y) → d < length average.law → IsTrue ((average_problem average periods start).grid (suc t) (y -ℤ pos d))
    next t d x y pt on ok lt =
        let order = allowed_order average periods t start x y ok in
        and_from (int_le (lowest_state average start) (y -ℤ pos d)) (int_le (y -ℤ pos d) average.cap)
        (le_test (lowest_state average start) (y -ℤ pos d) (above_lowest start average.floor y (greatest_of average.law) d (omega (arith, lt)) order.from))
        (le_test (y -ℤ pos d) average.cap (demand_below y average.cap d order.to))

-- ---- costs
-- a cost of stock is at most that of the most that is left and the most that lacks
charge_most : (over under left lacking : ℕ) (y : ℤ) (d : ℕ) → (y -ℤ pos d) ≤ℤ pos left → (pos d -ℤ y) ≤ℤ pos lacking → cost_at over under y d ≤ over * left + under * lacking
charge_most over under left lacking y d kept missed =
    omega (arith, mul-le-mul_left over (above_zero_mono (y -ℤ pos d) (pos left) kept), mul-le-mul_left under (above_zero_mono (pos d -ℤ y) (pos lacking) missed))

-- an order costs at most the setup cost
pub order_charge_most : (average : Average) (x y : ℤ) → order_charge average x y ≤ average.setup
unfolding order_charge
order_charge_most average x y = by (int_lt x y)
  where
    by : (b : Bool) → (if b then average.setup else 0) ≤ average.setup
    by true = omega arith
    by false = omega arith

-- the stock of a position of the grid costs less than the cost bound, at demands of the law until an order has come
pub stock_charge_below : (average : Average) (y : ℤ) (e : ℕ) → average.floor ≤ℤ y → y ≤ℤ average.cap → e ≤ (average.lead + 1) * greatest_of average.law → stock_charge average y e < average_cost_bound average
unfolding stock_charge average_cost_bound
stock_charge_below average y e from to le =
    let bound = charge_most average.holding average.stockout (above_zero average.cap) (average_most_lacking average) y e
    (omega (arith, ints, to, above_zero_least average.cap)) (lacks average.floor ((average.lead + 1) * greatest_of average.law) from le) in
    omega (arith, bound)
  where
    lacks : (low : ℤ) (most : ℕ) → low ≤ℤ y → e ≤ most → (pos e -ℤ y) ≤ℤ pos (above_zero (pos most -ℤ low))
    lacks low most h le = omega (arith, ints, h, le, above_zero_least (pos most -ℤ low))

-- demands of the law until an order has come add up to at most the greatest of each period
pub lead_demand_most : (average : Average) (t : ℕ) (ds : List ℕ) → IsSequence (laws_from (λ s. average.law) t (suc average.lead)) ds → sum (take (suc average.lead) ds) ≤ (average.lead + 1) * greatest_of average.law
lead_demand_most average t ds s =
    let laws = laws_from (λ s. average.law) t (suc average.lead) in
    let all : take (suc average.lead) ds ≡ ds = take_all (suc average.lead) ds (omega (arith, length-sequence laws ds s, length-laws_from (λ s. average.law) t (suc average.lead))) in
    let most = greatest_sum_laws_from (λ s. average.law) (greatest_of average.law) t (suc average.lead) (λ s. omega arith) in
    omega (arith, ap sum all, sum_sequence laws ds s, most)

-- ---- over lists of one position
module _ (average : Average) (periods : ℕ) (start : ℤ) (regular : IsRegularRun average start) where
  -- an allowed order leads to the grid
  pub run_on_grid : IsOnGrid (average_meaning average periods start)
  run_on_grid = listed_on_grid (average_problem average periods start) (average_on_grid average periods start regular.start_below)

  -- the position is from the lowest state to the cap
  pub run_within : (t : ℕ) (state : List ℤ) → IsTrue ((average_meaning average periods start).grid t state) → AreWithin (lowest_state average start) average.cap 1 state
  run_within t state on =
      let one = grid_position (average_problem average periods start) t state on in
      let within = and_parts (int_le (lowest_state average start) (position state)) (int_le (position state) average.cap) one.1 in
      one_within (lowest_state average start) average.cap state one.0 (le_known (lowest_state average start) (position state) within.0) (le_known (position state) average.cap within.1)

  -- an order steps as its position does
  pub run_steps : (t : ℕ) (state choice : List ℤ) (d : ℕ) → IsTrue ((average_meaning average periods start).allows t state choice) → (average_meaning average periods start).next state choice d ≡ map (λ y. y -ℤ pos d) choice
  run_steps t state choice d ok = one_steps choice d (allowed_position (average_problem average periods start) t state choice ok).0

  -- each position may order up to the cap
  pub run_choice : (t : ℕ) (state : List ℤ) → IsTrue ((average_meaning average periods start).grid t state) → (choice : List ℤ) × IsTrue ((average_meaning average periods start).allows t state choice)
  run_choice t state on =
      let one = grid_position (average_problem average periods start) t state on in
      let within = and_parts (int_le (lowest_state average start) (position state)) (int_le (position state) average.cap) one.1 in
      (average.cap ∷ [], order_allowed average periods t start (position state) average.cap (record { up = le_known (position state) average.cap within.1; from = regular.readable.floor_below; to = ≤ℤ_refl average.cap }))

  -- no period costs less than 0
  pub run_cost_least : (t : ℕ) (state choice : List ℤ) (ds : List ℕ) → pos 0 ≤ℤ (average_meaning average periods start).cost t state choice ds
  run_cost_least t state choice ds = omega (arith, ints)

  -- each costs less than the setup cost and the cost bound
  pub run_cost_below : (t : ℕ) (state choice : List ℤ) (ds : List ℕ) → IsTrue ((average_meaning average periods start).allows t state choice) → IsSequence (laws_from (λ s. average.law) t (suc average.lead)) ds → (average_meaning average periods start).cost t state choice ds <ℤ pos (average.setup + average_cost_bound average)
  run_cost_below t state choice ds ok s =
      let order = allowed_order average periods t start (position state) (position choice) (allowed_position (average_problem average periods start) t state choice ok).1 in
      let charge = order_charge_most average (position state) (position choice) in
      let stock = stock_charge_below average (position choice) (sum (take (suc average.lead) ds)) order.from order.to (lead_demand_most average t ds s) in
      omega (arith, ints, charge, stock)
