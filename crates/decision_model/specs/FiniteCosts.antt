-- What a finite horizon allows and what its periods cost: each position may stay, and no period costs less than 0 or as much as the cost bound.
use Rattle.std.proofs.Common.{◌≡◌, ℕ, suc, ◌+◌, ◌-◌, ◌*◌, ◌≤◌, ℤ, pos, ◌+ℤ◌, ◌-ℤ◌, ◌*ℤ◌, ◌≤ℤ◌, ◌<ℤ◌, IsTrue, Bool, true, false, if◌then◌else◌, List, sum, take, ap, arith, mul-le-mul_left}
use Rattle.std.specs.Prelude.{int_le, int_lt}
use Rattle.std.specs.Int.{int_min}
use Rattle.std.specs.Int.Signed.{≤ℤ_refl}
use Rattle.std.proofs.lemmas.Bool.{and_parts, and_from}
use Rattle.std.proofs.lemmas.Int.{ints}
use Rattle.std.proofs.lemmas.List.{take_all}
use Rattle.std.proofs.lemmas.Nat.{mul-le}
use Rattle.demand_law.specs.Integers as Z
use Rattle.demand_law.specs.SequenceSums.{length-sequence, length-laws_from, sum_sequence, greatest_sum_laws_from}
use Rattle.demand_law.specs.Sequences.{IsSequence, laws_from, greatest_in}
use Rattle.decision_model.specs.declared.finite.Finite.{Finite}
use Rattle.decision_model.specs.Finite.{finite_low, finite_positions, finite_most_lacking, finite_cost_bound}
use Rattle.decision_model.specs.FiniteProblem.{law_of_period, setup_of, order_cost, stock_cost_at, top, finite_problem}
use Rattle.decision_model.specs.FiniteSound.{IsSoundFinite, up_to_cap, up_to_from}
use Rattle.decision_model.specs.Positions.{above_zero, low_after}
use Rattle.decision_model.specs.PositionTests.{le_test, le_known, above_zero_least, above_zero_mono}
use Rattle.decision_model.specs.Stock.{cost_at}

-- ---- costs on plain numbers
-- an order's setup cost is at least 0
pub setup_least : (setup : ℕ) (x y : ℤ) → pos 0 ≤ℤ setup_of setup x y
setup_least setup x y = by (int_lt x y)
  where
    by : (b : Bool) → pos 0 ≤ℤ (if b then pos setup else pos 0)
    by true = omega (arith, ints)
    by false = omega (arith, ints)

-- .. and at most the setup cost of an order
pub setup_most : (setup : ℕ) (x y : ℤ) → setup_of setup x y ≤ℤ pos setup
setup_most setup x y = by (int_lt x y)
  where
    by : (b : Bool) → (if b then pos setup else pos 0) ≤ℤ pos setup
    by true = omega (arith, ints)
    by false = omega (arith, ints)

-- a cost of stock is at most that of the most that is left and the most that lacks
cost_at_most : (over under left lacking : ℕ) (y : ℤ) (d : ℕ) → (y -ℤ pos d) ≤ℤ pos left → (pos d -ℤ y) ≤ℤ pos lacking → cost_at over under y d ≤ over * left + under * lacking
cost_at_most over under left lacking y d kept missed =
    omega (arith, mul-le-mul_left over (above_zero_mono (y -ℤ pos d) (pos left) kept), mul-le-mul_left under (above_zero_mono (pos d -ℤ y) (pos lacking) missed))

-- later low ends are no higher
low_falls : (start : ℤ) (m p q : ℕ) → p ≤ q → low_after start m q ≤ℤ low_after start m p
low_falls start m p q le = falls (int_min start (pos 0)) (p * m) (q * m) (mul-le p m q m le (omega arith))
  where
    falls : (base : ℤ) (a b : ℕ) → a ≤ b → (base -ℤ pos b) ≤ℤ (base -ℤ pos a)
    falls base a b le = omega (arith, ints, le)

module _ (finite : Finite) (sound : IsSoundFinite finite) where
  -- the low end of the last grid is the lowest
  pub above_last : (t : ℕ) → t ≤ suc finite.periods → finite_low finite (finite.periods + 1) ≤ℤ finite_low finite t
  above_last t le = low_falls finite.start (greatest_in finite.laws) (t - 1) (finite.periods + 1 - 1) (omega (arith, le))

  -- how far apart positions of the grid are
  pub width_is : (x y : ℤ) → finite_low finite (finite.periods + 1) ≤ℤ x → x ≤ℤ y → y ≤ℤ finite.cap → (y -ℤ x) ≤ℤ pos (finite_positions finite)
  unfolding finite_positions
  width_is x y from above to = apart (finite_low finite (finite.periods + 1)) from
    where
      apart : (low : ℤ) → low ≤ℤ x → (y -ℤ x) ≤ℤ pos (above_zero (finite.cap -ℤ low +ℤ pos 1))
      apart low h = omega (arith, ints, h, above, to, above_zero_least (finite.cap -ℤ low +ℤ pos 1))

  -- what stock of a period costs at most
  abbrev pub stock_most : ℕ
  stock_most = finite.holding * above_zero finite.cap + finite.stockout * finite_most_lacking finite

  -- the cost of stock is at most that
  pub stock_within : (y : ℤ) (e : ℕ) → finite_low finite (finite.periods + 1) ≤ℤ y → y ≤ℤ finite.cap → e ≤ (finite.lead + 1) * greatest_in finite.laws → stock_cost_at finite y e ≤ℤ pos stock_most
  stock_within y e from to le =
      let bound = cost_at_most finite.holding finite.stockout (above_zero finite.cap) (finite_most_lacking finite) y e
      (omega (arith, ints, to, above_zero_least finite.cap)) (lacks (finite_low finite (finite.periods + 1)) ((finite.lead + 1) * greatest_in finite.laws) from le) in
      omega (arith, ints, bound)
    where
      lacks : (low : ℤ) (most : ℕ) → low ≤ℤ y → e ≤ most → (pos e -ℤ y) ≤ℤ pos (above_zero (pos most -ℤ low))
      lacks low most h le = omega (arith, ints, h, le, above_zero_least (pos most -ℤ low))

  -- an order costs at least 0
  pub order_least : (x y : ℤ) → x ≤ℤ y → pos 0 ≤ℤ order_cost finite x y
  order_least x y above =
      let bought = Z.weight_mono finite.unit (pos 0) (y -ℤ x) (omega (arith, ints, above)) in
      omega (arith, ints, setup_least finite.setup x y, bought, Z.mul_zero (pos finite.unit))

  -- and at most its setup cost and that of as many units as the grid has positions
  pub order_within : (x y : ℤ) → finite_low finite (finite.periods + 1) ≤ℤ x → x ≤ℤ y → y ≤ℤ finite.cap → order_cost finite x y ≤ℤ pos (finite.setup + finite.unit * finite_positions finite)
  order_within x y from above to =
      let bought = Z.weight_mono finite.unit (y -ℤ x) (pos (finite_positions finite)) (width_is x y from above to) in
      whole finite.setup finite.unit (finite_positions finite) (setup_of finite.setup x y) (y -ℤ x) (setup_most finite.setup x y) bought
    where
      whole : (setup unit most : ℕ) (order units : ℤ) → order ≤ℤ pos setup → (pos unit *ℤ units) ≤ℤ (pos unit *ℤ pos most) → (order +ℤ pos unit *ℤ units) ≤ℤ pos (setup + unit * most)
      whole setup unit most order units first second = omega (arith, ints, first, second)

  -- ---- laws of the problem
  -- a position of the grid may stay
  pub stay_allowed : (t : ℕ) (x : ℤ) → IsTrue ((finite_problem finite).grid t x) → IsTrue ((finite_problem finite).allows t x x)
  stay_allowed t x on =
      let within = and_parts (int_le (finite_low finite t) x) (int_le x finite.cap) on in
      and_from (int_le x x) (int_le x (top finite x)) (le_test x x (≤ℤ_refl x)) (le_test x (top finite x) (up_to_from finite.most finite.cap x (le_known x finite.cap within.1)))

  -- the demands until an order has come add up to at most the greatest of each period
  lead_sum_most : (t : ℕ) (ds : List ℕ) → IsSequence (laws_from (law_of_period finite) t (suc finite.lead)) ds → sum (take (suc finite.lead) ds) ≤ (finite.lead + 1) * greatest_in finite.laws
  lead_sum_most t ds s =
      let laws = laws_from (law_of_period finite) t (suc finite.lead) in
      let all : take (suc finite.lead) ds ≡ ds = take_all (suc finite.lead) ds (omega (arith, length-sequence laws ds s, length-laws_from (law_of_period finite) t (suc finite.lead))) in
      let most = greatest_sum_laws_from (law_of_period finite) (greatest_in finite.laws) t (suc finite.lead) (λ s. omega (arith, sound.within s)) in
      omega (arith, ap sum all, sum_sequence laws ds s, most)

  -- no period costs less than 0
  pub cost_least : (t : ℕ) (x y : ℤ) (ds : List ℕ) → IsTrue ((finite_problem finite).allows t x y) → pos 0 ≤ℤ (finite_problem finite).cost t x y ds
  cost_least t x y ds ok =
      let up = and_parts (int_le x y) (int_le y (top finite x)) ok in
      omega (arith, ints, order_least x y (le_known x y up.0))

  -- and each costs less than the cost bound
  pub cost_below : (t : ℕ) (x y : ℤ) (ds : List ℕ) → t ≤ finite.periods → IsTrue ((finite_problem finite).grid t x) → IsTrue ((finite_problem finite).allows t x y) → IsSequence (laws_from (law_of_period finite) t (suc finite.lead)) ds → (finite_problem finite).cost t x y ds <ℤ pos (finite_cost_bound finite)
  unfolding finite_cost_bound
  cost_below t x y ds le on ok s =
      let within = and_parts (int_le (finite_low finite t) x) (int_le x finite.cap) on in
      let up = and_parts (int_le x y) (int_le y (top finite x)) ok in
      let last = finite_low finite (finite.periods + 1) in
      let from : last ≤ℤ x = Z.le_trans last (finite_low finite t) x (above_last t (omega (arith, le))) (le_known (finite_low finite t) x within.0) in
      let above = le_known x y up.0 in
      let to : y ≤ℤ finite.cap = Z.le_trans y (top finite x) finite.cap (le_known y (top finite x) up.1) (up_to_cap finite.most finite.cap x) in
      let order = order_within x y from above to in
      let stock = stock_within y (sum (take (suc finite.lead) ds)) (Z.le_trans last x y from above) to (lead_sum_most t ds s) in
      both finite.setup (finite.unit * finite_positions finite) (finite.holding * above_zero finite.cap) (finite.stockout * finite_most_lacking finite) ((finite.end_holding + finite.end_stockout) * finite_positions finite) (order_cost finite x y) (stock_cost_at finite y (sum (take (suc finite.lead) ds))) order stock
    where
      both : (s u h k e : ℕ) (order stock : ℤ) → order ≤ℤ pos (s + u) → stock ≤ℤ pos (h + k) → (order +ℤ stock) <ℤ pos (1 + s + u + h + k + e)
      both s u h k e order stock first second = omega (arith, ints, first, second)
