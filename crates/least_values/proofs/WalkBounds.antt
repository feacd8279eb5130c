-- What a step takes fits, where the position's numbers do.
use Rattle.std.proofs.Common.{◌≡◌, ℕ, zero, suc, ◌+◌, ◌-◌, ◌*◌, ◌^◌, ◌<◌, ◌≤◌, ℤ, pos, negsuc, ◌+ℤ◌, ◌-ℤ◌, ◌≤ℤ◌, refl, ap, arith, List, length, sum, take, slice_index}
use Rattle.std.proofs.Math.Nat.{mul-le-mul_left}
use Rattle.std.proofs.lemmas.Int.{ints}
use Rattle.std.proofs.lemmas.List.{take_all}
use Rattle.std.proofs.lemmas.List.Sums.{sum_by-take-le}
use Rattle.demand_law.specs.Law.{greatest_of}
use Rattle.demand_law.specs.WeightedSums.{weighted_most, weighted_nonnegative, weighted_more, weighted_front}
use Rattle.model_terms.specs.Positions.{above_zero}
use Rattle.least_values.specs.Stock.{cost_at, stock_cost, upto, HasRoom, AreWeights}

-- ---- numbers above 0
none_above : (a : ℤ) → above_zero a ≡ 0 → a ≤ℤ pos 0
none_above (pos n) e = omega (arith, ints)
none_above (negsuc n) e = omega (arith, ints)

at_least : (a : ℤ) (n : ℕ) → pos n ≤ℤ a → n ≤ above_zero a
at_least (pos m) n h = omega (arith, ints)
at_least (negsuc m) n h = omega (arith, ints)

above_mono : (a b : ℤ) → a ≤ℤ b → above_zero a ≤ above_zero b
above_mono (pos m) (pos n) h = omega (arith, ints)
above_mono (pos m) (negsuc n) h = omega (arith, ints)
above_mono (negsuc m) b h = omega arith

-- ---- products
left_small : (over under total part a b c : ℕ) → part ≤ total → 1 ≤ a → total * (over * a + under * b) ≤ c → over * part ≤ c
left_small over under total part a b c le some small =
    let one : over * 1 ≤ over * a = mul-le-mul_left over some in
    let whole : total * over ≤ total * (over * a + under * b) = mul-le-mul_left total (omega arith) in
    let some_part : over * part ≤ over * total = mul-le-mul_left over le in
    omega arith

lacks_small : (over under total part a b c : ℕ) → part ≤ total → 1 ≤ b → total * (over * a + under * b) ≤ c → under * part ≤ c
lacks_small over under total part a b c le some small =
    let one : under * 1 ≤ under * b = mul-le-mul_left under some in
    let whole : total * under ≤ total * (over * a + under * b) = mul-le-mul_left total (omega arith) in
    let some_part : under * part ≤ under * total = mul-le-mul_left under le in
    omega arith

-- ---- the weights up to a position
pub upto_le : (ws : List ℕ) (y : ℤ) → upto ws y ≤ sum ws
upto_le ws y = sum_by-take-le (λ w. w) ws (above_zero (y +ℤ pos 1))

pub left_fits : (over under : ℕ) (ws : List ℕ) (y : ℤ) → HasRoom over under ws (y +ℤ pos 1) → over * upto ws y ≤ 2 ^ 126
left_fits over under ws y room = by (above_zero (y +ℤ pos 1)) refl
  where
    by : (n : ℕ) → above_zero (y +ℤ pos 1) ≡ n → over * upto ws y ≤ 2 ^ 126
    by zero e = let none : upto ws y ≡ 0 = ap (λ n. sum (take n ws)) e in rw none (omega arith)
    by (suc n) e = left_small over under (sum ws) (upto ws y) (above_zero (y +ℤ pos 1)) (above_zero (pos (greatest_of ws) -ℤ (y +ℤ pos 1))) (2 ^ 126) (upto_le ws y) (omega (arith, e)) room.small

pub lacks_fits : (over under : ℕ) (ws : List ℕ) (y : ℤ) → AreWeights ws → HasRoom over under ws y → under * (sum ws - upto ws y) ≤ 2 ^ 126
lacks_fits over under ws y weights room = by (above_zero (pos (greatest_of ws) -ℤ y)) refl
  where
    by : (n : ℕ) → above_zero (pos (greatest_of ws) -ℤ y) ≡ n → under * (sum ws - upto ws y) ≤ 2 ^ 126
    by zero e =
        let most = none_above (pos (greatest_of ws) -ℤ y) e in
        let past : length ws ≤ above_zero (y +ℤ pos 1) = at_least (y +ℤ pos 1) (length ws) (omega (arith, ints, most, weights.some)) in
        let all : upto ws y ≡ sum ws = ap sum (take_all (above_zero (y +ℤ pos 1)) ws past) in
        let none : sum ws - upto ws y ≡ 0 = omega (arith, all) in
        rw none (omega arith)
    by (suc n) e = lacks_small over under (sum ws) (sum ws - upto ws y) (above_zero y) (above_zero (pos (greatest_of ws) -ℤ y)) (2 ^ 126) (omega arith) (omega (arith, e)) room.small

-- ---- the cost
pub cost_at_most : (over under : ℕ) (ws : List ℕ) (y : ℤ) (d : ℕ) → d < length ws → cost_at over under y d ≤ over * above_zero y + under * above_zero (pos (greatest_of ws) -ℤ y)
cost_at_most over under ws y d lt =
    let left = mul-le-mul_left over (above_mono (y -ℤ pos d) y (omega (arith, ints))) in
    let lacks = mul-le-mul_left under (above_mono (pos d -ℤ y) (pos (greatest_of ws) -ℤ y) (omega (arith, ints, lt))) in
    omega (arith, left, lacks)

pub cost_least : (over under : ℕ) (ws : List ℕ) (y : ℤ) → pos 0 ≤ℤ stock_cost over under ws y
unfolding stock_cost
cost_least over under ws y = weighted_nonnegative ws (λ d. pos (cost_at over under y d)) (λ d lt. omega (arith, ints))

pub cost_most : (over under : ℕ) (ws : List ℕ) (y : ℤ) → HasRoom over under ws y → stock_cost over under ws y ≤ℤ pos (2 ^ 126)
unfolding stock_cost
cost_most over under ws y room =
    let most = over * above_zero y + under * above_zero (pos (greatest_of ws) -ℤ y) in
    let le = weighted_most ws (λ d. pos (cost_at over under y d)) (pos most) (λ d lt. omega (arith, ints, cost_at_most over under ws y d lt)) in
    omega (arith, ints, le, room.small)

-- the cost over the first demands, and one more
pub cost_next : (over under : ℕ) (ws : List ℕ) (y : ℤ) (d cost at_demand : ℕ) → d < length ws → pos cost ≡ stock_cost over under (take d ws) y → at_demand ≡ cost_at over under y d
    → pos (cost + slice_index ws d * at_demand) ≡ stock_cost over under (take (d + 1) ws) y
unfolding stock_cost
cost_next over under ws y d cost at_demand lt is told =
    let more = weighted_more ws d (λ k. pos (cost_at over under y k)) lt in
    omega (arith, ints, more, is, ap (λ k. slice_index ws d * k) told)

pub cost_front : (over under : ℕ) (ws : List ℕ) (y : ℤ) (k : ℕ) → stock_cost over under (take k ws) y ≤ℤ stock_cost over under ws y
unfolding stock_cost
cost_front over under ws y k = weighted_front ws k (λ d. pos (cost_at over under y d)) (λ d. omega (arith, ints))
