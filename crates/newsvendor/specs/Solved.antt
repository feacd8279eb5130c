-- The first level of least cost exists, and it is the first one that reaches the critical ratio.
use Rattle.std.proofs.Common.{◌≡◌, ℕ, ◌+◌, ◌-◌, ◌*◌, ◌<◌, ◌≤◌, pos, ◌*ℤ◌, ◌≤ℤ◌, List, length, sum, arith, ap, subst}
use Rattle.std.proofs.lemmas.Int.{ints}
use Rattle.std.proofs.lemmas.List.{take_all}
use Rattle.demand_law.specs.Law.{weighted, upto_of}
use Rattle.demand_law.specs.WeightedSums.{weighted-mono, weighted-zero}
use Rattle.newsvendor.specs.Cost.{mismatch_cost, level_cost}
use Rattle.newsvendor.specs.Item.{NewsvendorItem, IsNewsvendor}
use Rattle.newsvendor.specs.Least.{first_least_upto}
use Rattle.newsvendor.specs.Level.{cost_of, LeastLevel}
use Rattle.newsvendor.specs.CriticalRatio.{up, level_step, cost_most}
use Rattle.newsvendor.specs.FirstLeast.{first_by_search, search_within}

-- all weights lie up to a level past the law
pub upto_all : (law : List ℕ) (k : ℕ) → length law ≤ k + 1 → upto_of law k ≡ sum law
upto_all law k h = ap sum (take_all (k + 1) law h)

-- past the law the cost doesn't fall
no_less_past : (item : NewsvendorItem) (k : ℕ) → length item.law ≤ k → cost_of item (length item.law) ≤ℤ cost_of item k
no_less_past item k past =
    let e : length item.law + (k - length item.law) ≡ k = omega arith in
    let h = up (cost_of item) (λ j. pos (item.holding + item.stockout) *ℤ pos (upto_of item.law j)) (pos (sum item.law) *ℤ pos item.stockout) (length item.law)
    (level_step item.holding item.stockout item.law) high (k - length item.law) in
    let P : ℕ → Type 0 = λ n. cost_of item (length item.law) ≤ℤ cost_of item n in
    subst P e h
  where
    high : (j : ℕ) → length item.law ≤ j → (pos (sum item.law) *ℤ pos item.stockout) ≤ℤ (pos (item.holding + item.stockout) *ℤ pos (upto_of item.law j))
    high j le = rw (upto_all item.law j (omega arith)) (omega (arith, ints))

-- the search up to the end of the law finds the first level of least cost
pub solved_is_least : (item : NewsvendorItem) → LeastLevel item (first_least_upto (cost_of item) (length item.law))
solved_is_least item = first_by_search (cost_of item) (length item.law) (λ k h. no_less_past item k h)

-- the first level of least cost reaches the ratio
pub reached_by_least : (item : NewsvendorItem) (q : ℕ) → LeastLevel item q → item.stockout * sum item.law ≤ (item.holding + item.stockout) * upto_of item.law q
reached_by_least item q h = omega (arith, ints, level_step item.holding item.stockout item.law q, h.least (q + 1))

-- and the level below doesn't
pub first_by_least : (item : NewsvendorItem) (k : ℕ) → LeastLevel item (k + 1) → (item.holding + item.stockout) * upto_of item.law k < item.stockout * sum item.law
first_by_least item k h = omega (arith, ints, level_step item.holding item.stockout item.law k, h.first k (omega arith))

-- ---- how large they are
pub solved_within : (item : NewsvendorItem) → first_least_upto (cost_of item) (length item.law) ≤ length item.law
solved_within item = search_within (cost_of item) (length item.law)

-- no cost is below 0
pub cost_not_negative : (item : NewsvendorItem) (q : ℕ) → pos 0 ≤ℤ cost_of item q
cost_not_negative item q =
    let each : weighted item.law (λ d. pos 0) ≤ℤ cost_of item q = weighted-mono item.law (λ d. pos 0) (λ d. pos (mismatch_cost item.holding item.stockout q d)) (λ d lt. omega (arith, ints)) in
    omega (arith, ints, each, weighted-zero item.law)

-- the cost of a level that isn't past the law by more than one
pub cost_small : (item : NewsvendorItem) (q : ℕ) → IsNewsvendor item → q ≤ 10001 → cost_of item q ≤ℤ pos 20002000000000000000
cost_small item q is small =
    let whole = take_all (length item.law) item.law (omega arith) in
    let most = cost_most item.holding item.stockout q (length item.law) item.law is.holding_in_range is.stockout_in_range small is.greatest_in_range is.total_in_range in
    let P : List ℕ → Type 0 = λ law. level_cost item.holding item.stockout law q ≤ℤ pos 20002000000000000000 in
    subst P whole most
