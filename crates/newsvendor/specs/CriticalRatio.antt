-- The cost falls while the weights are below the critical ratio, and doesn't fall afterwards.
use Rattle.std.proofs.Common.{◌≡◌, ℕ, zero, suc, ◌+◌, ◌-◌, ◌*◌, ◌<◌, ◌≤◌, ℤ, pos, ◌+ℤ◌, ◌*ℤ◌, ◌≤ℤ◌, ◌<ℤ◌, List, [], ◌∷◌, length, sum, take, slice_index, refl, sym, ◌∙◌, ap, arith, nat_lt, ◌⊎◌, inl, inr, if◌then◌else◌}
use Rattle.std.proofs.lemmas.Int.{ints}
use Rattle.std.proofs.lemmas.Bool.{cases_lt}
use Rattle.std.proofs.lemmas.Bool.Decides.{nat_tests}
use Rattle.std.proofs.Math.Nat.{mul-le-mul_left}
use Rattle.std.proofs.lemmas.Nat.{mul-le}
use Rattle.std.proofs.lemmas.List.{take-take}
use Rattle.std.proofs.lemmas.List.Sums.{sum_by-take-le}
use Rattle.demand_law.specs.Law.{weighted, upto_of}
use Rattle.demand_law.specs.WeightedSums.{sum-cons, weighted-ext, weighted-add, weighted-scale, weighted-const, weighted-zero, weighted-mono, weighted_more}
use Rattle.newsvendor.specs.Cost.{mismatch_cost, level_cost}
use Rattle.newsvendor.specs.Least.{IsFirstLeast}

-- ---- any cost of levels whose steps are known: cost (k + 1) − cost k is gain k − bound

pub up : (cost gain : ℕ → ℤ) (bound : ℤ) (q : ℕ) → ((k : ℕ) → cost (k + 1) +ℤ bound ≡ cost k +ℤ gain k) → ((k : ℕ) → q ≤ k → bound ≤ℤ gain k) → (n : ℕ) → cost q ≤ℤ cost (q + n)
up cost gain bound q step high zero = let e : q + 0 ≡ q = omega arith in rw e (omega (arith, ints))
up cost gain bound q step high (suc n) =
    let e : q + suc n ≡ q + n + 1 = omega arith in
    let h = up cost gain bound q step high n in
    rw e (omega (arith, ints, step (q + n), high (q + n) (omega arith), h))

down : (cost gain : ℕ → ℤ) (bound : ℤ) (q : ℕ) → ((k : ℕ) → cost (k + 1) +ℤ bound ≡ cost k +ℤ gain k) → ((k : ℕ) → k < q → gain k <ℤ bound) → (n k : ℕ) → k + suc n ≡ q → cost q <ℤ cost k
down cost gain bound q step low zero k e =
    let f : q ≡ k + 1 = omega arith in
    rw f (omega (arith, ints, step k, low k (omega arith)))
down cost gain bound q step low (suc n) k e =
    omega (arith, ints, step k, low k (omega arith), down cost gain bound q step low n (k + 1) (omega arith))

pub first_least : (cost gain : ℕ → ℤ) (bound : ℤ) (q : ℕ) → ((k : ℕ) → cost (k + 1) +ℤ bound ≡ cost k +ℤ gain k) → ((k : ℕ) → q ≤ k → bound ≤ℤ gain k) → ((k : ℕ) → k < q → gain k <ℤ bound) → IsFirstLeast cost q
first_least cost gain bound q step high low = record { least = least; first = first }
  where
    first : (k : ℕ) → k < q → cost q <ℤ cost k
    first k h = down cost gain bound q step low (q - k - 1) k (omega arith)

    least_at : (k : ℕ) → (k < q) ⊎ (q ≤ k) → cost q ≤ℤ cost k
    least_at k (inl h) = omega (arith, ints, first k h)
    least_at k (inr h) = let e : q + (k - q) ≡ k = omega arith in rw e at (up cost gain bound q step high (k - q))

    least : (k : ℕ) → cost q ≤ℤ cost k
    least k = least_at k (cases_lt k q)

-- ---- one level more costs holding where the demand is met, and saves stockout where it is not

-- 1 for the numbers below n
abbrev below : ℕ → ℕ → ℤ
below d n = if nat_lt d n then pos 1 else pos 0

weighted-below : (ws : List ℕ) (n : ℕ) → weighted ws (λ d. below d n) ≡ pos (sum (take n ws))
weighted-below [] zero = refl
weighted-below [] (suc n) = refl
weighted-below (w ∷ ws) zero = weighted-ext (w ∷ ws) _ _ (λ d. none d) ∙ weighted-zero (w ∷ ws)
  where
    none : (d : ℕ) → below d 0 ≡ pos 0
    none d = grind (arith, nat_tests)
weighted-below (w ∷ ws) (suc n) =
    let first : below 0 (suc n) ≡ pos 1 = grind (arith, nat_tests) in
    let later : weighted ws (λ d. below (suc d) (suc n)) ≡ pos (sum (take n ws)) = weighted-ext ws _ _ (λ d. same d) ∙ weighted-below ws n in
    let total = sum-cons w (take n ws) in
    omega (arith, ints, later, ap (λ z. pos w *ℤ z) first, ap pos total)
  where
    same : (d : ℕ) → below (suc d) (suc n) ≡ below d n
    same d = grind (arith, nat_tests)

mismatch_step : (holding stockout q d : ℕ) → pos (mismatch_cost holding stockout (q + 1) d) +ℤ pos stockout ≡ pos (mismatch_cost holding stockout q d) +ℤ pos (holding + stockout) *ℤ below d (q + 1)
mismatch_step holding stockout q d = by_side (cases_lt d (q + 1))
  where
    met : d < q + 1 → below d (q + 1) ≡ pos 1
    met h = grind (arith, nat_tests)

    lacking : q + 1 ≤ d → below d (q + 1) ≡ pos 0
    lacking h = grind (arith, nat_tests)

    by_side : (d < q + 1) ⊎ (q + 1 ≤ d) → pos (mismatch_cost holding stockout (q + 1) d) +ℤ pos stockout ≡ pos (mismatch_cost holding stockout q d) +ℤ pos (holding + stockout) *ℤ below d (q + 1)
    by_side (inl h) =
        let e1 : q + 1 - d ≡ q - d + 1 = omega arith in
        let e2 : d - (q + 1) ≡ 0 = omega arith in
        let e3 : d - q ≡ 0 = omega arith in
        rw (met h, e1, e2, e3) (omega (arith, ints))
    by_side (inr h) =
        let e1 : q + 1 - d ≡ 0 = omega arith in
        let e2 : d - q ≡ d - (q + 1) + 1 = omega arith in
        let e3 : q - d ≡ 0 = omega arith in
        rw (lacking h, e1, e2, e3) (omega (arith, ints))

pub level_step : (holding stockout : ℕ) (law : List ℕ) (q : ℕ) → level_cost holding stockout law (q + 1) +ℤ pos (sum law) *ℤ pos stockout ≡ level_cost holding stockout law q +ℤ pos (holding + stockout) *ℤ pos (upto_of law q)
level_step holding stockout law q =
    ap (λ z. level_cost holding stockout law (q + 1) +ℤ z) (sym (weighted-const law (pos stockout)))
    ∙ sym (weighted-add law _ _)
    ∙ weighted-ext law _ _ (λ d. mismatch_step holding stockout q d)
    ∙ weighted-add law _ _
    ∙ ap (λ z. level_cost holding stockout law q +ℤ z) (weighted-scale (pos (holding + stockout)) law (λ d. below d (q + 1)) ∙ ap (λ z. pos (holding + stockout) *ℤ z) (weighted-below law (q + 1)))

-- more weights lie up to a higher level
pub upto_rises : (law : List ℕ) (m n : ℕ) → m ≤ n → upto_of law m ≤ upto_of law n
upto_rises law m n h = let le : m + 1 ≤ n + 1 = omega arith in rw take-take at (sum_by-take-le (λ x. x) (take (n + 1) law) (m + 1))

-- the first level that reaches the critical ratio is the first of least cost
pub least_by_ratio : (holding stockout : ℕ) (law : List ℕ) (q : ℕ)
    → stockout * sum law ≤ (holding + stockout) * upto_of law q
    → ((k : ℕ) → k < q → (holding + stockout) * upto_of law k < stockout * sum law)
    → IsFirstLeast (level_cost holding stockout law) q
least_by_ratio holding stockout law q reached first =
    first_least (level_cost holding stockout law) (λ k. pos (holding + stockout) *ℤ pos (upto_of law k)) (pos (sum law) *ℤ pos stockout) q
    (level_step holding stockout law)
    (λ k h. omega (arith, ints, reached, mul-le-mul_left (holding + stockout) (upto_rises law q k h)))
    (λ k h. omega (arith, ints, first k h))

-- ---- how large a cost is

mismatch_most : (holding stockout q d : ℕ) → holding ≤ 1000000 → stockout ≤ 1000000 → q ≤ 10001 → d ≤ 10001 → mismatch_cost holding stockout q d ≤ 20002000000
mismatch_most holding stockout q d h s hq hd = omega (arith, mul-le holding (q - d) 1000000 10001 h (omega arith), mul-le stockout (d - q) 1000000 10001 s (omega arith))

-- the cost over the first n demands
pub cost_most : (holding stockout q n : ℕ) (law : List ℕ) → holding ≤ 1000000 → stockout ≤ 1000000 → q ≤ 10001 → length law ≤ 10001 → sum law ≤ 1000000000
    → level_cost holding stockout (take n law) q ≤ℤ pos 20002000000000000000
cost_most holding stockout q n law h s hq short total =
    let each : level_cost holding stockout (take n law) q ≤ℤ weighted (take n law) (λ d. pos 20002000000) =
    weighted-mono (take n law) _ _ (λ d lt. pos_le (mismatch_most holding stockout q d h s hq (within d lt))) in
    let front = sum_by-take-le (λ x. x) law n in
    omega (arith, ints, each, weighted-const (take n law) (pos 20002000000), front)
  where
    pos_le : {m n : ℕ} → m ≤ n → pos m ≤ℤ pos n
    pos_le h = omega (arith, ints)

    within : (d : ℕ) → d < length (take n law) → d ≤ 10001
    within d lt = grind (arith, Rattle.std.proofs.lemmas.List.length-take)

-- one demand more
pub next_cost : (holding stockout q i cost : ℕ) (law : List ℕ) → i < length law → pos cost ≡ level_cost holding stockout (take i law) q
    → pos (cost + slice_index law i * mismatch_cost holding stockout q i) ≡ level_cost holding stockout (take (i + 1) law) q
next_cost holding stockout q i cost law lt e =
    omega (arith, ints, e, weighted_more law i (λ d. pos (mismatch_cost holding stockout q d)) lt)

pub next_small : (holding stockout q i cost : ℕ) (law : List ℕ) → holding ≤ 1000000 → stockout ≤ 1000000 → q ≤ 10001 → length law ≤ 10001 → sum law ≤ 1000000000 → i < length law → pos cost ≡ level_cost holding stockout (take i law) q
    → cost + slice_index law i * mismatch_cost holding stockout q i ≤ 20002000000000000000
next_small holding stockout q i cost law h s hq short total lt e =
    omega (arith, ints, next_cost holding stockout q i cost law lt e, cost_most holding stockout q (i + 1) law h s hq short total)
