-- The cost of a period is convex in the position.
use Rattle.std.proofs.Common.{◌≡◌, ℕ, zero, suc, ◌+◌, ◌-◌, ◌*◌, ◌<◌, ◌≤◌, ℤ, pos, ◌+ℤ◌, ◌-ℤ◌, ◌≤ℤ◌, ◌<ℤ◌, sum, sym, ◌∙◌, ap, subst, arith, mul-le-mul_left, ◌⊎◌, inl, inr, if◌then◌else◌}
use Rattle.std.specs.Prelude.{int_le}
use Rattle.std.proofs.lemmas.Int.{ints}
use Rattle.std.proofs.lemmas.Bool.{cases_lt}
use Rattle.decision_model.specs.declared.average.Average.{Average}
use Rattle.decision_model.specs.Positions.{above_zero}
use Rattle.demand_law.specs.CountedSums.{counted, counted-mono, counted-ext, counted-add, counted-scale, counted-const}
use Rattle.decision_model.specs.AverageProblem.{stock_charge}
use Rattle.value_cert.specs.AverageValues.{lead_demand, stock_sum, at_place}
use Rattle.average_lemmas.specs.Orders.{by_order, no_le_test}
use Rattle.decision_model.specs.PositionTests.{le_test}
use Rattle.average_lemmas.specs.Tables.{above_zero_is}

-- ---- any numbers whose steps are known, f (k + 1) - f k = rise k - b, and never fall
module _ (f rise : ℕ → ℕ) (b : ℕ) (step : (k : ℕ) → f (suc k) + b ≡ f k + rise k) (grows : (k : ℕ) → rise k ≤ rise (suc k)) where
  rise_most : (k m : ℕ) → rise k ≤ rise (k + m)
  rise_most k zero = let e : k + 0 ≡ k = omega arith in rw e (omega arith)
  rise_most k (suc m) = let e : k + suc m ≡ suc (k + m) = omega arith in rw e (omega (arith, grows (k + m), rise_most k m))

  -- where a step doesn't fall, no later one does
  upward : (k m : ℕ) → b ≤ rise k → f k ≤ f (k + m)
  upward k zero h = let e : k + 0 ≡ k = omega arith in rw e (omega arith)
  upward k (suc m) h = let e : k + suc m ≡ suc (k + m) = omega arith in rw e (omega (arith, step (k + m), rise_most k m, upward k m h))

  -- where a step doesn't rise, no earlier one did
  downward : (i m : ℕ) → rise (i + m) ≤ b → f (suc (i + m)) ≤ f i
  downward i zero h = let e : i + 0 ≡ i = omega arith in rw e (omega (arith, step i, rw e at h))
  downward i (suc m) h =
      let e : i + suc m ≡ suc (i + m) = omega arith in
      let g : rise (suc (i + m)) ≤ b = rw e at h in
      rw e (omega (arith, step (suc (i + m)), grows (i + m), downward i m (omega (arith, grows (i + m)))))

  -- between two numbers of at most c none is above c
  pub between : (c i k j : ℕ) → i ≤ k → k ≤ j → f i ≤ c → f j ≤ c → f k ≤ c
  between c i k j le_k k_le f_i f_j = go (cases_lt (rise k) b)
    where
      go : (rise k < b) ⊎ (b ≤ rise k) → f k ≤ c
      go (inl lt) = first (cases_lt i k)
        where
          first : (i < k) ⊎ (k ≤ i) → f k ≤ c
          first (inl less) =
              let m = k - suc i in
              let e : suc (i + m) ≡ k = omega arith in
              let last : rise (i + m) ≤ b = omega (arith, subst (λ (z : ℕ). rise (i + m) ≤ rise z) e (grows (i + m))) in
              let h : f k ≤ f i = subst (λ (z : ℕ). f z ≤ f i) e (downward i m last) in
              omega arith
          first (inr from) = let e : i ≡ k = omega arith in subst (λ (z : ℕ). f z ≤ c) e f_i
      go (inr le) =
          let m = j - k in
          let e : k + m ≡ j = omega arith in
          let h : f k ≤ f j = subst (λ (z : ℕ). f k ≤ f z) e (upward k m le) in
          omega arith

-- ---- the cost of a period
-- 1 for the demands up to a position
met : ℤ → ℕ → ℕ
met y e = if int_le (pos e) y then 1 else 0

met_yes : (y : ℤ) (e : ℕ) → pos e ≤ℤ y → met y e ≡ 1
unfolding met
met_yes y e h = ap (λ b. if b then 1 else 0) (le_test (pos e) y h)

met_no : (y : ℤ) (e : ℕ) → y <ℤ pos e → met y e ≡ 0
unfolding met
met_no y e h = ap (λ b. if b then 1 else 0) (no_le_test (pos e) y h)

met_grows : (y : ℤ) (e : ℕ) → met y e ≤ met (y +ℤ pos 1) e
met_grows y e = go (by_order (pos e) y)
  where
    go : (pos e ≤ℤ y) ⊎ (y <ℤ pos e) → met y e ≤ met (y +ℤ pos 1) e
    go (inl le) = omega (arith, met_yes y e le, met_yes (y +ℤ pos 1) e (omega (arith, ints)))
    go (inr lt) = omega (arith, met_no y e lt)

cost_step : (item : Average) (y : ℤ) (e : ℕ) → stock_charge item (y +ℤ pos 1) e + item.stockout ≡ stock_charge item y e + (item.holding + item.stockout) * met y e
unfolding stock_charge
cost_step item y e = go (by_order (pos e) y)
  where
    go : (pos e ≤ℤ y) ⊎ (y <ℤ pos e) → stock_charge item (y +ℤ pos 1) e + item.stockout ≡ stock_charge item y e + (item.holding + item.stockout) * met y e
    go (inl le) =
        let a : above_zero (y +ℤ pos 1 -ℤ pos e) ≡ above_zero (y -ℤ pos e) + 1 = omega (arith, ints, above_zero_is (y +ℤ pos 1 -ℤ pos e), above_zero_is (y -ℤ pos e)) in
        let b : above_zero (pos e -ℤ (y +ℤ pos 1)) ≡ 0 = omega (arith, ints, above_zero_is (pos e -ℤ (y +ℤ pos 1))) in
        let c : above_zero (pos e -ℤ y) ≡ 0 = omega (arith, ints, above_zero_is (pos e -ℤ y)) in
        rw (a, b, c, met_yes y e le) (omega arith)
    go (inr lt) =
        let a : above_zero (y +ℤ pos 1 -ℤ pos e) ≡ 0 = omega (arith, ints, above_zero_is (y +ℤ pos 1 -ℤ pos e)) in
        let b : above_zero (y -ℤ pos e) ≡ 0 = omega (arith, ints, above_zero_is (y -ℤ pos e)) in
        let c : above_zero (pos e -ℤ y) ≡ above_zero (pos e -ℤ (y +ℤ pos 1)) + 1 = omega (arith, ints, above_zero_is (pos e -ℤ y), above_zero_is (pos e -ℤ (y +ℤ pos 1))) in
        rw (a, b, c, met_no y e lt) (omega arith)

sum_step : (item : Average) (y : ℤ) → stock_sum item (y +ℤ pos 1) + sum (lead_demand item) * item.stockout ≡ stock_sum item y + (item.holding + item.stockout) * counted (lead_demand item) (met y)
sum_step item y =
    ap (λ n. stock_sum item (y +ℤ pos 1) + n) (sym (counted-const (lead_demand item) item.stockout))
    ∙ sym (counted-add (lead_demand item) (stock_charge item (y +ℤ pos 1)) (λ e. item.stockout))
    ∙ counted-ext (lead_demand item) _ _ (λ e lt. cost_step item y e)
    ∙ counted-add (lead_demand item) (stock_charge item y) (λ e. (item.holding + item.stockout) * met y e)
    ∙ ap (λ n. stock_sum item y + n) (counted-scale (lead_demand item) (item.holding + item.stockout) (met y))

-- between two places whose cost is at most c no place costs more
pub cost_between : (item : Average) (c i k j : ℕ) → i ≤ k → k ≤ j → stock_sum item (at_place item i) ≤ c → stock_sum item (at_place item j) ≤ c → stock_sum item (at_place item k) ≤ c
cost_between item c i k j =
    between (λ p. stock_sum item (at_place item p)) (λ p. (item.holding + item.stockout) * counted (lead_demand item) (met (at_place item p))) (sum (lead_demand item) * item.stockout)
    (λ p. let e : at_place item (suc p) ≡ at_place item p +ℤ pos 1 = omega (arith, ints) in rw e (sum_step item (at_place item p)))
    (λ p. let e : at_place item (suc p) ≡ at_place item p +ℤ pos 1 = omega (arith, ints) in rw e (mul-le-mul_left (item.holding + item.stockout) (counted-mono (lead_demand item) (met (at_place item p)) (met (at_place item p +ℤ pos 1)) (λ d lt. met_grows (at_place item p) d))))
    c i k j
