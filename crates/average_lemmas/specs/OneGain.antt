-- At most one g makes the least X 0.
use Rattle.std.proofs.Common.{◌≡◌, ℕ, zero, suc, ◌+◌, ◌-◌, ◌*◌, ◌^◌, ◌<◌, ◌≤◌, min, sum, sym, ◌∙◌, ap, arith, mul-le-mul_left, ◌⊎◌, inl, inr}
use Rattle.std.proofs.lemmas.Nat.{mul-le}
use Rattle.std.proofs.Math.Nat.{one-le-pow}
use Rattle.std.proofs.lemmas.Bool.{cases_lt}
use Rattle.decision_model.specs.declared.average.Average.{Average}
use Rattle.decision_model.specs.Average.{HasDemand}
use Rattle.demand_law.specs.CountedSums.{counted-mono, counted-scale}
use Rattle.value_cert.specs.AverageValues.{Ratio, moving, limit, value_after, gain, loss}
use Rattle.average_lemmas.specs.SolvedTables.{IsSolvedTable}
use Rattle.average_lemmas.specs.Tables.{sum_first}
use Rattle.average_lemmas.specs.Certified.{moving_some}
use Rattle.average_lemmas.specs.Agreement.{gain_same}
use Rattle.average_lemmas.specs.Iteration.{below_suc, carried_at, carried_below}

module _ (item : Average) (n : ℕ) (g h : Ratio) (a b : ℕ → ℕ) (at_g : IsSolvedTable item g n a) (at_h : IsSolvedTable item h n b) (less : g.num * h.den ≤ h.num * g.den) where
  carried_falls : (k : ℕ) → ((j : ℕ) → j < k → g.den * b j ≤ h.den * a j) → (d : ℕ) → g.den * value_after item h b k d ≤ h.den * value_after item g a k d
  carried_falls k below d = go (cases_lt d k)
    where
      go : (d < k) ⊎ (k ≤ d) → g.den * value_after item h b k d ≤ h.den * value_after item g a k d
      go (inl lt) =
          let v = sum (moving item.law) in
          rw (carried_at v (item.setup * h.den * sum item.law ^ item.lead) b k d lt, carried_at v (item.setup * g.den * sum item.law ^ item.lead) a k d lt) (omega (arith, mul-le-mul_left (v ^ d) (below (k - suc d) (omega arith))))
      go (inr le) =
          let v = sum (moving item.law) in
          rw (carried_below v (item.setup * h.den * sum item.law ^ item.lead) b k d le, carried_below v (item.setup * g.den * sum item.law ^ item.lead) a k d le) (omega arith)

  gain_falls : (k : ℕ) → ((j : ℕ) → j < k → g.den * b j ≤ h.den * a j) → g.den * gain item h b k ≤ h.den * gain item g a k
  gain_falls k below =
      let sums = counted-mono (moving item.law) (λ d. g.den * value_after item h b k d) (λ d. h.den * value_after item g a k d) (λ d lt. carried_falls k below d) in
      omega (arith, sums, counted-scale (moving item.law) g.den (value_after item h b k), counted-scale (moving item.law) h.den (value_after item g a k))

  loss_grows : (k : ℕ) → h.den * loss item g k ≤ g.den * loss item h k
  loss_grows k = omega (arith, mul-le-mul_left (sum item.law ^ suc item.lead * sum (moving item.law) ^ k) less)

  entries_fall : (k : ℕ) → k ≤ n → (j : ℕ) → j < k → g.den * b j ≤ h.den * a j
  entries_fall zero le j lt = absurd (omega arith)
  entries_fall (suc k) le j lt = below_suc (λ m. g.den * b m ≤ h.den * a m) k (entries_fall k (omega arith)) (at (entries_fall k (omega arith)) (cases_lt (limit item g k) (gain item g a k - loss item g k))) j lt
    where
      at : ((m : ℕ) → m < k → g.den * b m ≤ h.den * a m) → (limit item g k < gain item g a k - loss item g k) ⊎ (gain item g a k - loss item g k ≤ limit item g k) → g.den * b k ≤ h.den * a k
      at below (inl lt) =
          let same : a k ≡ limit item g k = omega (arith, at_g.entry k le) in
          let most : b k ≤ limit item h k = omega (arith, at_h.entry k le) in
          omega (arith, mul-le-mul_left g.den most, ap (λ z. h.den * z) same)
      at below (inr ge) =
          let same : a k + loss item g k ≡ gain item g a k = omega (arith, at_g.entry k le, at_g.none_below k le) in
          let most : b k + loss item h k ≤ gain item h b k = omega (arith, at_h.entry k le, at_h.none_below k le) in
          omega (arith, mul-le-mul_left g.den most, ap (λ z. h.den * z) same, gain_falls k below, loss_grows k)

  -- so h is at most g, where the least X at g is 0
  pub no_greater : 1 ≤ sum item.law ^ suc item.lead → 1 ≤ sum (moving item.law) ^ at_g.zero_at → h.num * g.den ≤ g.num * h.den
  no_greater unit power = go (cases_lt (g.num * h.den) (h.num * g.den))
    where
      go : (g.num * h.den < h.num * g.den) ⊎ (h.num * g.den ≤ g.num * h.den) → h.num * g.den ≤ g.num * h.den
      go (inr le) = le
      go (inl lt) =
          let k = at_g.zero_at in
          let x = sum item.law ^ suc item.lead * sum (moving item.law) ^ k in
          absurd (omega (
            arith,
            mul-le-mul_left x lt,
            mul-le 1 1 (sum item.law ^ suc item.lead) (sum (moving item.law) ^ k) unit power,
            mul-le-mul_left g.den (at_h.none_below k at_g.zero_within),
            gain_falls k (entries_fall k (omega (arith, at_g.zero_within))),
            ap (λ z. h.den * z) at_g.zero,
          ))

-- two g's of solved tables are one number
pub one_g : (item : Average) (n : ℕ) (g h : Ratio) (a b : ℕ → ℕ) → HasDemand item.law → IsSolvedTable item g n a → IsSolvedTable item h n b → g.num * h.den ≡ h.num * g.den
one_g item n g h a b some at_g at_h = go (cases_lt (g.num * h.den) (h.num * g.den))
  where
    unit : 1 ≤ sum item.law ^ suc item.lead
    unit = one-le-pow (suc item.lead) (sum item.law) (omega (arith, moving_some item.law some, sum_first item.law))

    power : (k : ℕ) → 1 ≤ sum (moving item.law) ^ k
    power k = one-le-pow k (sum (moving item.law)) (omega (arith, moving_some item.law some))

    go : (g.num * h.den < h.num * g.den) ⊎ (h.num * g.den ≤ g.num * h.den) → g.num * h.den ≡ h.num * g.den
    go (inl lt) = omega (arith, no_greater item n g h a b at_g at_h (omega arith) unit (power at_g.zero_at))
    go (inr le) = omega (arith, no_greater item n h g b a at_h at_g le unit (power at_h.zero_at))

-- at one g a solved table's entries are determined
pub one_table : (item : Average) (n : ℕ) (g : Ratio) (a b : ℕ → ℕ) → IsSolvedTable item g n a → IsSolvedTable item g n b → (k : ℕ) → k ≤ n → (j : ℕ) → j < k → a j ≡ b j
one_table item n g a b is_a is_b zero le j lt = absurd (omega arith)
one_table item n g a b is_a is_b (suc k) le j lt =
    below_suc (λ m. a m ≡ b m) k (one_table item n g a b is_a is_b k (omega arith))
    (is_a.entry k le ∙ ap (λ z. min (z - loss item g k) (limit item g k)) (gain_same item g a b k (one_table item n g a b is_a is_b k (omega arith))) ∙ sym (is_b.entry k le)) j lt
