-- A pair of positions with low < high comes out of the lower table, and the upper table agrees with it up to high.
use Rattle.std.proofs.Common.{◌≡◌, ℕ, zero, suc, ◌+◌, ◌-◌, ◌*◌, ◌^◌, ◌<◌, ◌≤◌, pos, ◌+ℤ◌, ◌-ℤ◌, ◌≤ℤ◌, ◌<ℤ◌, sum, sym, ◌∙◌, ap, subst, arith, pow-suc, mul-le-mul_left, ◌⊎◌, inl, inr}
use Rattle.std.proofs.lemmas.Int.{ints}
use Rattle.std.proofs.lemmas.Nat.{pow-add}
use Rattle.std.proofs.lemmas.Bool.{cases_lt}
use Rattle.decision_model.specs.declared.average.Average.{Average}
use Rattle.demand_law.specs.CountedSums.{counted, counted-mono, counted-ext, counted-const, counted-most}
use Rattle.value_cert.specs.AverageValues.{Ratio, stock_sum, moving, at_place, carried, limit, value_after, gain, loss}
use Rattle.value_cert.specs.AverageLeast.{IsPair, MeetsEquations}
use Rattle.average_lemmas.specs.SolvedTables.{IsSolvedTable, IsFirstCheap, IsFirstZero, IsPolicyTable}
use Rattle.average_lemmas.specs.Convex.{cost_between}
use Rattle.average_lemmas.specs.Iteration.{below_suc, carried_at, carried_below, carried_same}

-- ---- tables that agree below a place
carried_mono : (v s : ℕ) (a b : ℕ → ℕ) (k : ℕ) → ((j : ℕ) → j < k → a j ≤ b j) → (d : ℕ) → carried v s a k d ≤ carried v s b k d
carried_mono v s a b k h d = go (cases_lt d k)
  where
    go : (d < k) ⊎ (k ≤ d) → carried v s a k d ≤ carried v s b k d
    go (inl lt) = rw (carried_at v s a k d lt, carried_at v s b k d lt) (omega (arith, mul-le-mul_left (v ^ d) (h (k - suc d) (omega arith))))
    go (inr le) = rw (carried_below v s a k d le, carried_below v s b k d le) (omega arith)

pub gain_same : (item : Average) (g : Ratio) (a b : ℕ → ℕ) (k : ℕ) → ((j : ℕ) → j < k → a j ≡ b j) → gain item g a k ≡ gain item g b k
gain_same item g a b k h =
    ap (λ z. stock_sum item (at_place item k) * g.den * sum (moving item.law) ^ k + z)
    (counted-ext (moving item.law) _ _ (λ d lt. carried_same (sum (moving item.law)) (item.setup * g.den * sum item.law ^ item.lead) a b k h d))

gain_mono : (item : Average) (g : Ratio) (a b : ℕ → ℕ) (k : ℕ) → ((j : ℕ) → j < k → a j ≤ b j) → gain item g a k ≤ gain item g b k
gain_mono item g a b k h =
    let sums = counted-mono (moving item.law) (value_after item g a k) (value_after item g b k) (λ d lt. carried_mono (sum (moving item.law)) (item.setup * g.den * sum item.law ^ item.lead) a b k h d) in
    omega arith

-- ---- what follows the entries of places up to the limit
-- entries of at most the limit carry at most the setup cost
carried_within : (v s : ℕ) (a : ℕ → ℕ) (k : ℕ) → ((j : ℕ) → j < k → a j ≤ s * v ^ suc j) → (d : ℕ) → carried v s a k d ≤ s * v ^ k
carried_within v s a k h d = go (cases_lt d k)
  where
    go : (d < k) ⊎ (k ≤ d) → carried v s a k d ≤ s * v ^ k
    go (inl lt) =
        let j = k - suc d in
        let e : suc j + d ≡ k = omega arith in
        let power : v ^ k ≡ v ^ suc j * v ^ d = ap (λ m. v ^ m) (sym e) ∙ pow-add v (suc j) d in
        omega (arith, carried_at v s a k d lt, mul-le-mul_left (v ^ d) (h j (omega arith)), ap (λ z. s * z) power)
    go (inr le) = omega (arith, carried_below v s a k d le)

carried_limit : (v s : ℕ) (a : ℕ → ℕ) (k : ℕ) → ((j : ℕ) → j < k → a j ≡ s * v ^ suc j) → (d : ℕ) → carried v s a k d ≡ s * v ^ k
carried_limit v s a k h d = go (cases_lt d k)
  where
    go : (d < k) ⊎ (k ≤ d) → carried v s a k d ≡ s * v ^ k
    go (inl lt) =
        let j = k - suc d in
        let e : suc j + d ≡ k = omega arith in
        let power : v ^ k ≡ v ^ suc j * v ^ d = ap (λ m. v ^ m) (sym e) ∙ pow-add v (suc j) d in
        omega (arith, carried_at v s a k d lt, ap (λ z. z * v ^ d) (h j (omega arith)), ap (λ z. s * z) power)
    go (inr le) = carried_below v s a k d le

-- fewer places of a policy's table
pub fewer_policy : (item : Average) (g : Ratio) (i n k : ℕ) (u : ℕ → ℕ) → k ≤ n → IsPolicyTable item g i n u → IsPolicyTable item g i k u
fewer_policy item g i n k u le policy = record { below = λ p lt less. policy.below p (omega arith) less; from = λ p lt from. policy.from p (omega arith) from }

module _ (item : Average) (g : Ratio) (n : ℕ) (a : ℕ → ℕ) (solved : IsSolvedTable item g n a) where
  within : (k : ℕ) → k < n → a k ≤ limit item g k
  within k lt = omega (arith, solved.entry k lt)

  keep : (k : ℕ) → k < n → a k + loss item g k ≤ gain item g a k
  keep k lt = omega (arith, solved.entry k lt, solved.none_below k lt)

  -- where the cost is at most g, X is at most the limit
  cheap_keeps : (k : ℕ) → k < n → stock_sum item (at_place item k) * g.den ≤ g.num * sum item.law ^ suc item.lead → a k + loss item g k ≡ gain item g a k
  cheap_keeps k lt cheap =
      let v = sum (moving item.law) in
      let s = item.setup * g.den * sum item.law ^ item.lead in
      let after = counted-most (moving item.law) (value_after item g a k) (s * v ^ k) (λ d below. carried_within v s a k (λ j less. within j (omega arith)) d) in
      let small : gain item g a k ≤ loss item g k + limit item g k = omega (arith, mul-le-mul_left (v ^ k) cheap, after, ap (λ z. s * z) (pow-suc v k)) in
      omega (arith, solved.entry k lt, solved.none_below k lt)

  -- where all lower entries are their limits and the cost is above g, X is above the limit
  dear_takes_limit : (k : ℕ) → k < n → g.num * sum item.law ^ suc item.lead < stock_sum item (at_place item k) * g.den → ((j : ℕ) → j < k → a j ≡ limit item g j) → a k ≡ limit item g k
  dear_takes_limit k lt dear below =
      let v = sum (moving item.law) in
      let s = item.setup * g.den * sum item.law ^ item.lead in
      let after : counted (moving item.law) (value_after item g a k) ≡ v * (s * v ^ k) = counted-ext (moving item.law) _ _ (λ d less. carried_limit v s a k below d) ∙ counted-const (moving item.law) (s * v ^ k) in
      let least : g.num * sum item.law ^ suc item.lead ≤ stock_sum item (at_place item k) * g.den = omega arith in
      let large : loss item g k + limit item g k ≤ gain item g a k = omega (arith, mul-le-mul_left (v ^ k) least, after, ap (λ z. s * z) (pow-suc v k)) in
      omega (arith, solved.entry k lt)

  -- ---- the policy's values, from any place on: nowhere below the entries
  nowhere_lower : (i : ℕ) (u : ℕ → ℕ) (k : ℕ) → k ≤ n → IsPolicyTable item g i k u → (p : ℕ) → p < k → a p ≤ u p
  nowhere_lower i u zero le policy p lt = absurd (omega arith)
  nowhere_lower i u (suc k) le policy p lt =
      let fewer = fewer_policy item g i (suc k) k u (omega arith) policy in
      below_suc (λ m. a m ≤ u m) k (nowhere_lower i u k (omega arith) fewer) (at (nowhere_lower i u k (omega arith) fewer) (cases_lt k i)) p lt
    where
      at : ((m : ℕ) → m < k → a m ≤ u m) → (k < i) ⊎ (i ≤ k) → a k ≤ u k
      at below (inl less) = omega (arith, within k le, policy.below k (omega arith) less)
      at below (inr from) = omega (arith, keep k le, policy.from k (omega arith) from, gain_mono item g a u k below)

  -- so their X is nowhere below 0
  pub policy_gains : (i : ℕ) (u : ℕ → ℕ) (k : ℕ) → k < n → IsPolicyTable item g i k u → loss item g k ≤ gain item g u k
  policy_gains i u k lt policy = omega (arith, solved.none_below k lt, gain_mono item g a u k (nowhere_lower i u k (omega arith) policy))

  module _ (i j : ℕ) (cheap : IsFirstCheap item g i) (top : IsFirstZero item g n a j) where
    -- the cost at the place of the first 0 is at most g
    pub zero_is_cheap : 1 ≤ sum (moving item.law) ^ j → stock_sum item (at_place item j) * g.den ≤ g.num * sum item.law ^ suc item.lead
    zero_is_cheap some = go (cases_lt (g.num * sum item.law ^ suc item.lead) (stock_sum item (at_place item j) * g.den))
      where
        go : (g.num * sum item.law ^ suc item.lead < stock_sum item (at_place item j) * g.den) ⊎ (stock_sum item (at_place item j) * g.den ≤ g.num * sum item.law ^ suc item.lead) → stock_sum item (at_place item j) * g.den ≤ g.num * sum item.law ^ suc item.lead
        go (inl dear) = absurd (omega (arith, mul-le-mul_left (sum (moving item.law) ^ j) dear, top.zero, some))
        go (inr le) = le

    first_cheap_within : 1 ≤ sum (moving item.law) ^ j → i ≤ j
    first_cheap_within some = go (cases_lt j i)
      where
        go : (j < i) ⊎ (i ≤ j) → i ≤ j
        go (inl less) = absurd (omega (arith, cheap.first j less, zero_is_cheap some))
        go (inr le) = le

    -- below the first cheap place each entry is its limit
    limits_below : (k : ℕ) → k ≤ n → k ≤ i → (p : ℕ) → p < k → a p ≡ limit item g p
    limits_below zero le within p lt = absurd (omega arith)
    limits_below (suc k) le within p lt =
        below_suc (λ m. a m ≡ limit item g m) k (limits_below k (omega arith) (omega arith)) (dear_takes_limit k (omega arith) (cheap.first k (omega arith)) (limits_below k (omega arith) (omega arith))) p lt

    -- from it up to the first 0 each entry is X
    keeps_between : 1 ≤ sum (moving item.law) ^ j → (k : ℕ) → i ≤ k → k ≤ j → a k + loss item g k ≡ gain item g a k
    keeps_between some k from to = cheap_keeps k (omega (arith, top.within)) (go (cases_lt (stock_sum item (at_place item i)) (stock_sum item (at_place item j))))
      where
        go : (stock_sum item (at_place item i) < stock_sum item (at_place item j)) ⊎ (stock_sum item (at_place item j) ≤ stock_sum item (at_place item i)) → stock_sum item (at_place item k) * g.den ≤ g.num * sum item.law ^ suc item.lead
        go (inl less) =
            let most = cost_between item (stock_sum item (at_place item j)) i k j from to (omega arith) (omega arith) in
            omega (arith, mul-le-mul_left g.den most, zero_is_cheap some)
        go (inr le) =
            let most = cost_between item (stock_sum item (at_place item i)) i k j from to (omega arith) (omega arith) in
            omega (arith, mul-le-mul_left g.den most, cheap.cheap)

    module _ (some : 1 ≤ sum (moving item.law) ^ j) (u : ℕ → ℕ) (policy : IsPolicyTable item g i n u) where
      -- both tables agree up to the first 0
      agree_below : (k : ℕ) → k ≤ suc j → (p : ℕ) → p < k → a p ≡ u p
      agree_below zero le p lt = absurd (omega arith)
      agree_below (suc k) le p lt = below_suc (λ m. a m ≡ u m) k (agree_below k (omega arith)) (at (agree_below k (omega arith)) (cases_lt k i)) p lt
        where
          at : ((m : ℕ) → m < k → a m ≡ u m) → (k < i) ⊎ (i ≤ k) → a k ≡ u k
          at below (inl less) = limits_below (suc k) (omega (arith, top.within)) less k (omega arith) ∙ sym (policy.below k (omega (arith, top.within)) less)
          at below (inr from) =
              omega (arith, keeps_between some k from (omega arith), policy.from k (omega (arith, top.within)) from, gain_same item g a u k below)

      policy_keeps : (k : ℕ) → k < n → i ≤ k → u k + loss item g k ≡ gain item g u k
      policy_keeps k lt from = omega (arith, policy.from k lt from, policy_gains i u k (omega arith) (fewer_policy item g i n k u (omega arith) policy))

      -- so the pair and both tables keep the rules
      pub certificate : 1 ≤ g.den → item.floor +ℤ pos n ≡ item.cap +ℤ pos 1 → MeetsEquations item g (at_place item i -ℤ pos 1) (at_place item j) n a u
      certificate g_some all = record { g_some = g_some; pair = pair; is_lower = record { keep = keep; within = within }; is_upper = record { order = order; keep = upper_keep; reached = reached } }
        where
          pair : IsPair item (at_place item i -ℤ pos 1) (at_place item j)
          pair = record {
            above = omega (arith, ints);
            ordered = let le = first_cheap_within some in omega (arith, ints);
            within = let lt = top.within in omega (arith, ints);
          }

          order : (k : ℕ) → k < n → at_place item k ≤ℤ (at_place item i -ℤ pos 1) → u k ≡ limit item g k
          order k lt le = policy.below k lt (omega (arith, ints))

          upper_keep : (k : ℕ) → k < n → (at_place item i -ℤ pos 1) <ℤ at_place item k → u k + loss item g k ≡ gain item g u k
          upper_keep k lt above = policy_keeps k lt (omega (arith, ints))

          reached : (k : ℕ) → k < n → at_place item k ≡ at_place item j → u k ≡ 0
          reached k lt same =
              let e : k ≡ j = omega (arith, ints) in
              let zero_entry : a k ≡ 0 = omega (arith, keep k lt, subst (λ (z : ℕ). gain item g a z ≡ loss item g z) (sym e) top.zero) in
              sym (agree_below (suc j) (omega arith) k (omega arith)) ∙ zero_entry
