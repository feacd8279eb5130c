-- The iteration that finds g: each turn's next g is less, and the turns come to an end where the least X is 0.
use Rattle.std.proofs.Common.{◌≡◌, ℕ, zero, suc, ◌+◌, ◌-◌, ◌*◌, ◌^◌, ◌<◌, ◌≤◌, ◌/◌, min, List, sum, refl, sym, ◌∙◌, ap, subst, arith, pow-suc, mul-le-mul_left, ◌⊎◌, inl, inr, Bool, true, false, if◌then◌else◌}
use Rattle.std.proofs.lemmas.Nat.{pow-add, le-div, mul-le}
use Rattle.std.proofs.Math.Nat.{mul-div-le}
use Rattle.std.proofs.lemmas.Bool.{cases_lt}
use Rattle.decision_model.specs.declared.average.Average.{Average}
use Rattle.demand_law.specs.CountedSums.{counted, counted-mono, counted-ext, counted-most, counted-pair, counted-scale}
use Rattle.value_cert.specs.AverageValues.{Ratio, stock_sum, moving, at_place, carried, limit, gain, loss}
use Rattle.average_lemmas.specs.SolvedTables.{IsSolvedTable}
use Rattle.average_lemmas.specs.CostLines.{limit_constant, keep_constant, keep_slope, IsLines, AreLeastLines, IsReached, table_of}
use Rattle.average_lemmas.specs.Tables.{lt_true, lt_false}

-- what holds below k, and at k
pub below_suc : (P : ℕ → Type 0) (k : ℕ) → ((j : ℕ) → j < k → P j) → P k → (j : ℕ) → j < suc k → P j
below_suc P k below here j lt = go (cases_lt j k)
  where
    go : (j < k) ⊎ (k ≤ j) → P j
    go (inl less) = below j less
    go (inr from) = let same : k ≡ j = omega arith in subst P same here

-- ---- entries carried to a place
pub carried_at : (v below : ℕ) (a : ℕ → ℕ) (k d : ℕ) → d < k → carried v below a k d ≡ a (k - suc d) * v ^ d
carried_at v below a k d lt = ap (λ b. if b then a (k - suc d) * v ^ d else below * v ^ k) (lt_true d k lt)

pub carried_below : (v below : ℕ) (a : ℕ → ℕ) (k d : ℕ) → k ≤ d → carried v below a k d ≡ below * v ^ k
carried_below v below a k d le = ap (λ b. if b then a (k - suc d) * v ^ d else below * v ^ k) (lt_false d k le)

-- tables that agree below a place
pub carried_same : (v s : ℕ) (a b : ℕ → ℕ) (k : ℕ) → ((j : ℕ) → j < k → a j ≡ b j) → (d : ℕ) → carried v s a k d ≡ carried v s b k d
carried_same v s a b k h d = go (cases_lt d k)
  where
    go : (d < k) ⊎ (k ≤ d) → carried v s a k d ≡ carried v s b k d
    go (inl lt) = rw (carried_at v s a k d lt, carried_at v s b k d lt) (ap (λ z. z * v ^ d) (h (k - suc d) (omega arith)))
    go (inr le) = rw (carried_below v s a k d le, carried_below v s b k d le) refl

-- two pairs of tables, one of whose combined entries are nowhere greater
pub carried_least : (v s p q : ℕ) (a b a' b' : ℕ → ℕ) (k : ℕ) → ((j : ℕ) → j < k → p * a j + q * b' j ≤ p * a' j + q * b j) → (d : ℕ) → p * carried v s a k d + q * carried v 0 b' k d ≤ p * carried v s a' k d + q * carried v 0 b k d
carried_least v s p q a b a' b' k h d = go (cases_lt d k)
  where
    go : (d < k) ⊎ (k ≤ d) → p * carried v s a k d + q * carried v 0 b' k d ≤ p * carried v s a' k d + q * carried v 0 b k d
    go (inl lt) = rw (carried_at v s a k d lt, carried_at v 0 b' k d lt, carried_at v s a' k d lt, carried_at v 0 b k d lt) (omega (arith, mul-le-mul_left (v ^ d) (h (k - suc d) (omega arith))))
    go (inr le) = rw (carried_below v s a k d le, carried_below v 0 b' k d le, carried_below v s a' k d le, carried_below v 0 b k d le) (omega arith)

-- a line by its choice
module _ {item : Average} {n : ℕ} {limits : ℕ → Bool} {a b : ℕ → ℕ} (is : IsLines item n limits a b) where
  pub constant_at : (k : ℕ) {x : Bool} → k < n → limits k ≡ x → a k ≡ (if x then limit_constant item k else keep_constant item a k)
  constant_at k lt e = is.constant_is k lt ∙ ap (λ x. if x then limit_constant item k else keep_constant item a k) e

  pub slope_at : (k : ℕ) {x : Bool} → k < n → limits k ≡ x → b k ≡ (if x then 0 else keep_slope item b k)
  slope_at k lt e = is.slope_is k lt ∙ ap (λ x. if x then 0 else keep_slope item b k) e

-- the least lines of g are nowhere above others, at g
module _ (item : Average) (g : Ratio) (n : ℕ) (least : ℕ → Bool) (a b : ℕ → ℕ) (are : AreLeastLines item g n least a b) (other : ℕ → Bool) (a' b' : ℕ → ℕ) (is : IsLines item n other a' b') where
  keep_least : (k : ℕ) → ((j : ℕ) → j < k → g.den * a j + g.num * b' j ≤ g.den * a' j + g.num * b j)
      → keep_constant item a k * g.den + keep_slope item b' k * g.num ≤ keep_constant item a' k * g.den + keep_slope item b k * g.num
  keep_least k h =
      let v = sum (moving item.law) in
      let s = item.setup * sum item.law ^ item.lead in
      let sums = counted-mono (moving item.law) (λ d. g.den * carried v s a k d + g.num * carried v 0 b' k d) (λ d. g.den * carried v s a' k d + g.num * carried v 0 b k d) (λ d lt. carried_least v s g.den g.num a b a' b' k h d) in
      omega (arith, sums, counted-pair (moving item.law) g.den g.num (carried v s a k) (carried v 0 b' k), counted-pair (moving item.law) g.den g.num (carried v s a' k) (carried v 0 b k))

  entry_least : (k : ℕ) → k < n → ((j : ℕ) → j < k → g.den * a j + g.num * b' j ≤ g.den * a' j + g.num * b j) → g.den * a k + g.num * b' k ≤ g.den * a' k + g.num * b k
  entry_least k lt h = go (least k) (other k) refl refl
    where
      go : (x y : Bool) → least k ≡ x → other k ≡ y → g.den * a k + g.num * b' k ≤ g.den * a' k + g.num * b k
      go true true e f =
          omega (arith, ap (λ z. g.den * z) (constant_at are.lines k lt e), ap (λ z. g.num * z) (slope_at are.lines k lt e), ap (λ z. g.den * z) (constant_at is k lt f), ap (λ z. g.num * z) (slope_at is k lt f))
      go true false e f =
          omega (arith, keep_least k h, are.limit k lt e, ap (λ z. g.den * z) (constant_at are.lines k lt e), ap (λ z. g.num * z) (slope_at are.lines k lt e), ap (λ z. g.den * z) (constant_at is k lt f), ap (λ z. g.num * z) (slope_at is k lt f))
      go false true e f =
          omega (arith, are.keep k lt e, ap (λ z. g.den * z) (constant_at are.lines k lt e), ap (λ z. g.num * z) (slope_at are.lines k lt e), ap (λ z. g.den * z) (constant_at is k lt f), ap (λ z. g.num * z) (slope_at is k lt f))
      go false false e f =
          omega (arith, keep_least k h, ap (λ z. g.den * z) (constant_at are.lines k lt e), ap (λ z. g.num * z) (slope_at are.lines k lt e), ap (λ z. g.den * z) (constant_at is k lt f), ap (λ z. g.num * z) (slope_at is k lt f))

  pub nowhere_above : (k : ℕ) → k ≤ n → (j : ℕ) → j < k → g.den * a j + g.num * b' j ≤ g.den * a' j + g.num * b j
  nowhere_above zero le j lt = absurd (omega arith)
  nowhere_above (suc k) le j lt = below_suc (λ m. g.den * a m + g.num * b' m ≤ g.den * a' m + g.num * b m) k (nowhere_above k (omega arith)) (entry_least k (omega arith) (nowhere_above k (omega arith))) j lt

  pub keep_nowhere_above : (k : ℕ) → k ≤ n → keep_constant item a k * g.den + keep_slope item b' k * g.num ≤ keep_constant item a' k * g.den + keep_slope item b k * g.num
  keep_nowhere_above k le = keep_least k (nowhere_above k le)

-- what is reached with some choices is reached with those of the least lines
pub least_reached : (item : Average) (g : Ratio) (n : ℕ) (least : ℕ → Bool) (a b : ℕ → ℕ) → AreLeastLines item g n least a b → IsReached item g n
    → (k : ℕ) × (k < n) × (keep_constant item a k * g.den ≤ keep_slope item b k * g.num)
least_reached item g n least a b are r =
    (r.place, r.within, omega (arith, r.reached, keep_nowhere_above item g n least a b are r.limits r.constant r.slope r.lines r.place (omega (arith, r.within))))

-- ---- a turn
-- the next g: the line of a place whose X is below 0
abbrev pub next_g : Average → (ℕ → ℕ) → (ℕ → ℕ) → ℕ → Ratio
next_g item constant slope k = record { num = keep_constant item constant k; den = keep_slope item slope k }

-- it is reached at that place
pub next_reached : (item : Average) (n : ℕ) (limits : ℕ → Bool) (a b : ℕ → ℕ) → IsLines item n limits a b → (k : ℕ) → k < n → IsReached item (next_g item a b k) n
next_reached item n limits a b is k lt = record {
  limits = limits;
  constant = a;
  slope = b;
  lines = is;
  place = k;
  within = lt;
  reached = omega arith;
}

-- ---- sizes
-- a place's keep line, by entries of at most s * v^(j + 1) + (j + 1) * c * v^j
pub carried_most : (v s c : ℕ) (a : ℕ → ℕ) (k : ℕ) → ((j : ℕ) → j < suc k → a j ≤ s * v ^ suc j + suc j * c * v ^ j) → (d : ℕ) → carried v s a (suc k) d ≤ s * v ^ suc k + suc k * (c * v ^ k)
carried_most v s c a k h d = go (cases_lt d (suc k))
  where
    go : (d < suc k) ⊎ (suc k ≤ d) → carried v s a (suc k) d ≤ s * v ^ suc k + suc k * (c * v ^ k)
    go (inl lt) =
        let j = suc k - suc d in
        let e : j + d ≡ k = omega arith in
        let f : suc j + d ≡ suc k = omega arith in
        let power : v ^ k ≡ v ^ j * v ^ d = ap (λ m. v ^ m) (sym e) ∙ pow-add v j d in
        let more : v ^ suc k ≡ v ^ suc j * v ^ d = ap (λ m. v ^ m) (sym f) ∙ pow-add v (suc j) d in
        let few : suc j ≤ suc k = omega arith in
        omega (arith, carried_at v s a (suc k) d lt, mul-le-mul_left (v ^ d) (h j (omega arith)), ap (λ z. s * z) more, ap (λ z. suc k * (c * z)) power, mul-le-mul_left (c * (v ^ j * v ^ d)) few)
    go (inr le) = omega (arith, carried_below v s a (suc k) d le)

pub keep_most : (ws : List ℕ) (s c first : ℕ) (a : ℕ → ℕ) (k : ℕ) → first ≤ c → ((j : ℕ) → j < k → a j ≤ s * sum ws ^ suc j + suc j * c * sum ws ^ j)
    → first * sum ws ^ k + counted ws (carried (sum ws) s a k) ≤ s * sum ws ^ suc k + suc k * c * sum ws ^ k
keep_most ws s c first a zero le h =
    let v = sum ws in
    omega (arith, counted-most ws (carried v s a 0) (s * v ^ 0) (λ d lt. omega (arith, carried_below v s a 0 d (omega arith))), mul-le-mul_left (v ^ 0) le, ap (λ z. s * z) (pow-suc v 0))
keep_most ws s c first a (suc k) le h =
    let v = sum ws in
    omega (arith, counted-most ws (carried v s a (suc k)) (s * v ^ suc k + suc k * (c * v ^ k)) (λ d lt. carried_most v s c a k h d), mul-le-mul_left (v ^ suc k) le, ap (λ z. s * z) (pow-suc v (suc k)), ap (λ z. suc k * c * z) (pow-suc v k))

-- entries, each of which is at most its limit or its keep line
pub entry_most : (ws : List ℕ) (s c n : ℕ) (first : ℕ → ℕ) (a : ℕ → ℕ)
    → ((k : ℕ) → k < n → (a k ≤ s * sum ws ^ suc k) ⊎ (a k ≤ first k * sum ws ^ k + counted ws (carried (sum ws) s a k)))
    → ((k : ℕ) → k < n → first k ≤ c)
    → (k : ℕ) → k ≤ n → (j : ℕ) → j < k → a j ≤ s * sum ws ^ suc j + suc j * c * sum ws ^ j
entry_most ws s c n first a is firsts zero le j lt = absurd (omega arith)
entry_most ws s c n first a is firsts (suc k) le j lt =
    let below = entry_most ws s c n first a is firsts k (omega arith) in
    below_suc (λ j. a j ≤ s * sum ws ^ suc j + suc j * c * sum ws ^ j) k below (at (is k (omega arith)) below) j lt
  where
    at : (a k ≤ s * sum ws ^ suc k) ⊎ (a k ≤ first k * sum ws ^ k + counted ws (carried (sum ws) s a k)) → ((j : ℕ) → j < k → a j ≤ s * sum ws ^ suc j + suc j * c * sum ws ^ j) → a k ≤ s * sum ws ^ suc k + suc k * c * sum ws ^ k
    at (inl top) below = omega (arith, top)
    at (inr keep) below = omega (arith, keep, keep_most ws s c (first k) a k (firsts k (omega arith)) below)

-- fewer lines
pub fewer_lines : (item : Average) (n k : ℕ) (limits : ℕ → Bool) (a b : ℕ → ℕ) → k ≤ n → IsLines item n limits a b → IsLines item k limits a b
fewer_lines item n k limits a b le is = record { constant_is = λ j lt. is.constant_is j (omega arith); slope_is = λ j lt. is.slope_is j (omega arith) }

-- the lines of the places below k keep those of place k small: slopes are from 1 to (k + 1) * W^(lead + 1) * V^k, constants
-- at most setup * W^lead * V^(k + 1) + (k + 1) * c * V^k
module _ (item : Average) (k : ℕ) (limits : ℕ → Bool) (a b : ℕ → ℕ) (is : IsLines item k limits a b) where
  slope_by_choice : (j : ℕ) → j < k → (b j ≤ 0 * sum (moving item.law) ^ suc j) ⊎ (b j ≤ sum item.law ^ suc item.lead * sum (moving item.law) ^ j + counted (moving item.law) (carried (sum (moving item.law)) 0 b j))
  slope_by_choice j lt = go (limits j) refl
    where
      go : (x : Bool) → limits j ≡ x → (b j ≤ 0 * sum (moving item.law) ^ suc j) ⊎ (b j ≤ sum item.law ^ suc item.lead * sum (moving item.law) ^ j + counted (moving item.law) (carried (sum (moving item.law)) 0 b j))
      go true e = inl (omega (arith, slope_at is j lt e))
      go false e = inr (omega (arith, slope_at is j lt e))

  constant_by_choice : (j : ℕ) → j < k → (a j ≤ item.setup * sum item.law ^ item.lead * sum (moving item.law) ^ suc j) ⊎ (a j ≤ stock_sum item (at_place item j) * sum (moving item.law) ^ j + counted (moving item.law) (carried (sum (moving item.law)) (item.setup * sum item.law ^ item.lead) a j))
  constant_by_choice j lt = go (limits j) refl
    where
      go : (x : Bool) → limits j ≡ x → (a j ≤ item.setup * sum item.law ^ item.lead * sum (moving item.law) ^ suc j) ⊎ (a j ≤ stock_sum item (at_place item j) * sum (moving item.law) ^ j + counted (moving item.law) (carried (sum (moving item.law)) (item.setup * sum item.law ^ item.lead) a j))
      go true e = inl (omega (arith, constant_at is j lt e))
      go false e = inr (omega (arith, constant_at is j lt e))

  pub slopes_most : (j : ℕ) → j < k → b j ≤ 0 * sum (moving item.law) ^ suc j + suc j * sum item.law ^ suc item.lead * sum (moving item.law) ^ j
  slopes_most = entry_most (moving item.law) 0 (sum item.law ^ suc item.lead) k (λ j. sum item.law ^ suc item.lead) b slope_by_choice (λ j lt. omega arith) k (omega arith)

  pub constants_most : (c : ℕ) → ((j : ℕ) → j ≤ k → stock_sum item (at_place item j) ≤ c) → (j : ℕ) → j < k → a j ≤ item.setup * sum item.law ^ item.lead * sum (moving item.law) ^ suc j + suc j * c * sum (moving item.law) ^ j
  constants_most c costs = entry_most (moving item.law) (item.setup * sum item.law ^ item.lead) c k (λ j. stock_sum item (at_place item j)) a constant_by_choice (λ j lt. costs j (omega arith)) k (omega arith)

  pub slope_most : keep_slope item b k ≤ suc k * sum item.law ^ suc item.lead * sum (moving item.law) ^ k
  slope_most = omega (arith, keep_most (moving item.law) 0 (sum item.law ^ suc item.lead) (sum item.law ^ suc item.lead) b k (omega arith) slopes_most)

  pub slope_least : sum item.law ^ suc item.lead * sum (moving item.law) ^ k ≤ keep_slope item b k
  slope_least = omega arith

  pub constant_most : (c : ℕ) → ((j : ℕ) → j ≤ k → stock_sum item (at_place item j) ≤ c) → keep_constant item a k ≤ item.setup * sum item.law ^ item.lead * sum (moving item.law) ^ suc k + suc k * c * sum (moving item.law) ^ k
  constant_most c costs = keep_most (moving item.law) (item.setup * sum item.law ^ item.lead) c (stock_sum item (at_place item k)) a k (costs k (omega arith)) (constants_most c costs)

-- ---- the measure: a fraction that is less, over denominators of at most d, has a lesser whole part of d * d times it
pub falls : (num den a b d : ℕ) → 1 ≤ den → den ≤ d → 1 ≤ b → b ≤ d → a * den < b * num → a * (d * d) / b < num * (d * d) / den
falls num den a b d some_den den_most some b_most less =
    le-div (suc (a * (d * d) / b)) (num * (d * d)) den (omega arith) (go (cases_lt (num * (d * d)) (suc (a * (d * d) / b) * den)))
  where
    go : (num * (d * d) < suc (a * (d * d) / b) * den) ⊎ (suc (a * (d * d) / b) * den ≤ num * (d * d)) → suc (a * (d * d) / b) * den ≤ num * (d * d)
    go (inr le) = le
    go (inl lt) =
        let q = a * (d * d) / b in
        absurd (omega (arith, mul-le-mul_left b lt, mul-le-mul_left den (mul-div-le (a * (d * d)) b), mul-le-mul_left (d * d) less, mul-le den b d d den_most b_most))

-- ---- the end: no X is below 0
-- the entries of a table are its lines at g
module _ (item : Average) (g : Ratio) (table constant slope : ℕ → ℕ) where
  carried_line : (k : ℕ) → ((j : ℕ) → j < k → table j + g.num * slope j ≡ g.den * constant j) → (d : ℕ)
      → 1 * carried (sum (moving item.law)) (item.setup * g.den * sum item.law ^ item.lead) table k d + g.num * carried (sum (moving item.law)) 0 slope k d
      ≡ g.den * carried (sum (moving item.law)) (item.setup * sum item.law ^ item.lead) constant k d
  carried_line k h d = go (cases_lt d k)
    where
      go : (d < k) ⊎ (k ≤ d) → 1 * carried (sum (moving item.law)) (item.setup * g.den * sum item.law ^ item.lead) table k d + g.num * carried (sum (moving item.law)) 0 slope k d
          ≡ g.den * carried (sum (moving item.law)) (item.setup * sum item.law ^ item.lead) constant k d
      go (inl lt) =
          let v = sum (moving item.law) in
          rw (carried_at v (item.setup * g.den * sum item.law ^ item.lead) table k d lt, carried_at v 0 slope k d lt, carried_at v (item.setup * sum item.law ^ item.lead) constant k d lt)
          (omega (arith, ap (λ z. z * v ^ d) (h (k - suc d) (omega arith))))
      go (inr le) =
          let v = sum (moving item.law) in
          rw (carried_below v (item.setup * g.den * sum item.law ^ item.lead) table k d le, carried_below v 0 slope k d le, carried_below v (item.setup * sum item.law ^ item.lead) constant k d le)
          (omega arith)

  -- gain - loss is the keep line at g
  pub gain_line : (k : ℕ) → ((j : ℕ) → j < k → table j + g.num * slope j ≡ g.den * constant j) → gain item g table k + g.num * keep_slope item slope k ≡ g.den * keep_constant item constant k + loss item g k
  gain_line k h =
      let v = sum (moving item.law) in
      let c = carried v (item.setup * g.den * sum item.law ^ item.lead) table k in
      let s = carried v 0 slope k in
      let a = carried v (item.setup * sum item.law ^ item.lead) constant k in
      let sums = counted-ext (moving item.law) (λ d. 1 * c d + g.num * s d) (λ d. g.den * a d) (λ d lt. carried_line k h d) in
      omega (arith, sums, counted-pair (moving item.law) 1 g.num c s, counted-scale (moving item.law) g.den a)

-- the table of the least lines at a g where no X is below 0 and one is reached
module _ (item : Average) (g : Ratio) (n : ℕ) (least : ℕ → Bool) (a b : ℕ → ℕ) (are : AreLeastLines item g n least a b)
    (none : (k : ℕ) → k < n → g.num * keep_slope item b k ≤ g.den * keep_constant item a k) (reached : IsReached item g n) where
  entry_line : (k : ℕ) → k < n → table_of g a b k + g.num * b k ≡ g.den * a k
  entry_line k lt = go (least k) refl
    where
      go : (x : Bool) → least k ≡ x → table_of g a b k + g.num * b k ≡ g.den * a k
      go true e = omega (arith, ap (λ z. g.num * z) (slope_at are.lines k lt e))
      go false e = omega (arith, none k lt, ap (λ z. g.num * z) (slope_at are.lines k lt e), ap (λ z. g.den * z) (constant_at are.lines k lt e))

  keep_line : (k : ℕ) → k < n → gain item g (table_of g a b) k + g.num * keep_slope item b k ≡ g.den * keep_constant item a k + loss item g k
  keep_line k lt = gain_line item g (table_of g a b) a b k (λ j below. entry_line j (omega arith))

  entry_is_least : (k : ℕ) → k < n → table_of g a b k ≡ min (gain item g (table_of g a b) k - loss item g k) (limit item g k)
  entry_is_least k lt = go (least k) refl
    where
      go : (x : Bool) → least k ≡ x → table_of g a b k ≡ min (gain item g (table_of g a b) k - loss item g k) (limit item g k)
      go true e = omega (arith, keep_line k lt, entry_line k lt, none k lt, are.limit k lt e, ap (λ z. g.num * z) (slope_at are.lines k lt e), ap (λ z. g.den * z) (constant_at are.lines k lt e))
      go false e = omega (arith, keep_line k lt, entry_line k lt, none k lt, are.keep k lt e, ap (λ z. g.num * z) (slope_at are.lines k lt e), ap (λ z. g.den * z) (constant_at are.lines k lt e))

  pub solved_table : IsSolvedTable item g n (table_of g a b)
  solved_table = record {
    none_below = λ k lt. omega (arith, keep_line k lt, none k lt);
    entry = entry_is_least;
    zero_at = (least_reached item g n least a b are reached).0;
    zero_within = (least_reached item g n least a b are reached).1;
    zero = omega (arith, keep_line (least_reached item g n least a b are reached).0 (least_reached item g n least a b are reached).1, none (least_reached item g n least a b are reached).0 (least_reached item g n least a b are reached).1, (least_reached item g n least a b are reached).2);
  }
