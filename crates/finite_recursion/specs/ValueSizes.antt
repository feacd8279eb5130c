-- The values of a finite horizon, of any choices on the grid, lie from 0 to a part of the width number.
use Rattle.std.proofs.Common.{◌≡◌, ℕ, suc, ◌+◌, ◌-◌, ◌*◌, ◌^◌, ◌<◌, ◌≤◌, ℤ, pos, ◌+ℤ◌, ◌-ℤ◌, ◌*ℤ◌, ◌≤ℤ◌, length, sum, sym, ◌∙◌, ap, arith, mul-le-mul_left, pow-add, zero-add}
use Rattle.std.proofs.lemmas.Int.{ints}
use Rattle.std.proofs.lemmas.Nat.{mul-le}
use Rattle.std.proofs.Math.Nat.{pow-zero, pow-le-pow_right}
use Rattle.demand_law.specs.Law.{weighted}
use Rattle.demand_law.specs.Sequences.{laws_at, greatest_in}
use Rattle.demand_law.specs.Integers as Z
use Rattle.demand_law.specs.WeightedSums.{weighted_most, weighted_nonnegative}
use Rattle.demand_law.specs.LawSums.{sum-IsSumOf, IsSumOf-law_of_sum}
use Rattle.demand_law.specs.ServedLaws.{greatest_sum-laws_at}
use Rattle.decision_model.specs.declared.finite.Finite.{Finite}
use Rattle.decision_model.specs.DemandLaws.{common_total}
use Rattle.decision_model.specs.Finite.{IsReadableFinite, finite_low, finite_positions, finite_cost_bound, finite_width}
use Rattle.decision_model.specs.FiniteCosts.{stock_most, stock_within}
use Rattle.decision_model.specs.FiniteProblem.{law_of_period}
use Rattle.decision_model.specs.FiniteSound.{IsSoundFinite, sound_readable, low_zero}
use Rattle.decision_model.specs.LawFacts.{common_total_some, totals_of-common, AreDemandLaws-serve}
use Rattle.decision_model.specs.PositionTests.{above_zero_least, above_zero_mono}
use Rattle.decision_model.specs.Stock.{stock_cost, cost_at}
use Rattle.value_cert.specs.FiniteValues.{lead_law, scale, stock_scale, cost_after, end_value}
use Rattle.finite_lemmas.specs.Forms.{scale_more}
use Rattle.finite_lemmas.specs.Orders.{product_above}
use Rattle.finite_recursion.specs.Sizes.{period_most, end_most, value_most, order_most, IsSmallStay, IsSmallValue}

-- ---- plain numbers
-- a product of numbers from 0 up
product_is : (a b : ℕ) → pos a *ℤ pos b ≡ pos (a * b)
product_is a b = omega (arith, ints)

-- factors in another order
times_assoc : (a b c : ℕ) → a * b * c ≡ a * (b * c)
times_assoc a b c = omega arith

-- one more
suc_is : (n : ℕ) → suc n ≡ n + 1
suc_is n = omega arith

-- a discounted sum of values keeps within the next scale
discounted : (a b w s k scaled : ℕ) → a ≤ b → scaled ≡ b * w * s → a * (w * (k * s)) ≤ k * scaled
discounted a b w s k scaled le e = omega (arith, mul-le-mul_left (w * (k * s)) le, ap (λ z. k * z) e)

-- a sum of two products
two_parts : (s a p q r u : ℕ) (x y : ℤ) → (pos s *ℤ x) ≤ℤ (pos s *ℤ pos p) → (pos a *ℤ y) ≤ℤ (pos a *ℤ pos q) → s * p ≡ r → a * q ≤ u → (pos s *ℤ x +ℤ pos a *ℤ y) ≤ℤ pos (r + u)
two_parts s a p q r u x y first second e le = omega (arith, ints, first, second, product_is s p, product_is a q, e, le)

-- what stays and what an order adds are together a period's most
parts_most : (s n p o k e m : ℕ) → p ≡ 1 + o + k → m ≡ s * k + (n * p + e) * s + s * o → m ≤ (suc n * p + e) * s
parts_most s n p o k e m f g = omega (arith, g, ap (λ z. z * s) f)

module _ (finite : Finite) (readable : IsReadableFinite finite) where
  -- a readable instance is sound
  abbrev sound : IsSoundFinite finite
  sound = sound_readable finite readable

  -- the common sum of weights
  abbrev w : ℕ
  w = common_total finite.laws

  -- the low end after the last period
  abbrev last_low : ℤ
  last_low = finite_low finite (finite.periods + 1)

  -- ---- the law of a lead time
  -- its weights add up to a power of the common sum
  pub lead_total : (t : ℕ) → 1 ≤ t → t ≤ finite.periods → sum (lead_law finite t) ≡ w ^ suc finite.lead
  unfolding lead_law
  lead_total t some le =
      let laws = laws_at finite.laws (t - 1) (suc finite.lead) in
      sum-IsSumOf (lead_law finite t) laws (IsSumOf-law_of_sum laws)
      ∙ totals_of-common finite.laws (finite.periods + finite.lead) (t - 1) (suc finite.lead) (omega (arith, readable.periods.least)) readable.laws

  -- it has no demand above the greatest of all periods of the lead time
  pub lead_width : (t : ℕ) → 1 ≤ t → t ≤ finite.periods → length (lead_law finite t) ≤ (finite.lead + 1) * greatest_in finite.laws + 1
  unfolding lead_law
  lead_width t some le =
      let laws = laws_at finite.laws (t - 1) (suc finite.lead) in
      let width = (IsSumOf-law_of_sum laws).width in
      let serves = AreDemandLaws-serve finite.laws (finite.periods + finite.lead) (t - 1) (suc finite.lead) (omega (arith, some, le)) readable.laws in
      let most = greatest_sum-laws_at finite.laws (t - 1) (suc finite.lead) serves in
      omega (arith, width, most, ap (λ k. k * greatest_in finite.laws) (suc_is finite.lead))

  -- the cost of stock over it
  pub lead_cost_least : (t : ℕ) (y : ℤ) → pos 0 ≤ℤ stock_cost finite.holding finite.stockout (lead_law finite t) y
  unfolding stock_cost
  lead_cost_least t y = weighted_nonnegative (lead_law finite t) (λ d. pos (cost_at finite.holding finite.stockout y d)) (λ d lt. omega (arith, ints))

  -- .. is at most the most that stock costs
  pub lead_cost_within : (t : ℕ) (y : ℤ) → 1 ≤ t → t ≤ finite.periods → last_low ≤ℤ y → y ≤ℤ finite.cap → stock_cost finite.holding finite.stockout (lead_law finite t) y ≤ℤ pos (w ^ suc finite.lead * stock_most finite sound)
  unfolding stock_cost
  lead_cost_within t y some le from to =
      let most = weighted_most (lead_law finite t) (λ d. pos (cost_at finite.holding finite.stockout y d)) (pos (stock_most finite sound))
      (λ d lt. stock_within finite sound y d from to (omega (arith, lt, lead_width t some le))) in
      omega (arith, ints, most, product_is (sum (lead_law finite t)) (stock_most finite sound), ap (λ k. k * stock_most finite sound) (lead_total t some le))

  -- ---- scales
  -- the scale is that of stock and of a lead time
  pub scales_join : (n : ℕ) → stock_scale finite n * w ^ suc finite.lead ≡ scale finite (suc n)
  unfolding scale stock_scale
  scales_join n =
      let e : n + suc finite.lead ≡ suc n + finite.lead = omega arith in
      times_assoc (finite.discount_den ^ suc n) (w ^ n) (w ^ suc finite.lead) ∙ ap (λ k. finite.discount_den ^ suc n * k) (sym (pow-add w n (suc finite.lead)) ∙ ap (λ k. w ^ k) e)

  -- ---- the cost of a position of period t, which n periods follow, where the values that it can lead to are in range
  module _ (F : ℤ → ℤ) (n t : ℕ) (some : 1 ≤ t) (le : t ≤ finite.periods) (y : ℤ) (from : last_low ≤ℤ y) (to : y ≤ℤ finite.cap) (small : (d : ℕ) → d < length (law_of_period finite t) → IsSmallValue finite n (F (y -ℤ pos d))) where
    -- what comes later
    abbrev next_sum : ℤ
    next_sum = weighted (law_of_period finite t) (λ d. F (y -ℤ pos d))

    -- the cost of stock
    abbrev stock : ℤ
    stock = stock_cost finite.holding finite.stockout (lead_law finite t) y

    -- what comes later isn't below 0
    pub next_least : pos 0 ≤ℤ next_sum
    next_least = weighted_nonnegative (law_of_period finite t) (λ d. F (y -ℤ pos d)) (λ d lt. (small d lt).least)

    -- .. and at most the most of the next period
    pub next_most : next_sum ≤ℤ pos (w * value_most finite n)
    next_most =
        let most = weighted_most (law_of_period finite t) (λ d. F (y -ℤ pos d)) (pos (value_most finite n)) (λ d lt. (small d lt).most) in
        omega (arith, ints, most, product_is (sum (law_of_period finite t)) (value_most finite n), ap (λ k. k * value_most finite n) (sound.same_sum t))

    -- .. which the discount keeps within the scale
    later_most : finite.discount_num * (w * value_most finite n) ≤ (n * period_most finite + end_most finite) * scale finite (suc n)
    unfolding value_most
    later_most = discounted finite.discount_num finite.discount_den w (scale finite n) (n * period_most finite + end_most finite) (scale finite (suc n)) sound.discount (scale_more finite n)

    -- the cost isn't below 0
    after_least : pos 0 ≤ℤ cost_after finite F n t y
    unfolding cost_after
    after_least =
        Z.add_le (pos 0) (pos (stock_scale finite n) *ℤ stock) (pos 0) (pos finite.discount_num *ℤ next_sum)
        (product_above (stock_scale finite n) stock (lead_cost_least t y))
        (product_above finite.discount_num next_sum next_least)

    -- and at most the parts of stock and of what comes later
    after_most : cost_after finite F n t y ≤ℤ pos (scale finite (suc n) * stock_most finite sound + (n * period_most finite + end_most finite) * scale finite (suc n))
    unfolding cost_after
    after_most =
        let held = Z.weight_mono (stock_scale finite n) stock (pos (w ^ suc finite.lead * stock_most finite sound)) (lead_cost_within t y some le from to) in
        let later = Z.weight_mono finite.discount_num next_sum (pos (w * value_most finite n)) next_most in
        let joined : stock_scale finite n * (w ^ suc finite.lead * stock_most finite sound) ≡ scale finite (suc n) * stock_most finite sound = sym (times_assoc (stock_scale finite n) (w ^ suc finite.lead) (stock_most finite sound)) ∙ ap (λ k. k * stock_most finite sound) (scales_join n) in
        two_parts (stock_scale finite n) finite.discount_num (w ^ suc finite.lead * stock_most finite sound) (w * value_most finite n) (scale finite (suc n) * stock_most finite sound) ((n * period_most finite + end_most finite) * scale finite (suc n)) stock next_sum held later joined later_most

    -- it is in range
    pub stay_small : IsSmallStay finite (suc n) (cost_after finite F n t y)
    unfolding value_most order_most period_most
    stay_small = record {
      least = after_least;
      most = joined (scale finite (suc n)) (stock_most finite sound) (n * period_most finite + end_most finite) (finite.setup + finite.unit * finite_positions finite) (value_most finite (suc n)) (cost_after finite F n t y) after_most
          (parts_most (scale finite (suc n)) n (period_most finite) (finite.setup + finite.unit * finite_positions finite) (stock_most finite sound) (end_most finite) _ (omega arith) (omega arith));
    }
      where
        joined : (s k j o v : ℕ) (x : ℤ) → x ≤ℤ pos (s * k + j * s) → s * k + j * s + s * o ≤ v → (x +ℤ pos (s * o)) ≤ℤ pos v
        joined s k j o v x first le = omega (arith, ints, first, le)

  -- ---- the end
  -- where no period is left
  none_left : (k p b v u : ℕ) → b ≡ 1 → u ≡ v → (0 * p + k) * (b * u) ≡ k * v
  none_left k p b v u e f = ap (λ z. (0 * p + k) * (z * u)) e ∙ ap (λ z. (0 * p + k) * (1 * z)) f ∙ omega arith

  -- the end's values are in range
  pub end_small : (x : ℤ) → last_low ≤ℤ x → x ≤ℤ finite.cap → IsSmallValue finite 0 (end_value finite x)
  unfolding finite_positions end_value value_most end_most scale
  end_small x from to =
      let l = w ^ finite.lead in
      let n = finite_positions finite in
      let wide = above_zero_least (finite.cap -ℤ last_low +ℤ pos 1) in
      let held = mul-le-mul_left finite.end_holding (above_zero_mono (x -ℤ pos 0) (pos n) (omega (arith, ints, to, low_zero finite (finite.periods + 1), wide))) in
      let lacked = mul-le-mul_left finite.end_stockout (above_zero_mono (pos 0 -ℤ x) (pos n) (omega (arith, ints, from, sound.cap, wide))) in
      let most : cost_at finite.end_holding finite.end_stockout x 0 ≤ end_most finite = omega (arith, held, lacked) in
      let first : value_most finite 0 ≡ end_most finite * l = none_left (end_most finite) (period_most finite) (finite.discount_den ^ 0) l (w ^ (0 + finite.lead)) (pow-zero finite.discount_den) (ap (λ k. w ^ k) (zero-add finite.lead)) in
      record {
        least = omega (arith, ints, product_is l (cost_at finite.end_holding finite.end_stockout x 0));
        most = omega (arith, ints, mul-le-mul_left l most, product_is l (cost_at finite.end_holding finite.end_stockout x 0), first);
      }

-- ---- within the width number
-- the periods that are left cost no more than all
joined_costs : (n T p e : ℕ) → 1 ≤ T → n ≤ T → n * p + e ≤ T * (p + e)
joined_costs n T p e some le = omega (arith, mul-le n p T p le (omega arith), mul-le 1 e T e some (omega arith))

-- no value is above the width number
pub most_within_width : (finite : Finite) → IsReadableFinite finite → (n : ℕ) → n ≤ finite.periods → value_most finite n ≤ finite_width finite
unfolding finite_width finite_cost_bound value_most period_most end_most scale
most_within_width finite readable n le =
    let b = finite.discount_den in
    let w = common_total finite.laws in
    let T = finite.periods in
    let C = finite_cost_bound finite in
    let some_b : 1 ≤ b = omega (arith, readable.discount.least, readable.discount.proper) in
    let some_w : 1 ≤ w = common_total_some finite.laws (T + finite.lead) (omega (arith, readable.periods.least)) readable.laws in
    let den : b ^ n ≤ b ^ T = pow-le-pow_right {n = b} some_b le in
    let weights : w ^ (n + finite.lead) ≤ w ^ (T + finite.lead) = pow-le-pow_right {n = w} some_w (omega (arith, le)) in
    let costs : n * period_most finite + end_most finite ≤ T * C = joined_costs n T (period_most finite) (end_most finite) readable.periods.least le in
    let scales : b ^ n * w ^ (n + finite.lead) ≤ b ^ T * w ^ (T + finite.lead) = mul-le (b ^ n) (w ^ (n + finite.lead)) (b ^ T) (w ^ (T + finite.lead)) den weights in
    omega (arith, mul-le (n * period_most finite + end_most finite) (b ^ n * w ^ (n + finite.lead)) (T * C) (b ^ T * w ^ (T + finite.lead)) costs scales)
