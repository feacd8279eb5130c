-- The numbers of the equations over the denominator of the last place: what they are, and that they are small.
use Rattle.std.proofs.Common.{◌≡◌, ℕ, pos, ◌+ℤ◌, suc, ◌+◌, ◌-◌, ◌*◌, ◌^◌, ◌<◌, ◌≤◌, if◌then◌else◌, sum, sym, ◌∙◌, ap, arith, mul-le-mul_left, pow-suc, ◌⊎◌, inl, inr}
use Rattle.std.proofs.lemmas.Bool.{cases_lt}
use Rattle.std.proofs.lemmas.Nat.{pow-add, mul-le}
use Rattle.std.proofs.Math.Nat.{one-le-pow}
use Rattle.demand_law.specs.CountedSums.{counted, counted-ext, counted-scale, counted-most}
use Rattle.decision_model.specs.declared.average.Average.{Average}
use Rattle.decision_model.specs.Average.{IsValidAverage, average_positions, average_cost_bound}
use Rattle.decision_model.specs.WidthFacts.{average_positions_some}
use Rattle.value_cert.specs.AverageValues.{Ratio, moving, at_place, stock_sum, value_after, limit, gain, loss, greatest_den}
use Rattle.average_lemmas.specs.Certified.{moving_some}
use Rattle.average_lemmas.specs.Iteration.{carried_at, carried_below}
use Rattle.average_lemmas.specs.KeptSizes.{half_small}
use Rattle.average_lemmas.specs.LeadWeights.{weight_some}
use Rattle.average_lemmas.specs.PlaceSizes.{den_fits, line_fits}
use Rattle.average_lemmas.specs.RulesKept.{positions_count}
use Rattle.average_lemmas.specs.Sizes.{stock_most, most_fits, loss_small, setup_small, denominator_small}
use Rattle.average_lemmas.specs.Tables.{lt_true, lt_false}
use Rattle.average_recursion.specs.Rows.{IsSmallRatio, value_below}
use Rattle.average_recursion.specs.Entries.{after, AreEntries, AreSmallEntries, entry_most}

-- a factor of both sides
cancel : (v x y : ℕ) → 1 ≤ v → v * x ≤ v * y → x ≤ y
cancel v x y some le = go (cases_lt y x)
  where
    go : (y < x) ⊎ (x ≤ y) → x ≤ y
    go (inl lt) = absurd (omega (arith, le, some, mul-le-mul_left v lt))
    go (inr holds) = holds

module _ (item : Average) (valid : IsValidAverage item) where
  abbrev n : ℕ
  n = average_positions item

  abbrev v : ℕ
  v = sum (moving item.law)

  some_moving : 1 ≤ v
  some_moving = moving_some item.law valid.regular.has_demand

  some_places : 1 ≤ n
  some_places = average_positions_some item valid.regular.readable

  -- a power once more
  last_power : v ^ n ≡ v ^ (n - 1) * v
  last_power = let same : suc (n - 1) ≡ n = omega (arith, some_places) in ap (λ k. v ^ k) (sym same) ∙ pow-suc v (n - 1)

  -- the powers below and above a place
  pub power_parts : (k : ℕ) → k < n → v ^ (n - 1) ≡ v ^ k * v ^ (n - suc k)
  power_parts k lt = let same : n - 1 ≡ k + (n - suc k) = omega (arith, lt) in ap (λ j. v ^ j) same ∙ pow-add v k (n - suc k)

  -- the power above a place is that above the next one, once more
  pub power_next : (k : ℕ) → suc k < n → v ^ (n - suc k) ≡ v ^ (n - suc (suc k)) * v
  power_next k lt = let same : n - suc k ≡ suc (n - suc (suc k)) = omega (arith, lt) in ap (λ j. v ^ j) same ∙ pow-suc v (n - suc (suc k))

  pub power_some : (k : ℕ) → 1 ≤ v ^ k
  power_some k = one-le-pow k v (omega (arith, some_moving))

  -- ---- what they are
  module _ (g : Ratio) where
    abbrev s : ℕ
    s = item.setup * g.den * sum item.law ^ item.lead

    below_is : value_below item g * v ≡ s * v ^ n
    unfolding value_below
    below_is = omega (arith, ap (λ z. s * z) last_power)

    -- what ordering costs
    pub limit_is : (k : ℕ) → k < n → value_below item g * v ≡ limit item g k * v ^ (n - suc k)
    unfolding value_below
    limit_is k lt = omega (arith, ap (λ z. s * z * v) (power_parts k lt), ap (λ z. s * z * v ^ (n - suc k)) (pow-suc v k))

    -- the average cost of a period
    pub loss_is : (k : ℕ) → k < n → g.num * (sum item.law ^ suc item.lead * v ^ (n - 1)) ≡ loss item g k * v ^ (n - suc k)
    loss_is k lt = omega (arith, ap (λ z. g.num * sum item.law ^ suc item.lead * z) (power_parts k lt))

    module _ (b a : ℕ → ℕ) (k : ℕ) (lt : k < n) (are : AreEntries item k b a) where
      -- the entry after a demand
      after_is : (d : ℕ) → after b (value_below item g) k d ≡ v ^ (n - suc k) * value_after item g a k d
      unfolding value_below
      after_is d = go (cases_lt d k)
        where
          go : (d < k) ⊎ (k ≤ d) → after b (s * v ^ (n - 1)) k d ≡ v ^ (n - suc k) * value_after item g a k d
          go (inl less) =
              let power : n - suc (suc (k - suc d)) ≡ n - suc k + d = omega (arith, less, lt) in
              ap (λ t. if t then b (k - suc d) else s * v ^ (n - 1)) (lt_true d k less)
              ∙ are (k - suc d) (omega (arith, less)) (omega (arith, less, lt))
              ∙ ap (λ j. a (k - suc d) * v ^ j) power
              ∙ ap (λ z. a (k - suc d) * z) (pow-add v (n - suc k) d)
              ∙ omega arith
              ∙ sym (ap (λ z. v ^ (n - suc k) * z) (carried_at v s a k d less))
          go (inr le) =
              ap (λ t. if t then b (k - suc d) else s * v ^ (n - 1)) (lt_false d k le)
              ∙ omega (arith, ap (λ z. s * z) (power_parts k lt))
              ∙ sym (ap (λ z. v ^ (n - suc k) * z) (carried_below v s a k d le))

      -- what keeping the place is worth
      pub gain_is : counted (moving item.law) (after b (value_below item g) k) + g.den * v ^ (n - 1) * stock_sum item (at_place item k) ≡ gain item g a k * v ^ (n - suc k)
      gain_is =
          let each = counted-ext (moving item.law) (after b (value_below item g) k) (λ d. v ^ (n - suc k) * value_after item g a k d) (λ d less. after_is d) in
          let scaled = counted-scale (moving item.law) (v ^ (n - suc k)) (value_after item g a k) in
          omega (arith, each, scaled, ap (λ z. g.den * z * stock_sum item (at_place item k)) (power_parts k lt))

  -- ---- they are small
  module _ (g : Ratio) (small : IsSmallRatio item g) where
    abbrev c : ℕ
    c = (average_cost_bound item - 1) * sum item.law ^ suc item.lead * g.den

    abbrev all : item.floor +ℤ pos n ≡ item.cap +ℤ pos 1
    all = positions_count item valid.regular.readable

    -- no entry is too large
    pub most_small : (k : ℕ) → k < n → entry_most item g k ≤ 2 ^ 119
    unfolding entry_most
    most_small k lt =
        let fits = most_fits item valid.regular.has_demand n all g small.den_small small.num_small (λ j. 0) 0 some_places (λ j less. absurd (omega (arith, less))) (n - 1) (omega (arith, some_places)) in
        let last : suc (n - 1) ≡ n = omega (arith, some_places) in
        omega (arith, half_small item valid, fits, ap (λ j. s g * v ^ j) last, ap (λ j. j * c * v ^ (n - 1)) last, mul-le (suc k * c) (v ^ (n - 1)) (n * c) (v ^ (n - 1)) (mul-le (suc k) c n c lt (omega arith)) (omega arith))

    -- the setup cost is within the most of each place
    pub limit_most : (k : ℕ) → k < n → limit item g k * v ^ (n - suc k) ≤ entry_most item g k
    unfolding entry_most
    limit_most k lt = omega (arith, limit_is g k lt, below_is g)

    pub setup_fits : value_below item g * v ≤ 2 ^ 119
    setup_fits = omega (arith, half_small item valid, below_is g, setup_small item valid.regular.has_demand n all g small.den_small small.num_small some_places)

    pub below_fits : value_below item g ≤ 2 ^ 119
    below_fits = omega (arith, setup_fits, mul-le-mul_left (value_below item g) some_moving)

    -- the factors of the code
    pub scale_fits : g.den * v ^ (n - 1) * sum item.law ^ item.lead ≤ 2 ^ 119
    scale_fits =
        omega (arith, half_small item valid, denominator_small item valid.regular.has_demand n all g small.den_small small.num_small some_places, ap (λ z. g.den * sum item.law ^ item.lead * z) last_power, mul-le-mul_left (g.den * sum item.law ^ item.lead * v ^ (n - 1)) some_moving)

    pub stock_fits : g.den * v ^ (n - 1) ≤ 2 ^ 119
    stock_fits = omega (arith, scale_fits, mul-le-mul_left (g.den * v ^ (n - 1)) (one-le-pow item.lead (sum item.law) (omega (arith, weight_some item valid))))

    pub loss_fits : g.num * (sum item.law ^ suc item.lead * v ^ (n - 1)) ≤ 2 ^ 119
    loss_fits = omega (arith, half_small item valid, loss_small item valid.regular.has_demand n all g small.den_small small.num_small (n - 1) (omega (arith, some_places)))

    module _ (b : ℕ → ℕ) (k : ℕ) (lt : k < n) (are : AreSmallEntries item g k b) where
      -- the most of the places below
      abbrev most : ℕ
      most = s g * v ^ n + k * c * v ^ (n - 1)

      after_most : (d : ℕ) → v * after b (value_below item g) k d ≤ most
      unfolding entry_most
      after_most d = go (cases_lt d k)
        where
          go : (d < k) ⊎ (k ≤ d) → v * after b (value_below item g) k d ≤ most
          go (inl less) =
              let j = k - suc d in
              let fewer : suc j ≤ k = omega (arith, less) in
              omega (arith, ap (λ t. v * (if t then b j else value_below item g)) (lt_true d k less), are j (omega (arith, less)) (omega (arith, less, lt)), mul-le (suc j * c) (v ^ (n - 1)) (k * c) (v ^ (n - 1)) (mul-le (suc j) c k c fewer (omega arith)) (omega arith))
          go (inr le) = omega (arith, ap (λ t. v * (if t then b (k - suc d) else value_below item g)) (lt_false d k le), below_is g)

      pub later_most : counted (moving item.law) (after b (value_below item g) k) ≤ most
      later_most =
          cancel v (counted (moving item.law) (after b (value_below item g) k)) most some_moving
          (omega (arith, counted-scale (moving item.law) v (after b (value_below item g) k), counted-most (moving item.law) (λ d. v * after b (value_below item g) k d) most (λ d less. after_most d)))

      -- what keeping the place is worth
      pub gain_most : counted (moving item.law) (after b (value_below item g) k) + g.den * v ^ (n - 1) * stock_sum item (at_place item k) ≤ entry_most item g k
      unfolding entry_most
      gain_most =
          let stock = mul-le (stock_sum item (at_place item k)) (g.den * v ^ (n - 1)) ((average_cost_bound item - 1) * sum item.law ^ suc item.lead) (g.den * v ^ (n - 1)) (stock_most item n all k lt) (omega arith) in
          omega (arith, later_most, stock)

  -- ---- what needs no average cost
  pub unit_fits : sum item.law ^ suc item.lead * v ^ (n - 1) ≤ 2 ^ 119
  unit_fits =
      let u = sum item.law ^ suc item.lead in
      den_fits item valid (u * v ^ (n - 1)) (omega (arith, mul-le-mul_left (u * v ^ (n - 1)) some_places))

  pub places_fit : n * sum item.law ^ suc item.lead ≤ 2 ^ 119
  places_fit = den_fits item valid (n * sum item.law ^ suc item.lead) (omega (arith, mul-le-mul_left (n * sum item.law ^ suc item.lead) (power_some (n - 1))))

  pub greatest_fits : greatest_den item n ≤ 2 ^ 119
  greatest_fits = den_fits item valid (greatest_den item n) (omega arith)

  pub num_fits : (den : ℕ) → den ≤ greatest_den item n → den * (item.setup + average_cost_bound item) ≤ 2 ^ 119
  num_fits den le = line_fits item valid (den * (item.setup + average_cost_bound item)) (omega (arith, mul-le den (item.setup + average_cost_bound item) (greatest_den item n) (item.setup + average_cost_bound item) le (omega arith)))
