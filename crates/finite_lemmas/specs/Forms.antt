-- The least values of a finite horizon are convex but for the setup cost, so that each period's choices have the order
-- form, after Scarf (1960): where orders have no greatest size.
use Rattle.std.proofs.Common.{◌≡◌, ℕ, zero, suc, ◌+◌, ◌*◌, ◌^◌, ◌≤◌, ℤ, pos, ◌+ℤ◌, ◌-ℤ◌, ◌*ℤ◌, ◌≤ℤ◌, ◌<ℤ◌, Bool, true, false, if◌then◌else◌, sum, refl, sym, ◌∙◌, ap, arith, subst, mul-le-mul_left}
use Rattle.std.specs.Prelude.{int_lt, None}
use Rattle.std.proofs.lemmas.Int.{ints}
use Rattle.demand_law.specs.Law.{weighted}
use Rattle.demand_law.specs.Integers as Z
use Rattle.decision_model.specs.declared.finite.Finite.{Finite}
use Rattle.decision_model.specs.DemandLaws.{common_total}
use Rattle.decision_model.specs.Finite.{IsReadableFinite, finite_low}
use Rattle.decision_model.specs.FiniteProblem.{law_of_period, setup_of}
use Rattle.decision_model.specs.FiniteSound.{sound_readable, low_next, low_zero, top_none}
use Rattle.decision_model.specs.Stock.{stock_cost}
use Rattle.value_cert.specs.FiniteValues.{lead_law, scale, stock_scale, cost_after, value_of, end_value, least_choice, least_values}
use Rattle.finite_lemmas.specs.OrderForms.{IsFirstIn, IsOrderForm, HasOrderForm}
use Rattle.finite_lemmas.specs.KConvex.{IsKConvexOn, mul_sub, kconvex-add, kconvex-more, kconvex-scale, kconvex-shift, kconvex-weighted, kconvex-line, kconvex-ext, convex-scale}
use Rattle.finite_lemmas.specs.Orders.{gap, gap_is, first-less, setup_move, setup_stay, order_form, IsSplit, split, kconvex-order}
use Rattle.finite_lemmas.specs.LeastChoice.{first_in, first_in_is, least_choice_is}
use Rattle.finite_lemmas.specs.StockConvex.{stock_convex, end_convex}

-- ---- plain numbers
-- a scaled setup cost is the setup cost at scale
setup_scaled : (c K : ℕ) (x y : ℤ) → pos c *ℤ setup_of K x y ≡ setup_of (c * K) x y
setup_scaled c K x y = by (int_lt x y)
  where
    by : (b : Bool) → pos c *ℤ (if b then pos K else pos 0) ≡ (if b then pos (c * K) else pos 0)
    by true = omega (arith, ints)
    by false = Z.mul_zero (pos c)

-- one period more: a discount of at most 1
later_setup : (a b w s K : ℕ) → a ≤ b → a * (w * (s * K)) ≤ (b * w * s) * K
later_setup a b w s K le = omega (arith, mul-le-mul_left (w * (s * K)) le)

-- a minus comes out of a product
minus_times : (p x : ℤ) → (pos 0 -ℤ p) *ℤ x ≡ pos 0 -ℤ p *ℤ x
minus_times p x = omega (arith, ints, Z.mul_comm (pos 0 -ℤ p) x, mul_sub x (pos 0) p, Z.mul_comm p x)

-- factors in another order
four : (b w x y : ℕ) → (b * x) * (w * y) ≡ b * w * (x * y)
four b w x y = omega arith

-- the scale with one period more
pub scale_more : (finite : Finite) (n : ℕ) → scale finite (suc n) ≡ finite.discount_den * common_total finite.laws * scale finite n
unfolding scale
scale_more finite n =
    let b = finite.discount_den in
    let w = common_total finite.laws in
    let left : suc n + finite.lead ≡ suc (n + finite.lead) = omega arith in
    ap (λ k. b ^ suc n * w ^ k) left
    ∙ ap (λ k. k * w ^ suc (n + finite.lead)) (sym (Z.pow_first b n))
    ∙ ap (λ k. (b * b ^ n) * k) (sym (Z.pow_first w (n + finite.lead)))
    ∙ four b w (b ^ n) (w ^ (n + finite.lead))

-- ---- what the equations say of the least values
-- after the last period
pub values_end : (finite : Finite) (t : ℕ) (x : ℤ) → least_values finite zero t x ≡ end_value finite x
unfolding least_values
values_end finite t x = refl

-- with one period more
pub values_more : (finite : Finite) (n t : ℕ) (x : ℤ) → least_values finite (suc n) t x ≡ value_of finite (least_values finite n (suc t)) n t x (least_choice finite (least_values finite n (suc t)) n t x)
unfolding least_values
values_more finite n t x = refl

-- the setup cost by the scale of the values where n periods are left
abbrev pub setup_at : Finite → ℕ → ℕ
setup_at finite n = scale finite n * finite.setup

-- what a level costs after the order, with the cost of each of its units
abbrev pub level_cost : Finite → (ℤ → ℤ) → ℕ → ℕ → ℤ → ℤ
level_cost finite F n t y = cost_after finite F n t y +ℤ pos (scale finite (suc n) * finite.unit) *ℤ y

-- the value of a choice, by the cost of its level
pub value_is : (finite : Finite) (F : ℤ → ℤ) (n t : ℕ) (x y : ℤ) → value_of finite F n t x y ≡ (level_cost finite F n t y +ℤ setup_of (setup_at finite (suc n)) x y) -ℤ pos (scale finite (suc n) * finite.unit) *ℤ x
value_is finite F n t x y =
    let s = scale finite (suc n) in
    omega (arith, ints, Z.mul_add (pos s) (setup_of finite.setup x y) (pos finite.unit *ℤ (y -ℤ x)), setup_scaled s finite.setup x y, Z.mul_assoc (pos s) (pos finite.unit) (y -ℤ x), mul_sub (pos (s * finite.unit)) y x)

module _ (finite : Finite) (readable : IsReadableFinite finite) where
  -- ---- a period, with any next values F that are convex but for the setup cost
  abbrev pub IsLater : (ℤ → ℤ) → ℕ → ℕ → Type 0
  IsLater F n t = IsKConvexOn (setup_at finite n) (finite_low finite (suc t)) finite.cap F

  -- what comes after the demand is convex but for the setup cost
  next_kconvex : (F : ℤ → ℤ) (n t : ℕ) → 1 ≤ t → IsLater F n t → IsKConvexOn (sum (law_of_period finite t) * setup_at finite n) (finite_low finite t) finite.cap (λ y. weighted (law_of_period finite t) (λ d. F (y -ℤ pos d)))
  next_kconvex F n t some later =
      let low = finite_low finite t in
      kconvex-weighted (setup_at finite n) low finite.cap (law_of_period finite t) (λ y d. F (y -ℤ pos d))
      (λ d lt. kconvex-shift (setup_at finite n) low (finite_low finite (suc t)) finite.cap d F (low_next finite t d some (omega (arith, (sound_readable finite readable).within t, lt))) later)

  -- so is the cost after the order
  after_kconvex : (F : ℤ → ℤ) (n t : ℕ) → 1 ≤ t → IsLater F n t → IsKConvexOn (setup_at finite (suc n)) (finite_low finite t) finite.cap (cost_after finite F n t)
  unfolding cost_after
  after_kconvex F n t some later =
      let low = finite_low finite t in
      let a = finite.discount_num in
      let law = law_of_period finite t in
      let stock_of = stock_cost finite.holding finite.stockout (lead_law finite t) in
      let now = λ (y : ℤ). pos (stock_scale finite n) *ℤ stock_of y in
      let next = λ (y : ℤ). weighted law (λ d. F (y -ℤ pos d)) in
      let stock = convex-scale low finite.cap (stock_scale finite n) stock_of (stock_convex finite.holding finite.stockout (lead_law finite t) low finite.cap) in
      let scaled = kconvex-scale (sum law * setup_at finite n) low finite.cap a next (next_kconvex F n t some later) in
      let fits = later_setup a finite.discount_den (common_total finite.laws) (scale finite n) finite.setup readable.discount.proper in
      let size : 0 + a * (sum law * setup_at finite n) ≤ setup_at finite (suc n) =
      omega (arith, fits, ap (λ k. a * (k * setup_at finite n)) ((sound_readable finite readable).same_sum t), ap (λ k. k * finite.setup) (scale_more finite n)) in
      kconvex-more (0 + a * (sum law * setup_at finite n)) (setup_at finite (suc n)) low finite.cap (cost_after finite F n t) size
      (kconvex-add 0 (a * (sum law * setup_at finite n)) low finite.cap now (λ y. pos a *ℤ next y) stock scaled)

  -- and the cost of levels
  pub level_kconvex : (F : ℤ → ℤ) (n t : ℕ) → 1 ≤ t → IsLater F n t → IsKConvexOn (setup_at finite (suc n)) (finite_low finite t) finite.cap (level_cost finite F n t)
  level_kconvex F n t some later =
      let low = finite_low finite t in
      let c = pos (scale finite (suc n) * finite.unit) in
      kconvex-more (setup_at finite (suc n) + 0) (setup_at finite (suc n)) low finite.cap (level_cost finite F n t) (omega arith)
      (kconvex-add (setup_at finite (suc n)) 0 low finite.cap (cost_after finite F n t) (λ y. c *ℤ y) (after_kconvex F n t some later) (kconvex-line low finite.cap c))

  -- ---- the choices, where orders have no greatest size
  module _ (none : finite.most ≡ None) where
    -- a choice is the first least of the level's cost and the setup cost
    chosen : (F : ℤ → ℤ) (n t : ℕ) (x : ℤ) → x ≤ℤ finite.cap → IsFirstIn (λ y. level_cost finite F n t y +ℤ setup_of (setup_at finite (suc n)) x y) x finite.cap (least_choice finite F n t x)
    chosen F n t x below =
        let to = least_choice finite F n t x in
        first-less (value_of finite F n t x) (λ y. level_cost finite F n t y +ℤ setup_of (setup_at finite (suc n)) x y) (pos 0 -ℤ pos (scale finite (suc n) * finite.unit) *ℤ x) x finite.cap to
        (λ y. omega (arith, ints, value_is finite F n t x y)) (subst (λ (c : ℤ). IsFirstIn (value_of finite F n t x) x c to) (top_none finite x none) (least_choice_is finite F n t x below))

    module _ (F : ℤ → ℤ) (n t : ℕ) (some : 1 ≤ t) (later : IsLater F n t) where
      abbrev pub low : ℤ
      low = finite_low finite t

      abbrev pub cost : ℤ → ℤ
      cost = level_cost finite F n t

      abbrev pub K : ℕ
      K = setup_at finite (suc n)

      -- where orders go up to
      abbrev pub high : ℤ
      high = first_in cost low finite.cap

      -- it is the first least of the levels
      pub high_is : IsFirstIn cost low finite.cap high
      high_is = first_in_is cost low finite.cap (Z.le_trans low (pos 0) finite.cap (low_zero finite t) readable.cap.least)

      pub convex : IsKConvexOn K low finite.cap cost
      convex = level_kconvex F n t some later

      high_end : low +ℤ pos (gap low high) ≡ high
      high_end = gap_is low high high_is.from_low

      abbrev pub Parts : Type 0
      Parts = IsSplit cost K low finite.cap high convex high_is (gap low high)

      -- how many positions order
      pub parts : Parts
      parts = split cost K low finite.cap high convex high_is (gap low high) (omega (arith, ints, high_end))

      -- the period's choices have the order form
      pub period_form : IsOrderForm (least_choice finite F n t) low finite.cap high parts.m
      period_form = order_form cost K low finite.cap high convex high_is (least_choice finite F n t) (λ x from below. chosen F n t x below) parts

      -- what the choice at a position costs
      abbrev left : ℤ → ℤ
      left x = cost (least_choice finite F n t x) +ℤ setup_of K x (least_choice finite F n t x)

      left_ordered : (x : ℤ) → low ≤ℤ x → x <ℤ (low +ℤ pos parts.m) → left x ≡ pos K +ℤ cost high
      left_ordered x from lt =
          let up : x <ℤ high = omega (arith, ints, lt, period_form.below) in
          ap (λ y. cost y +ℤ setup_of K x y) (period_form.moves x from lt)
          ∙ ap (λ z. cost high +ℤ z) (setup_move K x high up)
          ∙ Z.add_comm (cost high) (pos K)

      left_stayed : (x : ℤ) → (low +ℤ pos parts.m) ≤ℤ x → x ≤ℤ finite.cap → left x ≡ cost x
      left_stayed x from below =
          ap (λ y. cost y +ℤ setup_of K x y) (period_form.stays x from below)
          ∙ ap (λ z. cost x +ℤ z) (setup_stay K x)
          ∙ Z.add_zero (cost x)

      left_near : (x : ℤ) → (low +ℤ pos parts.m) ≤ℤ x → x <ℤ high → cost x ≤ℤ (pos K +ℤ cost high)
      left_near x from lt = parts.stays x from (omega (arith, ints, high_end, lt))

      left_kconvex : IsKConvexOn K low finite.cap left
      left_kconvex = kconvex-order cost K low finite.cap high convex high_is left parts.m period_form.below left_ordered left_stayed left_near

      -- the least values of the period are convex but for the setup cost
      pub value_kconvex : IsKConvexOn K low finite.cap (λ x. value_of finite F n t x (least_choice finite F n t x))
      value_kconvex =
          let c = pos 0 -ℤ pos (scale finite (suc n) * finite.unit) in
          kconvex-ext K low finite.cap (λ x. left x +ℤ c *ℤ x) (λ x. value_of finite F n t x (least_choice finite F n t x))
          (λ x from below. omega (arith, ints, value_is finite F n t x (least_choice finite F n t x), minus_times (pos (scale finite (suc n) * finite.unit)) x))
          (kconvex-more (K + 0) K low finite.cap (λ x. left x +ℤ c *ℤ x) (omega arith) (kconvex-add K 0 low finite.cap left (λ x. c *ℤ x) left_kconvex (kconvex-line low finite.cap c)))

    -- ---- all periods
    -- the least values are convex but for the setup cost
    pub values_kconvex : (n t : ℕ) → 1 ≤ t → IsKConvexOn (setup_at finite n) (finite_low finite t) finite.cap (least_values finite n t)
    values_kconvex zero t some =
        kconvex-more 0 (setup_at finite 0) (finite_low finite t) finite.cap (least_values finite 0 t) (omega arith)
        (kconvex-ext 0 (finite_low finite t) finite.cap (end_value finite) (least_values finite 0 t) (λ x from below. sym (values_end finite t x)) (end_convex finite (finite_low finite t) finite.cap))
    values_kconvex (suc n) t some =
        let F = least_values finite n (suc t) in
        kconvex-ext (setup_at finite (suc n)) (finite_low finite t) finite.cap (λ x. value_of finite F n t x (least_choice finite F n t x)) (least_values finite (suc n) t)
        (λ x from below. sym (values_more finite n t x)) (value_kconvex F n t some (values_kconvex n (suc t) (omega arith)))

    -- each period's choices have the order form
    pub choices_form : (n t : ℕ) → 1 ≤ t → HasOrderForm (least_choice finite (least_values finite n (suc t)) n t) (finite_low finite t) finite.cap
    choices_form n t some =
        let F = least_values finite n (suc t) in
        let later = values_kconvex n (suc t) (omega arith) in
        record { high = high F n t some later; orders = (parts F n t some later).m; form = period_form F n t some later }
