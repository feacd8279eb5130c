-- What a valid instance bounds: its values, factors, positions and the laws of its lead times.
use Rattle.std.proofs.Common.{◌≡◌, ℕ, suc, ◌+◌, ◌-◌, ◌*◌, ◌^◌, ◌<◌, ◌≤◌, ℤ, pos, ◌+ℤ◌, ◌-ℤ◌, ◌*ℤ◌, ◌≤ℤ◌, length, sum, ◌∙◌, ap, arith, subst, mul-le-mul_left}
use Rattle.std.specs.Prelude.{unsigned_abs}
use Rattle.std.proofs.lemmas.Int.{ints}
use Rattle.std.proofs.lemmas.Nat.{mul-le}
use Rattle.std.proofs.Math.Nat.{one-le-pow}
use Rattle.demand_law.specs.Law.{greatest_of}
use Rattle.demand_law.specs.Sequences.{laws_at, greatest_in}
use Rattle.demand_law.specs.Integers as Z
use Rattle.demand_law.specs.LawSums.{IsSumOf-law_of_sum}
use Rattle.decision_model.specs.declared.finite.Finite.{Finite}
use Rattle.decision_model.specs.DemandLaws.{common_total}
use Rattle.decision_model.specs.Finite.{IsValidFinite, finite_low, finite_positions, finite_most_lacking}
use Rattle.decision_model.specs.FiniteCosts.{above_last, stock_most}
use Rattle.decision_model.specs.FiniteSound.{IsSoundFinite, sound_readable, low_zero}
use Rattle.decision_model.specs.LawFacts.{common_total_some, greatest_in_range}
use Rattle.decision_model.specs.WidthFacts.{finite_scale_fits}
use Rattle.decision_model.specs.LeadTimes.{finite_lead_weights_fit}
use Rattle.decision_model.specs.Positions.{above_zero}
use Rattle.decision_model.specs.PositionTests.{above_zero_is, above_zero_mono}
use Rattle.decision_model.specs.Stock.{AreWeights, HasRoom}
use Rattle.value_cert.specs.FiniteValues.{lead_law, scale, stock_scale, row_width}
use Rattle.finite_lemmas.specs.KConvex.{mul_sub}
use Rattle.finite_lemmas.specs.SolvedRows.{row_width_is}
use Rattle.finite_recursion.specs.Sizes.{period_most, end_most, value_most, order_most}
use Rattle.finite_recursion.specs.ValueSizes.{most_within_width, scales_join, lead_total, lead_width}

-- ---- plain numbers
-- a product with a factor that is no greater than another one's
product_upto : (a b c d : ℕ) → a ≤ b → c ≤ d → a * c ≤ b * d
product_upto a b c d le lt = mul-le a c b d le lt

-- units up to a position that is near
units_within : (unit many : ℕ) (at : ℤ) → (pos 0 -ℤ pos many) ≤ℤ at → at ≤ℤ pos many → ((pos 0 -ℤ pos (unit * many)) ≤ℤ (pos unit *ℤ at)) × ((pos unit *ℤ at) ≤ℤ pos (unit * many))
units_within unit many at low high =
    let up = Z.weight_mono unit at (pos many) high in
    let down = Z.weight_mono unit (pos 0 -ℤ pos many) at low in
    let below : pos unit *ℤ (pos 0 -ℤ pos many) ≡ pos 0 -ℤ pos (unit * many) = mul_sub (pos unit) (pos 0) (pos many) ∙ ends (pos unit *ℤ pos 0) (pos unit *ℤ pos many) (unit * many) (Z.mul_zero (pos unit)) (omega (arith, ints)) in
    (subst (λ (z : ℤ). z ≤ℤ (pos unit *ℤ at)) below down, omega (arith, ints, up))
  where
    ends : (a b : ℤ) (p : ℕ) → a ≡ pos 0 → b ≡ pos p → a -ℤ b ≡ pos 0 -ℤ pos p
    ends a b p e f = ap (λ z. z -ℤ b) e ∙ ap (λ z. pos 0 -ℤ z) f

-- the most of a period has the setup cost, and that of the units of a grid, and the cost of stock
part_most : (p s u h k e n : ℕ) → p ≡ 1 + s + u + h + k → s + u ≤ suc n * p + e
part_most p s u h k e n is = omega (arith, is, mul-le 1 p (suc n) p (omega arith) (omega arith))

-- .. and the cost of stock
stock_part : (p s u h k e : ℕ) → p ≡ 1 + s + u + h + k → h + k ≤ 1 * p + e
stock_part p s u h k e is = omega (arith, is)

module _ (finite : Finite) (valid : IsValidFinite finite) where
  -- a valid instance is sound
  abbrev sound : IsSoundFinite finite
  sound = sound_readable finite valid.regular.readable

  -- the common sum of weights
  abbrev w : ℕ
  w = common_total finite.laws

  -- the low end after the last period
  abbrev last_low : ℤ
  last_low = finite_low finite (finite.periods + 1)

  -- ---- the grid
  pub total_some : 1 ≤ w
  total_some = common_total_some finite.laws (finite.periods + finite.lead) (omega (arith, valid.regular.readable.periods.least)) valid.regular.readable.laws

  -- how many positions the grid has after the last period
  pub positions_are : last_low +ℤ pos (finite_positions finite) ≡ finite.cap +ℤ pos 1
  unfolding finite_positions
  positions_are =
      let is = above_zero_is (finite.cap -ℤ last_low +ℤ pos 1) (omega (arith, ints, low_zero finite (finite.periods + 1), sound.cap)) in
      omega (arith, ints, is)

  -- the grid has a position
  pub positions_some : 1 ≤ finite_positions finite
  positions_some = omega (arith, ints, positions_are, low_zero finite (finite.periods + 1), sound.cap)

  -- .. and at most 20,000
  pub positions_few : finite_positions finite ≤ 20000
  positions_few = valid.regular.grid.positions

  -- the cap is no further from 0 than the grid is wide
  pub cap_within : finite.cap ≤ℤ pos (finite_positions finite)
  cap_within = omega (arith, ints, positions_are, low_zero finite (finite.periods + 1))

  -- nor is the low end
  pub low_within : (pos 0 -ℤ pos (finite_positions finite)) ≤ℤ last_low
  low_within = omega (arith, ints, positions_are, sound.cap)

  -- a position of the last grid is near
  pub at_near : (y : ℤ) → last_low ≤ℤ y → y ≤ℤ finite.cap → unsigned_abs y ≤ 20000
  at_near y from to = omega (arith, ints, from, to, cap_within, low_within, positions_few)

  -- a place of a row is a position of its grid
  pub place_above : (t k : ℕ) → k < row_width finite t → finite_low finite t ≤ℤ (finite.cap -ℤ pos k)
  place_above t k lt = omega (arith, ints, lt, row_width_is finite valid.regular.readable t)

  -- a row has a position
  pub width_some : (t : ℕ) → 1 ≤ row_width finite t
  width_some t = omega (arith, ints, row_width_is finite valid.regular.readable t, low_zero finite t, sound.cap)

  -- a row is no wider than the last grid
  pub width_few : (t : ℕ) → t ≤ suc finite.periods → row_width finite t ≤ finite_positions finite
  width_few t le = omega (arith, ints, row_width_is finite valid.regular.readable t, positions_are, above_last finite sound t le)

  -- a place below the last grid's width is a position of it
  pub place_last : (k : ℕ) → k < finite_positions finite → last_low ≤ℤ (finite.cap -ℤ pos k)
  place_last k lt = omega (arith, ints, lt, positions_are)

  -- ---- sizes
  pub most_small : (n : ℕ) → n ≤ finite.periods → value_most finite n ≤ 2 ^ 120
  most_small n le = omega (arith, most_within_width finite valid.regular.readable n le, valid.width)

  -- what an order costs at most
  pub order_small : (n : ℕ) → order_most finite (suc n) ≤ value_most finite (suc n)
  unfolding order_most value_most period_most
  order_small n =
      let parts = part_most (period_most finite) finite.setup (finite.unit * finite_positions finite) (finite.holding * above_zero finite.cap) (finite.stockout * finite_most_lacking finite) (end_most finite) n (omega arith) in
      omega (arith, mul-le-mul_left (scale finite (suc n)) parts)

  -- the scale is no more than that
  pub scale_small : (n : ℕ) → suc n ≤ finite.periods → scale finite (suc n) ≤ 2 ^ 120
  unfolding scale
  scale_small n le = finite_scale_fits finite valid.regular.readable valid.width (suc n) le

  -- a setup cost by the scale fits
  pub setup_small : (n : ℕ) → suc n ≤ finite.periods → scale finite (suc n) * finite.setup ≤ 2 ^ 120
  unfolding order_most
  setup_small n le = omega (arith, order_small n, most_small (suc n) le)

  -- so do the units of the whole grid
  pub units_small : (n : ℕ) → suc n ≤ finite.periods → scale finite (suc n) * finite.unit * finite_positions finite ≤ 2 ^ 120
  unfolding order_most
  units_small n le = omega (arith, order_small n, most_small (suc n) le)

  -- .. and one unit
  pub unit_small : (n : ℕ) → suc n ≤ finite.periods → scale finite (suc n) * finite.unit ≤ 2 ^ 120
  unit_small n le = omega (arith, units_small n le, mul-le (scale finite (suc n) * finite.unit) 1 (scale finite (suc n) * finite.unit) (finite_positions finite) (omega arith) positions_some)

  -- the units up to a position of the grid
  pub units_at : (n : ℕ) → suc n ≤ finite.periods → (at : ℤ) → last_low ≤ℤ at → at ≤ℤ finite.cap → ((pos 0 -ℤ pos (2 ^ 120)) ≤ℤ (pos (scale finite (suc n) * finite.unit) *ℤ at)) × ((pos (scale finite (suc n) * finite.unit) *ℤ at) ≤ℤ pos (2 ^ 120))
  units_at n le at from to =
      let within = units_within (scale finite (suc n) * finite.unit) (finite_positions finite) at (omega (arith, ints, from, low_within)) (omega (arith, ints, to, cap_within)) in
      (omega (arith, ints, within.0, units_small n le), omega (arith, ints, within.1, units_small n le))

  -- the factor on the cost of stock
  pub stock_scale_small : (n : ℕ) → stock_scale finite n ≤ scale finite (suc n)
  stock_scale_small n = omega (arith, scales_join finite valid.regular.readable n, mul-le (stock_scale finite n) 1 (stock_scale finite n) (w ^ suc finite.lead) (omega arith) (one-le-pow (suc finite.lead) w (omega (arith, total_some))))

  -- ---- the law of a lead time
  suc_lead : suc finite.lead ≡ finite.lead + 1
  suc_lead = omega arith

  -- the law of a lead time has a demand
  lead_some : (t : ℕ) → 0 < length (lead_law finite t)
  unfolding lead_law
  lead_some t = omega (arith, (IsSumOf-law_of_sum (laws_at finite.laws (t - 1) (suc finite.lead))).width)

  -- its weights are some, few, and fit
  pub lead_weights : (t : ℕ) → 1 ≤ t → t ≤ finite.periods → AreWeights (lead_law finite t)
  lead_weights t some le = record {
    some = lead_some t;
    few = omega (arith, lead_width finite valid.regular.readable t some le, mul-le (finite.lead + 1) (greatest_in finite.laws) 9 10000 (omega (arith, valid.regular.readable.lead)) (greatest_in_range finite.laws (finite.periods + finite.lead) valid.regular.readable.laws));
    fits = omega (arith, lead_total finite valid.regular.readable t some le, ap (λ k. w ^ k) suc_lead, finite_lead_weights_fit finite valid);
  }

  -- the weights of a lead time, by the cost of stock
  stock_small : w ^ suc finite.lead * stock_most finite sound ≤ 2 ^ 120
  unfolding value_most period_most stock_scale
  stock_small =
      let b = finite.discount_den in
      let some_b : 1 ≤ b = omega (arith, valid.regular.readable.discount.least, valid.regular.readable.discount.proper) in
      let one : 1 ≤ stock_scale finite 0 = mul-le 1 1 (b ^ 1) (w ^ 0) (one-le-pow 1 b (omega (arith, some_b))) (one-le-pow 0 w (omega (arith, total_some))) in
      let weights : w ^ suc finite.lead ≤ scale finite 1 = omega (arith, scales_join finite valid.regular.readable 0, mul-le 1 (w ^ suc finite.lead) (stock_scale finite 0) (w ^ suc finite.lead) one (omega arith)) in
      let costs = stock_part (period_most finite) finite.setup (finite.unit * finite_positions finite) (finite.holding * above_zero finite.cap) (finite.stockout * finite_most_lacking finite) (end_most finite) (omega arith) in
      omega (arith, mul-le (w ^ suc finite.lead) (stock_most finite sound) (scale finite 1) (1 * period_most finite + end_most finite) weights costs, most_small 1 valid.regular.readable.periods.least)

  -- the numbers of each position of a row fit
  pub has_room : (t : ℕ) (y : ℤ) → 1 ≤ t → t ≤ finite.periods → finite_low finite t ≤ℤ y → y ≤ℤ finite.cap → HasRoom finite.holding finite.stockout (lead_law finite t) y
  has_room t y some le from to =
      let last : last_low ≤ℤ y = Z.le_trans last_low (finite_low finite t) y (above_last finite sound t (omega (arith, le))) from in
      let left = mul-le-mul_left finite.holding (above_zero_mono y finite.cap to) in
      let lacks = mul-le-mul_left finite.stockout (above_zero_mono (pos (greatest_of (lead_law finite t)) -ℤ y) (pos ((finite.lead + 1) * greatest_in finite.laws) -ℤ last_low) (omega (arith, ints, last, lead_width finite valid.regular.readable t some le))) in
      let total = mul-le (sum (lead_law finite t)) (finite.holding * above_zero y + finite.stockout * above_zero (pos (greatest_of (lead_law finite t)) -ℤ y)) (w ^ suc finite.lead) (stock_most finite sound) (omega (arith, lead_total finite valid.regular.readable t some le)) (omega (arith, left, lacks)) in
      record { near = omega (arith, at_near y last to); small = omega (arith, total, stock_small) }
