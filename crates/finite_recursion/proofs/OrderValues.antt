-- The values of orders from a place, by the costs of the places above it.
use Rattle.std.proofs.Common.{◌≡◌, ℕ, suc, ◌+◌, ◌*◌, ◌^◌, ◌<◌, ◌≤◌, ℤ, pos, ◌+ℤ◌, ◌-ℤ◌, ◌*ℤ◌, ◌≤ℤ◌, ◌<ℤ◌, Option, None, Some, List, sym, ◌∙◌, ap, subst, arith}
use Rattle.std.specs.Int.Signed.{≤ℤ_refl}
use Rattle.std.specs.List.{Contains}
use Rattle.std.proofs.lemmas.Int.{ints, clamps}
use Rattle.demand_law.specs.Integers as Z
use Rattle.decision_model.specs.declared.finite.Finite.{Finite}
use Rattle.decision_model.specs.Finite.{IsValidFinite, finite_low, finite_positions}
use Rattle.decision_model.specs.FiniteCosts.{width_is}
use Rattle.decision_model.specs.FiniteProblem.{up_to, top}
use Rattle.decision_model.specs.FiniteSound.{sound_readable}
use Rattle.decision_model.specs.Positions.{above_zero}
use Rattle.decision_model.specs.PositionTests.{above_zero_is}
use Rattle.value_cert.specs.FiniteValues.{scale, cost_after, value_of}
use Rattle.finite_lemmas.specs.Forms.{value_is}
use Rattle.finite_lemmas.specs.KConvex.{mul_sub}
use Rattle.finite_lemmas.specs.Orders.{setup_stay, setup_move}
use Rattle.finite_recursion.specs.Choices.{order_value}
use Rattle.finite_recursion.specs.Rows.{AreScales, value_at, order_pair, row_pairs, reached}
use Rattle.finite_recursion.specs.Sizes.{order_most, IsSmallStay, IsSmallValue}
use Rattle.finite_recursion.specs.declared.scales.Scales.{Scales}
use Rattle.finite_recursion.proofs.BestOrders.{AreOrders, first_reached, reached_in, reached_has}
use Rattle.finite_recursion.proofs.Bounds.{setup_small, units_at, most_small}

-- the value of staying is the cost of the position
pub stay_value : (finite : Finite) (F : ℤ → ℤ) (n t : ℕ) (x : ℤ) → value_of finite F n t x x ≡ cost_after finite F n t x
stay_value finite F n t x =
    value_is finite F n t x x
    ∙ ap (λ z. (cost_after finite F n t x +ℤ pos (scale finite (suc n) * finite.unit) *ℤ x +ℤ z) -ℤ pos (scale finite (suc n) * finite.unit) *ℤ x) (setup_stay (scale finite (suc n) * finite.setup) x)
    ∙ gone (cost_after finite F n t x) (pos (scale finite (suc n) * finite.unit) *ℤ x)
  where
    gone : (a u : ℤ) → (a +ℤ u +ℤ pos 0) -ℤ u ≡ a
    gone a u = omega (arith, ints)

-- an order from one position of a grid to another costs at least nothing, and at most the most of a period's order
order_range : (s setup unit many : ℕ) (x y stay : ℤ) → x ≤ℤ y → (y -ℤ x) ≤ℤ pos many → pos 0 ≤ℤ stay → (pos 0 ≤ℤ order_value (pos (s * setup)) (pos (s * unit)) x (stay +ℤ pos (s * unit) *ℤ y)) × (order_value (pos (s * setup)) (pos (s * unit)) x (stay +ℤ pos (s * unit) *ℤ y) ≤ℤ (stay +ℤ pos (s * (setup + unit * many))))
order_range s setup unit many x y stay above near least =
    let bought = mul_sub (pos (s * unit)) y x in
    let some = Z.weight_mono (s * unit) (pos 0) (y -ℤ x) (omega (arith, ints, above)) in
    let most = Z.weight_mono (s * unit) (y -ℤ x) (pos many) near in
    let nothing = Z.mul_zero (pos (s * unit)) in
    let many_is : pos (s * unit) *ℤ pos many ≡ pos (s * unit * many) = omega (arith, ints) in
    joined (s * setup) (s * unit * many) (s * (setup + unit * many)) (pos (s * unit) *ℤ y) (pos (s * unit) *ℤ x) (pos (s * unit) *ℤ (y -ℤ x)) stay bought (subst (λ (z : ℤ). z ≤ℤ (pos (s * unit) *ℤ (y -ℤ x))) nothing some) (subst (λ (z : ℤ). (pos (s * unit) *ℤ (y -ℤ x)) ≤ℤ z) many_is most) least (omega arith)
  where
    joined : (k m w : ℕ) (uy ux u stay : ℤ) → u ≡ uy -ℤ ux → pos 0 ≤ℤ u → u ≤ℤ pos m → pos 0 ≤ℤ stay → w ≡ k + m → (pos 0 ≤ℤ (stay +ℤ uy +ℤ pos k -ℤ ux)) × ((stay +ℤ uy +ℤ pos k -ℤ ux) ≤ℤ (stay +ℤ pos w))
    joined k m w uy ux u stay is some most least e = (omega (arith, ints, is, some, least), omega (arith, ints, is, most, e))

module _ (finite : Finite) (valid : IsValidFinite finite) (n : ℕ) (within : suc n ≤ finite.periods) (scales : Scales) (are : AreScales finite n scales) where
  -- the low end after the last period
  abbrev last_low : ℤ
  last_low = finite_low finite (finite.periods + 1)

  -- the setup cost isn't below 0
  pub setup_least : pos 0 ≤ℤ scales.setup
  setup_least = omega (arith, ints, are.setup)

  -- it fits
  pub setup_most : scales.setup ≤ℤ pos (2 ^ 120)
  setup_most = omega (arith, ints, are.setup, setup_small finite valid n within)

  -- the units up to a position fit
  pub units_fit : (at : ℤ) → last_low ≤ℤ at → at ≤ℤ finite.cap → ((pos 0 -ℤ pos (2 ^ 120)) ≤ℤ (scales.unit *ℤ at)) × ((scales.unit *ℤ at) ≤ℤ pos (2 ^ 120))
  units_fit at from to =
      let fit = units_at finite valid n within at from to in
      let same = ap (λ u. u *ℤ at) are.unit in
      (omega (arith, ints, same, fit.0), omega (arith, ints, same, fit.1))

  -- the value of an order
  pub order_told : (F : ℤ → ℤ) (t : ℕ) (x y stay : ℤ) → x <ℤ y → stay ≡ cost_after finite F n t y → order_value scales.setup scales.unit x (stay +ℤ scales.unit *ℤ y) ≡ value_of finite F n t x y
  order_told F t x y stay above is =
      ap (λ z. z +ℤ scales.unit *ℤ y +ℤ scales.setup -ℤ scales.unit *ℤ x) is
      ∙ ap (λ u. cost_after finite F n t y +ℤ u *ℤ y +ℤ scales.setup -ℤ u *ℤ x) are.unit
      ∙ ap (λ z. cost_after finite F n t y +ℤ pos (scale finite (suc n) * finite.unit) *ℤ y +ℤ z -ℤ pos (scale finite (suc n) * finite.unit) *ℤ x) (are.setup ∙ sym (setup_move (scale finite (suc n) * finite.setup) x y above))
      ∙ sym (value_is finite F n t x y)

  -- it is in range
  pub order_small : (x y stay : ℤ) → last_low ≤ℤ x → x ≤ℤ y → y ≤ℤ finite.cap → IsSmallStay finite (suc n) stay → IsSmallValue finite (suc n) (order_value scales.setup scales.unit x (stay +ℤ scales.unit *ℤ y))
  unfolding order_most
  order_small x y stay from above to small =
      let near = width_is finite (sound_readable finite valid.regular.readable) x y from above to in
      let range = order_range (scale finite (suc n)) finite.setup finite.unit (finite_positions finite) x y stay above near small.least in
      let same : order_value scales.setup scales.unit x (stay +ℤ scales.unit *ℤ y) ≡ order_value (pos (scale finite (suc n) * finite.setup)) (pos (scale finite (suc n) * finite.unit)) x (stay +ℤ pos (scale finite (suc n) * finite.unit) *ℤ y) =
      ap (λ u. stay +ℤ u *ℤ y +ℤ scales.setup -ℤ u *ℤ x) are.unit ∙ ap (λ z. stay +ℤ pos (scale finite (suc n) * finite.unit) *ℤ y +ℤ z -ℤ pos (scale finite (suc n) * finite.unit) *ℤ x) are.setup in
      subst (IsSmallValue finite (suc n)) (sym same) (record { least = range.0; most = Z.le_trans _ _ _ range.1 small.most })

  -- the cost of a position with its units fits
  pub with_units : (y stay : ℤ) → last_low ≤ℤ y → y ≤ℤ finite.cap → IsSmallStay finite (suc n) stay → ((pos 0 -ℤ pos (2 ^ 121)) ≤ℤ (stay +ℤ scales.unit *ℤ y)) × ((stay +ℤ scales.unit *ℤ y) ≤ℤ pos (2 ^ 121))
  with_units y stay from to small =
      let fit = units_fit y from to in
      let most = most_small finite valid (suc n) within in
      (omega (arith, ints, fit.0, small.least), omega (arith, ints, fit.1, small.most, most))

  -- ---- the orders that a place's choice is among
  module _ (F : ℤ → ℤ) (t place : ℕ) (costs : List ℤ) (inside : place < finite_positions finite) (known : (j : ℕ) → j < place → value_at costs j ≡ cost_after finite F n t (finite.cap -ℤ pos j)) where
    -- the position of the place
    abbrev at : ℤ
    at = finite.cap -ℤ pos place

    -- the first place that an order can lead to, by its position
    reach_told : (most : Option ℕ) (positions j : ℕ) (cap : ℤ) → place < positions → first_reached most positions place ≤ j → j < place → (cap -ℤ pos j) ≤ℤ up_to most cap (cap -ℤ pos place)
    reach_told None positions j cap few from lt = omega (arith, ints)
    reach_told (Some most) positions j cap few from lt = omega (arith, ints, clamps, from, lt, few)

    -- and it is the first
    reach_from : (most : Option ℕ) (positions j : ℕ) (cap : ℤ) → place < positions → (cap -ℤ pos j) ≤ℤ up_to most cap (cap -ℤ pos place) → first_reached most positions place ≤ j
    reach_from None positions j cap few to = omega arith
    reach_from (Some most) positions j cap few to = omega (arith, ints, clamps, to, few)

    -- the pairs of the places above are the orders
    pub are_orders : AreOrders scales.setup scales.unit at (top finite at) (value_of finite F n t at) (reached finite.most (finite_positions finite) (row_pairs (order_pair finite.cap scales.unit costs) place))
    are_orders = record { all = all; only = only }
      where
        pair : ℕ → ℤ × ℤ
        pair = order_pair finite.cap scales.unit costs

        top_cap : (most : Option ℕ) (cap x : ℤ) → up_to most cap x ≤ℤ cap
        top_cap None cap x = ≤ℤ_refl cap
        top_cap (Some most) cap x = omega (arith, ints, clamps)

        all : (y : ℤ) → at <ℤ y → y ≤ℤ top finite at → (p : ℤ × ℤ) × Contains (reached finite.most (finite_positions finite) (row_pairs (order_pair finite.cap scales.unit costs) place)) p × (p.0 ≡ y)
        all y above to =
            let j = above_zero (finite.cap -ℤ y) in
            let is = above_zero_is (finite.cap -ℤ y) (omega (arith, ints, to, top_cap finite.most finite.cap at)) in
            let at_j : finite.cap -ℤ pos j ≡ y = omega (arith, ints, is) in
            let lt : j < place = omega (arith, ints, is, above) in
            let from = reach_from finite.most (finite_positions finite) j finite.cap inside (subst (λ (z : ℤ). z ≤ℤ top finite at) (sym at_j) to) in
            (order_pair finite.cap scales.unit costs j, reached_has finite.most (finite_positions finite) (order_pair finite.cap scales.unit costs) place j from lt, at_j)

        only : (p : ℤ × ℤ) → Contains (reached finite.most (finite_positions finite) (row_pairs (order_pair finite.cap scales.unit costs) place)) p → (at <ℤ p.0) × (p.0 ≤ℤ top finite at) × (order_value scales.setup scales.unit at p.1 ≡ value_of finite F n t at p.0)
        only p in_reached =
            let of = reached_in finite.most (finite_positions finite) (order_pair finite.cap scales.unit costs) place p in_reached in
            let j = of.0 in
            let above : at <ℤ (finite.cap -ℤ pos j) = omega (arith, ints, of.2) in
            subst (λ (q : ℤ × ℤ). (at <ℤ q.0) × (q.0 ≤ℤ top finite at) × (order_value scales.setup scales.unit at q.1 ≡ value_of finite F n t at q.0)) of.3
            (above, reach_told finite.most (finite_positions finite) j finite.cap inside of.1 of.2, order_told F t at (finite.cap -ℤ pos j) (value_at costs j) above (known j of.2))
