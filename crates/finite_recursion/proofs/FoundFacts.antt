-- What is found at the next place of a row.
use Rattle.std.proofs.Common.{◌≡◌, ℕ, suc, ◌+◌, ◌-◌, ◌^◌, ◌<◌, ◌≤◌, ℤ, pos, ◌+ℤ◌, ◌-ℤ◌, ◌*ℤ◌, ◌≤ℤ◌, false, Option, IfSome, List, sym, ◌∙◌, ap, subst, arith, to_z, of_z, w64}
use mir.Syntax.{w128}
use Rattle.std.proofs.Props.{props}
use Rattle.std.proofs.lemmas.Int.{ints}
use Rattle.decision_model.specs.declared.finite.Finite.{Finite}
use Rattle.decision_model.specs.Finite.{finite_low, finite_positions}
use Rattle.decision_model.specs.FiniteProblem.{top}
use Rattle.decision_model.specs.FiniteSound.{up_to_from}
use Rattle.decision_model.specs.Sweeps.{IsLeastOf}
use Rattle.value_cert.specs.FiniteRules.{FirstRows, last_period}
use Rattle.value_cert.specs.FiniteValues.{cost_after, value_of, least_choice}
use Rattle.finite_lemmas.specs.LeastChoice.{least_choice_is}
use Rattle.finite_lemmas.specs.Orders.{first_unique}
use Rattle.finite_recursion.specs.Choices.{order_value, chosen_to, chosen_value}
use Rattle.finite_recursion.specs.Recursions.{is_whole, KnowsTables, next_at}
use Rattle.finite_recursion.specs.Rows.{IsReachOf, row_period, value_at, order_pair, row_pairs, reached}
use Rattle.finite_recursion.specs.Sizes.{IsSmallStay, IsSmallValue}
use Rattle.finite_recursion.specs.declared.recursion.Recursion.{Recursion}
use Rattle.finite_recursion.proofs.BestOrders.{AreOrders, best_holds, chosen_first, chosen_is, chosen_case}
use Rattle.finite_recursion.proofs.Bounds.{most_small, at_near, place_last}
use Rattle.finite_recursion.proofs.Casts.{near, wide}
use Rattle.finite_recursion.proofs.Factors.{rows_are}
use Rattle.finite_recursion.proofs.Known.{from_hidden}
use Rattle.finite_recursion.proofs.OrderValues.{stay_value, setup_least, setup_most, units_fit, order_told, order_small, with_units, are_orders}
use Rattle.finite_recursion.proofs.RowFacts.{RowFacts, row_facts}

-- staying costs a value in range
pub stay_as_value : (finite : Finite) (n : ℕ) (stay : ℤ) → IsSmallStay finite n stay → IsSmallValue finite n stay
stay_as_value finite n stay small = record { least = small.least; most = omega (arith, ints, small.most) }

module _ (r : Recursion) (left : is_whole r ≡ false) where
  -- what the recursion knows of its row
  abbrev f : RowFacts r
  f = row_facts r left

  -- the instance
  abbrev pub finite : Finite
  finite = r.finite.now

  -- the periods that follow
  abbrev pub n : ℕ
  n = r.rows - 1

  -- the period
  abbrev pub t : ℕ
  t = row_period finite r.rows

  -- the next position
  abbrev pub at : ℤ
  at = finite.cap -ℤ pos r.row.place

  -- no more than all periods are left
  pub n_within : suc n ≤ finite.periods
  n_within = omega (arith, f.some, r.within)

  -- the rows are the periods that follow, and this one
  pub rows_is : r.rows ≡ suc n
  rows_is = rows_are r.rows f.some

  -- the next position is above the last low end
  pub from_last : finite_low finite (finite.periods + 1) ≤ℤ at
  from_last = place_last finite f.valid r.row.place f.within

  -- .. and at most the cap
  pub below_cap : at ≤ℤ finite.cap
  below_cap = omega (arith, ints)

  -- ---- sizes
  -- the setup cost fits
  pub top_setup : r.row.scales.setup ≤ℤ pos (2 ^ 120)
  top_setup = setup_most finite f.valid n n_within r.row.scales f.row.are_scales

  -- it isn't below 0
  pub bottom_setup : pos 0 ≤ℤ r.row.scales.setup
  bottom_setup = setup_least finite f.valid n n_within r.row.scales f.row.are_scales

  -- the units up to a position fit
  pub units : (y : ℤ) → finite_low finite (finite.periods + 1) ≤ℤ y → y ≤ℤ finite.cap → ((pos 0 -ℤ pos (2 ^ 120)) ≤ℤ (r.row.scales.unit *ℤ y)) × ((r.row.scales.unit *ℤ y) ≤ℤ pos (2 ^ 120))
  units = units_fit finite f.valid n n_within r.row.scales f.row.are_scales

  -- a position is what it is when it is stored
  pub stored_at : (y : ℤ) → finite_low finite (finite.periods + 1) ≤ℤ y → y ≤ℤ finite.cap → to_z w64 (of_z w64 y) ≡ y
  stored_at y from to = near y (omega (arith, at_near finite f.valid y from to))

  -- what a place above keeps
  pub place_within : (j : ℕ) → j < r.row.place → finite_low finite (finite.periods + 1) ≤ℤ (finite.cap -ℤ pos j)
  place_within j lt = place_last finite f.valid j (omega (arith, lt, f.within))

  -- its cost is in range
  pub cost_small : (j : ℕ) → j < r.row.place → IsSmallStay finite (suc n) (value_at r.costs.now j)
  cost_small j lt = subst (λ (k : ℕ). IsSmallStay finite k (value_at r.costs.now j)) rows_is (r.small.small_costs j lt)

  -- what is in range fits
  pub stay_most : (stay : ℤ) → IsSmallStay finite r.rows stay → stay ≤ℤ pos (2 ^ 120)
  stay_most stay small = omega (arith, ints, small.most, most_small finite f.valid r.rows r.within)

  -- a cost is what it is when it is stored
  pub stored_cost : (j : ℕ) → j < r.row.place → to_z w128 (of_z w128 (value_at r.costs.now j)) ≡ value_at r.costs.now j
  stored_cost j lt =
      let small = r.small.small_costs j lt in
      let most = stay_most (value_at r.costs.now j) small in
      wide (value_at r.costs.now j) (omega (arith, ints, small.least)) (omega (arith, ints, most))

  -- a cost with the units up to there fits
  pub cost_with : (j : ℕ) → j < r.row.place → ((pos 0 -ℤ pos (2 ^ 121)) ≤ℤ (value_at r.costs.now j +ℤ r.row.scales.unit *ℤ (finite.cap -ℤ pos j))) × ((value_at r.costs.now j +ℤ r.row.scales.unit *ℤ (finite.cap -ℤ pos j)) ≤ℤ pos (2 ^ 121))
  cost_with j lt = with_units finite f.valid n n_within r.row.scales f.row.are_scales (finite.cap -ℤ pos j) (value_at r.costs.now j) (place_within j lt) (omega (arith, ints)) (cost_small j lt)

  -- ordering up to a place above has a value in range
  pub above_small : (j : ℕ) → j < r.row.place → IsSmallValue finite r.rows (order_value r.row.scales.setup r.row.scales.unit at (value_at r.costs.now j +ℤ r.row.scales.unit *ℤ (finite.cap -ℤ pos j)))
  above_small j lt =
      subst (λ (k : ℕ). IsSmallValue finite k (order_value r.row.scales.setup r.row.scales.unit at (value_at r.costs.now j +ℤ r.row.scales.unit *ℤ (finite.cap -ℤ pos j)))) (sym rows_is)
      (order_small finite f.valid n n_within r.row.scales f.row.are_scales at (finite.cap -ℤ pos j) (value_at r.costs.now j) from_last (omega (arith, ints, lt)) (omega (arith, ints)) (cost_small j lt))

  -- ---- the best order
  -- the pairs of the places so far
  abbrev pub pairs : List (ℤ × ℤ)
  pairs = row_pairs (order_pair finite.cap r.row.scales.unit r.costs.now) r.row.place

  -- those that an order can lead to
  abbrev pub orders : List (ℤ × ℤ)
  orders = reached finite.most (finite_positions finite) pairs

  module _ (best : Option (ℤ × ℤ)) (least : (most : Option ℕ) (positions : ℕ) (pairs : List (ℤ × ℤ)) → IsReachOf most positions r.row.reach r.room.now pairs → IsLeastOf (reached most positions pairs) best) where
    -- the cost of the best order fits
    pub best_least : IfSome best (λ pair. (pos 0 -ℤ pos (2 ^ 121)) ≤ℤ pair.1)
    best_least = from_hidden (Prim.hlevel props) f.row.is_reach (λ is. best_holds (λ pair. (pos 0 -ℤ pos (2 ^ 121)) ≤ℤ pair.1) finite.most (finite_positions finite) (order_pair finite.cap r.row.scales.unit r.costs.now) r.row.place best (λ j lt. (cost_with j lt).0) (least finite.most (finite_positions finite) pairs is))

    -- .. on both sides
    pub best_most : IfSome best (λ pair. pair.1 ≤ℤ pos (2 ^ 121))
    best_most = from_hidden (Prim.hlevel props) f.row.is_reach (λ is. best_holds (λ pair. pair.1 ≤ℤ pos (2 ^ 121)) finite.most (finite_positions finite) (order_pair finite.cap r.row.scales.unit r.costs.now) r.row.place best (λ j lt. (cost_with j lt).1) (least finite.most (finite_positions finite) pairs is))

    -- what is chosen has a value in range
    pub value_small : (stay : ℤ) → IsSmallStay finite r.rows stay → IsSmallValue finite r.rows (chosen_value r.row.scales.setup r.row.scales.unit stay at best)
    value_small stay small =
        from_hidden (Prim.hlevel props) f.row.is_reach (λ is. chosen_case (IsSmallValue finite r.rows) r.row.scales.setup r.row.scales.unit stay at best (stay_as_value finite r.rows stay small)
        (best_holds (λ pair. IsSmallValue finite r.rows (order_value r.row.scales.setup r.row.scales.unit at pair.1)) finite.most (finite_positions finite) (order_pair finite.cap r.row.scales.unit r.costs.now) r.row.place best above_small (least finite.most (finite_positions finite) pairs is)))

    -- ---- what rows know
    module _ (first : FirstRows) (knows : KnowsTables finite r.rows r.row.place r.values.now r.costs.now first) (stay : ℤ) (exact : stay ≡ cost_after finite first.later (first.rows - 1) (last_period finite first) (next_at finite first)) where
      -- a function of the row's numbers is one of the rows' numbers
      same : {X : Type 0} (g : ℕ → ℕ → ℤ → X) → g n t at ≡ g (first.rows - 1) (last_period finite first) (next_at finite first)
      same g = ap (λ k. g (k - 1) (suc finite.periods - k) at) knows.rows_are ∙ ap (λ k. g (first.rows - 1) (last_period finite first) (finite.cap -ℤ pos k)) knows.place_is

      -- the costs of the places above are those of the equations
      known : (j : ℕ) → j < r.row.place → value_at r.costs.now j ≡ cost_after finite first.later n t (finite.cap -ℤ pos j)
      known j lt = knows.kept_costs j lt ∙ sym (ap (λ k. cost_after finite first.later (k - 1) (suc finite.periods - k) (finite.cap -ℤ pos j)) knows.rows_are)

      -- staying has the value of the equations
      staying : stay ≡ value_of finite first.later n t at at
      staying = exact ∙ sym (same (λ n t x. cost_after finite first.later n t x)) ∙ sym (stay_value finite first.later n t at)

      -- the values of the positions that an order can lead to
      abbrev g : ℤ → ℤ
      g = value_of finite first.later n t at

      -- the pairs are of the orders
      listed : AreOrders r.row.scales.setup r.row.scales.unit at (top finite at) g orders
      listed = are_orders finite f.valid n n_within r.row.scales f.row.are_scales first.later t r.row.place r.costs.now f.within known

      -- the choice is the least one
      chosen : IsReachOf finite.most (finite_positions finite) r.row.reach r.room.now pairs → chosen_to r.row.scales.setup r.row.scales.unit stay at best ≡ least_choice finite first.later n t at
      chosen is =
          first_unique g at (top finite at) (chosen_to r.row.scales.setup r.row.scales.unit stay at best) (least_choice finite first.later n t at)
          (chosen_first r.row.scales.setup r.row.scales.unit at (top finite at) g orders listed stay staying (up_to_from finite.most finite.cap at below_cap) best (least finite.most (finite_positions finite) pairs is))
          (least_choice_is finite first.later n t at below_cap)

      -- .. with what the rows know
      pub to_known : chosen_to r.row.scales.setup r.row.scales.unit stay at best ≡ least_choice finite first.later (first.rows - 1) (last_period finite first) (next_at finite first)
      to_known = from_hidden (Prim.hlevel props) f.row.is_reach (λ is. chosen is ∙ same (λ n t x. least_choice finite first.later n t x))

      -- and its value
      pub value_known : chosen_value r.row.scales.setup r.row.scales.unit stay at best ≡ value_of finite first.later (first.rows - 1) (last_period finite first) (next_at finite first) (least_choice finite first.later (first.rows - 1) (last_period finite first) (next_at finite first))
      value_known =
          from_hidden (Prim.hlevel props) f.row.is_reach (λ is.
          chosen_is r.row.scales.setup r.row.scales.unit at (top finite at) g orders listed stay staying (up_to_from finite.most finite.cap at below_cap) best (least finite.most (finite_positions finite) pairs is)
          ∙ ap g (chosen is)
          ∙ same (λ n t x. value_of finite first.later n t x (least_choice finite first.later n t x)))

  -- ---- the value of an order up to a place above
  pub above_known : (first : FirstRows) (j : ℕ) → KnowsTables finite r.rows r.row.place r.values.now r.costs.now first → j < r.row.place → order_value r.row.scales.setup r.row.scales.unit at (value_at r.costs.now j +ℤ r.row.scales.unit *ℤ (finite.cap -ℤ pos j)) ≡ value_of finite first.later (first.rows - 1) (last_period finite first) (next_at finite first) (finite.cap -ℤ pos j)
  above_known first j knows lt =
      order_told finite f.valid n n_within r.row.scales f.row.are_scales first.later t at (finite.cap -ℤ pos j) (value_at r.costs.now j) (omega (arith, ints, lt))
      (knows.kept_costs j lt ∙ sym (ap (λ k. cost_after finite first.later (k - 1) (suc finite.periods - k) (finite.cap -ℤ pos j)) knows.rows_are))
      ∙ ap (λ k. value_of finite first.later (k - 1) (suc finite.periods - k) at (finite.cap -ℤ pos j)) knows.rows_are
      ∙ ap (λ k. value_of finite first.later (first.rows - 1) (last_period finite first) (finite.cap -ℤ pos k) (finite.cap -ℤ pos j)) knows.place_is
