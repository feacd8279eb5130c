-- The cost of each echelon's orders is convex, so the solver's levels pass the checker's rules.
use Rattle.std.proofs.Common.{◌≡◌, ℕ, zero, suc, ◌+◌, ◌*◌, ◌<◌, ◌≤◌, ℤ, pos, ◌+ℤ◌, ◌-ℤ◌, ◌*ℤ◌, length, arith}
use Rattle.std.proofs.lemmas.Int.{ints}
use Rattle.std.specs.Int.{int_max, int_min}
use Rattle.demand_law.specs.Law.{weighted}
use Rattle.decision_model.specs.Positions.{above_zero}
use Rattle.decision_model.specs.Serial.{serial_low}
use Rattle.decision_model.specs.SerialProblem.{holding_of, lacking_rate, law_of_period, unit_of}
use Rattle.decision_model.specs.SerialSound.{IsSoundSerial, low_next}
use Rattle.decision_model.specs.declared.serial.Serial.{Serial}
use Rattle.serial_lemmas.specs.Convex.{convex-add, convex-constant, convex-lacking, convex-line, convex-max, convex-min, convex-minus_constant, convex-minus_line, convex-scale, convex-shift, convex-weighted, turn_convex}
use Rattle.serial_lemmas.specs.Levels.{AreLeastLevels, AreTurns, IsConvexOn, IsLeastPosition, IsTurn}
use Rattle.value_cert.specs.SerialValues.{demand_scale, echelon_value, order_cost, order_costs, own, own_cost, penalty, scale, values}

module _ (serial : Serial) (sound : IsSoundSerial serial) where
  -- a rate on a position after a demand
  holding_convex : (low cap : ℤ) (rate d : ℕ) → IsConvexOn low cap (λ x. pos rate *ℤ (x -ℤ pos d))
  holding_convex low cap rate d = convex-scale low cap rate (λ x. x -ℤ pos d) (λ x from to. omega (arith, ints))

  -- the cost of an echelon's stock at a demand
  own_cost_convex : (low cap : ℤ) (i d : ℕ) → IsConvexOn low cap (λ x. own_cost serial i x d)
  own_cost_convex low cap zero d =
      convex-add low cap (λ x. pos (holding_of serial 0) *ℤ (x -ℤ pos d)) (λ x. pos (lacking_rate serial) *ℤ pos (above_zero (pos d -ℤ x)))
      (holding_convex low cap (holding_of serial 0) d)
      (convex-scale low cap (lacking_rate serial) (λ x. pos (above_zero (pos d -ℤ x))) (convex-lacking low cap d))
  own_cost_convex low cap (suc i) d = holding_convex low cap (holding_of serial (suc i)) d

  -- by the weights of a period
  own_convex : (low cap : ℤ) (n t i : ℕ) → IsConvexOn low cap (own serial n t i)
  own_convex low cap n t i =
      convex-scale low cap (demand_scale serial n) (λ x. weighted (law_of_period serial t) (own_cost serial i x))
      (convex-weighted low cap (law_of_period serial t) (own_cost serial i) (λ d lt. own_cost_convex low cap i d))

  -- the cost of an order, where the values of the next period are convex
  pub order_convex : (F : ℕ → ℤ → ℤ) (n t i : ℕ) → 1 ≤ t → IsConvexOn (serial_low serial (suc t)) serial.cap (F i) → IsConvexOn (serial_low serial t) serial.cap (order_cost serial F n t i)
  order_convex F n t i pt later =
      let low = serial_low serial t in
      convex-add low serial.cap (λ y. pos (scale serial (suc n) * unit_of serial i) *ℤ y) (λ y. pos serial.discount_num *ℤ weighted (law_of_period serial t) (λ d. F i (y -ℤ pos d)))
      (convex-line low serial.cap (pos (scale serial (suc n) * unit_of serial i)))
      (convex-scale low serial.cap serial.discount_num (λ y. weighted (law_of_period serial t) (λ d. F i (y -ℤ pos d)))
      (convex-weighted low serial.cap (law_of_period serial t) (λ y d. F i (y -ℤ pos d))
      (λ d lt. convex-shift low (serial_low serial (suc t)) serial.cap d (F i) (low_next serial t d pt (omega (arith, sound.within t, lt))) later)))

  -- the value of an echelon, where costs are convex and levels pass
  pub value_convex : (C : ℕ → ℤ → ℤ) (L : ℕ → ℤ) (low cap : ℤ) (n t i : ℕ) → ((j : ℕ) → j ≤ i → IsConvexOn low cap (C j)) → ((j : ℕ) → j ≤ i → IsTurn (C j) (L j) low cap) → IsConvexOn low cap (echelon_value serial C L n t i)
  value_convex C L low cap n t i convex rules =
      convex-add low cap (λ x. own serial n t i x -ℤ pos (scale serial (suc n) * unit_of serial i) *ℤ x +ℤ C i (int_max x (L i))) (penalty C L i)
      (convex-add low cap (λ x. own serial n t i x -ℤ pos (scale serial (suc n) * unit_of serial i) *ℤ x) (λ x. C i (int_max x (L i)))
      (convex-minus_line low cap (own serial n t i) (pos (scale serial (suc n) * unit_of serial i)) (own_convex low cap n t i))
      (convex-max (C i) (L i) low cap (convex i (omega arith)) (rules i (omega arith))))
      (charged i convex rules)
    where
      charged : (k : ℕ) → ((j : ℕ) → j ≤ k → IsConvexOn low cap (C j)) → ((j : ℕ) → j ≤ k → IsTurn (C j) (L j) low cap) → IsConvexOn low cap (penalty C L k)
      charged zero convex rules = convex-constant low cap (pos 0)
      charged (suc k) convex rules =
          convex-minus_constant low cap (λ x. C k (int_min x (L k))) (C k (L k)) (convex-min (C k) (L k) low cap (convex k (omega arith)) (rules k (omega arith)))

  -- a minimiser of a convex cost passes
  pub passes : (C : ℤ → ℤ) (level low cap : ℤ) → IsConvexOn low cap C → IsLeastPosition C level low cap → IsTurn C level low cap
  passes C level low cap convex is = turn_convex C level low cap convex is.least is.to_cap is.from_low

  module _ (S : ℕ → ℕ → ℤ) (solved : AreLeastLevels serial S) where
    -- all values and all costs of orders are convex
    pub values_convex : (n t i : ℕ) → 1 ≤ t → t + n ≡ suc serial.periods → i < length serial.holding → IsConvexOn (serial_low serial t) serial.cap (values serial S n t i)
    values_convex zero t i pt e lt = convex-constant (serial_low serial t) serial.cap (pos 0)
    values_convex (suc n) t i pt e lt =
        let low = serial_low serial t in
        let costs : (j : ℕ) → j ≤ i → IsConvexOn low serial.cap (order_costs serial S n t j) = λ j le. order_convex (values serial S n (suc t)) n t j pt (values_convex n (suc t) j (omega arith) (omega arith) (omega arith)) in
        value_convex (order_costs serial S n t) (S t) low serial.cap n t i costs
        (λ j le. passes (order_costs serial S n t j) (S t j) low serial.cap (costs j le) (solved n t j pt (omega arith) (omega arith)))

    -- so are the costs of orders
    pub costs_convex : (n t i : ℕ) → 1 ≤ t → t + n ≡ serial.periods → i < length serial.holding → IsConvexOn (serial_low serial t) serial.cap (order_costs serial S n t i)
    costs_convex n t i pt e lt = order_convex (values serial S n (suc t)) n t i pt (values_convex n (suc t) i (omega arith) (omega arith) lt)

    -- the solver's levels pass the checker's rules
    pub solved_passing : AreTurns serial S
    solved_passing n t i pt e lt = passes (order_costs serial S n t i) (S t i) (serial_low serial t) serial.cap (costs_convex n t i pt e lt) (solved n t i pt e lt)
