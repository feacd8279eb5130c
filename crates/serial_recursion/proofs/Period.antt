-- What is known of the last of some periods, and its rows by place as functions of positions.
use Rattle.std.proofs.Common.{◌≡◌, ℕ, zero, suc, ◌+◌, ◌-◌, ◌*◌, ◌<◌, ◌≤◌, min, max, ℤ, pos, ◌+ℤ◌, ◌-ℤ◌, ◌*ℤ◌, ◌≤ℤ◌, List, length, sum, refl, sym, ◌∙◌, ap, arith, subst}
use Rattle.std.proofs.lemmas.Int.{ints, clamps}
use Rattle.std.specs.Int.{int_max, int_min}
use Rattle.demand_law.specs.Law.{weighted}
use Rattle.demand_law.specs.Sequences.{greatest_in}
use Rattle.demand_law.specs.WeightedSums.{weighted-ext, weighted-ext_within, weighted-add, weighted-sub, weighted-scale, weighted-const}
use Rattle.decision_model.specs.Positions.{above_zero}
use Rattle.decision_model.specs.PositionTests.{above_zero_is}
use Rattle.decision_model.specs.Serial.{IsValidSerial, serial_low}
use Rattle.decision_model.specs.SerialProblem.{law_of_period, holding_of, unit_of}
use Rattle.decision_model.specs.SerialSound.{low_zero}
use Rattle.decision_model.specs.Stock.{stock_cost}
use Rattle.decision_model.specs.declared.serial.Serial.{Serial}
use Rattle.value_cert.specs.SerialValues.{scale, demand_scale, own_cost, own, order_cost, penalty, echelon_value, row_width}
use Rattle.serial_recursion.specs.Rows.{IsFrame, value_at, period_of, lacking_of, rates_for, place_line, place_cost, charge_of, stock_sum, place_value}
use Rattle.serial_recursion.specs.declared.frame.Frame.{Frame}
use Rattle.serial_recursion.proofs.Frames.{sound, low_next_is, width_next}

-- what lacks at a position, over all demands
lacks_is : (ws : List ℕ) (y : ℤ) → stock_cost 0 1 ws y ≡ weighted ws (λ d. pos (above_zero (pos d -ℤ y)))
unfolding stock_cost
lacks_is ws y = weighted-ext ws (λ d. pos (0 * above_zero (y -ℤ pos d) + 1 * above_zero (pos d -ℤ y))) (λ d. pos (above_zero (pos d -ℤ y))) (λ d. ap pos (omega arith))

-- the stock of a place over all demands, from what lacks at place 0, which is no demand's
stock_is : (ws : List ℕ) (low : ℤ) (k : ℕ) → low ≤ℤ pos 0 → pos (sum ws * k) -ℤ stock_cost 0 1 ws low ≡ weighted ws (λ d. (low +ℤ pos k) -ℤ pos d)
stock_is ws low k none =
    ap (λ z. z -ℤ stock_cost 0 1 ws low) (product (sum ws) k ∙ sym (weighted-const ws (pos k)))
    ∙ ap (λ z. weighted ws (λ d. pos k) -ℤ z) (lacks_is ws low)
    ∙ sym (weighted-sub ws (λ d. pos k) (λ d. pos (above_zero (pos d -ℤ low))))
    ∙ weighted-ext ws (λ d. pos k -ℤ pos (above_zero (pos d -ℤ low))) (λ d. (low +ℤ pos k) -ℤ pos d) each
  where
    product : (a b : ℕ) → pos (a * b) ≡ pos a *ℤ pos b
    product a b = omega (arith, ints)

    each : (d : ℕ) → pos k -ℤ pos (above_zero (pos d -ℤ low)) ≡ (low +ℤ pos k) -ℤ pos d
    each d = let is = above_zero_is (pos d -ℤ low) (omega (arith, ints, none)) in omega (arith, ints, is)

module _ (serial : Serial) (valid : IsValidSerial serial) (p : ℕ) (some : 1 ≤ p) (within : p ≤ serial.periods) (frame : Frame) (is : IsFrame serial p frame) where
  abbrev pub t : ℕ
  t = period_of serial p

  abbrev pub n : ℕ
  n = p - 1

  pub t_some : 1 ≤ t
  t_some = omega (arith, some, within)

  pub in_time : t + n ≡ serial.periods
  in_time = omega (arith, some, within)

  pub suc_n : suc n ≡ p
  suc_n = omega (arith, some)

  pub scale_is : frame.scale ≡ scale serial (suc n)
  scale_is = is.is_scale ∙ ap (scale serial) (sym suc_n)

  pub own_scale_is : frame.own_scale ≡ demand_scale serial n
  own_scale_is = is.is_own_scale some

  pub position_is : (k : ℕ) → frame.low +ℤ pos k ≡ serial_low serial t +ℤ pos k
  position_is k = ap (λ z. z +ℤ pos k) is.is_low

  pub total_is : frame.total ≡ sum (law_of_period serial t)
  total_is = is.is_total ∙ sym ((sound serial valid).same_sum t)

  line_is : (i k : ℕ) → place_line frame (unit_of serial i) k ≡ pos (scale serial (suc n) * unit_of serial i) *ℤ (serial_low serial t +ℤ pos k)
  line_is i k = ap (λ y. pos (frame.scale * unit_of serial i) *ℤ y) (position_is k) ∙ ap (λ s. pos (s * unit_of serial i) *ℤ (serial_low serial t +ℤ pos k)) scale_is

  -- ---- costs of orders
  pub cost_is : (F : ℕ → ℤ → ℤ) (i k : ℕ) (row : ℕ → ℤ) → ((j : ℕ) → j < row_width serial (suc t) → row j ≡ F i (serial_low serial (suc t) +ℤ pos j)) → k < row_width serial t → place_cost frame (law_of_period serial t) (unit_of serial i) row k ≡ order_cost serial F n t i (serial_low serial t +ℤ pos k)
  unfolding place_cost
  cost_is F i k row later lt =
      ap (λ z. z +ℤ pos frame.num *ℤ weighted (law_of_period serial t) (λ d. row (frame.greatest + k - d))) (line_is i k)
      ∙ ap (λ a. pos (scale serial (suc n) * unit_of serial i) *ℤ (serial_low serial t +ℤ pos k) +ℤ pos a *ℤ weighted (law_of_period serial t) (λ d. row (frame.greatest + k - d))) is.is_num
      ∙ ap (λ z. pos (scale serial (suc n) * unit_of serial i) *ℤ (serial_low serial t +ℤ pos k) +ℤ pos serial.discount_num *ℤ z)
      (weighted-ext_within (law_of_period serial t) (λ d. row (frame.greatest + k - d)) (λ d. F i ((serial_low serial t +ℤ pos k) -ℤ pos d)) each)
    where
      each : (d : ℕ) → d < length (law_of_period serial t) → row (frame.greatest + k - d) ≡ F i ((serial_low serial t +ℤ pos k) -ℤ pos d)
      each d less =
          let short : d ≤ greatest_in serial.laws = omega (arith, less, (sound serial valid).within t) in
          later (frame.greatest + k - d) (omega (arith, lt, width_next serial valid t t_some, is.is_greatest))
          ∙ ap (F i) (moved (serial_low serial (suc t)) (serial_low serial t) (low_next_is serial valid t t_some) short)
        where
          moved : (next low : ℤ) → next +ℤ pos (greatest_in serial.laws) ≡ low → d ≤ greatest_in serial.laws → next +ℤ pos (frame.greatest + k - d) ≡ (low +ℤ pos k) -ℤ pos d
          moved next low h le = omega (arith, ints, h, le, is.is_greatest)

  -- ---- values
  own_same : (i d : ℕ) (x : ℤ) → pos (holding_of serial i) *ℤ (x -ℤ pos d) +ℤ pos (lacking_of serial i) *ℤ pos (above_zero (pos d -ℤ x)) ≡ own_cost serial i x d
  own_same zero d x = refl
  own_same (suc i) d x = omega (arith, ints)

  -- the stock of a place costs what the echelon's own costs are
  sum_is : (i k : ℕ) → stock_sum frame (rates_for serial i) (law_of_period serial t) k ≡ weighted (law_of_period serial t) (own_cost serial i (serial_low serial t +ℤ pos k))
  sum_is i k =
      let ws = law_of_period serial t in
      let low = serial_low serial t in
      let x = low +ℤ pos k in
      let h = pos (holding_of serial i) in
      let l = pos (lacking_of serial i) in
      ap (λ z. h *ℤ (pos (frame.total * k) -ℤ stock_cost 0 1 ws z) +ℤ l *ℤ stock_cost 0 1 ws (z +ℤ pos k)) is.is_low
      ∙ ap (λ w. h *ℤ (pos (w * k) -ℤ stock_cost 0 1 ws low) +ℤ l *ℤ stock_cost 0 1 ws x) total_is
      ∙ ap (λ z. h *ℤ z +ℤ l *ℤ stock_cost 0 1 ws x) (stock_is ws low k (low_zero serial t))
      ∙ ap (λ z. h *ℤ weighted ws (λ d. x -ℤ pos d) +ℤ l *ℤ z) (lacks_is ws x)
      ∙ ap (λ z. z +ℤ l *ℤ weighted ws (λ d. pos (above_zero (pos d -ℤ x)))) (sym (weighted-scale h ws (λ d. x -ℤ pos d)))
      ∙ ap (λ z. weighted ws (λ d. h *ℤ (x -ℤ pos d)) +ℤ z) (sym (weighted-scale l ws (λ d. pos (above_zero (pos d -ℤ x)))))
      ∙ sym (weighted-add ws (λ d. h *ℤ (x -ℤ pos d)) (λ d. l *ℤ pos (above_zero (pos d -ℤ x))))
      ∙ weighted-ext ws (λ d. h *ℤ (x -ℤ pos d) +ℤ l *ℤ pos (above_zero (pos d -ℤ x))) (own_cost serial i x) (λ d. own_same i d x)

  pub own_is : (i k : ℕ) → pos frame.own_scale *ℤ stock_sum frame (rates_for serial i) (law_of_period serial t) k ≡ own serial n t i (serial_low serial t +ℤ pos k)
  own_is i k =
      ap (λ s. pos s *ℤ stock_sum frame (rates_for serial i) (law_of_period serial t) k) own_scale_is ∙ ap (λ z. pos (demand_scale serial n) *ℤ z) (sum_is i k)

  -- costs of orders of echelon i by place, and its level's place
  pub record AreCosts (C : ℤ → ℤ) (S : ℤ) (costs : List ℤ) (level : ℕ) : Type 0 where
    pub costs_at : (k : ℕ) → k < row_width serial t → value_at costs k ≡ C (serial_low serial t +ℤ pos k)
    pub level_within : level < row_width serial t
    pub level_at : serial_low serial t +ℤ pos level ≡ S

  lower : (low l : ℤ) (level k : ℕ) → low +ℤ pos level ≡ l → low +ℤ pos (min k level) ≡ int_min (low +ℤ pos k) l
  lower low l level k e = omega (arith, ints, clamps, e)

  higher : (low l : ℤ) (level k : ℕ) → low +ℤ pos level ≡ l → low +ℤ pos (max k level) ≡ int_max (low +ℤ pos k) l
  higher low l level k e = omega (arith, ints, clamps, e)

  pub charge_is : (C : ℕ → ℤ → ℤ) (L : ℕ → ℤ) (i level k : ℕ) (costs : List ℤ) → (1 ≤ i → AreCosts (C (i - 1)) (L (i - 1)) costs level) → k < row_width serial t → charge_of i costs level k ≡ penalty C L i (serial_low serial t +ℤ pos k)
  charge_is C L zero level k costs are lt = refl
  charge_is C L (suc i) level k costs are lt =
      let e : suc i - 1 ≡ i = omega arith in
      by (subst (λ (j : ℕ). AreCosts (C j) (L j) costs level) e (are (omega arith)))
    where
      by : AreCosts (C i) (L i) costs level → charge_of (suc i) costs level k ≡ penalty C L (suc i) (serial_low serial t +ℤ pos k)
      by here =
          let kept = here.costs_at (min k level) (omega (arith, lt, here.level_within)) ∙ ap (C i) (lower (serial_low serial t) (L i) level k here.level_at) in
          let free = here.costs_at level here.level_within ∙ ap (C i) here.level_at in
          ap (λ z. z -ℤ value_at costs level) kept ∙ ap (λ z. C i (int_min (serial_low serial t +ℤ pos k) (L i)) -ℤ z) free

  pub value_is : (C : ℕ → ℤ → ℤ) (L : ℕ → ℤ) (i level k : ℕ) (charge : ℤ) (costs : List ℤ) → AreCosts (C i) (L i) costs level → charge ≡ penalty C L i (serial_low serial t +ℤ pos k) → k < row_width serial t → place_value frame (rates_for serial i) (law_of_period serial t) costs level charge k ≡ echelon_value serial C L n t i (serial_low serial t +ℤ pos k)
  unfolding place_value
  value_is C L i level k charge costs are charged lt =
      let x = serial_low serial t +ℤ pos k in
      let order = are.costs_at (max k level) (omega (arith, lt, are.level_within)) ∙ ap (C i) (higher (serial_low serial t) (L i) level k are.level_at) in
      ap (λ z. z -ℤ place_line frame (unit_of serial i) k +ℤ value_at costs (max k level) +ℤ charge) (own_is i k)
      ∙ ap (λ z. own serial n t i x -ℤ z +ℤ value_at costs (max k level) +ℤ charge) (line_is i k)
      ∙ ap (λ z. own serial n t i x -ℤ pos (scale serial (suc n) * unit_of serial i) *ℤ x +ℤ z +ℤ charge) order
      ∙ ap (λ z. own serial n t i x -ℤ pos (scale serial (suc n) * unit_of serial i) *ℤ x +ℤ C i (int_max x (L i)) +ℤ z) charged
