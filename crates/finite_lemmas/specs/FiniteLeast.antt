-- A certificate of a finite horizon names a policy that costs least.
use Rattle.std.proofs.Common.{◌≡◌, ℕ, zero, suc, ◌+◌, ◌-◌, ◌*◌, ◌^◌, ◌<◌, ◌≤◌, ℤ, pos, ◌+ℤ◌, ◌-ℤ◌, ◌*ℤ◌, ◌≤ℤ◌, int_le, length, take, sum, sym, ◌∙◌, ap, arith, subst}
use Rattle.std.proofs.lemmas.Bool.{and_parts, and_from}
use Rattle.std.proofs.lemmas.Int.{ints}
use Rattle.std.specs.Int.Signed.{≤ℤ_refl}
use Rattle.demand_law.specs.Integers as Z
use Rattle.demand_law.specs.Law.{weighted}
use Rattle.demand_law.specs.LawSums.{regroup_front, IsSumOf-law_of_sum}
use Rattle.demand_law.specs.SequenceSums.{laws_from-ext, over-add, over-ext, over-zero, over_from-const}
use Rattle.demand_law.specs.Sequences.{over, laws_from, law_at, law_of_sum}
use Rattle.decision_model.specs.declared.finite.Finite.{Finite}
use Rattle.decision_model.specs.Bounds.{state_after, end_sum, rest_from, one_step, IsBelow, IsAboveFrom}
use Rattle.decision_model.specs.DemandLaws.{common_total}
use Rattle.decision_model.specs.Finite.{finite_low}
use Rattle.decision_model.specs.FiniteProblem.{top, law_of_period, order_cost, stock_cost_at, end_cost, finite_problem}
use Rattle.decision_model.specs.FiniteSound.{IsSoundFinite, up_to_cap, low_next, low_start, on_grid, after_demand, before_cap}
use Rattle.decision_model.specs.Policies.{Problem, Policy, expected, IsAllowedFrom, IsAllowed, Least}
use Rattle.decision_model.specs.PositionTests.{le_test, le_known}
use Rattle.decision_model.specs.Stock.{stock_cost}
use Rattle.policy_bound.specs.PolicyBound.{lower_bound, upper_bound}
use Rattle.value_cert.specs.FiniteValues.{scale, stock_scale, lead_law, cost_after, value_of, end_value, policy_of}

-- a choice and a value for each period and position: the choice is allowed, the value is the choice's, and no allowed choice has less
pub record IsCertificate (finite : Finite) (to V : ℕ → ℤ → ℤ) : Type 0 where
  pub last : (x : ℤ) → V (suc finite.periods) x ≡ end_value finite x
  pub choice : (n t : ℕ) (x : ℤ) → 1 ≤ t → t + n ≡ finite.periods → finite_low finite t ≤ℤ x → x ≤ℤ finite.cap → (x ≤ℤ to t x) × (to t x ≤ℤ top finite x)
  pub least : (n t : ℕ) (x y : ℤ) → 1 ≤ t → t + n ≡ finite.periods → finite_low finite t ≤ℤ x → x ≤ℤ finite.cap → x ≤ℤ y → y ≤ℤ top finite x → V t x ≤ℤ value_of finite (V (suc t)) n t x y
  pub reached : (n t : ℕ) (x : ℤ) → 1 ≤ t → t + n ≡ finite.periods → finite_low finite t ≤ℤ x → x ≤ℤ finite.cap → V t x ≡ value_of finite (V (suc t)) n t x (to t x)

-- the law of a lead time is that of the sum of its periods' laws
lead_law_is : (finite : Finite) (t : ℕ) → 1 ≤ t → lead_law finite t ≡ law_of_sum (laws_from (law_of_period finite) t (suc finite.lead))
unfolding lead_law
lead_law_is finite t pt =
    ap law_of_sum (laws_from-ext (law_at finite.laws) (law_of_period finite) (t - 1) t (suc finite.lead) (λ k lt. ap (law_at finite.laws) (omega (arith, pt))))

module _ (finite : Finite) (sound : IsSoundFinite finite) where
  -- the problem
  abbrev p : Problem ℤ
  p = finite_problem finite

  -- the sum of weights of each law
  abbrev w : ℕ
  w = common_total finite.laws

  -- a constant along all sequences
  along : (t n : ℕ) (c : ℤ) → over (laws_from (law_of_period finite) t n) (λ ds. c) ≡ pos (w ^ n) *ℤ c
  along t n c = over_from-const (law_of_period finite) w sound.same_sum t n c

  -- the cost of a period, by the law of its lead time
  period_sum : (n t : ℕ) (x y : ℤ) → 1 ≤ t → over (laws_from (law_of_period finite) t (suc n + finite.lead)) (p.cost t x y) ≡ pos (w ^ (suc n + finite.lead)) *ℤ order_cost finite x y +ℤ pos (w ^ n) *ℤ weighted (lead_law finite t) (stock_cost_at finite y)
  period_sum n t x y pt =
      let laws = laws_from (law_of_period finite) t (suc n + finite.lead) in
      over-add laws (λ ds. order_cost finite x y) (λ ds. stock_cost_at finite y (sum (take (suc finite.lead) ds)))
      ∙ ap (λ z. z +ℤ over laws (λ ds. stock_cost_at finite y (sum (take (suc finite.lead) ds)))) (along t (suc n + finite.lead) (order_cost finite x y))
      ∙ ap (λ z. pos (w ^ (suc n + finite.lead)) *ℤ order_cost finite x y +ℤ z) stock
    where
      stock : over (laws_from (law_of_period finite) t (suc n + finite.lead)) (λ ds. stock_cost_at finite y (sum (take (suc finite.lead) ds))) ≡ pos (w ^ n) *ℤ weighted (lead_law finite t) (stock_cost_at finite y)
      stock =
          ap (λ k. over (laws_from (law_of_period finite) t k) (λ ds. stock_cost_at finite y (sum (take (suc finite.lead) ds)))) (omega arith)
          ∙ regroup_front (law_of_period finite) w sound.same_sum (law_of_sum (laws_from (law_of_period finite) t (suc finite.lead))) (suc finite.lead) t n (stock_cost_at finite y) (IsSumOf-law_of_sum (laws_from (law_of_period finite) t (suc finite.lead)))
          ∙ ap (λ law. pos (w ^ n) *ℤ weighted law (stock_cost_at finite y)) (sym (lead_law_is finite t pt))

  -- factors outside
  spread : (b o s : ℕ) (order stock later : ℤ) → pos b *ℤ (pos o *ℤ order +ℤ pos s *ℤ stock) +ℤ later ≡ (pos (b * s) *ℤ stock +ℤ later) +ℤ pos (b * o) *ℤ order
  spread b o s order stock later =
      omega (arith, ints, Z.mul_add (pos b) (pos o *ℤ order) (pos s *ℤ stock), Z.mul_assoc (pos b) (pos o) order, Z.mul_assoc (pos b) (pos s) stock)

  -- one step of the bound is the value of its choice
  pub step_is : (V : ℕ → ℤ → ℤ) (n t : ℕ) (x y : ℤ) → 1 ≤ t → one_step p V n t x y ≡ value_of finite (V (suc t)) n t x y
  unfolding scale stock_scale cost_after stock_cost
  step_is V n t x y pt =
      let later = pos finite.discount_num *ℤ weighted (law_of_period finite t) (λ d. V (suc t) (y -ℤ pos d)) in
      ap (λ z. pos (finite.discount_den ^ suc n) *ℤ z +ℤ later) (period_sum n t x y pt)
      ∙ spread (finite.discount_den ^ suc n) (w ^ (suc n + finite.lead)) (w ^ n) (order_cost finite x y) (weighted (lead_law finite t) (stock_cost_at finite y)) later

  module _ (to V : ℕ → ℤ → ℤ) (good : IsCertificate finite to V) where
    -- no step undercuts the values
    is_below : IsBelow p V
    is_below n t x y pt e on ok =
        let low = and_parts (int_le (finite_low finite t) x) (int_le x finite.cap) on in
        let up = and_parts (int_le x y) (int_le y (top finite x)) ok in
        subst (λ (z : ℤ). V t x ≤ℤ z) (sym (step_is V n t x y pt))
        (good.least n t x y pt e (le_known (finite_low finite t) x low.0) (le_known x finite.cap low.1) (le_known x y up.0) (le_known y (top finite x) up.1))

    -- an order and a demand lead to the grid of the next period
    next_low : (t d : ℕ) (x y : ℤ) → 1 ≤ t → finite_low finite t ≤ℤ x → x ≤ℤ y → d < length (law_of_period finite t) → finite_low finite (suc t) ≤ℤ (y -ℤ pos d)
    next_low t d x y pt low above lt = after_demand (finite_low finite t) (finite_low finite (suc t)) x y d (low_next finite t d pt (omega (arith, sound.within t, lt))) low above

    -- the policy's choices are allowed
    policy_allowed : (n t : ℕ) (x : ℤ) → 1 ≤ t → t + n ≡ suc finite.periods → finite_low finite t ≤ℤ x → x ≤ℤ finite.cap → IsAllowedFrom p n t x (policy_of to t x)
    policy_allowed zero t x pt e low high = tt
    policy_allowed (suc n) t x pt e low high =
        let y = to t x in
        let ok = good.choice n t x pt (omega (arith, e)) low high in (
          and_from (int_le x y) (int_le y (top finite x)) (le_test x y ok.0) (le_test y (top finite x) ok.1),
          λ d lt. policy_allowed n (suc t) (y -ℤ pos d) (omega arith) (omega (arith, e)) (next_low t d x y pt low ok.0 lt) (before_cap y finite.cap d (Z.le_trans y (top finite x) finite.cap ok.1 (up_to_cap finite.most finite.cap x))),
        )

    -- .. and reach the values
    is_above : (n t : ℕ) (x : ℤ) → 1 ≤ t → t + n ≡ suc finite.periods → finite_low finite t ≤ℤ x → x ≤ℤ finite.cap → IsAboveFrom p V n t x (policy_of to t x)
    is_above zero t x pt e low high = tt
    is_above (suc n) t x pt e low high =
        let y = to t x in
        let ok = good.choice n t x pt (omega (arith, e)) low high in (
          subst (λ (z : ℤ). z ≤ℤ V t x) (sym (step_is V n t x y pt ∙ sym (good.reached n t x pt (omega (arith, e)) low high))) (≤ℤ_refl (V t x)),
          λ d lt. is_above n (suc t) (y -ℤ pos d) (omega arith) (omega (arith, e)) (next_low t d x y pt low ok.0 lt) (before_cap y finite.cap d (Z.le_trans y (top finite x) finite.cap ok.1 (up_to_cap finite.most finite.cap x))),
        )

    -- the values of the end are exact
    rest_zero : (choose : Policy ℤ) → rest_from p V finite.periods 1 finite.start choose ≡ pos 0
    unfolding end_value
    rest_zero choose =
        ap (λ z. pos (finite.discount_num ^ finite.periods) *ℤ z)
        (over-ext (laws_from (law_of_period finite) 1 finite.periods) _ (λ ds. pos 0) (λ ds s. same (state_after p finite.start choose ds))
        ∙ over-zero (laws_from (law_of_period finite) 1 finite.periods))
        ∙ Z.mul_zero (pos (finite.discount_num ^ finite.periods))
      where
        same : (x : ℤ) → end_sum p x -ℤ V (suc finite.periods) x ≡ pos 0
        same x = omega (arith, ints, along (suc finite.periods) finite.lead (end_cost finite x), good.last x)

    -- the policy costs least, and its cost is the value of the start
    pub certified : Least p (policy_of to 1 finite.start) (V 1 finite.start)
    certified = record {
      allowed = allowed;
      cost = Z.le_antisym _ _ most (least (policy_of to 1 finite.start) allowed);
      least = least;
    }
      where
        allowed : IsAllowed p (policy_of to 1 finite.start)
        allowed = policy_allowed finite.periods 1 finite.start (omega arith) (omega arith) (low_start finite 1) sound.start

        least : (other : Policy ℤ) → IsAllowed p other → V 1 finite.start ≤ℤ expected p other
        least other ok =
            let h = lower_bound p V (on_grid finite sound) is_below finite.periods 1 finite.start other (omega arith) (omega arith) (on_grid finite sound).start ok in
            omega (arith, ints, h, rest_zero other)

        most : expected p (policy_of to 1 finite.start) ≤ℤ V 1 finite.start
        most =
            let h = upper_bound p V finite.periods 1 finite.start (policy_of to 1 finite.start) (omega arith) (is_above finite.periods 1 finite.start (omega arith) (omega arith) (low_start finite 1) sound.start) in
            omega (arith, ints, h, rest_zero (policy_of to 1 finite.start))
