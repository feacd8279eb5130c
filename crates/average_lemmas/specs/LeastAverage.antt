-- Relative values that meet the rules of a certificate name a policy of least average cost.
use Rattle.std.proofs.Common.{◌≡◌, ℕ, zero, suc, ◌+◌, ◌-◌, ◌*◌, ◌^◌, ◌≤◌, ℤ, pos, ◌+ℤ◌, ◌-ℤ◌, ◌*ℤ◌, ◌≤ℤ◌, ◌<ℤ◌, List, sum, refl, sym, ◌∙◌, ap, subst, arith, pow-suc, mul-le-mul_left, ◌⊎◌, inl, inr}
use Rattle.std.specs.Prelude.{int_le, ◌&&◌}
use Rattle.std.proofs.lemmas.Bool.{and_parts, and_from}
use Rattle.std.proofs.lemmas.Int.{ints}
use Rattle.std.proofs.lemmas.Nat.{pow-add}
use Rattle.std.proofs.Math.Nat.{pow-zero}
use Rattle.demand_law.specs.Sequences.{over, laws_from, totals_of}
use Rattle.demand_law.specs.Integers as Z
use Rattle.demand_law.specs.SequenceSums.{over-zero, over_most, over_least, totals_of-laws_from}
use Rattle.decision_model.specs.declared.average.Average.{Average}
use Rattle.demand_law.specs.CountedSums.{counted}
use Rattle.decision_model.specs.AverageLaws.{average_on_grid}
use Rattle.decision_model.specs.AverageProblem.{order_charge, average_problem}
use Rattle.decision_model.specs.Bounds.{state_after, end_sum, rest_from, one_step, IsOnGrid, IsBelow, IsAboveFrom}
use Rattle.decision_model.specs.Policies.{Policy, expected, IsAllowedFrom, IsAllowed}
use Rattle.decision_model.specs.PositionTests.{le_test, le_known}
use Rattle.policy_bound.specs.PolicyBound.{lower_bound, upper_bound}
use Rattle.value_cert.specs.AverageLeast.{pair_choice, pair_policy, IsAtMost, IsAtLeast, AverageLeast, IsPair}
use Rattle.value_cert.specs.AverageValues.{Ratio, stock_sum}
use Rattle.average_lemmas.specs.Orders.{by_order, order_charge_is, no_order_charge, choice_up, choice_stays, least_numbers, most_numbers}
use Rattle.average_lemmas.specs.PositionValues.{setup_value, IsLower, IsUpper, IsReached, IsSpan}
use Rattle.average_lemmas.specs.Scaled.{scaled, expected-scaled, no_discount}
use Rattle.average_lemmas.specs.Steps.{worth, worth_at, step_worth, step_is, step_below, step_above}

-- values that the policy of a pair reaches
exact_reached : (item : Average) (g : Ratio) (scale : ℕ) (low high : ℤ) (r : ℤ → ℕ) → IsUpper item g scale low high r → IsReached item g scale low high r
exact_reached item g scale low high r upper = record {
  order = λ x le. omega (arith, upper.order x le, upper.reached);
  keep = λ y above top. omega (arith, upper.keep y above top);
}

minus_times : (t b : ℕ) → pos t *ℤ (pos 0 -ℤ pos b) ≡ pos 0 -ℤ pos (t * b)
minus_times t b =
    let none : (pos 0 -ℤ pos b) +ℤ pos b ≡ pos 0 = omega (arith, ints) in
    omega (arith, ints, Z.mul_add (pos t) (pos 0 -ℤ pos b) (pos b), ap (λ z. pos t *ℤ z) none)

-- the rest after the last period: what the values are there
rest_bounds : (item : Average) (g : Ratio) (scale : ℕ) (r : ℤ → ℕ) (n : ℕ) (start : ℤ) (b : ℕ) (choose : Policy ℤ) → ((x : ℤ) → r x ≤ b)
    → (pos 0 ≤ℤ (rest_from (scaled (pos (g.den * scale)) (average_problem item n start)) (worth_at item g scale r n) n 1 start choose +ℤ pos (sum item.law ^ n * b)))
    × (rest_from (scaled (pos (g.den * scale)) (average_problem item n start)) (worth_at item g scale r n) n 1 start choose ≤ℤ pos 0)
rest_bounds item g scale r n start b choose most =
    let p = scaled (pos (g.den * scale)) (average_problem item n start) in
    let V = worth_at item g scale r n in
    let laws = laws_from (λ s. item.law) 1 n in
    let total : totals_of laws ≡ sum item.law ^ n = totals_of-laws_from (λ s. item.law) (sum item.law) (λ s. refl) 1 n in
    let lacks : List ℕ → ℤ = λ ds. end_sum p (state_after p start choose ds) -ℤ V (suc n) (state_after p start choose ds) in
    let low : (pos (totals_of laws) *ℤ (pos 0 -ℤ pos b)) ≤ℤ over laws lacks = over_least laws lacks (pos 0 -ℤ pos b) (λ ds s. (at_end (state_after p start choose ds)).0) in
    let high : over laws lacks ≤ℤ (pos (totals_of laws) *ℤ pos 0) = over_most laws lacks (pos 0) (λ ds s. (at_end (state_after p start choose ds)).1) in
    let rest : rest_from p V n 1 start choose ≡ over laws lacks = no_discount n (over laws lacks) in
    (omega (arith, ints, low, rest, minus_times (totals_of laws) b, ap (λ k. k * b) total), omega (arith, ints, high, rest))
  where
    no_end : (x : ℤ) → end_sum (scaled (pos (g.den * scale)) (average_problem item n start)) x ≡ pos 0
    no_end x = ap (λ z. over (laws_from (λ s. item.law) (suc n) item.lead) (λ ds. z)) (Z.mul_zero (pos (g.den * scale))) ∙ over-zero (laws_from (λ s. item.law) (suc n) item.lead)

    value : (x : ℤ) → worth_at item g scale r n (suc n) x ≡ pos (r x)
    value x =
        let none : suc n - suc n ≡ 0 = omega arith in
        ap (λ j. pos (worth item g scale r j x)) none ∙ ap pos (omega (arith, ap (λ k. k * r x) (pow-zero (sum item.law))))

    at_end : (x : ℤ) → ((pos 0 -ℤ pos b) ≤ℤ (end_sum (scaled (pos (g.den * scale)) (average_problem item n start)) x -ℤ worth_at item g scale r n (suc n) x)) × ((end_sum (scaled (pos (g.den * scale)) (average_problem item n start)) x -ℤ worth_at item g scale r n (suc n) x) ≤ℤ pos 0)
    at_end x =
        let e = no_end x in
        let v = value x in
        let le = most x in
        (omega (arith, ints), omega (arith, ints))

-- the grid of a run is closed under its choices
on_grid : (item : Average) (c : ℤ) (n : ℕ) (start : ℤ) → start ≤ℤ item.cap → IsOnGrid (scaled c (average_problem item n start))
on_grid item c n start start_low = record { start = (average_on_grid item n start start_low).start; next = (average_on_grid item n start start_low).next }

module _ (item : Average) (g : Ratio) (scale : ℕ) where
  -- ---- no choice goes below the lower values
  module _ (r : ℤ → ℕ) (low : IsLower item g scale r) (n : ℕ) (start : ℤ) where
    no_choice_below : (k : ℕ) (x y : ℤ) → x ≤ℤ y → item.floor ≤ℤ y → y ≤ℤ item.cap → worth item g scale r (suc k) x ≤ step_worth item g scale r k x y
    no_choice_below k x y up floor cap = step_below item g scale r k x y (go (by_order y x))
      where
        go : (y ≤ℤ x) ⊎ (x <ℤ y) → g.num * scale * sum item.law ^ suc item.lead + sum item.law * r x ≤ g.den * scale * stock_sum item y + g.den * scale * sum item.law ^ suc item.lead * order_charge item x y + counted item.law (λ d. r (y -ℤ pos d))
        go (inl le) =
            let same : y ≡ x = Z.le_antisym y x le up in
            omega (arith, low.keep y floor cap, ap (λ z. sum item.law * r z) same)
        go (inr lt) =
            let cost = order_charge_is item x y lt in
            let whole = ap (λ o. g.den * scale * sum item.law ^ suc item.lead * o) cost in
            omega (arith, low.keep y floor cap, mul-le-mul_left (sum item.law) (low.limit x), whole, ap (λ k. g.den * scale * k * item.setup) (pow-suc (sum item.law) item.lead))

    is_below : IsBelow (scaled (pos (g.den * scale)) (average_problem item n start)) (worth_at item g scale r n)
    is_below k t x y pt e on ok =
        let up = and_parts (int_le x y) (int_le item.floor y && int_le y item.cap) ok in
        let within = and_parts (int_le item.floor y) (int_le y item.cap) up.1 in
        let left : suc n - t ≡ suc k = omega arith in
        let h = no_choice_below k x y (le_known x y up.0) (le_known item.floor y within.0) (le_known y item.cap within.1) in
        subst (λ (j : ℕ). pos (worth item g scale r j x) ≤ℤ one_step (scaled (pos (g.den * scale)) (average_problem item n start)) (worth_at item g scale r n) k t x y) (sym left)
        (subst (λ (z : ℤ). pos (worth item g scale r (suc k) x) ≤ℤ z) (sym (step_is item g scale r n start k t x y e)) (omega (arith, ints)))

  -- ---- the pair reaches the upper values
  module _ (low high : ℤ) (pair : IsPair item low high) (r : ℤ → ℕ) (upper : IsReached item g scale low high r) (n : ℕ) (start : ℤ) where
    choice_reaches : (k : ℕ) (x : ℤ) → x ≤ℤ item.cap → step_worth item g scale r k x (pair_choice low high x) ≤ worth item g scale r (suc k) x
    choice_reaches k x top = go (by_order x low)
      where
        go : (x ≤ℤ low) ⊎ (low <ℤ x) → step_worth item g scale r k x (pair_choice low high x) ≤ worth item g scale r (suc k) x
        go (inl le) =
            rw (choice_up low high x le) (step_above item g scale r k x high (
            let cost = order_charge_is item x high (omega (arith, ints, pair.ordered)) in
            let whole = ap (λ o. g.den * scale * sum item.law ^ suc item.lead * o) cost in
            omega (arith, upper.keep high pair.ordered pair.within, mul-le-mul_left (sum item.law) (upper.order x le), whole, ap (λ k. g.den * scale * k * item.setup) (pow-suc (sum item.law) item.lead))
            ))
        go (inr lt) =
            rw (choice_stays low high x lt) (step_above item g scale r k x x (
            let cost = no_order_charge item x x (omega (arith, ints)) in
            let whole = ap (λ o. g.den * scale * sum item.law ^ suc item.lead * o) cost in
            omega (arith, upper.keep x lt top, whole)
            ))

    -- where the choice is
    choice_at : (x : ℤ) → x ≤ℤ item.cap → (x ≤ℤ pair_choice low high x) × (item.floor ≤ℤ pair_choice low high x) × (pair_choice low high x ≤ℤ item.cap)
    choice_at x top = go (by_order x low)
      where
        go : (x ≤ℤ low) ⊎ (low <ℤ x) → (x ≤ℤ pair_choice low high x) × (item.floor ≤ℤ pair_choice low high x) × (pair_choice low high x ≤ℤ item.cap)
        go (inl le) = rw (choice_up low high x le) (omega (arith, ints, pair.ordered), omega (arith, ints, pair.ordered, pair.above), pair.within)
        go (inr lt) = rw (choice_stays low high x lt) (omega (arith, ints), omega (arith, ints, pair.above), top)

    pub policy_allowed : (k t : ℕ) (x : ℤ) → x ≤ℤ item.cap → IsAllowedFrom (average_problem item n start) k t x (pair_policy low high x)
    policy_allowed zero t x top = tt
    policy_allowed (suc k) t x top =
        let y = pair_choice low high x in
        let at = choice_at x top in
        let cap = at.2 in (
          and_from (int_le x y) (int_le item.floor y && int_le y item.cap) (le_test x y at.0) (and_from (int_le item.floor y) (int_le y item.cap) (le_test item.floor y at.1) (le_test y item.cap at.2)),
          λ d lt. policy_allowed k (suc t) (y -ℤ pos d) (omega (arith, ints)),
        )

    is_above : (k t : ℕ) (x : ℤ) → t + k ≡ suc n → x ≤ℤ item.cap → IsAboveFrom (scaled (pos (g.den * scale)) (average_problem item n start)) (worth_at item g scale r n) k t x (pair_policy low high x)
    is_above zero t x e top = tt
    is_above (suc k) t x e top =
        let y = pair_choice low high x in
        let left : suc n - t ≡ suc k = omega arith in
        let h = choice_reaches k x top in
        let cap = (choice_at x top).2 in (
          subst (λ (j : ℕ). one_step (scaled (pos (g.den * scale)) (average_problem item n start)) (worth_at item g scale r n) k t x y ≤ℤ pos (worth item g scale r j x)) (sym left)
              (subst (λ (z : ℤ). z ≤ℤ pos (worth item g scale r (suc k) x)) (sym (step_is item g scale r n start k t x y (omega arith))) (omega (arith, ints))),
          λ d lt. is_above k (suc t) (y -ℤ pos d) (omega arith) (omega (arith, ints)),
        )

-- ---- the theorem
module _ (item : Average) (g span : Ratio) (scale : ℕ) (some : 1 ≤ scale) where
  -- a value that no other passes, by the span
  pub never_below : (r : ℤ → ℕ) → IsLower item g scale r → (b : ℕ) → ((x : ℤ) → r x ≤ b) → span.den * b ≤ span.num * (g.den * sum item.law ^ item.lead * scale)
      → (n : ℕ) (start : ℤ) (other : Policy ℤ) → start ≤ℤ item.cap → IsAllowed (average_problem item n start) other → IsAtLeast n g span (sum item.law ^ (n + item.lead)) (expected (average_problem item n start) other)
  never_below r low b most within n start other start_low ok =
      let w = sum item.law in
      let c = pos (g.den * scale) in
      let p = scaled c (average_problem item n start) in
      let V = worth_at item g scale r n in
      let grid = on_grid item c n start start_low in
      let bound = lower_bound p V grid (is_below item g scale r low n start) n 1 start other (omega arith) (omega arith) grid.start ok in
      let rest = (rest_bounds item g scale r n start b other most).0 in
      let one : suc n - 1 ≡ n = omega arith in
      let first : V 1 start ≡ pos (worth item g scale r n start) = ap (λ j. pos (worth item g scale r j start)) one in
      let power : w ^ (n + item.lead) ≡ w ^ n * w ^ item.lead = pow-add w n item.lead in
      let value : V 1 start ≡ pos (n * g.num * scale * (w ^ n * w ^ item.lead) + w ^ n * r start) = first ∙ ap (λ k. pos (n * g.num * scale * k + w ^ n * r start)) power in
      let whole : (pos (n * g.num * scale * (w ^ n * w ^ item.lead) + w ^ n * r start) +ℤ rest_from p V n 1 start other) ≤ℤ (c *ℤ expected (average_problem item n start) other) =
      subst (λ (z : ℤ). z ≤ℤ (c *ℤ expected (average_problem item n start) other)) (ap (λ z. z +ℤ rest_from p V n 1 start other) value)
      (subst (λ (z : ℤ). (V 1 start +ℤ rest_from p V n 1 start other) ≤ℤ z) (expected-scaled c (average_problem item n start) other) bound) in
      rw power (least_numbers n g.num g.den span.num span.den scale (w ^ n) (w ^ item.lead) b (r start) (expected (average_problem item n start) other) (rest_from p V n 1 start other) some whole rest within)

  pub never_above : (low high : ℤ) → IsPair item low high → (r : ℤ → ℕ) → IsReached item g scale low high r → IsSpan item g scale r span → (b : ℕ) → ((x : ℤ) → r x ≤ b)
      → (n : ℕ) (start : ℤ) → start ≤ℤ item.cap → IsAtMost n g span (sum item.law ^ (n + item.lead)) (expected (average_problem item n start) (pair_policy low high start))
  never_above low high pair r upper is_span b most n start start_low =
      let w = sum item.law in
      let c = pos (g.den * scale) in
      let p = scaled c (average_problem item n start) in
      let V = worth_at item g scale r n in
      let policy = pair_policy low high start in
      let bound = upper_bound p V n 1 start policy (omega arith) (is_above item g scale low high pair r upper n start n 1 start (omega arith) start_low) in
      let rest = (rest_bounds item g scale r n start b policy most).1 in
      let one : suc n - 1 ≡ n = omega arith in
      let first : V 1 start ≡ pos (worth item g scale r n start) = ap (λ j. pos (worth item g scale r j start)) one in
      let power : w ^ (n + item.lead) ≡ w ^ n * w ^ item.lead = pow-add w n item.lead in
      let value : V 1 start ≡ pos (n * g.num * scale * (w ^ n * w ^ item.lead) + w ^ n * r start) = first ∙ ap (λ k. pos (n * g.num * scale * k + w ^ n * r start)) power in
      let whole : (c *ℤ expected (average_problem item n start) policy) ≤ℤ (pos (n * g.num * scale * (w ^ n * w ^ item.lead) + w ^ n * r start) +ℤ rest_from p V n 1 start policy) =
      subst (λ (z : ℤ). (c *ℤ expected (average_problem item n start) policy) ≤ℤ z) (ap (λ z. z +ℤ rest_from p V n 1 start policy) value)
      (subst (λ (z : ℤ). z ≤ℤ (V 1 start +ℤ rest_from p V n 1 start policy)) (expected-scaled c (average_problem item n start) policy) bound) in
      rw power (most_numbers n g.num g.den span.num span.den scale (w ^ n) (w ^ item.lead) (r start) (expected (average_problem item n start) policy) (rest_from p V n 1 start policy) some whole rest (is_span start))

  pub average_least : 1 ≤ g.den → 1 ≤ span.den → (low high : ℤ) → IsPair item low high → (lower upper : ℤ → ℕ) → IsLower item g scale lower → IsUpper item g scale low high upper
      → (b : ℕ) → ((x : ℤ) → lower x ≤ b) → ((x : ℤ) → upper x ≤ b) → span.den * b ≤ span.num * (g.den * sum item.law ^ item.lead * scale)
      → AverageLeast item (pair_policy low high) g span
  average_least g_some span_some low high pair lower upper is_lower is_upper b most_lower most_upper within = record {
    g_some = g_some;
    span_some = span_some;
    allowed = λ n start some start_low. policy_allowed item g scale low high pair upper reached n start n 1 start start_low;
    most = λ n start some start_low. never_above low high pair upper reached (λ x. omega (arith, mul-le-mul_left span.den (most_upper x))) b most_upper n start start_low;
    enough = λ n start some start_low. never_below lower is_lower b most_lower within n start (pair_policy low high start) start_low (policy_allowed item g scale low high pair upper reached n start n 1 start start_low);
    least = λ n start other some start_low ok. never_below lower is_lower b most_lower within n start other start_low ok;
  }
    where
      reached : IsReached item g scale low high upper
      reached = exact_reached item g scale low high upper is_upper
