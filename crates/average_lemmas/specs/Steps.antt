-- One step of a run, whose costs are all multiplied, by relative values.
use Rattle.std.proofs.Common.{◌≡◌, ℕ, suc, ◌+◌, ◌-◌, ◌*◌, ◌^◌, ◌≤◌, ℤ, pos, ◌+ℤ◌, ◌-ℤ◌, ◌*ℤ◌, List, take, sum, refl, ◌∙◌, ap, subst, arith, pow-suc, mul-le-mul_left}
use Rattle.std.proofs.lemmas.Nat.{pow-add}
use Rattle.demand_law.specs.Law.{weighted}
use Rattle.demand_law.specs.Sequences.{over, laws_from, law_of_sum, IsSumOf}
use Rattle.demand_law.specs.SequenceSums.{over-add, over-scale, over_from-const, laws_from-ext}
use Rattle.demand_law.specs.LawSums.{regroup_front, IsSumOf-law_of_sum}
use Rattle.decision_model.specs.declared.average.Average.{Average}
use Rattle.demand_law.specs.CountedSums.{counted, counted_is, counted-line}
use Rattle.demand_law.specs.Integers as Z
use Rattle.decision_model.specs.AverageProblem.{order_charge, stock_charge, average_problem}
use Rattle.decision_model.specs.Bounds.{one_step}
use Rattle.value_cert.specs.AverageValues.{Ratio, lead_demand, stock_sum}
use Rattle.average_lemmas.specs.Scaled.{scaled, no_discount}

-- the law of the demands until an order has come serves each period
pub lead_is : (item : Average) (t : ℕ) → IsSumOf (lead_demand item) (laws_from (λ s. item.law) t (suc item.lead))
unfolding lead_demand
lead_is item t =
    subst (λ (laws : List (List ℕ)). IsSumOf (law_of_sum (laws_from (λ s. item.law) 1 (suc item.lead))) laws)
    (laws_from-ext (λ s. item.law) (λ s. item.law) 1 t (suc item.lead) (λ k lt. refl))
    (IsSumOf-law_of_sum (laws_from (λ s. item.law) 1 (suc item.lead)))

-- what the last j periods are worth from a position on
abbrev pub worth : Average → Ratio → ℕ → (ℤ → ℕ) → ℕ → ℤ → ℕ
worth item g scale r j x = j * g.num * scale * sum item.law ^ (j + item.lead) + sum item.law ^ j * r x

-- the same, by period and state
abbrev pub worth_at : Average → Ratio → ℕ → (ℤ → ℕ) → ℕ → ℕ → ℤ → ℤ
worth_at item g scale r periods t x = pos (worth item g scale r (suc periods - t) x)

-- one step, which n periods follow, as a natural number
abbrev pub step_worth : Average → Ratio → ℕ → (ℤ → ℕ) → ℕ → ℤ → ℤ → ℕ
step_worth item g scale r n x y =
    g.den * scale * (sum item.law ^ (suc n + item.lead) * order_charge item x y + sum item.law ^ n * stock_sum item y)
    + (sum item.law * (n * g.num * scale * sum item.law ^ (n + item.lead)) + sum item.law ^ n * counted item.law (λ d. r (y -ℤ pos d)))

module _ (item : Average) where
  -- the cost of a period, over the demands of it, of n more periods, and of the lead time
  period_sum : (n t : ℕ) (x y : ℤ) → over (laws_from (λ s. item.law) t (suc n + item.lead)) (λ ds. pos (order_charge item x y + stock_charge item y (sum (take (suc item.lead) ds))))
      ≡ pos (sum item.law ^ (suc n + item.lead) * order_charge item x y + sum item.law ^ n * stock_sum item y)
  period_sum n t x y =
      let w = sum item.law in
      let laws = laws_from (λ s. item.law) t (suc n + item.lead) in
      let stock : over laws (λ ds. pos (stock_charge item y (sum (take (suc item.lead) ds)))) ≡ pos (w ^ n) *ℤ pos (stock_sum item y) =
      ap (λ k. over (laws_from (λ s. item.law) t k) (λ ds. pos (stock_charge item y (sum (take (suc item.lead) ds))))) (omega arith)
      ∙ regroup_front (λ s. item.law) w (λ s. refl) (lead_demand item) (suc item.lead) t n (λ e. pos (stock_charge item y e)) (lead_is item t)
      ∙ ap (λ z. pos (w ^ n) *ℤ z) (counted_is (lead_demand item) (stock_charge item y)) in
      over-add laws (λ ds. pos (order_charge item x y)) (λ ds. pos (stock_charge item y (sum (take (suc item.lead) ds))))
      ∙ ap (λ z. z +ℤ over laws (λ ds. pos (stock_charge item y (sum (take (suc item.lead) ds))))) (over_from-const (λ s. item.law) w (λ s. refl) t (suc n + item.lead) (pos (order_charge item x y)))
      ∙ ap (λ z. pos (w ^ (suc n + item.lead)) *ℤ pos (order_charge item x y) +ℤ z) stock

  module _ (g : Ratio) (scale : ℕ) (r : ℤ → ℕ) (periods : ℕ) (start : ℤ) where
    -- one step of the scaled problem is a natural number
    pub step_is : (n t : ℕ) (x y : ℤ) → t + n ≡ periods → one_step (scaled (pos (g.den * scale)) (average_problem item periods start)) (worth_at item g scale r periods) n t x y ≡ pos (step_worth item g scale r n x y)
    step_is n t x y e =
        let w = sum item.law in
        let left : suc periods - suc t ≡ n = omega arith in
        let later : weighted item.law (λ d. worth_at item g scale r periods (suc t) (y -ℤ pos d)) ≡ pos (w * (n * g.num * scale * w ^ (n + item.lead)) + w ^ n * counted item.law (λ d. r (y -ℤ pos d))) =
        ap (λ j. weighted item.law (λ d. pos (worth item g scale r j (y -ℤ pos d)))) left
        ∙ counted_is item.law (λ d. n * g.num * scale * w ^ (n + item.lead) + w ^ n * r (y -ℤ pos d))
        ∙ ap pos (counted-line item.law (n * g.num * scale * w ^ (n + item.lead)) (w ^ n) (λ d. r (y -ℤ pos d))) in
        let cost = over-scale (pos (g.den * scale)) (laws_from (λ s. item.law) t (suc n + item.lead)) (λ ds. pos (order_charge item x y + stock_charge item y (sum (take (suc item.lead) ds)))) ∙ ap (λ z. pos (g.den * scale) *ℤ z) (period_sum n t x y) in
        let paid = over (laws_from (λ s. item.law) t (suc n + item.lead)) (λ ds. pos (g.den * scale) *ℤ pos (order_charge item x y + stock_charge item y (sum (take (suc item.lead) ds)))) in
        let after = weighted item.law (λ d. worth_at item g scale r periods (suc t) (y -ℤ pos d)) in
        ap (λ z. z +ℤ pos 1 *ℤ after) (no_discount (suc n) paid) ∙ ap (λ z. paid +ℤ z) (Z.one_mul after)
        ∙ ap (λ z. z +ℤ after) cost
        ∙ ap (λ z. pos (g.den * scale) *ℤ pos (sum item.law ^ (suc n + item.lead) * order_charge item x y + sum item.law ^ n * stock_sum item y) +ℤ z) later

-- ---- the arithmetic of a step, with P for W^n and Q for W^lead
-- values that keeping doesn't go below
pub below_step : (n num den scale w P Q rx o cost after : ℕ) → num * scale * (w * Q) + w * rx ≤ den * scale * cost + den * scale * (w * Q) * o + after → suc n * num * scale * (w * P * Q) + w * P * rx ≤ den * scale * (w * P * Q * o + P * cost) + (w * (n * num * scale * (P * Q)) + P * after)
below_step n num den scale w P Q rx o cost after h = omega (arith, mul-le-mul_left P h)

-- values that keeping reaches
pub above_step : (n num den scale w P Q rx o cost after : ℕ) → den * scale * cost + den * scale * (w * Q) * o + after ≤ num * scale * (w * Q) + w * rx → den * scale * (w * P * Q * o + P * cost) + (w * (n * num * scale * (P * Q)) + P * after) ≤ suc n * num * scale * (w * P * Q) + w * P * rx
above_step n num den scale w P Q rx o cost after h = omega (arith, mul-le-mul_left P h)

-- the same, with the powers themselves
powers : (w n l : ℕ) → (w ^ suc n ≡ w * w ^ n) × (w ^ (n + l) ≡ w ^ n * w ^ l) × (w ^ (suc n + l) ≡ w * w ^ n * w ^ l) × (w ^ suc l ≡ w * w ^ l)
powers w n l =
    let one : w ^ suc n ≡ w * w ^ n = omega (arith, pow-suc w n) in
    (one, pow-add w n l, pow-add w (suc n) l ∙ ap (λ k. k * w ^ l) one, omega (arith, pow-suc w l))

-- so no step goes below what is worth
pub step_below : (item : Average) (g : Ratio) (scale : ℕ) (r : ℤ → ℕ) (n : ℕ) (x y : ℤ)
    → g.num * scale * sum item.law ^ suc item.lead + sum item.law * r x ≤ g.den * scale * stock_sum item y + g.den * scale * sum item.law ^ suc item.lead * order_charge item x y + counted item.law (λ d. r (y -ℤ pos d))
    → worth item g scale r (suc n) x ≤ step_worth item g scale r n x y
step_below item g scale r n x y h =
    let w = sum item.law in
    let p = powers w n item.lead in
    rw (p.0, p.1, p.2) (below_step n g.num g.den scale w (w ^ n) (w ^ item.lead) (r x) (order_charge item x y) (stock_sum item y) (counted item.law (λ d. r (y -ℤ pos d))) (rw p.3 at h))

-- .. or above
pub step_above : (item : Average) (g : Ratio) (scale : ℕ) (r : ℤ → ℕ) (n : ℕ) (x y : ℤ)
    → g.den * scale * stock_sum item y + g.den * scale * sum item.law ^ suc item.lead * order_charge item x y + counted item.law (λ d. r (y -ℤ pos d)) ≤ g.num * scale * sum item.law ^ suc item.lead + sum item.law * r x
    → step_worth item g scale r n x y ≤ worth item g scale r (suc n) x
step_above item g scale r n x y h =
    let w = sum item.law in
    let p = powers w n item.lead in
    rw (p.0, p.1, p.2) (above_step n g.num g.den scale w (w ^ n) (w ^ item.lead) (r x) (order_charge item x y) (stock_sum item y) (counted item.law (λ d. r (y -ℤ pos d))) (rw p.3 at h))
