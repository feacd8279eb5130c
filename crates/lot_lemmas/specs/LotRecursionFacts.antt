-- The recursion over last order periods of an instance.
use Rattle.std.proofs.Common.{◌≡◌, ℕ, zero, suc, ◌+◌, ◌-◌, ◌*◌, ◌<◌, ◌≤◌, [], ◌∷◌, length, slice_index, get_or, Bool, true, false, cond, nat_le, refl, ◌∙◌, ap, arith, ◌⊎◌, inl, inr, mul-le-mul_left, length-append}
use Rattle.std.proofs.lemmas.Bool.{cases_lt, eq-eqb, ne_eqb, leb-true, leb-false}
use Rattle.std.proofs.lemmas.List.{get_or_append_left, get_or-append_right}
use Rattle.decision_model.specs.declared.lots.LotSize.{LotSize}
use Rattle.decision_model.specs.Lots.{IsValidLots, CanWait}
use Rattle.value_cert.specs.LotPlans.{holding_between, serving_cost}
use Rattle.value_cert.specs.LotRecursion.{order_cost, cost_by, latest_least_upto, next_cost, least_costs, least_cost, last_order}
use Rattle.lot_lemmas.specs.LotSums.{sum_from, sum_from-last, stretch-first}
use Rattle.lot_lemmas.specs.LotHorizons.{LotCosts, IsLotRecursion}

-- ---- the latest least number
-- the latest of the numbers up to n at which the cost is least
pub record IsLatestLeast (cost : ℕ → ℕ) (n t : ℕ) : Type 0 where
  pub within : t ≤ n
  pub least : (k : ℕ) → k ≤ n → cost t ≤ cost k
  pub latest : (k : ℕ) → k ≤ n → t < k → cost t < cost k

next_latest : (cost : ℕ → ℕ) (n t : ℕ) (no_more : Bool) → nat_le (cost (suc n)) (cost t) ≡ no_more → IsLatestLeast cost n t → IsLatestLeast cost (suc n) (cond no_more (suc n) t)
next_latest cost n t true test before = record {
  within = omega arith;
  least = λ k le. least_at k (cases_lt k (suc n)) le;
  latest = λ k le after. absurd (omega arith);
}
  where
    least_at : (k : ℕ) → (k < suc n) ⊎ (suc n ≤ k) → k ≤ suc n → cost (suc n) ≤ cost k
    least_at k (inl lt) le = omega (arith, leb-true (cost (suc n)) (cost t) test, before.least k (omega arith))
    least_at k (inr ge) le = let same : k ≡ suc n = omega arith in rw same (omega arith)
next_latest cost n t false test before = record {
  within = omega (arith, before.within);
  least = λ k le. least_at k (cases_lt k (suc n)) le;
  latest = λ k le after. latest_at k (cases_lt k (suc n)) le after;
}
  where
    less : cost t < cost (suc n)
    less = leb-false (cost (suc n)) (cost t) test

    least_at : (k : ℕ) → (k < suc n) ⊎ (suc n ≤ k) → k ≤ suc n → cost t ≤ cost k
    least_at k (inl lt) le = before.least k (omega arith)
    least_at k (inr ge) le = let same : k ≡ suc n = omega arith in rw same (omega (arith, less))

    latest_at : (k : ℕ) → (k < suc n) ⊎ (suc n ≤ k) → k ≤ suc n → t < k → cost t < cost k
    latest_at k (inl lt) le after = before.latest k (omega arith) after
    latest_at k (inr ge) le after = let same : k ≡ suc n = omega arith in rw same less

pub is_latest_least : (cost : ℕ → ℕ) (n : ℕ) → IsLatestLeast cost n (latest_least_upto cost n)
unfolding latest_least_upto
is_latest_least cost zero = record { within = omega arith; least = λ k le. let same : k ≡ 0 = omega arith in rw same (omega arith); latest = λ k le after. absurd (omega arith) }
is_latest_least cost (suc n) = next_latest cost n (latest_least_upto cost n) (nat_le (cost (suc n)) (cost (latest_least_upto cost n))) refl (is_latest_least cost n)

-- ---- the list of least costs
pub length-least_costs : (item : LotSize) (n : ℕ) → length (least_costs item n) ≡ n + 1
unfolding least_costs
length-least_costs item zero = refl
length-least_costs item (suc n) = length-append (least_costs item n) _ ∙ omega (arith, length-least_costs item n)

pub least_costs-at : (item : LotSize) (n t : ℕ) → t ≤ n → slice_index (least_costs item n) t ≡ least_cost item t
unfolding least_costs
least_costs-at item zero t le = let same : t ≡ 0 = omega arith in rw same refl
least_costs-at item (suc n) t le = by_place (cases_lt n t) (least_costs-at item n t)
  where
    by_place : (n < t) ⊎ (t ≤ n) → (t ≤ n → slice_index (least_costs item n) t ≡ least_cost item t) → slice_index (least_costs item (suc n)) t ≡ least_cost item t
    by_place (inl after) earlier = let same : t ≡ suc n = omega arith in rw same refl
    by_place (inr before) earlier = get_or_append_left (least_costs item n) _ 0 t (omega (arith, length-least_costs item n)) ∙ earlier before

pub least_cost-none : (item : LotSize) → least_cost item 0 ≡ 0
unfolding least_costs
least_cost-none item = refl

pub least_cost-next : (item : LotSize) (n : ℕ) → least_cost item (suc n) ≡ next_cost item (least_costs item n) n
unfolding least_costs
least_cost-next item n =
    let ends : length (least_costs item n) ≡ suc n = omega (arith, length-least_costs item n) in
    let first : suc n - suc n ≡ 0 = omega arith in
    get_or-append_right (least_costs item n) (next_cost item (least_costs item n) n ∷ []) (suc n) (suc n) 0 ends (omega arith)
    ∙ ap (λ k. get_or (next_cost item (least_costs item n) n ∷ []) k 0) first

-- ---- no later order serves a period at a higher cost
unit_cost_falls : (item : LotSize) → IsValidLots item → (t m n : ℕ) → t + m ≤ n → n < length item.demand → slice_index item.unit (t + m) + holding_between item (t + m) n ≤ slice_index item.unit t + holding_between item t n
unit_cost_falls item valid t zero n le inside =
    let same : t + 0 ≡ t = omega arith in rw same (omega arith)
unit_cost_falls item valid t (suc m) n le inside =
    let at : t + suc m ≡ t + m + 1 = omega arith in
    let before : t + m + 1 - 1 ≡ t + m = omega arith in
    let waits : CanWait item (t + m + 1) = valid.no_speculation (t + m + 1) (omega arith) (omega (arith, valid.readable.unit_each)) in
    let wait : slice_index item.unit (t + m + 1) ≤ slice_index item.unit (t + m) + slice_index item.holding (t + m) = rw before at waits in
    let first = stretch-first item.holding (t + m) n (omega arith) (omega (arith, valid.readable.holding_each)) in
    rw at (omega (arith, wait, first, unit_cost_falls item valid t m n (omega arith) inside))

pub later_serves : (item : LotSize) → IsValidLots item → (t u n : ℕ) → t ≤ u → u ≤ n → n < length item.demand → serving_cost item u n ≤ serving_cost item t n
later_serves item valid t u n le upto inside =
    let at : t + (u - t) ≡ u = omega arith in
    let falls = unit_cost_falls item valid t (u - t) n (omega arith) inside in
    mul-le-mul_left (slice_index item.demand n) (rw at at falls)

-- ---- the recursion
-- the cost of the first n periods with the last order in t
unfoldable pub cost_before : LotSize → ℕ → ℕ → ℕ
cost_before item t n = least_cost item t + (slice_index item.setup t + sum_from (serving_cost item t) t (n - t))

unfoldable pub costs_of : LotSize → LotCosts
costs_of item = record {
  periods = length item.demand;
  demand = slice_index item.demand;
  setup = slice_index item.setup;
  serve = serving_cost item;
  by = cost_before item;
  least = least_cost item;
  last = last_order item;
}

pub cost_by-is : (item : LotSize) (n t : ℕ) → t ≤ n → cost_by item (least_costs item n) n t ≡ cost_before item t (suc n)
unfolding cost_before
cost_by-is item n t le =
    let count : n + 1 - t ≡ suc n - t = omega arith in
    ap (λ x. x + order_cost item t n) (least_costs-at item n t le)
    ∙ ap (λ k. least_cost item t + (slice_index item.setup t + sum_from (serving_cost item t) t k)) count

pub is_recursion : (item : LotSize) → IsValidLots item → IsLotRecursion (costs_of item)
unfolding cost_before costs_of
is_recursion item valid = record {
  begins = λ t. let empty : t - t ≡ 0 = omega arith in ap (λ k. least_cost item t + (slice_index item.setup t + sum_from (serving_cost item t) t k)) empty ∙ omega arith;
  grows = grows;
  free = free;
  can_wait = λ t u n. later_serves item valid t u n;
  none = least_cost-none item;
  idle = λ n inside z. least_cost-next item n ∙ ap (λ b. cond b (slice_index (least_costs item n) n) (cost_by item (least_costs item n) n (last_order item n))) (eq-eqb (slice_index item.demand n) 0 z);
  within = λ n. (latest n).within;
  ordered = ordered;
  is_least = least;
  is_latest = later;
}
  where
    latest : (n : ℕ) → IsLatestLeast (cost_by item (least_costs item n) n) n (last_order item n)
    latest n = is_latest_least (cost_by item (least_costs item n) n) n

    grows : (t n : ℕ) → t ≤ n → n < length item.demand → cost_before item t (suc n) ≡ cost_before item t n + serving_cost item t n
    grows t n le inside =
        let count : suc n - t ≡ suc (n - t) = omega arith in
        let at : t + (n - t) ≡ n = omega arith in
        let sums : sum_from (serving_cost item t) t (suc n - t) ≡ sum_from (serving_cost item t) t (n - t) + serving_cost item t n =
        ap (sum_from (serving_cost item t) t) count ∙ sum_from-last (serving_cost item t) t (n - t) ∙ ap (λ k. sum_from (serving_cost item t) t (n - t) + serving_cost item t k) at in
        omega (arith, sums)

    free : (t n : ℕ) → n < length item.demand → slice_index item.demand n ≡ 0 → serving_cost item t n ≡ 0
    free t n inside z = ap (λ d. d * (slice_index item.unit t + holding_between item t n)) z ∙ omega arith

    ordered : (n : ℕ) → n < length item.demand → (slice_index item.demand n ≡ 0 → ⊥) → least_cost item (suc n) ≡ cost_before item (last_order item n) (suc n)
    ordered n inside some =
        least_cost-next item n
        ∙ ap (λ b. cond b (slice_index (least_costs item n) n) (cost_by item (least_costs item n) n (last_order item n))) (ne_eqb (slice_index item.demand n) 0 some)
        ∙ cost_by-is item n (last_order item n) (latest n).within

    least : (n t : ℕ) → t ≤ n → cost_before item (last_order item n) (suc n) ≤ cost_before item t (suc n)
    least n t le = rw (cost_by-is item n (last_order item n) (latest n).within, cost_by-is item n t le) at ((latest n).least t le)

    later : (n t : ℕ) → t ≤ n → last_order item n < t → cost_before item (last_order item n) (suc n) < cost_before item t (suc n)
    later n t le after = rw (cost_by-is item n (last_order item n) (latest n).within, cost_by-is item n t le) at ((latest n).latest t le after)
