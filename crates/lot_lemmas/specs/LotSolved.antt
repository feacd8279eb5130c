-- The solver's certificate breaks no rule, and its numbers are small.
use Rattle.std.proofs.Common.{◌≡◌, ℕ, zero, suc, ◌+◌, ◌-◌, ◌*◌, ◌<◌, ◌≤◌, List, length, slice_index, get_or, sum, take, map, pos, Bool, true, not, ◌&&◌, ◌||◌, nat_le, eqb, All, Option, None, Some, cond, sym, ◌∙◌, ap, arith, add-one, zero-add, ◌⊎◌, inl, inr}
use Rattle.std.specs.List.{range_with_len}
use Rattle.std.proofs.lemmas.Bool.{cases_eq, eq-eqb, ne_eqb, le-leb, and_from}
use Rattle.std.proofs.lemmas.List.{get_or-take, take_all}
use Rattle.std.proofs.lemmas.List.Sums.{sum-map, sum_by-take-le, list_all-from_AllPass, get_or-le-sum_by, sum_by-le}
use Rattle.std.proofs.lemmas.List.FromFn.{get_or-map-range_with_len, length-map-range_with_len, get_or-range_with_len, length-range_with_len}
use Rattle.std.proofs.lemmas.Nat.{mul-le}
use Rattle.decision_model.specs.declared.lots.LotSize.{LotSize}
use Rattle.decision_model.specs.Lots.{IsValidLots}
use Rattle.value_cert.specs.Numbers.{is_number}
use Rattle.value_cert.specs.LotPlans.{serving_cost}
use Rattle.value_cert.specs.LotsRules.{excess, excess_upto, covers_excess, is_dual_of_demand, is_plan_upto, BreaksNoLotRule}
use Rattle.value_cert.specs.LotRecursion.{least_cost, least_plan, added_cost, solved_lots}
use Rattle.lot_lemmas.specs.LotSums.{sum_from, sum_from-same, stretch-none}
use Rattle.lot_lemmas.specs.LotTexts.{IsSmall, HasText-lots}
use Rattle.value_cert.specs.Texts.{HasText}
use Rattle.value_cert.specs.declared.lots.LotCert.{LotCert}
use Rattle.value_cert.specs.declared.cert.Cert.TheVariants as cert
use Rattle.lot_lemmas.specs.LotHorizons.{least_below, excess_of, excess_below, sum_from-added}
use Rattle.lot_lemmas.specs.LotRecursionFacts.{costs_of, cost_before, is_recursion, least_cost-none}
use Rattle.lot_lemmas.specs.LotPlanFacts.{front_plan}

-- ---- the duals
abbrev pub duals_of : LotSize → List ℕ
duals_of item = map (added_cost item) (range_with_len 0 (length item.demand))

pub sum-duals_of : (item : LotSize) → IsValidLots item → sum (duals_of item) ≡ least_cost item (length item.demand)
unfolding costs_of
sum-duals_of item valid =
    sum-map (added_cost item) (range_with_len 0 (length item.demand))
    ∙ sum_from-added (costs_of item) (is_recursion item valid) (length item.demand) (omega arith)

dual_at : (item : LotSize) (s k : ℕ) → k ≤ s → s < length item.demand → slice_index (take (s + 1) (duals_of item)) k ≡ added_cost item k
dual_at item s k le inside =
    get_or-take (s + 1) (duals_of item) k 0 (omega arith)
    ∙ get_or-map-range_with_len (added_cost item) 0 (length item.demand) k k 0 (omega arith) (zero-add k)

excess_small : (item : LotSize) → IsValidLots item → (s t : ℕ) → t ≤ s → s < length item.demand → excess_upto item (take (s + 1) (duals_of item)) t s ≤ slice_index item.setup t
unfolding costs_of
excess_small item valid s t le inside =
    let count : t + (s + 1 - t) ≡ s + 1 = omega arith in
    let same : sum_from (excess item (take (s + 1) (duals_of item)) t) t (s + 1 - t) ≡ sum_from (excess_of (costs_of item) t) t (s + 1 - t) =
    sum_from-same _ _ t (s + 1 - t) (λ k low high. ap (λ v. v - serving_cost item t k) (dual_at item s k (omega arith) inside)) in
    omega (arith, same, excess_below (costs_of item) (is_recursion item valid) t (s + 1 - t) (omega arith))

covers : (item : LotSize) → IsValidLots item → (s : ℕ) → s < length item.demand → covers_excess item (take (s + 1) (duals_of item)) s ≡ true
covers item valid s inside = list_all-from_AllPass test (range_with_len 0 (s + 1)) each
  where
    test : ℕ → Bool
    test t = nat_le (excess_upto item (take (s + 1) (duals_of item)) t s) (slice_index item.setup t)

    each : All (λ t. test t ≡ true) (range_with_len 0 (s + 1))
    each k d lt =
        let within : k < s + 1 = omega (arith, length-range_with_len 0 (s + 1)) in
        let at : get_or (range_with_len 0 (s + 1)) k d ≡ k = get_or-range_with_len 0 (s + 1) k d within ∙ zero-add k in
        rw at (le-leb _ _ (excess_small item valid s k (omega arith) inside))

free : (item : LotSize) → IsValidLots item → (s : ℕ) → s < length item.demand → is_dual_of_demand item (take (s + 1) (duals_of item)) s ≡ true
unfolding costs_of
free item valid s inside = by_demand (cases_eq (slice_index item.demand s) 0)
  where
    by_demand : (slice_index item.demand s ≡ 0) ⊎ (slice_index item.demand s ≡ 0 → ⊥) → is_dual_of_demand item (take (s + 1) (duals_of item)) s ≡ true
    by_demand (inr some) = ap (λ b. not b || eqb (slice_index (take (s + 1) (duals_of item)) s) 0) (ne_eqb (slice_index item.demand s) 0 some)
    by_demand (inl z) =
        let idle : least_cost item (suc s) ≡ least_cost item s = (is_recursion item valid).idle s inside z in
        ap (λ b. not b || eqb (slice_index (take (s + 1) (duals_of item)) s) 0) (eq-eqb (slice_index item.demand s) 0 z)
        ∙ eq-eqb (slice_index (take (s + 1) (duals_of item)) s) 0 (dual_at item s s (omega arith) inside ∙ omega (arith, idle, ap (least_cost item) (add-one s)))

-- ---- the orders
total_of_plan : (item : LotSize) → IsValidLots item → sum (least_plan item (length item.demand)) ≡ sum item.demand
total_of_plan item valid = (front_plan item valid (length item.demand) (length item.demand) (omega arith) (omega arith)).total ∙ ap sum (take_all (length item.demand) item.demand (omega arith))

plan_upto : (item : LotSize) → IsValidLots item → (s : ℕ) → s < length item.demand → is_plan_upto item (take (s + 1) (least_plan item (length item.demand))) s ≡ true
plan_upto item valid s inside =
    let is = front_plan item valid (length item.demand) (length item.demand) (omega arith) (omega arith) in
    let orders : List ℕ = least_plan item (length item.demand) in
    and_from _ _ (le-leb _ _ (is.covers (s + 1) (omega arith))) (le-leb _ _ (omega (arith, sum_by-take-le (λ x. x) orders (s + 1), total_of_plan item valid)))

-- ---- the rules
order_rule_kept : (plan covers free : Bool) → plan ≡ true → covers ≡ true → free ≡ true → cond {A = Option ℕ} plan (cond (covers && free) None (Some 4)) (Some 3) ≡ None
order_rule_kept plan covers free p c f = ap (λ b. cond {A = Option ℕ} b (cond (covers && free) None (Some 4)) (Some 3)) p ∙ ap (λ b. cond {A = Option ℕ} b None (Some 4)) (and_from covers free c f)

is_number-same : (a b : ℕ) → a ≡ b → is_number (pos a) (pos b) ≡ true
is_number-same a b same = and_from (nat_le a b) (nat_le b a) (le-leb a b (omega arith)) (le-leb b a (omega arith))

cost_rule_kept : (paid priced : Bool) → paid ≡ true → priced ≡ true → cond {A = Option ℕ} paid (cond priced None (Some 6)) (Some 5) ≡ None
cost_rule_kept paid priced p q = ap (λ b. cond {A = Option ℕ} b (cond priced None (Some 6)) (Some 5)) p ∙ ap (λ b. cond {A = Option ℕ} b None (Some 6)) q

pub breaks_no_rule : (item : LotSize) → IsValidLots item → BreaksNoLotRule item (solved_lots item)
unfolding solved_lots
breaks_no_rule item valid =
    let is = front_plan item valid (length item.demand) (length item.demand) (omega arith) (omega arith) in
    record {
      orders_each = is.each;
      duals_each = length-map-range_with_len (added_cost item) 0 (length item.demand);
      orders = λ s inside. order_rule_kept _ _ _ (plan_upto item valid s inside) (covers item valid s inside) (free item valid s inside);
      cost = cost_rule_kept _ _ (is_number-same _ _ is.cost) (is_number-same _ _ (sum-duals_of item valid));
    }

-- ---- how large the numbers are
-- a period adds at most its own setup and its units ordered then
pub least_bound : (item : LotSize) → IsValidLots item → (n : ℕ) → n ≤ length item.demand → least_cost item n ≤ 2000000000000 * n
unfolding costs_of cost_before
least_bound item valid zero inside = omega (arith, least_cost-none item)
least_bound item valid (suc n) inside =
    let is = is_recursion item valid in
    let below = least_below (costs_of item) is (suc n) n inside (omega arith) in
    let alone = is.grows n n (omega arith) (omega arith) in
    let starts = is.begins n in
    let units : slice_index item.demand n ≤ 1000000 = valid.readable.demand n 0 (omega arith) in
    let rate : slice_index item.unit n ≤ 1000000 = valid.readable.unit n 0 (omega (arith, valid.readable.unit_each)) in
    let setup : slice_index item.setup n ≤ 1000000000000 = valid.readable.setup n 0 (omega (arith, valid.readable.setup_each)) in
    let bought = mul-le (slice_index item.demand n) (slice_index item.unit n) 1000000 1000000 units rate in
    let served : serving_cost item n n ≡ slice_index item.demand n * slice_index item.unit n = ap (λ x. slice_index item.demand n * x) (omega (arith, stretch-none item.holding n)) in
    omega (arith, below, alone, starts, setup, bought, served, least_bound item valid n (omega arith))

-- what a period adds
pub added_bound : (item : LotSize) → IsValidLots item → (s : ℕ) → s < length item.demand → added_cost item s ≤ 4000000000000000
added_bound item valid s inside = omega (arith, least_bound item valid (s + 1) (omega arith), valid.readable.most_periods)

pub total_bound : (item : LotSize) → IsValidLots item → sum item.demand ≤ 2000000000
total_bound item valid = omega (arith, sum_by-le (λ x. x) 1000000 item.demand valid.readable.demand, valid.readable.most_periods)

pub has_text : (item : LotSize) → IsValidLots item → HasText (cert.Lots (solved_lots item))
unfolding solved_lots
has_text item valid =
    let is = front_plan item valid (length item.demand) (length item.demand) (omega arith) (omega arith) in
    let many = length-map-range_with_len (added_cost item) 0 (length item.demand) in
    HasText-lots (solved_lots item) (omega (arith, is.each, valid.readable.some_period)) (omega (arith, is.each, many)) orders duals cost
  where
    orders : All IsSmall (least_plan item (length item.demand))
    orders k d lt = omega (arith, get_or-le-sum_by (λ x. x) (least_plan item (length item.demand)) k d lt, total_of_plan item valid, total_bound item valid)

    duals : All IsSmall (duals_of item)
    duals k d lt =
        let within : k < length item.demand = omega (arith, length-map-range_with_len (added_cost item) 0 (length item.demand)) in
        let at : get_or (duals_of item) k d ≡ added_cost item k = get_or-map-range_with_len (added_cost item) 0 (length item.demand) k k d within (zero-add k) in
        rw at (omega (arith, added_bound item valid k within))

    cost : IsSmall (least_cost item (length item.demand))
    cost = omega (arith, least_bound item valid (length item.demand) (omega arith), valid.readable.most_periods)

pub duals_add_up : (item : LotSize) → IsValidLots item → (found : LotCert) → found ≡ solved_lots item → sum found.duals ≡ found.cost
unfolding solved_lots
duals_add_up item valid found same = ap (λ c. sum c.duals) same ∙ sum-duals_of item valid ∙ ap (λ c. c.cost) (sym same)
