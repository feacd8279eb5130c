-- What the loops of the solver keep.
use Rattle.std.proofs.Common.{◌≡◌, ◌≢◌, ℕ, zero, suc, ◌+◌, ◌-◌, ◌<◌, ◌≤◌, List, [], ◌∷◌, ◌++◌, length, slice_index, get_or, sum, take, drop, set, map, replicate, cond, eqb, refl, sym, ◌∙◌, ap, arith, add-zero, add-one, zero-add, ◌⊎◌, inl, inr, drop-cons}
use Rattle.std.specs.List.{range_with_len}
use Rattle.std.proofs.lemmas.Bool.{cases_lt, ne_eqb}
use Rattle.std.proofs.lemmas.List.{append-nil, append_assoc, get_or_append_left, get_or_push, get_or-replicate, get_or-set_other, length-set, drop-set, length_push, length-replicate, drop_all}
use Rattle.std.proofs.lemmas.List.Sums.{sum_by-take-le}
use Rattle.std.proofs.lemmas.List.FromFn.{map-range_with_len_more, length-map-range_with_len, get_or-map-range_with_len, fill_by_all}
use Rattle.decision_model.specs.declared.lots.LotSize.{LotSize}
use Rattle.decision_model.specs.Lots.{IsValidLots}
use Rattle.value_cert.specs.LotRecursion.{next_cost, least_costs, least_cost, last_order, one_order, least_plan, added_cost, solved_lots}
use Rattle.wagner_whitin.specs.LastOrders.{HasLastOrders}
use Rattle.lot_lemmas.specs.LotHorizons.{last_so_far, last_so_far-none, never_back, least_mono}
use Rattle.lot_lemmas.specs.LotRecursionFacts.{costs_of, is_recursion, length-least_costs, least_costs-at}
use Rattle.lot_lemmas.specs.LotPlanFacts.{least_plan-none, least_plan-idle, least_plan-ordered}
use Rattle.lot_lemmas.specs.LotServing.{stretch-after}
use Rattle.lot_lemmas.specs.LotSolved.{duals_of, total_bound}

-- ---- differences
abbrev pub difference : List ℕ → ℕ → ℕ
difference costs k = slice_index costs (k + 1) - slice_index costs k

pub differences_more : (costs found : List ℕ) (period : ℕ) → 1 ≤ period → found ≡ map (difference costs) (range_with_len 0 (period - 1)) → found ++ (slice_index costs period - slice_index costs (period - 1)) ∷ [] ≡ map (difference costs) (range_with_len 0 (period + 1 - 1))
differences_more costs found period some is =
    let same : period - 1 + 1 ≡ period = omega arith in
    let count : period - 1 + 1 ≡ period + 1 - 1 = omega arith in
    ap (λ xs. xs ++ (slice_index costs period - slice_index costs (period - 1)) ∷ []) is
    ∙ ap (λ k. map (difference costs) (range_with_len 0 (period - 1)) ++ (slice_index costs k - slice_index costs (period - 1)) ∷ []) (sym same)
    ∙ sym (map-range_with_len_more (difference costs) 0 (period - 1) (period - 1) (zero-add (period - 1)))
    ∙ ap (λ n. map (difference costs) (range_with_len 0 n)) count

-- ---- the recursion
-- the least costs so far, and the last order periods
pub record IsRecursion (item : LotSize) (costs last_orders : List ℕ) (first period : ℕ) : Type 0 where
  pub costs_are : costs ≡ least_costs item period
  pub first_is : first ≡ last_so_far (costs_of item) period
  pub each : length last_orders ≡ period
  pub entries : (s : ℕ) → s < period → slice_index item.demand s ≢ 0 → slice_index last_orders s ≡ last_order item s

pub no_recursion : (item : LotSize) → IsRecursion item (0 ∷ []) [] 0 0
unfolding least_costs
no_recursion item = record {
  costs_are = refl;
  first_is = sym (last_so_far-none (costs_of item));
  each = refl;
  entries = λ s lt some. absurd (omega arith);
}

pub first_within : (item : LotSize) → IsValidLots item → (costs last_orders : List ℕ) (first period : ℕ) → IsRecursion item costs last_orders first period → period < length item.demand → first ≤ last_order item period
unfolding costs_of
first_within item valid costs last_orders first period is inside = omega (arith, is.first_is, never_back (costs_of item) (is_recursion item valid) period inside)

pub recursion_more : (item : LotSize) (costs last_orders : List ℕ) (first period last cost : ℕ) → IsRecursion item costs last_orders first period → last ≡ cond (eqb (slice_index item.demand period) 0) first (last_order item period) → cost ≡ next_cost item (least_costs item period) period → IsRecursion item (costs ++ cost ∷ []) (last_orders ++ last ∷ []) last (period + 1)
unfolding least_costs last_so_far costs_of
recursion_more item costs last_orders first period last cost is last_is cost_is = record {
  costs_are = ap (λ xs. xs ++ cost ∷ []) is.costs_are ∙ ap (λ x. least_costs item period ++ x ∷ []) cost_is ∙ ap (least_costs item) (sym (add-one period));
  first_is = last_is ∙ ap (λ x. cond (eqb (slice_index item.demand period) 0) x (last_order item period)) is.first_is ∙ ap (last_so_far (costs_of item)) (sym (add-one period));
  each = length_push last_orders last ∙ omega (arith, is.each);
  entries = λ s lt some. entry s some (cases_lt s period) lt;
}
  where
    entry : (s : ℕ) → slice_index item.demand s ≢ 0 → (s < period) ⊎ (period ≤ s) → s < period + 1 → slice_index (last_orders ++ last ∷ []) s ≡ last_order item s
    entry s some (inl before) lt = get_or_append_left last_orders (last ∷ []) 0 s (omega (arith, is.each)) ∙ is.entries s before some
    entry s some (inr now) lt =
        let same : s ≡ period = omega arith in
        let here : slice_index item.demand period ≢ 0 = λ z. some (ap (slice_index item.demand) same ∙ z) in
        ap (slice_index (last_orders ++ last ∷ [])) same ∙ get_or_push last_orders last 0 period is.each
        ∙ last_is ∙ ap (λ b. cond b first (last_order item period)) (ne_eqb (slice_index item.demand period) 0 here) ∙ ap (last_order item) (sym same)

-- ---- the plan read backwards
-- the orders from a period on are read, and those before it are not yet
pub record IsReadFrom (item : LotSize) (unread : ℕ) (orders : List ℕ) : Type 0 where
  pub within : unread ≤ length item.demand
  pub each : length orders ≡ length item.demand
  pub none : (k : ℕ) → k < unread → slice_index orders k ≡ 0
  pub read : least_plan item (length item.demand) ≡ least_plan item unread ++ drop unread orders

pub nothing_read : (item : LotSize) (n : ℕ) → n ≡ length item.demand → IsReadFrom item n (replicate n 0)
nothing_read item n same = record {
  within = omega arith;
  each = length-replicate n 0 ∙ same;
  none = λ k lt. get_or-replicate n k 0 0 lt;
  read = ap (least_plan item) (sym same) ∙ sym (append-nil (least_plan item n)) ∙ ap (λ xs. least_plan item n ++ xs) (sym (drop_all n (replicate n 0) (omega (arith, length-replicate {A = ℕ} n 0))));
}

-- the zeros from a place on
zeros_from : (orders : List ℕ) (at many : ℕ) → at + many ≤ length orders → ((k : ℕ) → at ≤ k → k < at + many → slice_index orders k ≡ 0) → drop at orders ≡ replicate many 0 ++ drop (at + many) orders
zeros_from orders at zero inside none = ap (λ k. drop k orders) (sym (add-zero at))
zeros_from orders at (suc many) inside none =
    let next : suc at + many ≡ at + suc many = omega arith in
    drop-cons orders at 0 (omega arith)
    ∙ ap (λ x. x ∷ drop (suc at) orders) (none at (omega arith) (omega arith))
    ∙ ap (λ xs. 0 ∷ xs) (zeros_from orders (suc at) many (omega arith) (λ k low high. none k (omega arith) (omega arith)) ∙ ap (λ k. replicate many 0 ++ drop k orders) next)

pub read_idle : (item : LotSize) (unread : ℕ) (orders : List ℕ) → 0 < unread → slice_index item.demand (unread - 1) ≡ 0 → IsReadFrom item unread orders → IsReadFrom item (unread - 1) orders
read_idle item zero orders some z is = absurd (omega arith)
read_idle item (suc period) orders some z is =
    let same : suc period - 1 ≡ period = omega arith in
    rw same (record {
      within = omega (arith, is.within);
      each = is.each;
      none = λ k lt. is.none k (omega arith);
      read = is.read ∙ ap (λ xs. xs ++ drop (suc period) orders) (least_plan-idle item period (rw same at z)) ∙ append_assoc (least_plan item period) (0 ∷ []) (drop (suc period) orders)
          ∙ ap (λ xs. least_plan item period ++ xs) (ap (λ x. x ∷ drop (suc period) orders) (sym (is.none period (omega arith))) ∙ sym (drop-cons orders period 0 (omega (arith, is.within, is.each))));
    })

read_more : (item : LotSize) (period : ℕ) (orders : List ℕ) (start units : ℕ) → start ≤ period → least_plan item (suc period) ≡ least_plan item start ++ units ∷ replicate (period - start) 0 → IsReadFrom item (suc period) orders → IsReadFrom item start (set orders start units)
read_more item period orders start units upto plan_is is = record {
  within = omega (arith, upto, is.within);
  each = length-set orders start units ∙ is.each;
  none = λ k lt. let other : k ≢ start = omega arith in get_or-set_other orders start k units 0 other ∙ is.none k (omega arith);
  read = is.read ∙ ap (λ xs. xs ++ drop (suc period) orders) plan_is ∙ append_assoc (least_plan item start) (units ∷ replicate (period - start) 0) (drop (suc period) orders)
      ∙ ap (λ xs. least_plan item start ++ units ∷ xs) (sym zeros) ∙ ap (λ xs. least_plan item start ++ xs) (sym (drop-set orders start units (omega (arith, is.within, is.each))));
}
  where
    zeros : drop (start + 1) orders ≡ replicate (period - start) 0 ++ drop (suc period) orders
    zeros =
        let end : start + 1 + (period - start) ≡ suc period = omega arith in
        zeros_from orders (start + 1) (period - start) (omega (arith, is.within, is.each)) (λ k low high. is.none k (omega arith))
        ∙ ap (λ k. replicate (period - start) 0 ++ drop k orders) end

pub read_order : (item : LotSize) → IsValidLots item → (unread : ℕ) (orders : List ℕ) (start units : ℕ) → 0 < unread → slice_index item.demand (unread - 1) ≢ 0 → start ≡ last_order item (unread - 1) → units ≡ sum (take (unread - start) (drop start item.demand)) → IsReadFrom item unread orders → IsReadFrom item start (set orders start units)
unfolding costs_of
read_order item valid zero orders start units some demanded starts are is = absurd (omega arith)
read_order item valid (suc period) orders start units some demanded starts are is =
    let same : suc period - 1 ≡ period = omega arith in
    let start_is : start ≡ last_order item period = starts ∙ ap (last_order item) same in
    let upto : last_order item period ≤ period = (is_recursion item valid).within period in
    let here : slice_index item.demand period ≢ 0 = rw same at demanded in
    let count : period + 1 - start ≡ suc period - start = omega arith in
    let plan_is : least_plan item (suc period) ≡ least_plan item start ++ units ∷ replicate (period - start) 0 =
    least_plan-ordered item period here upto
    ∙ ap (λ t. least_plan item t ++ one_order item t period) (sym start_is)
    ∙ ap (λ n. least_plan item start ++ sum (take n (drop start item.demand)) ∷ replicate (period - start) 0) count
    ∙ ap (λ q. least_plan item start ++ q ∷ replicate (period - start) 0) (sym are) in
    read_more item period orders start units (omega (arith, start_is, upto)) plan_is is

-- what the code needs to know of an order
pub order_known : (item : LotSize) → IsValidLots item → (last_orders : List ℕ) → HasLastOrders item last_orders → (unread : ℕ) → 0 < unread → unread ≤ length item.demand → slice_index item.demand (unread - 1) ≢ 0 → (slice_index last_orders (unread - 1) ≡ last_order item (unread - 1)) × (slice_index last_orders (unread - 1) < unread)
unfolding costs_of
order_known item valid last_orders has unread some within demanded =
    let is = has.entries (unread - 1) (omega arith) demanded in
    (is, omega (arith, is, (is_recursion item valid).within (unread - 1)))

pub stretch_total : (item : LotSize) → IsValidLots item → (start many : ℕ) → sum (take many (drop start item.demand)) ≤ 2000000000
stretch_total item valid start many = omega (arith, stretch-after item.demand start many, sum_by-take-le (λ x. x) item.demand (start + many), total_bound item valid)

pub all_read : (item : LotSize) (unread : ℕ) (orders : List ℕ) → unread ≤ 0 → IsReadFrom item unread orders → orders ≡ least_plan item (length item.demand)
all_read item unread orders none is =
    let end : unread ≡ 0 = omega arith in
    sym (is.read ∙ ap (λ n. least_plan item n ++ drop n orders) end ∙ ap (λ xs. xs ++ orders) (least_plan-none item))

-- ---- the certificate
-- the least costs never fall
pub costs_rise : (item : LotSize) → IsValidLots item → (costs : List ℕ) → costs ≡ least_costs item (length item.demand) → (k : ℕ) → k + 1 < length costs → slice_index costs k ≤ slice_index costs (k + 1)
unfolding costs_of
costs_rise item valid costs same k inside =
    let many : length costs ≡ length item.demand + 1 = ap length same ∙ length-least_costs item (length item.demand) in
    let here : slice_index costs k ≡ least_cost item k = ap (λ xs. slice_index xs k) same ∙ least_costs-at item (length item.demand) k (omega arith) in
    let next : slice_index costs (k + 1) ≡ least_cost item (k + 1) = ap (λ xs. slice_index xs (k + 1)) same ∙ least_costs-at item (length item.demand) (k + 1) (omega arith) in
    omega (arith, here, next, ap (least_cost item) (add-one k), least_mono (costs_of item) (is_recursion item valid) k (omega arith))

-- their differences are the duals
pub differences_are : (item : LotSize) (costs : List ℕ) → costs ≡ least_costs item (length item.demand) → map (difference costs) (range_with_len 0 (length costs - 1)) ≡ duals_of item
differences_are item costs same =
    fill_by_all (added_cost item) (map (difference costs) (range_with_len 0 (length costs - 1))) (length item.demand) 0 (length-map-range_with_len (difference costs) 0 (length costs - 1) ∙ omega (arith, many)) each
  where
    many : length costs ≡ length item.demand + 1
    many = ap length same ∙ length-least_costs item (length item.demand)

    each : (k : ℕ) → k < length item.demand → get_or (map (difference costs) (range_with_len 0 (length costs - 1))) k 0 ≡ added_cost item k
    each k inside =
        let here : slice_index costs k ≡ least_cost item k = ap (λ xs. slice_index xs k) same ∙ least_costs-at item (length item.demand) k (omega arith) in
        let next : slice_index costs (k + 1) ≡ least_cost item (k + 1) = ap (λ xs. slice_index xs (k + 1)) same ∙ least_costs-at item (length item.demand) (k + 1) (omega arith) in
        get_or-map-range_with_len (difference costs) 0 (length costs - 1) k k 0 (omega (arith, many)) (zero-add k)
        ∙ omega (arith, here, next)

-- a certificate with the numbers of the recursion
pub solved_by : (item : LotSize) (orders duals costs : List ℕ) (cost : ℕ) → costs ≡ least_costs item (length item.demand) → orders ≡ least_plan item (length item.demand) → duals ≡ map (difference costs) (range_with_len 0 (length costs - 1)) → cost ≡ slice_index costs (length item.demand) → record { orders = orders; duals = duals; cost = cost } ≡ solved_lots item
unfolding solved_lots
solved_by item orders duals costs cost same orders_are duals_are cost_is =
    let prices : duals ≡ duals_of item = duals_are ∙ differences_are item costs same in
    let least : cost ≡ least_cost item (length item.demand) = cost_is ∙ ap (λ xs. slice_index xs (length item.demand)) same in
    λ i. record { orders = orders_are i; duals = prices i; cost = least i }
