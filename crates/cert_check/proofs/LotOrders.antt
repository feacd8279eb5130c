-- One order and one dual more than a lot plan's check knows.
use Rattle.std.proofs.Common.{◌≡◌, ℕ, suc, ◌+◌, ◌-◌, ◌*◌, ◌<◌, ◌≤◌, List, [], ◌∷◌, ◌++◌, length, slice_index, get_or, sum, take, ℤ, Bool, true, false, not, ◌&&◌, ◌||◌, nat_le, eqb, All, Option, None, Some, cond, refl, sym, ◌∙◌, ap, arith, ◌⊎◌, inl, inr, zero-add, length-append}
use Rattle.std.specs.List.{range_with_len}
use Rattle.std.proofs.lemmas.Bool.{cases_lt, eq-eqb, ne_eqb, le-leb, false_from_ne_true}
use Rattle.std.proofs.lemmas.List.{take_all, get_or_append_left, get_or-append_right, take-append-le}
use Rattle.std.proofs.lemmas.List.Sums.{sum_by_push, sum_by_more, list_all-from_AllPass}
use Rattle.std.proofs.lemmas.List.FromFn.{get_or-range_with_len, length-range_with_len}
use Rattle.std.proofs.lemmas.Nat.{mul-le}
use Rattle.decision_model.specs.declared.lots.LotSize.{LotSize}
use Rattle.decision_model.specs.Lots.{IsReadableLots}
use Rattle.lot_lemmas.specs.LotDuality.{covers_at}
use Rattle.value_cert.specs.LotPlans.{demand_upto, stock_after, setup_paid, period_cost, serving_cost}
use Rattle.value_cert.specs.LotsRules.{excess, excess_upto, covers_excess, is_dual_of_demand, is_plan_upto}
use Rattle.lot_lemmas.specs.LotSums.{sum_from, sum_from-last, sum_from-same, stretch-none}
use Rattle.cert_check.specs.LotCells.{cell_at, raised_cell}
use Rattle.cert_check.proofs.LotBounds.{demand_small, setup_small, unit_small}

-- ---- lists with one more
pub length_more : (xs : List ℕ) (x : ℕ) → length (xs ++ x ∷ []) ≡ length xs + 1
length_more xs x = length-append xs (x ∷ [])

pub sum_more : (xs : List ℕ) (x : ℕ) → sum (xs ++ x ∷ []) ≡ sum xs + x
sum_more xs x = sum_by_push (λ n. n) xs x

last_at : (xs : List ℕ) (x s : ℕ) → s ≡ length xs → slice_index (xs ++ x ∷ []) s ≡ x
last_at xs x s is =
    let first : s - s ≡ 0 = omega arith in
    get_or-append_right xs (x ∷ []) s s 0 (sym is) (omega arith) ∙ ap (λ k. get_or (x ∷ []) k 0) first

earlier_at : (xs : List ℕ) (x k : ℕ) → k < length xs → slice_index (xs ++ x ∷ []) k ≡ slice_index xs k
earlier_at xs x k lt = get_or_append_left xs (x ∷ []) 0 k lt

pub demand_more : (item : LotSize) (s : ℕ) → s < length item.demand → demand_upto item (s + 1) ≡ demand_upto item s + slice_index item.demand s
demand_more item s lt = sum_by_more (λ x. x) item.demand s 0 lt

-- ---- the excess
earlier_excess : (item : LotSize) (duals : List ℕ) (dual s t k : ℕ) → length duals ≡ s → k < s → excess item (duals ++ dual ∷ []) t k ≡ excess item duals t k
earlier_excess item duals dual s t k each lt = ap (λ v. v - serving_cost item t k) (earlier_at duals dual k (omega (arith, each)))

excess_more : (item : LotSize) (duals : List ℕ) (dual s t : ℕ) → length duals ≡ s → t ≤ s
    → excess_upto item (duals ++ dual ∷ []) t s ≡ sum_from (excess item duals t) t (s - t) + (dual - serving_cost item t s)
excess_more item duals dual s t each le =
    let count : s + 1 - t ≡ suc (s - t) = omega arith in
    let at : t + (s - t) ≡ s = omega arith in
    let all = excess item (duals ++ dual ∷ []) t in
    ap (sum_from all t) count
    ∙ sum_from-last all t (s - t)
    ∙ ap (λ n. n + all (t + (s - t))) (sum_from-same all (excess item duals t) t (s - t) (λ k low high. earlier_excess item duals dual s t k each (omega arith)))
    ∙ ap (λ k. sum_from (excess item duals t) t (s - t) + all k) at
    ∙ ap (λ v. sum_from (excess item duals t) t (s - t) + (v - serving_cost item t s)) (last_at duals dual s (sym each))

-- what they are to hold is the excess with one dual more
pub raised_is : (item : LotSize) (duals : List ℕ) (cells : List ℤ) (dual s t : ℕ) → length duals ≡ s → ((k : ℕ) → k < s → cell_at cells k ≡ sum_from (excess item duals k) k (s - k)) → t ≤ s
    → raised_cell item cells s dual t ≡ excess_upto item (duals ++ dual ∷ []) t s
raised_is item duals cells dual s t each holds le = at (cases_lt t s) ∙ sym (excess_more item duals dual s t each le)
  where
    at : (t < s) ⊎ (s ≤ t) → raised_cell item cells s dual t ≡ sum_from (excess item duals t) t (s - t) + (dual - serving_cost item t s)
    at (inl lt) =
        ap (λ b. cond b 0 (cell_at cells t) + (dual - serving_cost item t s)) (ne_eqb t s (omega arith))
        ∙ ap (λ n. n + (dual - serving_cost item t s)) (holds t lt)
    at (inr ge) =
        let none : 0 ≡ s - t = omega arith in
        ap (λ b. cond b 0 (cell_at cells t) + (dual - serving_cost item t s)) (eq-eqb t s (omega arith))
        ∙ ap (λ n. sum_from (excess item duals t) t n + (dual - serving_cost item t s)) none

-- ---- rule 4
pub covers_by : (item : LotSize) (duals : List ℕ) (s : ℕ) → ((t : ℕ) → t ≤ s → excess_upto item duals t s ≤ slice_index item.setup t) → covers_excess item duals s ≡ true
covers_by item duals s within = list_all-from_AllPass test (range_with_len 0 (s + 1)) each
  where
    test : ℕ → Bool
    test t = nat_le (excess_upto item duals t s) (slice_index item.setup t)

    each : All (λ t. test t ≡ true) (range_with_len 0 (s + 1))
    each k d lt =
        let inside : k < s + 1 = omega (arith, length-range_with_len 0 (s + 1)) in
        let at : get_or (range_with_len 0 (s + 1)) k d ≡ k = get_or-range_with_len 0 (s + 1) k d inside ∙ zero-add k in
        rw at (le-leb _ _ (within k (omega arith)))

pub not_covered : (item : LotSize) (duals : List ℕ) (s t : ℕ) → t ≤ s → slice_index item.setup t < excess_upto item duals t s → covers_excess item duals s ≡ false
not_covered item duals s t le past = false_from_ne_true (covers_excess item duals s) (λ covers. absurd (omega (arith, covers_at item duals s t covers le)))

pub dual_test : (item : LotSize) (duals : List ℕ) (dual s : ℕ) → length duals ≡ s → (not (eqb (slice_index item.demand s) 0) || eqb dual 0) ≡ is_dual_of_demand item (duals ++ dual ∷ []) s
dual_test item duals dual s each = ap (λ v. not (eqb (slice_index item.demand s) 0) || eqb v 0) (sym (last_at duals dual s (sym each)))

-- the dual of a period whose own setup is not passed is small
pub dual_small : (item : LotSize) → IsReadableLots item → (cells : List ℤ) (dual s : ℕ) → s < length item.demand → raised_cell item cells s dual s ≤ slice_index item.setup s → dual ≤ 2000000000000
dual_small item readable cells dual s lt within =
    let own : raised_cell item cells s dual s ≡ 0 + (dual - serving_cost item s s) = ap (λ b. cond b 0 (cell_at cells s) + (dual - serving_cost item s s)) (eq-eqb s s refl) in
    let bought = mul-le (slice_index item.demand s) (slice_index item.unit s) 1000000 1000000 (demand_small item readable s lt) (unit_small item readable s lt) in
    let served : serving_cost item s s ≡ slice_index item.demand s * slice_index item.unit s = ap (λ x. slice_index item.demand s * x) (omega (arith, stretch-none item.holding s)) in
    omega (arith, own, within, bought, served, setup_small item readable s lt)

-- ---- rule 3
pub plan_test : (item : LotSize) (orders : List ℕ) (order s : ℕ) → s ≡ length orders → s < length item.demand
    → (nat_le (demand_upto item s + slice_index item.demand s) (sum orders + order) && nat_le (sum orders + order) (sum item.demand)) ≡ is_plan_upto item (orders ++ order ∷ []) s
plan_test item orders order s is lt =
    ap (λ n. nat_le (demand_upto item s + slice_index item.demand s) n && nat_le n (sum item.demand)) (sym (sum_more orders order))
    ∙ ap (λ n. nat_le n (sum (orders ++ order ∷ [])) && nat_le (sum (orders ++ order ∷ [])) (sum item.demand)) (sym (demand_more item s lt))

-- ---- the rule of an order
pub rule_uncovered : (plan covers free : Bool) → plan ≡ false → Some 3 ≡ cond {A = Option ℕ} plan (cond (covers && free) None (Some 4)) (Some 3)
rule_uncovered plan covers free e = sym (ap (λ b. cond {A = Option ℕ} b (cond (covers && free) None (Some 4)) (Some 3)) e)

pub rule_unfree : (plan covers free : Bool) → plan ≡ true → free ≡ false → Some 4 ≡ cond {A = Option ℕ} plan (cond (covers && free) None (Some 4)) (Some 3)
rule_unfree true true false p f = refl
rule_unfree true false false p f = refl
rule_unfree true covers true p f = cc
rule_unfree false covers free p f = cc

pub rule_past : (plan covers free : Bool) → plan ≡ true → covers ≡ false → Some 4 ≡ cond {A = Option ℕ} plan (cond (covers && free) None (Some 4)) (Some 3)
rule_past true false free p c = refl
rule_past true true free p c = cc
rule_past false covers free p c = cc

pub rule_kept : (plan covers free : Bool) → plan ≡ true → covers ≡ true → free ≡ true → None ≡ cond {A = Option ℕ} plan (cond (covers && free) None (Some 4)) (Some 3)
rule_kept true true true p c f = refl
rule_kept true true false p c f = cc
rule_kept true false free p c f = cc
rule_kept false covers free p c f = cc

-- ---- the cost
earlier_cost : (item : LotSize) (orders : List ℕ) (order t : ℕ) → t < length orders → period_cost item (orders ++ order ∷ []) t ≡ period_cost item orders t
earlier_cost item orders order t lt =
    let front : take (t + 1) (orders ++ order ∷ []) ≡ take (t + 1) orders = take-append-le (t + 1) orders (order ∷ []) (omega arith) in
    ap (λ q. cond (eqb q 0) 0 (slice_index item.setup t) + slice_index item.unit t * q + slice_index item.holding t * stock_after item (orders ++ order ∷ []) t) (earlier_at orders order t lt)
    ∙ ap (λ (qs : List ℕ). setup_paid item orders t + slice_index item.unit t * slice_index orders t + slice_index item.holding t * (sum qs - demand_upto item (t + 1))) front

last_cost : (item : LotSize) (orders : List ℕ) (order s : ℕ) → s ≡ length orders → s < length item.demand
    → period_cost item (orders ++ order ∷ []) s
    ≡ cond (eqb order 0) 0 (slice_index item.setup s) + slice_index item.unit s * order + slice_index item.holding s * (sum orders + order - (demand_upto item s + slice_index item.demand s))
last_cost item orders order s is lt =
    let all : take (s + 1) (orders ++ order ∷ []) ≡ orders ++ order ∷ [] = take_all (s + 1) (orders ++ order ∷ []) (omega (arith, length_more orders order)) in
    ap (λ q. cond (eqb q 0) 0 (slice_index item.setup s) + slice_index item.unit s * q + slice_index item.holding s * stock_after item (orders ++ order ∷ []) s) (last_at orders order s is)
    ∙ ap (λ n. cond (eqb order 0) 0 (slice_index item.setup s) + slice_index item.unit s * order + slice_index item.holding s * (n - demand_upto item (s + 1))) (ap sum all ∙ sum_more orders order)
    ∙ ap (λ n. cond (eqb order 0) 0 (slice_index item.setup s) + slice_index item.unit s * order + slice_index item.holding s * (sum orders + order - n)) (demand_more item s lt)

pub cost_more : (item : LotSize) (orders : List ℕ) (order s : ℕ) → s ≡ length orders → s < length item.demand
    → sum_from (period_cost item orders) 0 s
    + (cond (eqb order 0) 0 (slice_index item.setup s) + slice_index item.unit s * order + slice_index item.holding s * (sum orders + order - (demand_upto item s + slice_index item.demand s)))
    ≡ sum_from (period_cost item (orders ++ order ∷ [])) 0 (s + 1)
cost_more item orders order s is lt =
    let more : s + 1 ≡ suc s = omega arith in
    let from : 0 + s ≡ s = omega arith in
    let all = period_cost item (orders ++ order ∷ []) in
    sym (ap (sum_from all 0) more
    ∙ sum_from-last all 0 s
    ∙ ap (λ n. n + all (0 + s)) (sum_from-same all (period_cost item orders) 0 s (λ k low high. earlier_cost item orders order k (omega (arith, is))))
    ∙ ap (λ k. sum_from (period_cost item orders) 0 s + all k) from
    ∙ ap (λ n. sum_from (period_cost item orders) 0 s + n) (last_cost item orders order s is lt))
