-- What a lot plan's check knows when an order has come.
use Rattle.std.proofs.Common.{◌≡◌, ℕ, ◌+◌, ◌-◌, ◌*◌, ◌<◌, ◌≤◌, List, [], ◌∷◌, ◌++◌, length, slice_index, sum, ℤ, Bool, true, not, ◌&&◌, ◌||◌, nat_le, eqb, Option, None, Some, cond, sym, ◌∙◌, ap, arith}
use Rattle.std.proofs.lemmas.Bool.{lt-ltb}
use Rattle.decision_model.specs.declared.lots.LotSize.{LotSize}
use Rattle.value_cert.specs.LotPlans.{demand_upto, period_cost}
use Rattle.value_cert.specs.LotsRules.{excess, covers_excess, is_dual_of_demand, is_plan_upto, order_rule, FirstOrders, next_order_rule}
use Rattle.lot_lemmas.specs.LotSums.{sum_from}
use Rattle.cert_check.specs.LotCells.{cell_at, raised_cell}
use Rattle.cert_check.specs.LotsChecks.{KnowsPlan}
use Rattle.cert_check.specs.declared.lots.LotsCheck.{LotsCheck}
use Rattle.cert_check.proofs.LotOrders.{length_more, sum_more, demand_more, raised_is, covers_by, not_covered, dual_test, plan_test, rule_past, rule_kept, cost_more}

abbrev pub firsts : List ℕ → List ℕ → FirstOrders
firsts orders duals = record { orders = orders; duals = duals }

-- an order and a dual come in period s, and break neither rule 3 nor the rule on periods without demand
pub record Takes (item : LotSize) (orders duals : List ℕ) (cells : List ℤ) (s order dual : ℕ) : Type 0 where
  at : s ≡ length orders
  each : length duals ≡ s
  inside : s < length item.demand
  plan : is_plan_upto item (orders ++ order ∷ []) s ≡ true
  free : is_dual_of_demand item (duals ++ dual ∷ []) s ≡ true
  holds : (k : ℕ) → k < s → cell_at cells k ≡ sum_from (excess item duals k) k (s - k)

pub takes : (check : LotsCheck) (orders duals : List ℕ) (order dual : ℕ) (covered own : Bool) → KnowsPlan check (firsts orders duals) → check.totals.periods < length check.lots.now.demand
    → covered ≡ (nat_le (check.totals.demanded + slice_index check.lots.now.demand check.totals.periods) (check.totals.ordered + order) && nat_le (check.totals.ordered + order) check.whole) → covered ≡ true
    → own ≡ (not (eqb (slice_index check.lots.now.demand check.totals.periods) 0) || eqb dual 0) → own ≡ true
    → Takes check.lots.now orders duals check.excesses.now check.totals.periods order dual
takes check orders duals order dual covered own knows inside plan is_plan free is_free =
    let item = check.lots.now in
    let s = check.totals.periods in
    let demanded : demand_upto item s ≡ check.totals.demanded = ap (demand_upto item) knows.periods ∙ sym knows.demanded in
    record {
      at = knows.periods;
      each = knows.duals_each ∙ sym knows.periods;
      inside = inside;
      plan = sym (plan_test item orders order s knows.periods inside)
          ∙ ap (λ n. nat_le (n + slice_index item.demand s) (sum orders + order) && nat_le (sum orders + order) (sum item.demand)) demanded
          ∙ ap (λ n. nat_le (check.totals.demanded + slice_index item.demand s) (n + order) && nat_le (n + order) (sum item.demand)) (sym knows.ordered)
          ∙ ap (λ n. nat_le (check.totals.demanded + slice_index item.demand s) (check.totals.ordered + order) && nat_le (check.totals.ordered + order) n) (sym knows.whole)
          ∙ sym plan ∙ is_plan;
      free = sym (dual_test item duals dual s (knows.duals_each ∙ sym knows.periods)) ∙ sym free ∙ is_free;
      holds = λ k lt. knows.excesses k (omega (arith, knows.periods)) ∙ ap (λ n. sum_from (excess item duals k) k (n - k)) (sym knows.periods);
    }

-- its rule
rule_at : (item : LotSize) (orders duals : List ℕ) (cells : List ℤ) (s order dual : ℕ) → Takes item orders duals cells s order dual → (rule : Option ℕ)
    → rule ≡ order_rule item (orders ++ order ∷ []) (duals ++ dual ∷ []) s → rule ≡ next_order_rule item (firsts orders duals) order dual
rule_at item orders duals cells s order dual takes rule is =
    let inside : length orders < length item.demand = omega (arith, takes.at, takes.inside) in
    is ∙ ap (order_rule item (orders ++ order ∷ []) (duals ++ dual ∷ [])) takes.at
    ∙ sym (ap (λ b. cond b (order_rule item (orders ++ order ∷ []) (duals ++ dual ∷ []) (length orders)) (Some 2)) (lt-ltb (length orders) (length item.demand) inside))

pub past_rule : (item : LotSize) (orders duals : List ℕ) (cells : List ℤ) (s order dual : ℕ) → Takes item orders duals cells s order dual → (t : ℕ) → t ≤ s
    → slice_index item.setup t < raised_cell item cells s dual t → Some 4 ≡ next_order_rule item (firsts orders duals) order dual
past_rule item orders duals cells s order dual takes t le past =
    let same = raised_is item duals cells dual s t takes.each takes.holds le in
    rule_at item orders duals cells s order dual takes (Some 4)
    (rule_past (is_plan_upto item (orders ++ order ∷ []) s) (covers_excess item (duals ++ dual ∷ []) s) (is_dual_of_demand item (duals ++ dual ∷ []) s) takes.plan
    (not_covered item (duals ++ dual ∷ []) s t le (omega (arith, past, same))))

pub kept_rule : (item : LotSize) (orders duals : List ℕ) (cells : List ℤ) (s order dual : ℕ) → Takes item orders duals cells s order dual
    → ((t : ℕ) → t ≤ s → raised_cell item cells s dual t ≤ slice_index item.setup t) → None ≡ next_order_rule item (firsts orders duals) order dual
kept_rule item orders duals cells s order dual takes within =
    rule_at item orders duals cells s order dual takes None
    (rule_kept (is_plan_upto item (orders ++ order ∷ []) s) (covers_excess item (duals ++ dual ∷ []) s) (is_dual_of_demand item (duals ++ dual ∷ []) s) takes.plan
    (covers_by item (duals ++ dual ∷ []) s (λ t le. omega (arith, within t le, raised_is item duals cells dual s t takes.each takes.holds le))) takes.free)

-- what it knows then
pub knows_more : (old new : LotsCheck) (orders duals : List ℕ) (order dual : ℕ) → KnowsPlan old (firsts orders duals)
    → Takes old.lots.now orders duals old.excesses.now old.totals.periods order dual
    → new.lots.now ≡ old.lots.now → new.whole ≡ old.whole
    → ((t : ℕ) → t ≤ old.totals.periods → cell_at new.excesses.now t ≡ raised_cell old.lots.now old.excesses.now old.totals.periods dual t)
    → ((t : ℕ) → t ≤ old.totals.periods → raised_cell old.lots.now old.excesses.now old.totals.periods dual t ≤ slice_index old.lots.now.setup t)
    → new.totals.periods ≡ old.totals.periods + 1
    → new.totals.ordered ≡ old.totals.ordered + order
    → new.totals.demanded ≡ old.totals.demanded + slice_index old.lots.now.demand old.totals.periods
    → new.totals.duals ≡ old.totals.duals + dual
    → new.totals.cost ≡ old.totals.cost + (cond (eqb order 0) 0 (slice_index old.lots.now.setup old.totals.periods) + slice_index old.lots.now.unit old.totals.periods * order
    + slice_index old.lots.now.holding old.totals.periods * (old.totals.ordered + order - (old.totals.demanded + slice_index old.lots.now.demand old.totals.periods)))
    → KnowsPlan new (firsts (orders ++ order ∷ []) (duals ++ dual ∷ []))
knows_more old new orders duals order dual knows takes same whole cells within periods ordered demanded dual_sum cost =
    let item = old.lots.now in
    let s = old.totals.periods in
    let all : List ℕ = orders ++ order ∷ [] in
    let count : s + 1 ≡ length all = omega (arith, length_more orders order, knows.periods) in
    let before : old.totals.demanded ≡ demand_upto item s = knows.demanded ∙ ap (demand_upto item) (sym knows.periods) in
    let spent : old.totals.cost ≡ sum_from (period_cost item orders) 0 s = knows.cost ∙ ap (sum_from (period_cost item orders) 0) (sym knows.periods) in
    let paid : ℕ → ℕ → ℕ = λ had due. cond (eqb order 0) 0 (slice_index item.setup s) + slice_index item.unit s * order + slice_index item.holding s * (had + order - (due + slice_index item.demand s)) in
    record {
      periods = periods ∙ count;
      duals_each = omega (arith, length_more duals dual, length_more orders order, knows.duals_each);
      within = rw same (omega (arith, count, takes.inside));
      whole = rw same (whole ∙ knows.whole);
      ordered = ordered ∙ ap (λ n. n + order) knows.ordered ∙ sym (sum_more orders order);
      demanded = rw same (demanded ∙ ap (λ n. n + slice_index item.demand s) before ∙ sym (demand_more item s takes.inside) ∙ ap (demand_upto item) count);
      dual_sum = dual_sum ∙ ap (λ n. n + dual) knows.dual_sum ∙ sym (sum_more duals dual);
      cost = rw same (cost
          ∙ ap (λ n. n + paid old.totals.ordered old.totals.demanded) spent
          ∙ ap (λ n. sum_from (period_cost item orders) 0 s + paid n old.totals.demanded) knows.ordered
          ∙ ap (λ n. sum_from (period_cost item orders) 0 s + paid (sum orders) n) before
          ∙ cost_more item orders order s knows.periods takes.inside
          ∙ ap (sum_from (period_cost item all) 0) count);
      excesses = rw same (λ t lt. cells t (omega (arith, count))
          ∙ raised_is item duals old.excesses.now dual s t takes.each takes.holds (omega (arith, count))
          ∙ ap (λ n. sum_from (excess item (duals ++ dual ∷ []) t) t (n - t)) count);
      covered = rw same (λ t lt. omega (arith, cells t (omega (arith, count)), within t (omega (arith, count))));
    }

-- the cells that it knows are covered by their setups
pub covered_before : (check : LotsCheck) (first : FirstOrders) → KnowsPlan check first → (t : ℕ) → t < check.totals.periods → cell_at check.excesses.now t ≤ slice_index check.lots.now.setup t
covered_before check first knows t lt = knows.covered t (omega (arith, knows.periods))
