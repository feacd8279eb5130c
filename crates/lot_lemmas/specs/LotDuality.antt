-- A certificate that breaks no rule is of a least plan: no plan costs less than the sum of its duals.
use Rattle.std.proofs.Common.{◌≡◌, ℕ, zero, suc, ◌+◌, ◌-◌, ◌*◌, ◌<◌, ◌≤◌, List, length, slice_index, sum, take, pos, Bool, true, false, cond, ◌&&◌, nat_le, eqb, Option, Some, None, refl, sym, ◌∙◌, ap, arith, ◌⊎◌, inl, inr, mul-le-mul_left}
use Rattle.std.specs.List.{range_with_len}
use Rattle.std.proofs.lemmas.Bool.{cases_lt, cases_eq, eq-eqb, ne_eqb, eqb-true, leb-true, and_parts}
use Rattle.std.proofs.lemmas.List.{get_or-take, take_all}
use Rattle.std.proofs.lemmas.List.Sums.{AllPass-from_list_all, sum_by_more}
use Rattle.std.proofs.lemmas.List.FromFn.{get_or-range_with_len, length-range_with_len}
use Rattle.decision_model.specs.declared.lots.LotSize.{LotSize}
use Rattle.decision_model.specs.Lots.{IsReadableLots}
use Rattle.value_cert.specs.LotPlans.{demand_upto, IsPlan, setup_paid, period_cost, plan_cost, LeastPlan, holding_between}
use Rattle.value_cert.specs.Numbers.{is_number}
use Rattle.value_cert.specs.LotsRules.{BreaksNoLotRule, is_plan_upto, excess, excess_upto, covers_excess, is_dual_of_demand}
use Rattle.lot_lemmas.specs.LotSums.{sum_from, sum_from-first, sum_from-list, stretch-none, stretch-last}
use Rattle.lot_lemmas.specs.LotShares.{worth, excess_from, HasUnitPrices, unit_prices, order_worth, worth-none}
use Rattle.value_cert.specs.declared.lots.LotCert.{LotCert}

-- a setup is no less than the excess that it has to cover
pub covers_at : (item : LotSize) (duals : List ℕ) (s t : ℕ) → covers_excess item duals s ≡ true → t ≤ s → excess_upto item duals t s ≤ slice_index item.setup t
covers_at item duals s t covers le =
    let periods : List ℕ = range_with_len 0 (s + 1) in
    let test : ℕ → Bool = λ k. nat_le (excess_upto item duals k s) (slice_index item.setup k) in
    let within : t < length periods = omega (arith, length-range_with_len 0 (s + 1)) in
    let passed : test (slice_index periods t) ≡ true = AllPass-from_list_all test periods covers t 0 within in
    let at : slice_index periods t ≡ t = get_or-range_with_len 0 (s + 1) t 0 (omega arith) ∙ omega arith in
    leb-true _ _ (rw at at passed)

-- the excess as it adds up from period k on, a unit ordered in period t costing c by then
excess_from-is : (item : LotSize) (duals : List ℕ) (t k n c : ℕ) → t ≤ k → k + n ≤ length item.holding → c ≡ slice_index item.unit t + holding_between item t k → excess_from (slice_index item.demand) (slice_index duals) (slice_index item.holding) k n c ≡ sum_from (excess item duals t) k n
unfolding excess_from
excess_from-is item duals t k zero c le within is = refl
excess_from-is item duals t k (suc n) c le within is =
    let held : holding_between item t (k + 1) ≡ holding_between item t k + slice_index item.holding k = stretch-last item.holding t k le (omega arith) in
    ap (λ x. (slice_index duals k - slice_index item.demand k * x) + excess_from (slice_index item.demand) (slice_index duals) (slice_index item.holding) (k + 1) n (c + slice_index item.holding k)) is
    ∙ ap (λ x. excess item duals t k + x) (excess_from-is item duals t (k + 1) n (c + slice_index item.holding k) (omega arith) (omega arith) (omega (arith, is, held)))
    ∙ sym (sum_from-first (excess item duals t) k n)

-- what an order may have to cover from its period on
excess_covered : (item : LotSize) (duals : List ℕ) (t n : ℕ) → t + suc n ≡ length item.demand → length item.holding ≡ length item.demand → covers_excess item duals (length item.demand - 1) ≡ true → excess_from (slice_index item.demand) (slice_index duals) (slice_index item.holding) t (suc n) (slice_index item.unit t) ≤ slice_index item.setup t
excess_covered item duals t n ends same covers =
    let last : ℕ = length item.demand - 1 in
    let span : last + 1 - t ≡ suc n = omega arith in
    let begins : slice_index item.unit t ≡ slice_index item.unit t + holding_between item t t = omega (arith, stretch-none item.holding t) in
    let all = excess_from-is item duals t t (suc n) (slice_index item.unit t) (omega arith) (omega arith) begins in
    let spanned : sum_from (excess item duals t) t (last + 1 - t) ≡ sum_from (excess item duals t) t (suc n) = ap (sum_from (excess item duals t) t) span in
    omega (arith, all, spanned, covers_at item duals last t covers (omega arith))

-- an order of q units, with its setup if it isn't 0, costs no less than the worth that it takes off
paid : (setup unit m q none more e : ℕ) → none ≤ more + m * (unit * q) + m * e → e ≤ setup → (q ≡ 0 → none ≡ more) → none ≤ more + m * (unit * q) + m * cond (eqb q 0) 0 setup
paid setup unit m q none more e less covered same = by_case (cases_eq q 0)
  where
    by_case : (q ≡ 0) ⊎ (q ≡ 0 → ⊥) → none ≤ more + m * (unit * q) + m * cond (eqb q 0) 0 setup
    by_case (inl zero_order) = rw (eq-eqb q 0 zero_order) (omega (arith, same zero_order))
    by_case (inr some_order) = rw (ne_eqb q 0 some_order) (omega (arith, mul-le-mul_left m covered))

-- the stock before the order of a period
abbrev stock_before : LotSize → List ℕ → ℕ → ℕ
stock_before item orders t = sum (take t orders) - demand_upto item t

-- what is left to be served is worth no more than the rest of a plan costs
plan_worth : (item : LotSize) (duals other : List ℕ) (w : ℕ → ℕ) (m : ℕ) → length item.holding ≡ length item.demand → ((k : ℕ) → k < length item.demand → slice_index item.demand k * w k ≡ m * slice_index duals k) → covers_excess item duals (length item.demand - 1) ≡ true → IsPlan item other → (t n : ℕ) → t + n ≡ length item.demand → worth (slice_index item.demand) w (slice_index item.holding) m t n (stock_before item other t) ≤ m * sum_from (period_cost item other) t n
unfolding worth
plan_worth item duals other w m same each covers plan t zero ends = omega arith
plan_worth item duals other w m same each covers plan t (suc n) ends =
    let d : ℕ → ℕ = slice_index item.demand in
    let h : ℕ → ℕ = slice_index item.holding in
    let q : ℕ = slice_index other t in
    let s : ℕ = stock_before item other t in
    let inside : t < length item.demand = omega arith in
    let ordered : t < length other = omega (arith, plan.each) in
    let demanded : demand_upto item (t + 1) ≡ demand_upto item t + d t = sum_by_more (λ x. x) item.demand t 0 inside in
    let ordered_upto : sum (take (t + 1) other) ≡ sum (take t other) + q = sum_by_more (λ x. x) other t 0 ordered in
    let before : demand_upto item t ≤ sum (take t other) = plan.covers t (omega arith) in
    let after : demand_upto item (t + 1) ≤ sum (take (t + 1) other) = plan.covers (t + 1) (omega arith) in
    let left : s + q - d t ≡ stock_before item other (t + 1) = omega arith in
    let served : d t - (s + q) ≡ 0 = omega arith in
    let by_order = order_worth d w (slice_index duals) h m (length item.demand) each t (suc n) s q (slice_index item.unit t) ends in
    let covered = excess_covered item duals t n ends same covers in
    let unchanged : q ≡ 0 → worth d w h m t (suc n) s ≡ worth d w h m t (suc n) (s + q) = λ z. ap (worth d w h m t (suc n)) (omega (arith, z)) in
    let bought = paid (slice_index item.setup t) (slice_index item.unit t) m q (worth d w h m t (suc n) s) (worth d w h m t (suc n) (s + q)) (excess_from d (slice_index duals) h t (suc n) (slice_index item.unit t)) by_order covered unchanged in
    let held : worth d w h m t (suc n) (s + q) ≡ 0 * w t + m * (h t * stock_before item other (t + 1)) + worth d w h m (t + 1) n (stock_before item other (t + 1)) =
    ap (λ k. k * w t + m * (h t * (s + q - d t)) + worth d w h m (t + 1) n (s + q - d t)) served ∙ ap (λ k. 0 * w t + m * (h t * k) + worth d w h m (t + 1) n k) left in
    let rest = plan_worth item duals other w m same each covers plan (t + 1) n (omega arith) in
    let costs : m * sum_from (period_cost item other) t (suc n) ≡ m * (period_cost item other t + sum_from (period_cost item other) (t + 1) n) = ap (λ x. m * x) (sum_from-first (period_cost item other) t n) in
    summed (worth d w h m t (suc n) s) (worth d w h m t (suc n) (s + q)) (setup_paid item other t) (slice_index item.unit t) q (h t) (stock_before item other (t + 1)) (worth d w h m (t + 1) n (stock_before item other (t + 1))) (sum_from (period_cost item other) (t + 1) n) (m * sum_from (period_cost item other) t (suc n)) bought held rest costs
  where
    summed : (none more p unit q holding stock next rest costs : ℕ) → none ≤ more + m * (unit * q) + m * p → more ≡ 0 * w t + m * (holding * stock) + next → next ≤ m * rest → costs ≡ m * (p + unit * q + holding * stock + rest) → none ≤ costs
    summed none more p unit q holding stock next rest costs bought held later is = omega (arith, bought, held, later, is)

-- no plan costs less than the sum of the duals
pub weak_duality : (item : LotSize) (duals other : List ℕ) → length item.holding ≡ length item.demand → length duals ≡ length item.demand → covers_excess item duals (length item.demand - 1) ≡ true → ((s : ℕ) → s < length item.demand → is_dual_of_demand item duals s ≡ true) → IsPlan item other → sum duals ≤ plan_cost item other
weak_duality item duals other same each covers free plan = by_prices (unit_prices (slice_index item.demand) (slice_index duals) (length item.demand) (λ k lt none. no_price k none (free k lt)))
  where
    no_price : (k : ℕ) → slice_index item.demand k ≡ 0 → is_dual_of_demand item duals k ≡ true → slice_index duals k ≡ 0
    no_price k none passes = eqb-true _ _ (rw (eq-eqb (slice_index item.demand k) 0 none) at passes)

    divided : (a b m : ℕ) → 1 ≤ m → m * a ≤ m * b → (b < a) ⊎ (a ≤ b) → a ≤ b
    divided a b m positive le (inr h) = h
    divided a b m positive le (inl lt) = let one_more : suc b ≤ a = omega arith in let h = mul-le-mul_left m one_more in absurd (omega (arith, h, le, positive))

    by_prices : HasUnitPrices (slice_index item.demand) (slice_index duals) (length item.demand) → sum duals ≤ plan_cost item other
    by_prices prices =
        let d : ℕ → ℕ = slice_index item.demand in
        let h : ℕ → ℕ = slice_index item.holding in
        let m : ℕ = prices.factor in
        let first = worth-none d prices.w (slice_index duals) h m (length item.demand) prices.each 0 (length item.demand) (omega arith) in
        let all = plan_worth item duals other prices.w m same prices.each covers plan 0 (length item.demand) (omega arith) in
        let empty : stock_before item other 0 ≡ 0 = no_stock in
        let begun : worth d prices.w h m 0 (length item.demand) (stock_before item other 0) ≡ worth d prices.w h m 0 (length item.demand) 0 = ap (worth d prices.w h m 0 (length item.demand)) empty in
        let listed : sum_from (slice_index duals) 0 (length item.demand) ≡ sum duals = ap (sum_from (slice_index duals) 0) (sym each) ∙ sum_from-list duals in
        let listed_times : m * sum_from (slice_index duals) 0 (length item.demand) ≡ m * sum duals = ap (λ x. m * x) listed in
        divided (sum duals) (plan_cost item other) m prices.positive (omega (arith, first, all, begun, listed_times)) (cases_lt (plan_cost item other) (sum duals))
      where
        no_stock : stock_before item other 0 ≡ 0
        no_stock = omega arith

-- an order and a dual that break no rule
order_parts : (plan covers free : Bool) → cond {A = Option ℕ} plan (cond (covers && free) None (Some 4)) (Some 3) ≡ None → (plan ≡ true) × (covers ≡ true) × (free ≡ true)
order_parts true true true none = (refl, refl, refl)
order_parts true true false none = cc
order_parts true false free none = cc
order_parts false covers free none = cc

cost_parts : (paid priced : Bool) → cond {A = Option ℕ} paid (cond priced None (Some 6)) (Some 5) ≡ None → (paid ≡ true) × (priced ≡ true)
cost_parts true true none = (refl, refl)
cost_parts true false none = cc
cost_parts false priced none = cc

same_number : (a b : ℕ) → is_number (pos a) (pos b) ≡ true → a ≡ b
same_number a b same =
    let both = and_parts (nat_le a b) (nat_le b a) same in
    omega (arith, leb-true a b both.0, leb-true b a both.1)

-- the plan of a certificate that breaks no rule is least
pub least_by_rules : (item : LotSize) (c : LotCert) → IsReadableLots item → BreaksNoLotRule item c → LeastPlan item c.orders c.cost
least_by_rules item c readable rules_kept =
    let costs = cost_parts (is_number (pos (plan_cost item c.orders)) (pos c.cost)) (is_number (pos (sum c.duals)) (pos c.cost)) rules_kept.cost in
    let priced : sum c.duals ≡ c.cost = same_number _ _ costs.1 in
    record {
      plan = record { each = rules_kept.orders_each; covers = λ t le. covers t le };
      cost_is = same_number _ _ costs.0;
      least = λ other plan. rw priced at (weak_duality item c.duals other readable.holding_each rules_kept.duals_each last (λ s lt. free s lt) plan);
    }
  where
    parts : (s : ℕ) → s < length item.demand → (is_plan_upto item (take (s + 1) c.orders) s ≡ true) × (covers_excess item (take (s + 1) c.duals) s ≡ true) × (is_dual_of_demand item (take (s + 1) c.duals) s ≡ true)
    parts s lt = order_parts _ _ _ (rules_kept.orders s lt)

    covers : (t : ℕ) → t ≤ length item.demand → demand_upto item t ≤ sum (take t c.orders)
    covers zero le = omega arith
    covers (suc s) le =
        let covered : demand_upto item (s + 1) ≤ sum (take (s + 1) c.orders) = leb-true _ _ (and_parts _ _ (parts s (omega arith)).0).0 in
        let one_more : s + 1 ≡ suc s = omega arith in
        rw one_more at covered

    last : covers_excess item c.duals (length item.demand - 1) ≡ true
    last =
        let s : ℕ = length item.demand - 1 in
        let all : take (s + 1) c.duals ≡ c.duals = take_all (s + 1) c.duals (omega (arith, readable.some_period, rules_kept.duals_each)) in
        rw all at (parts s (omega (arith, readable.some_period))).1

    free : (s : ℕ) → s < length item.demand → is_dual_of_demand item c.duals s ≡ true
    free s lt =
        let same : slice_index (take (s + 1) c.duals) s ≡ slice_index c.duals s = get_or-take (s + 1) c.duals s 0 (omega arith) in
        rw same at (parts s lt).2
