-- The plan read backwards covers the demand, and costs what the recursion says.
use Rattle.std.proofs.Common.{◌≡◌, ℕ, zero, suc, ◌+◌, ◌-◌, ◌*◌, ◌<◌, ◌≤◌, List, [], ◌∷◌, ◌++◌, length, slice_index, slice_index_or, get_or, sum, take, drop, replicate, cond, eqb, refl, sym, ◌∙◌, ap, arith, add-zero, zero-add, add-one, ◌⊎◌, inl, inr, length-append}
use Rattle.std.proofs.lemmas.Bool.{cases_lt, cases_eq, eq-eqb, ne_eqb}
use Rattle.std.proofs.lemmas.List.{get_or_append_left, get_or-append_right, take-append-le, take_all, length-replicate, get_or-replicate, take-replicate}
use Rattle.std.proofs.Math.Seq.{take-append-add}
use Rattle.std.proofs.lemmas.List.Sums.{sum_by-cons, sum_by-append, sum_by_more}
use Rattle.std.proofs.lemmas.List.Folds.{sum_by-replicate}
use Rattle.decision_model.specs.declared.lots.LotSize.{LotSize}
use Rattle.decision_model.specs.Lots.{IsValidLots}
use Rattle.value_cert.specs.LotPlans.{demand_upto, period_cost, serving_cost}
use Rattle.value_cert.specs.LotRecursion.{least_cost, last_order, one_order, next_orders, least_plans, least_plan}
use Rattle.lot_lemmas.specs.LotSums.{sum_from, sum_from-first, sum_from-last, sum_from-parts, sum_from-same}
use Rattle.lot_lemmas.specs.LotHorizons.{IsLotRecursion}
use Rattle.lot_lemmas.specs.LotRecursionFacts.{costs_of, cost_before, is_recursion, least_cost-none}
use Rattle.lot_lemmas.specs.LotServing.{served, served-is, held, serving-parts, held-first, stretch-after}

-- ---- the list of plans
pub length-least_plans : (item : LotSize) (n : ℕ) → length (least_plans item n) ≡ n + 1
unfolding least_plans
length-least_plans item zero = refl
length-least_plans item (suc n) = length-append (least_plans item n) _ ∙ omega (arith, length-least_plans item n)

pub least_plans-at : (item : LotSize) (n t : ℕ) → t ≤ n → slice_index_or (least_plans item n) t [] ≡ least_plan item t
unfolding least_plans
least_plans-at item zero t le = let same : t ≡ 0 = omega arith in rw same refl
least_plans-at item (suc n) t le = by_place (cases_lt n t) (least_plans-at item n t)
  where
    by_place : (n < t) ⊎ (t ≤ n) → (t ≤ n → slice_index_or (least_plans item n) t [] ≡ least_plan item t) → slice_index_or (least_plans item (suc n)) t [] ≡ least_plan item t
    by_place (inl after) earlier = let same : t ≡ suc n = omega arith in rw same refl
    by_place (inr before) earlier = get_or_append_left (least_plans item n) _ [] t (omega (arith, length-least_plans item n)) ∙ earlier before

pub least_plan-none : (item : LotSize) → least_plan item 0 ≡ []
unfolding least_plans
least_plan-none item = refl

least_plan-next : (item : LotSize) (n : ℕ) → least_plan item (suc n) ≡ next_orders item (least_plans item n) n
unfolding least_plans
least_plan-next item n =
    let ends : length (least_plans item n) ≡ suc n = omega (arith, length-least_plans item n) in
    let first : suc n - suc n ≡ 0 = omega arith in
    get_or-append_right (least_plans item n) (next_orders item (least_plans item n) n ∷ []) (suc n) (suc n) [] ends (omega arith)
    ∙ ap (λ k. get_or (next_orders item (least_plans item n) n ∷ []) k []) first

pub least_plan-idle : (item : LotSize) (n : ℕ) → slice_index item.demand n ≡ 0 → least_plan item (suc n) ≡ least_plan item n ++ 0 ∷ []
least_plan-idle item n z =
    least_plan-next item n
    ∙ ap (λ b. cond b (slice_index_or (least_plans item n) n [] ++ 0 ∷ []) (slice_index_or (least_plans item n) (last_order item n) [] ++ one_order item (last_order item n) n)) (eq-eqb (slice_index item.demand n) 0 z)

pub least_plan-ordered : (item : LotSize) (n : ℕ) → (slice_index item.demand n ≡ 0 → ⊥) → last_order item n ≤ n → least_plan item (suc n) ≡ least_plan item (last_order item n) ++ one_order item (last_order item n) n
least_plan-ordered item n some within =
    least_plan-next item n
    ∙ ap (λ b. cond b (slice_index_or (least_plans item n) n [] ++ 0 ∷ []) (slice_index_or (least_plans item n) (last_order item n) [] ++ one_order item (last_order item n) n)) (ne_eqb (slice_index item.demand n) 0 some)
    ∙ ap (λ front. front ++ one_order item (last_order item n) n) (least_plans-at item n (last_order item n) within)

-- ---- the cost of a plan of the first periods
-- what a period costs where it orders q and all orders so far are total
abbrev cost_at : LotSize → ℕ → ℕ → ℕ → ℕ
cost_at item t q total = cond (eqb q 0) 0 (slice_index item.setup t) + slice_index item.unit t * q + slice_index item.holding t * (total - demand_upto item (t + 1))

period_cost-front : (item : LotSize) (front back : List ℕ) (t : ℕ) → t < length front → period_cost item (front ++ back) t ≡ period_cost item front t
period_cost-front item front back t inside =
    ap (λ q. cost_at item t q (sum (take (t + 1) (front ++ back)))) (get_or_append_left front back 0 t inside)
    ∙ ap (λ xs. cost_at item t (slice_index front t) (sum xs)) (take-append-le (t + 1) front back (omega arith))

front_cost : (item : LotSize) (front back : List ℕ) (n : ℕ) → length front ≡ n → sum_from (period_cost item (front ++ back)) 0 n ≡ sum_from (period_cost item front) 0 n
front_cost item front back n ends =
    sum_from-same (period_cost item (front ++ back)) (period_cost item front) 0 n (λ k low high. period_cost-front item front back k (omega arith))

-- a plan of the first n periods, which cost as little as they can
pub record IsFrontPlan (item : LotSize) (n : ℕ) (orders : List ℕ) : Type 0 where
  pub each : length orders ≡ n
  pub total : sum orders ≡ demand_upto item n
  pub covers : (t : ℕ) → t ≤ n → demand_upto item t ≤ sum (take t orders)
  pub cost : sum_from (period_cost item orders) 0 n ≡ least_cost item n

demand_upto-next : (item : LotSize) (n : ℕ) → n < length item.demand → demand_upto item (n + 1) ≡ demand_upto item n + slice_index item.demand n
demand_upto-next item n inside = sum_by_more (λ x. x) item.demand n 0 inside

demand_upto-le : (item : LotSize) (t n : ℕ) → t ≤ n → demand_upto item t ≤ demand_upto item n
demand_upto-le item t n le =
    let at : t + (n - t) ≡ n = omega arith in
    omega (arith, stretch-after item.demand t (n - t), ap (demand_upto item) at)

sum-one : (x : ℕ) → sum (x ∷ []) ≡ x
sum-one x = sum_by-cons (λ y. y) x [] ∙ add-zero x

-- ---- no demand: no order
idle_plan : (item : LotSize) (n : ℕ) (front : List ℕ) → n < length item.demand → slice_index item.demand n ≡ 0 → least_cost item (suc n) ≡ least_cost item n → IsFrontPlan item n front → IsFrontPlan item (suc n) (front ++ 0 ∷ [])
idle_plan item n front inside z same is = record {
  each = length-append front (0 ∷ []) ∙ omega (arith, is.each);
  total = whole ∙ is.total ∙ upto;
  covers = λ t le. covers t le (cases_lt n t);
  cost = sum_from-last (period_cost item (front ++ 0 ∷ [])) 0 n ∙ omega (arith, front_cost item front (0 ∷ []) n is.each, is.cost, same, last);
}
  where
    whole : sum (front ++ 0 ∷ []) ≡ sum front
    whole = sum_by-append (λ x. x) front (0 ∷ []) ∙ omega (arith, sum-one 0)

    upto : demand_upto item n ≡ demand_upto item (suc n)
    upto = omega (arith, demand_upto-next item n inside, z, ap (demand_upto item) (add-one n))

    all : (t : ℕ) → n < t → sum (take t (front ++ 0 ∷ [])) ≡ demand_upto item n
    all t after = ap sum (take_all t (front ++ 0 ∷ []) (omega (arith, length-append front (0 ∷ []), is.each))) ∙ whole ∙ is.total

    covers : (t : ℕ) → t ≤ suc n → (n < t) ⊎ (t ≤ n) → demand_upto item t ≤ sum (take t (front ++ 0 ∷ []))
    covers t le (inl after) = let end : t ≡ suc n = omega arith in omega (arith, all t after, upto, ap (demand_upto item) end)
    covers t le (inr before) = omega (arith, is.covers t before, ap sum (take-append-le t front (0 ∷ []) (omega (arith, is.each))))

    order_is : slice_index (front ++ 0 ∷ []) n ≡ 0
    order_is = let first : n - n ≡ 0 = omega arith in get_or-append_right front (0 ∷ []) n n 0 is.each (omega arith) ∙ ap (λ k. get_or (0 ∷ []) k 0) first

    last : period_cost item (front ++ 0 ∷ []) (0 + n) ≡ 0
    last =
        ap (period_cost item (front ++ 0 ∷ [])) (zero-add n)
        ∙ ap (λ q. cost_at item n q (sum (take (n + 1) (front ++ 0 ∷ [])))) order_is
        ∙ ap (cost_at item n 0) (all (n + 1) (omega arith))
        ∙ free (slice_index item.unit n) (slice_index item.holding n) (demand_upto item n - demand_upto item (n + 1)) (omega (arith, upto, ap (demand_upto item) (add-one n)))
      where
        free : (unit holding left : ℕ) → left ≡ 0 → 0 + unit * 0 + holding * left ≡ 0
        free unit holding left none = ap (λ x. 0 + unit * 0 + holding * x) none ∙ omega arith

-- ---- one order for the periods from t to n
-- a plan of the first t periods, behind which period t orders some units, the demand from t to n
record IsLastOrder (item : LotSize) (t n units : ℕ) (front : List ℕ) : Type 0 where
  within : t ≤ n
  inside : n < length item.demand
  lists : length item.holding ≡ length item.demand
  some : units ≡ 0 → ⊥
  units_are : demand_upto item t + units ≡ demand_upto item (n + 1)
  front_is : IsFrontPlan item t front

abbrev with_order : List ℕ → ℕ → ℕ → List ℕ
with_order front units later = front ++ units ∷ replicate later 0

total_of : (units j later : ℕ) → j ≤ later → sum (take (suc j) (units ∷ replicate later 0)) ≡ units
total_of units j later le =
    sum_by-cons (λ x. x) units (take j (replicate later 0))
    ∙ ap (λ xs. units + sum xs) (take-replicate j later 0 le)
    ∙ ap (λ x. units + x) (sum_by-replicate (λ x. x) j 0) ∙ omega arith

-- from the last order on all orders are the demand up to n
total_at : (item : LotSize) (t n units : ℕ) (front : List ℕ) → IsLastOrder item t n units front → (k : ℕ) → t ≤ k → k ≤ n → sum (take (k + 1) (with_order front units (n - t))) ≡ demand_upto item (n + 1)
total_at item t n units front is k after upto =
    let count : k + 1 ≡ length front + suc (k - t) = omega (arith, is.front_is.each) in
    ap (λ i. sum (take i (with_order front units (n - t)))) count
    ∙ ap sum (take-append-add front (units ∷ replicate (n - t) 0) (suc (k - t)))
    ∙ sum_by-append (λ x. x) front (take (suc (k - t)) (units ∷ replicate (n - t) 0))
    ∙ omega (arith, is.front_is.total, is.units_are, total_of units (k - t) (n - t) (omega arith))

order_at : (item : LotSize) (t n units : ℕ) (front : List ℕ) → IsLastOrder item t n units front → slice_index (with_order front units (n - t)) t ≡ units
order_at item t n units front is =
    let first : t - t ≡ 0 = omega arith in
    get_or-append_right front (units ∷ replicate (n - t) 0) t t 0 is.front_is.each (omega arith) ∙ ap (λ k. get_or (units ∷ replicate (n - t) 0) k 0) first

no_order_at : (item : LotSize) (t n units : ℕ) (front : List ℕ) → IsLastOrder item t n units front → (k : ℕ) → t < k → k ≤ n → slice_index (with_order front units (n - t)) k ≡ 0
no_order_at item t n units front is k after upto =
    let later : k - t ≡ suc (k - t - 1) = omega arith in
    get_or-append_right front (units ∷ replicate (n - t) 0) t k 0 is.front_is.each (omega arith)
    ∙ ap (λ i. get_or (units ∷ replicate (n - t) 0) i 0) later
    ∙ get_or-replicate (n - t) (k - t - 1) 0 0 (omega arith)

-- behind the last order each period holds what is not yet served
held_later : (item : LotSize) (t n units : ℕ) (front : List ℕ) → IsLastOrder item t n units front → (k i : ℕ) → t < k → k + i ≡ n + 1 → sum_from (period_cost item (with_order front units (n - t))) k i ≡ held item k i
held_later item t n units front is k zero after ends = refl
held_later item t n units front is k (suc i) after ends =
    let orders : List ℕ = with_order front units (n - t) in
    let left : demand_upto item (k + 1) + served item (k + 1) i ≡ demand_upto item (n + 1) = served-is item (k + 1) i (omega (arith, is.inside)) ∙ ap (demand_upto item) (omega arith) in
    let own : period_cost item orders k ≡ 0 + slice_index item.unit k * 0 + slice_index item.holding k * served item (k + 1) i =
    ap (λ q. cost_at item k q (sum (take (k + 1) orders))) (no_order_at item t n units front is k after (omega arith))
    ∙ ap (cost_at item k 0) (total_at item t n units front is k (omega arith) (omega arith))
    ∙ ap (λ x. 0 + slice_index item.unit k * 0 + slice_index item.holding k * x) (omega (arith, left)) in
    omega (arith, own, sum_from-first (period_cost item orders) k i, held_later item t n units front is (k + 1) i (omega arith) (omega arith), held-first item k i (omega (arith, is.inside, is.lists)))

last_order_cost : (item : LotSize) (t n units : ℕ) (front : List ℕ) → IsLastOrder item t n units front → sum_from (period_cost item (with_order front units (n - t))) t (suc (n - t)) ≡ slice_index item.setup t + sum_from (serving_cost item t) t (suc (n - t))
last_order_cost item t n units front is =
    let orders : List ℕ = with_order front units (n - t) in
    let later : ℕ = n - t in
    let all : demand_upto item t + served item t (suc later) ≡ demand_upto item (n + 1) = served-is item t (suc later) (omega (arith, is.inside, is.within)) ∙ ap (demand_upto item) (omega (arith, is.within)) in
    let left : demand_upto item (t + 1) + served item (t + 1) later ≡ demand_upto item (n + 1) = served-is item (t + 1) later (omega (arith, is.inside, is.within)) ∙ ap (demand_upto item) (omega (arith, is.within)) in
    let own : period_cost item orders t ≡ slice_index item.setup t + slice_index item.unit t * units + slice_index item.holding t * served item (t + 1) later =
    ap (λ q. cost_at item t q (sum (take (t + 1) orders))) (order_at item t n units front is)
    ∙ ap (cost_at item t units) (total_at item t n units front is t (omega arith) is.within)
    ∙ ap (λ b. cond b 0 (slice_index item.setup t) + slice_index item.unit t * units + slice_index item.holding t * (demand_upto item (n + 1) - demand_upto item (t + 1))) (ne_eqb units 0 is.some)
    ∙ ap (λ x. slice_index item.setup t + slice_index item.unit t * units + slice_index item.holding t * x) (omega (arith, left)) in
    let paid : slice_index item.unit t * units ≡ slice_index item.unit t * served item t (suc later) = ap (λ x. slice_index item.unit t * x) (omega (arith, all, is.units_are)) in
    omega (arith, own, paid, sum_from-first (period_cost item orders) t later, held_later item t n units front is (t + 1) later (omega arith) (omega (arith, is.within)), held-first item t later (omega (arith, is.inside, is.lists, is.within)), serving-parts item t t (suc later))

ordered_plan : (item : LotSize) (t n units : ℕ) (front : List ℕ) → IsLastOrder item t n units front → least_cost item (suc n) ≡ cost_before item t (suc n) → IsFrontPlan item (suc n) (with_order front units (n - t))
unfolding cost_before
ordered_plan item t n units front is same = record {
  each = long ∙ add-one n;
  total = whole ∙ ap (demand_upto item) (add-one n);
  covers = λ u le. covers u le (cases_lt t u);
  cost = ap (sum_from (period_cost item orders) 0) all_periods ∙ sum_from-parts (period_cost item orders) 0 t (suc (n - t)) ∙ costs ∙ sym same;
}
  where
    orders : List ℕ
    orders = with_order front units (n - t)

    long : length orders ≡ n + 1
    long = length-append front (units ∷ replicate (n - t) 0) ∙ omega (arith, is.front_is.each, is.within, length-replicate {A = ℕ} (n - t) 0)

    whole : sum orders ≡ demand_upto item (n + 1)
    whole = ap sum (sym (take_all (n + 1) orders (omega (arith, long)))) ∙ total_at item t n units front is n is.within (omega arith)

    covers : (u : ℕ) → u ≤ suc n → (t < u) ⊎ (u ≤ t) → demand_upto item u ≤ sum (take u orders)
    covers u le (inl after) =
        let at : u - 1 + 1 ≡ u = omega arith in
        omega (arith, total_at item t n units front is (u - 1) (omega arith) (omega arith), ap (λ i. sum (take i orders)) at, demand_upto-le item u (n + 1) (omega arith))
    covers u le (inr before) = omega (arith, is.front_is.covers u before, ap sum (take-append-le u front (units ∷ replicate (n - t) 0) (omega (arith, is.front_is.each))))

    all_periods : suc n ≡ t + suc (n - t)
    all_periods = omega (arith, is.within)

    costs : sum_from (period_cost item orders) 0 t + sum_from (period_cost item orders) (0 + t) (suc (n - t)) ≡ cost_before item t (suc n)
    costs =
        let count : suc (n - t) ≡ suc n - t = omega (arith, is.within) in
        omega (
          arith,
          front_cost item front (units ∷ replicate (n - t) 0) t is.front_is.each,
          is.front_is.cost,
          ap (λ k. sum_from (period_cost item orders) k (suc (n - t))) (zero-add t),
          last_order_cost item t n units front is,
          ap (sum_from (serving_cost item t) t) count,
        )

-- ---- the plans of the recursion
no_plan : (item : LotSize) → IsFrontPlan item 0 []
no_plan item = record {
  each = refl;
  total = refl;
  covers = λ t le. let first : t ≡ 0 = omega arith in rw first (omega arith);
  cost = sym (least_cost-none item);
}

-- the demand from a period to a later one with demand
last_order_is : (item : LotSize) → IsValidLots item → (t n : ℕ) (front : List ℕ) → t ≤ n → n < length item.demand → (slice_index item.demand n ≡ 0 → ⊥) → IsFrontPlan item t front → IsLastOrder item t n (sum (take (n + 1 - t) (drop t item.demand))) front
last_order_is item valid t n front within inside some is = record {
  within = within;
  inside = inside;
  lists = valid.readable.holding_each;
  some = λ none. some (omega (arith, none, units_are, demand_upto-next item n inside, demand_upto-le item t n within));
  units_are = units_are;
  front_is = is;
}
  where
    units_are : demand_upto item t + sum (take (n + 1 - t) (drop t item.demand)) ≡ demand_upto item (n + 1)
    units_are = let at : t + (n + 1 - t) ≡ n + 1 = omega arith in stretch-after item.demand t (n + 1 - t) ∙ ap (demand_upto item) at

pub front_plan : (item : LotSize) → IsValidLots item → (n m : ℕ) → m ≤ n → n ≤ length item.demand → IsFrontPlan item m (least_plan item m)
unfolding costs_of
front_plan item valid zero m le inside = let first : m ≡ 0 = omega arith in rw first (rw (least_plan-none item) (no_plan item))
front_plan item valid (suc n) m le inside = by_place (cases_lt n m) (cases_eq (slice_index item.demand n) 0) (λ k upto. front_plan item valid n k upto (omega arith))
  where
    is : IsLotRecursion (costs_of item)
    is = is_recursion item valid

    by_place : (n < m) ⊎ (m ≤ n) → (slice_index item.demand n ≡ 0) ⊎ (slice_index item.demand n ≡ 0 → ⊥) → ((k : ℕ) → k ≤ n → IsFrontPlan item k (least_plan item k)) → IsFrontPlan item m (least_plan item m)
    by_place (inr before) demanded earlier = earlier m before
    by_place (inl after) (inl z) earlier =
        let end : m ≡ suc n = omega arith in
        rw end (rw (least_plan-idle item n z) (idle_plan item n (least_plan item n) (omega arith) z (is.idle n (omega arith) z) (earlier n (omega arith))))
    by_place (inl after) (inr some) earlier =
        let end : m ≡ suc n = omega arith in
        let t : ℕ = last_order item n in
        rw end (rw (least_plan-ordered item n some (is.within n))
        (ordered_plan item t n (sum (take (n + 1 - t) (drop t item.demand))) (least_plan item t) (last_order_is item valid t n (least_plan item t) (is.within n) (omega arith) some (earlier t (is.within n))) (is.ordered n (omega arith) some)))
