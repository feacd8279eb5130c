-- Totals stay within the load: one induction over periods, one over listed order.
use Rattle.std.proofs.Common.{◌≡◌, ℕ, zero, suc, ◌+◌, ◌*◌, ◌<◌, ◌≤◌, ℤ, pos, ◌+ℤ◌, ◌-ℤ◌, ◌≤ℤ◌, Bool, true, false, cond, min, None, List, [], ◌∷◌, length, refl, sym, ◌∙◌, ap, subst, arith, mul-le-mul_right}
use Rattle.std.proofs.lemmas.Int.{ints}
use Rattle.node_state.specs.Totals.{Setting, spec_at, before, claims_of, claims_upto, demanded, seen, position, IsRun, IsShaped, IsLoaded, orders_paused, order_by, answer}
use Rattle.network_sim.specs.Windows.{IsRunning}
use Rattle.network_sim.specs.Claims.{AllBelow, below_append, below_total}
use Rattle.network_sim.specs.Runs.{orders_up}
use Rattle.network_model.specs.declared.network.Link.{Link}
use Rattle.node_state.specs.Orders.{order_of, house_of}
use Rattle.node_state.specs.Peaks.{order_within}
use Rattle.network_sim.specs.Simulated.{IsFed}
use Rattle.network_model.specs.Nodes.{peak_of, top_of, is_from, is_echelon}
use Rattle.network_model.specs.Shape.{is_below}
use Rattle.network_model.specs.declared.network.Rule.{Rule}
use Rattle.network_model.specs.declared.network.Rule.TheVariants.{Base, MinMax, Lot, Echelon, House}
use Rattle.network_model.specs.Load.{echelon_sum, own_load, need_most, order_limit, order_most as most_of}
use Rattle.network_sim.proofs.Ruled.{plain_order, plain_limit}

below_either : (b : Bool) (x y : ℕ) (xs ys : List ℕ) → x ≤ y → AllBelow xs ys → AllBelow (cond b (x ∷ xs) xs) (cond b (y ∷ ys) ys)
below_either true x y xs ys h p = (h, p)
below_either false x y xs ys h p = p

claims_of_below : (f g : ℕ → ℕ) (i t s : ℕ) (ls : List Link) → ((k : ℕ) → f (before k t) ≤ g (before k s)) → AllBelow (claims_of f i t ls) (claims_of g i s ls)
claims_of_below f g i t s [] h = tt
claims_of_below f g i t s (l ∷ ls) h =
    below_either (is_from i l.from) (f (before l.order_lead t)) (g (before l.order_lead s)) (claims_of f i t ls) (claims_of g i s ls) (h l.order_lead) (claims_of_below f g i t s ls h)

pub claims_below : (setting : Setting) (O P : ℕ → ℕ → ℕ) (i t s j : ℕ) → ((m : ℕ) → m < j → (k : ℕ) → O m (before k t) ≤ P m (before k s)) → AllBelow (claims_upto setting.network.nodes O i t j) (claims_upto setting.network.nodes P i s j)
claims_below setting O P i t s zero h = tt
claims_below setting O P i t s (suc j) h =
    below_append _ _ _ _ (claims_below setting O P i t s j (λ m lt. h m (omega arith))) (claims_of_below (O j) (P j) i t s (spec_at setting j).sources (h j (omega arith)))

-- an earlier total is no more than a later one
pub earlier : (f : ℕ → ℕ) → IsRunning f → (k t : ℕ) → f (before k t) ≤ f t
earlier f up zero t = omega arith
earlier f up (suc k) zero = omega arith
earlier f up (suc k) (suc t) = let a = earlier f up k t in let b = up t in omega arith

-- the customers of node i demand at most so much in all
abbrev top_at : Setting → ℕ → ℕ
top_at setting i = top_of (spec_at setting i).demand

demand_most : (setting : Setting) (last i : ℕ) → i < length setting.network.nodes → IsFed setting last → (t : ℕ) → t ≤ last → demanded setting i t ≤ t * top_at setting i
demand_most setting last i lt fed zero le = omega arith
demand_most setting last i lt fed (suc t) le = let a = demand_most setting last i lt fed t (omega arith) in let b = fed i t lt le in omega arith

pub echelon_most : (setting : Setting) (i : ℕ) (f g : ℕ → ℕ) (j : ℕ) → ((k : ℕ) → k < j → f k ≤ g k) → echelon_sum setting.network.nodes i f j ≤ echelon_sum setting.network.nodes i g j
echelon_most setting i f g zero h = omega arith
echelon_most setting i f g (suc j) h = more (is_below setting.network.nodes i j) (echelon_most setting i f g j (λ k lt. h k (omega arith)))
  where
    more : (b : Bool) → echelon_sum setting.network.nodes i f j ≤ echelon_sum setting.network.nodes i g j → echelon_sum setting.network.nodes i f j + cond b (f j) 0 ≤ echelon_sum setting.network.nodes i g j + cond b (g j) 0
    more true a = let c = h j (omega arith) in omega arith
    more false a = omega arith

-- an order that is 0, or takes the position to the peak at most
order_most : (before_it held noted peak most q : ℕ) (paused : Bool) → (0 < q → ((pos (held + before_it) -ℤ pos noted) +ℤ pos q) ≤ℤ pos peak) → before_it ≤ most → peak + noted ≤ most → before_it + cond paused 0 q ≤ most
order_most o h n p m zero true law a b = omega arith
order_most o h n p m zero false law a b = omega arith
order_most o h n p m (suc q) true law a b = omega arith
order_most o h n p m (suc q) false law a b = let c = law (omega arith) in omega (arith, ints)

module _ (setting : Setting) (O : ℕ → ℕ → ℕ) (V : ℕ → ℕ → List ℕ) (r : IsRun setting O V) (shape : IsShaped setting.network.nodes) (l : IsLoaded setting.network) (last : ℕ) (left : last ≤ setting.network.periods) (fed : IsFed setting last) where
  times_most : (t i : ℕ) → t ≤ last → t * top_at setting i ≤ setting.network.periods * top_at setting i
  times_most t i le = mul-le-mul_right (top_at setting i) (omega arith)

  all_demand : (t i : ℕ) → i < length setting.network.nodes → t ≤ last → demanded setting i t ≤ setting.network.periods * top_at setting i
  all_demand t i lt le = let a = demand_most setting last i lt fed t le in let b = times_most t i le in omega arith

  seen_most : (t i : ℕ) → i < length setting.network.nodes → t ≤ last → ((m : ℕ) → m < i → O m t ≤ order_limit setting.network m) → seen setting O i t ≤ need_most setting.network i
  seen_most t i lt le h =
      let a = all_demand t i lt le in
      let c = l.need_is i lt in
      let d = below_total _ _ (claims_below setting O (λ j s. order_limit setting.network j) i t 0 i (λ m less k. let e = earlier (O m) (orders_up setting O V r shape m (omega arith)) k t in let f = h m less in omega arith)) in
      omega arith

  -- what the customers of an echelon have demanded
  pub echelon_demand : (t i : ℕ) → i < length setting.network.nodes → t ≤ last →
      echelon_sum setting.network.nodes i (λ j. demanded setting j t) (suc i) ≤ echelon_sum setting.network.nodes i (own_load setting.network) (suc i)
  echelon_demand t i lt le =
      echelon_most setting i (λ j. demanded setting j t) (own_load setting.network) (suc i)
      (λ k less. let a = all_demand t k (omega arith) le in omega arith)

  pub echelon_initial : (i : ℕ) →
      echelon_sum setting.network.nodes i (λ j. (spec_at setting j).initial) (suc i) ≤ echelon_sum setting.network.nodes i (own_load setting.network) (suc i)
  echelon_initial i = echelon_most setting i (λ j. (spec_at setting j).initial) (own_load setting.network) (suc i) (λ k less. omega arith)

  -- a rule of the caller's own orders at most its cap in each period
  house_most : (index cap : ℕ) (i : ℕ) → i < length setting.network.nodes → (spec_at setting i).rule ≡ House index cap → (t : ℕ) → O i t ≤ t * cap
  house_most index cap i lt e zero = let a = r.no_orders i in omega arith
  house_most index cap i lt e (suc t) =
      let a = house_most index cap i lt e t in
      let b = r.orders i t lt ∙ ap (λ rule. O i t + cond (orders_paused setting i (suc t)) 0 (order_by rule (position setting O i t) (λ k. answer setting O i k t))) e in
      let d = capped (orders_paused setting i (suc t)) (answer setting O i index t) cap in
      omega arith
    where
      capped : (b : Bool) (n cap : ℕ) → cond b 0 (min n cap) ≤ cap
      capped true n cap = omega arith
      capped false n cap = omega arith

  step : (t i : ℕ) → i < length setting.network.nodes → suc t ≤ last → O i t ≤ order_limit setting.network i → seen setting O i (suc t) ≤ need_most setting.network i → O i (suc t) ≤ order_limit setting.network i
  step t i lt le here few = by_rule (spec_at setting i).rule refl
    where
      D : ℕ
      D = echelon_sum setting.network.nodes i (λ j. demanded setting j (suc t)) (suc i)

      E : ℕ
      E = echelon_sum setting.network.nodes i (own_load setting.network) (suc i)

      B : ℕ
      B = echelon_sum setting.network.nodes i (λ j. (spec_at setting j).initial) (suc i)

      at : Bool → ℤ
      at b = cond b (pos (B + O i t) -ℤ pos D) (pos ((spec_at setting i).initial + O i t) -ℤ pos (seen setting O i (suc t)))

      many : D ≤ E
      many = echelon_demand (suc t) i lt le

      by : (b : Bool) →
          order_limit setting.network i ≡ peak_of (spec_at setting i).rule + cond b E (need_most setting.network i + (spec_at setting i).initial) →
          (0 < order_of (spec_at setting i).rule (at b) → (at b +ℤ pos (order_of (spec_at setting i).rule (at b))) ≤ℤ pos (peak_of (spec_at setting i).rule)) →
          O i t + cond (orders_paused setting i (suc t)) 0 (order_of (spec_at setting i).rule (at b)) ≤ order_limit setting.network i
      by true e law = order_most (O i t) B D (peak_of (spec_at setting i).rule) (order_limit setting.network i) _ (orders_paused setting i (suc t)) law here (let a = many in omega arith)
      by false e law = order_most (O i t) (spec_at setting i).initial (seen setting O i (suc t)) (peak_of (spec_at setting i).rule) (order_limit setting.network i) _ (orders_paused setting i (suc t)) law here (omega arith)

      plain : house_of (spec_at setting i).rule ≡ None → O i (suc t) ≤ order_limit setting.network i
      plain none =
          subst (λ n. n ≤ order_limit setting.network i)
          (sym (r.orders i t lt ∙ ap (λ q. O i t + cond (orders_paused setting i (suc t)) 0 q) (plain_order (spec_at setting i).rule (position setting O i t) (λ index. answer setting O i index t) none)))
          (by (is_echelon (spec_at setting i).rule)
          (l.limit_is i lt ∙ plain_limit (spec_at setting i).rule setting.network.periods (need_most setting.network i + (spec_at setting i).initial) E none)
          (order_within (spec_at setting i).rule (position setting O i t)))

      by_rule : (rule : Rule) → (spec_at setting i).rule ≡ rule → O i (suc t) ≤ order_limit setting.network i
      by_rule (Base level) e = plain (ap house_of e)
      by_rule (MinMax low high) e = plain (ap house_of e)
      by_rule (Lot reorder lot) e = plain (ap house_of e)
      by_rule (Echelon level) e = plain (ap house_of e)
      by_rule (House index cap) e =
          let a = house_most index cap i lt e (suc t) in
          let b : suc t * cap ≤ setting.network.periods * cap = mul-le-mul_right cap (omega arith) in
          let d = l.limit_is i lt ∙ ap (λ rule. most_of rule setting.network.periods (need_most setting.network i + (spec_at setting i).initial) E) e in
          omega arith

  -- in period suc t, by the nodes listed before
  in_order : (t : ℕ) → suc t ≤ last → ((i : ℕ) → i < length setting.network.nodes → O i t ≤ order_limit setting.network i) → (n i : ℕ) → i < n → i < length setting.network.nodes → O i (suc t) ≤ order_limit setting.network i
  in_order t le here zero i less lt = absurd (omega arith)
  in_order t le here (suc n) i less lt =
      let earlier_nodes = λ (m : ℕ) (small : m < i). in_order t le here n m (omega arith) (omega arith) in
      step t i lt le (here i lt) (seen_most (suc t) i lt le earlier_nodes)

  pub orders_most : (t : ℕ) → t ≤ last → (i : ℕ) → i < length setting.network.nodes → O i t ≤ order_limit setting.network i
  orders_most zero le i lt = let e = r.no_orders i in omega arith
  orders_most (suc t) le i lt = in_order t le (orders_most t (omega arith)) (suc i) i (omega arith) lt

  pub noted_most : (t : ℕ) → t ≤ last → (i : ℕ) → i < length setting.network.nodes → seen setting O i t ≤ need_most setting.network i
  noted_most t le i lt = seen_most t i lt le (λ m less. orders_most t le m (omega arith))
