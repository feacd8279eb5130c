-- What a certificate of a lot plan has to say, line by line and as a whole. Periods are places of lists, from 0.
use Rattle.std.specs.Prelude.{◌≡◌, ℕ, ◌+◌, ◌-◌, ◌<◌, List, [], ◌∷◌, ◌++◌, length, slice_index, sum, take, Bool, ◌&&◌, ◌||◌, not, nat_le, nat_lt, ◌==◌, if◌then◌else◌, ℤ, pos, unsigned_abs, Option, Some, None}
use Rattle.std.specs.List.{list_all, range_with_len, sum_by}
use Rattle.decision_model.specs.declared.lots.LotSize.{LotSize}
use Rattle.value_cert.specs.LotPlans.{demand_upto, plan_cost, serving_cost, LeastPlan}
use Rattle.value_cert.specs.LotRecursion.{solved_lots}
use Rattle.value_cert.specs.Numbers.{is_number}
use Rattle.value_cert.specs.Rules.{Rules}
use Rattle.value_cert.specs.Standard.{Standard}
use Rattle.value_cert.specs.declared.cert.Cert.{Cert}
use Rattle.value_cert.specs.declared.cert.Cert.TheVariants as cert
use Rattle.value_cert.specs.declared.lots.LotCert.{LotCert}
use Rattle.value_cert.specs.declared.line.CertLine.{CertLine}
use Rattle.value_cert.specs.declared.line.CertLine.TheVariants.{Order, Cost}

-- how far the dual of period k exceeds the cost of serving its demand from period t
abbrev pub excess : LotSize → List ℕ → ℕ → ℕ → ℕ
excess lots duals t k = slice_index duals k - serving_cost lots t k

-- the excess of the periods from t to s together
abbrev pub excess_upto : LotSize → List ℕ → ℕ → ℕ → ℕ
excess_upto lots duals t s = sum_by (excess lots duals t) (range_with_len t (s + 1 - t))

-- the setup of no period up to s is less than the excess of the periods from it to s
abbrev pub covers_excess : LotSize → List ℕ → ℕ → Bool
covers_excess lots duals s = list_all (λ t. nat_le (excess_upto lots duals t s) (slice_index lots.setup t)) (range_with_len 0 (s + 1))

-- without demand there is nothing to pay
abbrev pub is_dual_of_demand : LotSize → List ℕ → ℕ → Bool
is_dual_of_demand lots duals s = not (slice_index lots.demand s == 0) || (slice_index duals s == 0)

-- the orders cover the demand up to period s, and are at most the whole demand
abbrev pub is_plan_upto : LotSize → List ℕ → ℕ → Bool
is_plan_upto lots orders s = nat_le (demand_upto lots (s + 1)) (sum orders) && nat_le (sum orders) (sum lots.demand)

-- the least rule that the order and the dual of period s break, those up to it being listed: the orders cover the demand (3), and no setup is exceeded (4)
abbrev pub order_rule : LotSize → List ℕ → List ℕ → ℕ → Option ℕ
order_rule lots orders duals s =
    if is_plan_upto lots orders s then (if covers_excess lots duals s && is_dual_of_demand lots duals s then None else Some 4)
    else Some 3

-- the least rule that a cost breaks: it is that of the plan (5), and the sum of the duals (6)
abbrev pub plan_cost_rule : LotSize → List ℕ → List ℕ → ℤ → Option ℕ
plan_cost_rule lots orders duals cost =
    if is_number (pos (plan_cost lots orders)) cost then (if is_number (pos (sum duals)) cost then None else Some 6)
    else Some 5

-- the orders and the duals of the first periods
pub record FirstOrders : Type 0 where
  pub orders : List ℕ
  pub duals : List ℕ

-- those that the lines name
abbrev pub named_orders : FirstOrders → CertLine → FirstOrders
named_orders first (Order order dual) =
    record { orders = first.orders ++ unsigned_abs order ∷ []; duals = first.duals ++ unsigned_abs dual ∷ [] }
named_orders first _ = first

-- the least rule from 2 on that an order with its dual breaks: there is a period for it (2)
abbrev pub next_order_rule : LotSize → FirstOrders → ℕ → ℕ → Option ℕ
next_order_rule lots first order dual =
    if nat_lt (length first.orders) (length lots.demand)
    then order_rule lots (first.orders ++ order ∷ []) (first.duals ++ dual ∷ []) (length first.orders)
    else Some 2

-- the least rule from 2 on that the cost breaks: each period has an order (2)
abbrev pub whole_cost_rule : LotSize → FirstOrders → ℤ → Option ℕ
whole_cost_rule lots first cost =
    if length first.orders == length lots.demand then plan_cost_rule lots first.orders first.duals cost else Some 2

-- the least rule from 2 on that a line breaks, the first orders being named
abbrev pub lots_rule : LotSize → FirstOrders → CertLine → Option ℕ
lots_rule lots first (Order order dual) = next_order_rule lots first (unsigned_abs order) (unsigned_abs dual)
lots_rule lots first (Cost cost) = whole_cost_rule lots first cost
lots_rule lots first _ = None

abbrev pub no_orders : FirstOrders
no_orders = record { orders = []; duals = [] }

abbrev pub lots_rules : LotSize → Rules
lots_rules lots = record { Known = FirstOrders; nothing = no_orders; further = named_orders; broken = lots_rule lots }

-- one order and one dual a period, which break no rule, and so does the cost
pub record BreaksNoLotRule (item : LotSize) (c : LotCert) : Type 0 where
  pub orders_each : length c.orders ≡ length item.demand
  pub duals_each : length c.duals ≡ length item.demand
  pub orders : (s : ℕ) → s < length item.demand → order_rule item (take (s + 1) c.orders) (take (s + 1) c.duals) s ≡ None
  pub cost : plan_cost_rule item c.orders c.duals (pos c.cost) ≡ None

abbrev pub CertifiesPlan : LotSize → Cert → Type 0
CertifiesPlan lots (cert.Lots c) = LeastPlan lots c.orders c.cost
CertifiesPlan lots _ = ⊥

-- the printed cost is that of the certificate
abbrev pub lots_num : Cert → ℤ
lots_num (cert.Lots c) = pos c.cost
lots_num _ = pos 0

abbrev pub lots_standard : LotSize → Standard
lots_standard lots = record {
  rules = lots_rules lots;
  Certifies = CertifiesPlan lots;
  solved = Some (cert.Lots (solved_lots lots));
  printed_num = lots_num;
  printed_den = λ c. 1;
}
