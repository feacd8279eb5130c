-- What a check of lots knows of the lines so far.
use Rattle.std.specs.Prelude.{◌≡◌, ℕ, ◌-◌, ◌<◌, ◌≤◌, List, length, slice_index, sum}
use Rattle.decision_model.specs.declared.instance.Instance.{Instance}
use Rattle.decision_model.specs.declared.instance.Instance.TheVariants.{Lots}
use Rattle.lot_lemmas.specs.LotSums.{sum_from}
use Rattle.value_cert.specs.LotPlans.{demand_upto, period_cost}
use Rattle.value_cert.specs.LotsRules.{excess, FirstOrders, no_orders, named_orders, lots_rule}
use Rattle.value_cert.specs.declared.line.CertLine.{CertLine}
use Rattle.cert_check.specs.LotCells.{cell_at}
use Rattle.cert_check.specs.KnownLines.{KnowsLines}
use Rattle.cert_check.specs.declared.lots.LotsCheck.{LotsCheck}

-- the check knows what these orders and duals of the first periods come to
pub record KnowsPlan (check : LotsCheck) (first : FirstOrders) : Type 0 where
  pub periods : check.totals.periods ≡ length first.orders
  pub duals_each : length first.duals ≡ length first.orders
  pub within : length first.orders ≤ length check.lots.now.demand
  pub whole : check.whole ≡ sum check.lots.now.demand
  pub ordered : check.totals.ordered ≡ sum first.orders
  pub demanded : check.totals.demanded ≡ demand_upto check.lots.now (length first.orders)
  pub dual_sum : check.totals.duals ≡ sum first.duals
  pub cost : check.totals.cost ≡ sum_from (period_cost check.lots.now first.orders) 0 (length first.orders)
  pub excesses : (t : ℕ) → t < length first.orders → cell_at check.excesses.now t ≡ sum_from (excess check.lots.now first.duals t) t (length first.orders - t)
  pub covered : (t : ℕ) → t < length first.orders → cell_at check.excesses.now t ≤ slice_index check.lots.now.setup t

-- the check is of these lots, and knows the orders and the duals of the lines
abbrev pub KnowsLots : LotsCheck → Instance → List CertLine → Type 0
KnowsLots check (Lots lots) lines = KnowsLines (λ lots. no_orders) (λ lots. named_orders) lots_rule lots check.lots.now (KnowsPlan check) lines
KnowsLots check _ lines = ⊥
