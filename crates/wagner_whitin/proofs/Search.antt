-- The search for the last order period, from a period down.
use Rattle.std.proofs.Common.{◌≡◌, ℕ, zero, suc, ◌+◌, ◌-◌, ◌*◌, ◌<◌, ◌≤◌, List, length, slice_index, ◌∙◌, ap, arith, ◌⊎◌, inl, inr}
use Rattle.std.proofs.lemmas.Bool.{cases_lt}
use Rattle.std.proofs.lemmas.Nat.{mul-le}
use Rattle.decision_model.specs.declared.lots.LotSize.{LotSize}
use Rattle.decision_model.specs.Lots.{IsReadableLots, IsValidLots}
use Rattle.value_cert.specs.LotRecursion.{cost_by, least_costs, least_cost, last_order}
use Rattle.lot_lemmas.specs.LotSums.{sum_from-first}
use Rattle.lot_lemmas.specs.LotRecursionFacts.{cost_before, cost_by-is, IsLatestLeast, is_latest_least, least_costs-at, length-least_costs}
use Rattle.lot_lemmas.specs.LotServing.{served, held, serving-parts, held-first}
use Rattle.lot_lemmas.specs.LotSolved.{least_bound}

-- the demand from a period on to another, and what holding it costs
pub record IsStretch (item : LotSize) (period start units holding : ℕ) : Type 0 where
  pub upto : start ≤ period
  pub inside : period < length item.demand
  pub units_are : units ≡ served item start (suc period - start)
  pub held_is : holding ≡ held item start (suc period - start)
  pub few_units : units ≤ 1000000 * (suc period - start)
  pub little_held : holding ≤ 2000000000000000 * (suc period - start)

-- the latest least last order period from a period on
pub record IsLatestFrom (item : LotSize) (period start best cost : ℕ) : Type 0 where
  pub after : start ≤ best
  pub within : best ≤ period
  pub cost_is : cost ≡ cost_before item best (suc period)
  pub least : (k : ℕ) → start ≤ k → k ≤ period → cost ≤ cost_before item k (suc period)
  pub latest : (k : ℕ) → best < k → k ≤ period → cost < cost_before item k (suc period)

pub one_period : (item : LotSize) → IsReadableLots item → (period : ℕ) → period < length item.demand → IsStretch item period period (slice_index item.demand period) 0
one_period item readable period inside =
    let one : suc period - period ≡ 1 = omega arith in
    record {
      upto = omega arith;
      inside = inside;
      units_are = omega (arith, ap (served item period) one, sum_from-first (slice_index item.demand) period 0);
      held_is = omega (arith, ap (held item period) one, held-first item period 0 (omega (arith, readable.holding_each)));
      few_units = omega (arith, readable.demand period 0 inside);
      little_held = omega arith;
    }

-- one period more in front
pub longer_stretch : (item : LotSize) → IsReadableLots item → (period start units holding : ℕ) → IsStretch item period (suc start) units holding → IsStretch item period start (units + slice_index item.demand start) (holding + slice_index item.holding start * units)
longer_stretch item readable period start units holding is =
    let count : suc period - start ≡ suc (suc period - suc start) = omega (arith, is.upto) in
    let next : start + 1 ≡ suc start = omega arith in
    let many : suc period - suc start ≤ 2000 = omega (arith, is.inside, readable.most_periods) in
    let rate : slice_index item.holding start ≤ 1000000 = readable.holding start 0 (omega (arith, is.upto, is.inside, readable.holding_each)) in
    let grown = mul-le (slice_index item.holding start) units 1000000 2000000000 rate (omega (arith, is.few_units, many)) in
    let sums : served item start (suc period - start) ≡ slice_index item.demand start + served item (suc start) (suc period - suc start) =
    ap (served item start) count ∙ sum_from-first (slice_index item.demand) start (suc period - suc start) ∙ ap (λ k. slice_index item.demand start + served item k (suc period - suc start)) next in
    let holds : held item start (suc period - start) ≡ slice_index item.holding start * served item (suc start) (suc period - suc start) + held item (suc start) (suc period - suc start) =
    ap (held item start) count ∙ held-first item start (suc period - suc start) (omega (arith, is.upto, is.inside, readable.holding_each))
    ∙ ap (λ k. slice_index item.holding start * served item k (suc period - suc start) + held item k (suc period - suc start)) next in
    let own : slice_index item.holding start * units ≡ slice_index item.holding start * served item (suc start) (suc period - suc start) = ap (λ x. slice_index item.holding start * x) is.units_are in
    record {
      upto = omega (arith, is.upto);
      inside = is.inside;
      units_are = omega (arith, sums, is.units_are);
      held_is = omega (arith, holds, own, is.held_is);
      few_units = omega (arith, count, is.few_units, readable.demand start 0 (omega (arith, is.upto, is.inside)));
      little_held = omega (arith, count, is.little_held, grown);
    }

-- the cost with the last order at the beginning of a stretch
pub stretch_cost : (item : LotSize) (costs : List ℕ) (period start units holding : ℕ) → costs ≡ least_costs item period → IsStretch item period start units holding → slice_index costs start + (slice_index item.setup start + (slice_index item.unit start * units + holding)) ≡ cost_before item start (suc period)
unfolding cost_before
stretch_cost item costs period start units holding same is =
    let before : slice_index costs start ≡ least_cost item start = ap (λ xs. slice_index xs start) same ∙ least_costs-at item period start is.upto in
    let bought : slice_index item.unit start * units ≡ slice_index item.unit start * served item start (suc period - start) = ap (λ x. slice_index item.unit start * x) is.units_are in
    omega (arith, before, bought, is.held_is, serving-parts item start start (suc period - start))

-- ---- the best so far
pub first_best : (item : LotSize) (period cost : ℕ) → cost ≡ cost_before item period (suc period) → IsLatestFrom item period period period cost
first_best item period cost same = record {
  after = omega arith;
  within = omega arith;
  cost_is = same;
  least = λ k from upto. let at : k ≡ period = omega arith in rw at (omega (arith, same));
  latest = λ k after upto. absurd (omega arith);
}

pub better : (item : LotSize) (period start best cost found : ℕ) → IsLatestFrom item period (suc start) best cost → found ≡ cost_before item start (suc period) → found < cost → IsLatestFrom item period start start found
better item period start best cost found is same less = record {
  after = omega arith;
  within = omega (arith, is.after, is.within);
  cost_is = same;
  least = λ k from upto. least_at k upto (cases_lt start k) from;
  latest = λ k after upto. omega (arith, less, is.least k (omega arith) upto);
}
  where
    least_at : (k : ℕ) → k ≤ period → (start < k) ⊎ (k ≤ start) → start ≤ k → found ≤ cost_before item k (suc period)
    least_at k upto (inl after) from = omega (arith, less, is.least k (omega arith) upto)
    least_at k upto (inr before) from = let at : k ≡ start = omega arith in rw at (omega (arith, same))

pub no_better : (item : LotSize) (period start best cost found : ℕ) → IsLatestFrom item period (suc start) best cost → found ≡ cost_before item start (suc period) → cost ≤ found → IsLatestFrom item period start best cost
no_better item period start best cost found is same more = record {
  after = omega (arith, is.after);
  within = is.within;
  cost_is = is.cost_is;
  least = λ k from upto. least_at k upto (cases_lt start k) from;
  latest = is.latest;
}
  where
    least_at : (k : ℕ) → k ≤ period → (start < k) ⊎ (k ≤ start) → start ≤ k → cost ≤ cost_before item k (suc period)
    least_at k upto (inl after) from = is.least k (omega arith) upto
    least_at k upto (inr before) from = let at : k ≡ start = omega arith in rw at (omega (arith, same, more))

-- the best from a period on is the best of all, where no last order period is before it
pub is_last_order : (item : LotSize) (period start best cost : ℕ) → IsLatestFrom item period start best cost → start ≤ last_order item period → best ≡ last_order item period
is_last_order item period start best cost is ahead = by_order (cases_lt best (last_order item period)) (cases_lt (last_order item period) best)
  where
    all : IsLatestLeast (cost_by item (least_costs item period) period) period (last_order item period)
    all = is_latest_least (cost_by item (least_costs item period) period) period

    no_more : cost_before item (last_order item period) (suc period) ≤ cost_before item best (suc period)
    no_more = rw (cost_by-is item period (last_order item period) all.within, cost_by-is item period best is.within) at (all.least best is.within)

    by_order : (best < last_order item period) ⊎ (last_order item period ≤ best) → (last_order item period < best) ⊎ (best ≤ last_order item period) → best ≡ last_order item period
    by_order (inl before) other = absurd (omega (arith, is.latest (last_order item period) before all.within, no_more, is.cost_is))
    by_order (inr ge) (inl after) =
        let less : cost_before item (last_order item period) (suc period) < cost_before item best (suc period) = rw (cost_by-is item period (last_order item period) all.within, cost_by-is item period best is.within) at (all.latest best is.within after) in
        absurd (omega (arith, less, is.least (last_order item period) ahead all.within, is.cost_is))
    by_order (inr ge) (inr le) = omega arith

-- ---- as the code counts, with the period before a start as start - 1
before_start : (P : ℕ → Type 0) (start : ℕ) → 0 < start → P start → P (suc (start - 1))
before_start P zero some at = absurd (omega arith)
before_start P (suc start) some at = let same : suc start - 1 ≡ start = omega arith in rw same at

pub next_stretch : (item : LotSize) → IsReadableLots item → (demand holding : List ℕ) → demand ≡ item.demand → holding ≡ item.holding → (period start units held_so_far : ℕ) → 0 < start → IsStretch item period start units held_so_far → IsStretch item period (start - 1) (units + slice_index demand (start - 1)) (held_so_far + slice_index holding (start - 1) * units)
next_stretch item readable demand holding same_demand same_holding period start units held_so_far some is =
    rw (same_demand, same_holding) (longer_stretch item readable period (start - 1) units held_so_far (before_start (λ k. IsStretch item period k units held_so_far) start some is))

pub next_better : (item : LotSize) (period start best cost found : ℕ) → 0 < start → IsLatestFrom item period start best cost → found ≡ cost_before item (start - 1) (suc period) → found < cost → IsLatestFrom item period (start - 1) (start - 1) found
next_better item period start best cost found some is same less = better item period (start - 1) best cost found (before_start (λ k. IsLatestFrom item period k best cost) start some is) same less

pub next_no_better : (item : LotSize) (period start best cost found : ℕ) → 0 < start → IsLatestFrom item period start best cost → found ≡ cost_before item (start - 1) (suc period) → cost ≤ found → IsLatestFrom item period (start - 1) best cost
next_no_better item period start best cost found some is same more = no_better item period (start - 1) best cost found (before_start (λ k. IsLatestFrom item period k best cost) start some is) same more

-- the numbers of a stretch
pub stretch_small : (item : LotSize) → IsReadableLots item → (period start units held_so_far : ℕ) → IsStretch item period start units held_so_far → (units ≤ 2000000000) × (held_so_far ≤ 4000000000000000000)
stretch_small item readable period start units held_so_far is =
    let many : suc period - start ≤ 2000 = omega (arith, is.inside, readable.most_periods) in
    (omega (arith, many, is.few_units), omega (arith, many, is.little_held))

-- the least costs of the first periods
pub costs_known : (item : LotSize) → IsValidLots item → (costs : List ℕ) (period : ℕ) → costs ≡ least_costs item period → period < length item.demand → (start : ℕ) → start ≤ period → (start < length costs) × (slice_index costs start ≤ 4000000000000000)
costs_known item valid costs period same inside start upto = (
  omega (arith, ap length same, length-least_costs item period),
  omega (arith, ap (λ xs. slice_index xs start) same, least_costs-at item period start upto, least_bound item valid start (omega arith), valid.readable.most_periods),
)
