-- How large the numbers of lots are.
use Rattle.std.proofs.Common.{ℕ, ◌+◌, ◌-◌, ◌*◌, ◌^◌, ◌<◌, ◌≤◌, length, slice_index, sum, drop, arith}
use Rattle.std.proofs.lemmas.List.Sums.{sum_by-le, sum_by-take-le, sum_by-take-drop}
use Rattle.std.proofs.lemmas.Nat.{mul-le}
use Rattle.decision_model.specs.declared.lots.LotSize.{LotSize}
use Rattle.decision_model.specs.Lots.{IsReadableLots}
use Rattle.value_cert.specs.LotPlans.{holding_between}

pub demand_small : (item : LotSize) → IsReadableLots item → (k : ℕ) → k < length item.demand → slice_index item.demand k ≤ 1000000
demand_small item readable k lt = readable.demand k 0 lt

pub setup_small : (item : LotSize) → IsReadableLots item → (k : ℕ) → k < length item.demand → slice_index item.setup k ≤ 1000000000000
setup_small item readable k lt = readable.setup k 0 (omega (arith, readable.setup_each))

pub unit_small : (item : LotSize) → IsReadableLots item → (k : ℕ) → k < length item.demand → slice_index item.unit k ≤ 1000000
unit_small item readable k lt = readable.unit k 0 (omega (arith, readable.unit_each))

pub holding_small : (item : LotSize) → IsReadableLots item → (k : ℕ) → k < length item.demand → slice_index item.holding k ≤ 1000000
holding_small item readable k lt = readable.holding k 0 (omega (arith, readable.holding_each))

pub whole_small : (item : LotSize) → IsReadableLots item → sum item.demand ≤ 2000000000
whole_small item readable = omega (arith, sum_by-le (λ x. x) 1000000 item.demand readable.demand, readable.most_periods)

pub holding_between_small : (item : LotSize) → IsReadableLots item → (t k : ℕ) → holding_between item t k ≤ 2000000000
holding_between_small item readable t k =
    omega (arith, sum_by-take-le (λ x. x) (drop t item.holding) (k - t), sum_by-take-drop (λ x. x) item.holding t, sum_by-le (λ x. x) 1000000 item.holding readable.holding, readable.holding_each, readable.most_periods)

-- the cost of serving a period
pub serving_small : (demand unit held : ℕ) → demand ≤ 1000000 → unit ≤ 1000000 → held ≤ 2000000000 → demand * (unit + held) < 2 ^ 64
serving_small demand unit held d u h = omega (arith, mul-le demand (unit + held) 1000000 2001000000 d (omega arith))

-- the cost of a period
pub period_small : (setup unit order holding stock : ℕ) → setup ≤ 1000000000000 → unit ≤ 1000000 → order < 2 ^ 64 → holding ≤ 1000000 → stock < 2 ^ 64 → setup + unit * order + holding * stock ≤ 2 ^ 88
period_small setup unit order holding stock s u o h k =
    omega (arith, mul-le unit order 1000000 18446744073709551616 u (omega arith), mul-le holding stock 1000000 18446744073709551616 h (omega arith))
