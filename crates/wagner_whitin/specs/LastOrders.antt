-- The last order periods of an instance, as the plan is read back from them.
use Rattle.std.specs.Prelude.{◌≡◌, ℕ, ◌<◌, ◌≢◌, List, length, slice_index}
use Rattle.decision_model.specs.declared.lots.LotSize.{LotSize}
use Rattle.value_cert.specs.LotRecursion.{last_order}

-- one entry a period, which is its last order period where it has demand
pub record HasLastOrders (item : LotSize) (last_orders : List ℕ) : Type 0 where
  pub each : length last_orders ≡ length item.demand
  pub entries : (s : ℕ) → s < length item.demand → slice_index item.demand s ≢ 0 → slice_index last_orders s ≡ last_order item s
