-- Lot sizing: ranges, and speculative costs.
use Rattle.std.specs.Prelude.{◌≡◌, ℕ, ◌+◌, ◌-◌, ◌<◌, ◌≤◌, length, slice_index, All, Bool, true, nat_lt, Option, find, ⊤}
use Rattle.std.specs.List.{range_with_len}
use Rattle.decision_model.specs.declared.lots.LotSize.{LotSize}
use Rattle.decision_model.specs.Limits.{most_lot_periods, most_lot_demand, most_lot_setup}
use Rattle.decision_model.specs.declared.kinds.Kind.TheVariants as kind
use Rattle.decision_model.specs.Rules.{Rules}
use Rattle.decision_model.specs.Rates.{IsRate}

-- from 1 to 2,000 periods, each with a demand and rates in range
pub record IsReadableLots (lots : LotSize) : Type 0 where
  pub some_period : 1 ≤ length lots.demand
  pub most_periods : length lots.demand ≤ most_lot_periods
  pub setup_each : length lots.setup ≡ length lots.demand
  pub unit_each : length lots.unit ≡ length lots.demand
  pub holding_each : length lots.holding ≡ length lots.demand
  pub demand : All (λ units. units ≤ most_lot_demand) lots.demand
  pub setup : All (λ cost. cost ≤ most_lot_setup) lots.setup
  pub unit : All IsRate lots.unit
  pub holding : All IsRate lots.holding

-- costs are speculative in period t, from 1, where a unit ordered then and held costs less than one ordered a period later
abbrev pub is_speculative : LotSize → ℕ → Bool
is_speculative lots t = nat_lt (slice_index lots.unit (t - 1) + slice_index lots.holding (t - 1)) (slice_index lots.unit t)

-- the first period with speculative costs; the last one has no later one
unfoldable pub speculative_period_of : LotSize → Option ℕ
speculative_period_of lots = find (is_speculative lots) (range_with_len 1 (length lots.unit - 1))

-- no unit ordered later, in period t + 1, costs more than one ordered in period t and held
abbrev pub CanWait : LotSize → ℕ → Type 0
CanWait lots t = slice_index lots.unit t ≤ slice_index lots.unit (t - 1) + slice_index lots.holding (t - 1)

-- period t has speculative costs, and none before it has
pub record IsFirstSpeculative (lots : LotSize) (t : ℕ) : Type 0 where
  pub counted_from_one : 1 ≤ t
  pub not_last : t < length lots.unit
  pub speculative : slice_index lots.unit (t - 1) + slice_index lots.holding (t - 1) < slice_index lots.unit t
  pub first : (earlier : ℕ) → 1 ≤ earlier → earlier < t → CanWait lots earlier

-- no period has speculative costs
abbrev pub HasNoSpeculation : LotSize → Type 0
HasNoSpeculation lots = (t : ℕ) → 1 ≤ t → t < length lots.unit → CanWait lots t

-- what a plan is made for: numbers in range, and no period with speculative costs
pub record IsValidLots (lots : LotSize) : Type 0 where
  pub readable : IsReadableLots lots
  pub no_speculation : HasNoSpeculation lots

abbrev pub lots_rules : LotSize → Rules
lots_rules lots = record {
  kind = kind.Lots;
  readable = IsReadableLots lots;
  grid = ⊤;
  grid_test = true;
  width = ⊤;
  width_test = true;
  regular = IsValidLots lots;
  valid = IsValidLots lots;
}
