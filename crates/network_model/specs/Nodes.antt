-- The nodes of a network: their ranges, and what a rule orders up to.
use Rattle.std.specs.Prelude.{◌≡◌, ℕ, suc, zero, ◌≤◌, ◌&&◌, pos, ◌+ℤ◌, ◌<ℤ◌, List, [], ◌∷◌, length, Bool, true, false, ◌==◌, IsTrue, Option, Some, None, All, ⊤, max}
use Rattle.std.proofs.Common.{get_or}
use Rattle.demand_law.specs.Law.{greatest_of}
pub use Rattle.model_terms.specs.Names.{is_name_byte, is_node_name, outside}
use Rattle.network_model.specs.declared.network.NodeSpec.{NodeSpec}
use Rattle.network_model.specs.declared.network.Link.{Link}
use Rattle.network_model.specs.declared.network.Rule.{Rule}
use Rattle.network_model.specs.declared.network.Rule.TheVariants.{Base, MinMax, Lot, Echelon, House}
use Rattle.network_model.specs.declared.network.Demand.{Demand}
use Rattle.network_model.specs.declared.network.Demand.TheVariants.{Nobody, Trace, Drawn}
use Rattle.network_model.specs.Limits.{most_initial, most_lot, most_house_index, most_house_cap, most_sources, most_network_lead, most_trace}
use Rattle.model_terms.specs.Positions.{IsPosition, above_zero}
use Rattle.model_terms.specs.Rates.{IsRate}
use Rattle.model_terms.specs.DemandLaws.{IsDemandLaw}

-- ---- rules
abbrev pub IsReadableRule : Rule → Type 0
IsReadableRule (Base level) = IsPosition level
IsReadableRule (MinMax low high) = IsPosition low × IsPosition high × (low <ℤ high)
IsReadableRule (Lot reorder lot) = IsPosition reorder × (1 ≤ lot) × (lot ≤ most_lot)
IsReadableRule (Echelon level) = IsPosition level
IsReadableRule (House index cap) = (index ≤ most_house_index) × (cap ≤ most_house_cap)

-- no order takes the position above this
abbrev pub peak_of : Rule → ℕ
peak_of (Base level) = above_zero level
peak_of (MinMax low high) = above_zero high
peak_of (Lot reorder lot) = above_zero (reorder +ℤ pos lot)
peak_of (Echelon level) = above_zero level
peak_of (House index cap) = 0

abbrev pub is_echelon : Rule → Bool
is_echelon (Echelon level) = true
is_echelon (Base level) = false
is_echelon (MinMax low high) = false
is_echelon (Lot reorder lot) = false
is_echelon (House index cap) = false

-- ---- demand
abbrev pub greatest : List ℕ → ℕ
greatest [] = 0
greatest (d ∷ ds) = max d (greatest ds)

-- the greatest demand of a period
abbrev pub top_of : Demand → ℕ
top_of Nobody = 0
top_of (Trace ds) = greatest ds
top_of (Drawn law) = greatest_of law

abbrev pub IsReadableDemand : ℕ → Demand → Type 0
IsReadableDemand periods Nobody = ⊤
IsReadableDemand periods (Trace ds) = (length ds ≡ periods) × All (λ d. d ≤ most_trace) ds
IsReadableDemand periods (Drawn law) = IsDemandLaw law

-- ---- nodes
pub record IsReadableLink (link : Link) : Type 0 where
  pub lead : link.lead ≤ most_network_lead
  pub order_lead : link.order_lead ≤ most_network_lead

pub record IsReadableNode (periods : ℕ) (node : NodeSpec) : Type 0 where
  pub name : IsTrue (is_node_name node.name)
  pub initial : node.initial ≤ most_initial
  pub holding : IsRate node.holding
  pub stockout : IsRate node.stockout
  pub rule : IsReadableRule node.rule
  pub some_sources : 1 ≤ length node.sources
  pub few_sources : length node.sources ≤ most_sources
  pub sources : All IsReadableLink node.sources
  pub demand : IsReadableDemand periods node.demand

abbrev pub no_node : NodeSpec
no_node = record { name = []; initial = 0; holding = 0; stockout = 0; rule = Base (pos 0); sources = []; demand = Nobody }

abbrev pub no_link : Link
no_link = record { from = None; lead = 0; order_lead = 0 }

-- the node at a place, from 0
abbrev pub node_at : List NodeSpec → ℕ → NodeSpec
node_at nodes i = get_or nodes i no_node

-- whether a source is node i
abbrev pub is_from : ℕ → Option ℕ → Bool
is_from i None = false
is_from i (Some k) = k == i

-- the least place below n at which a test fails
abbrev pub or_place : Option ℕ → Bool → ℕ → Option ℕ
or_place (Some k) passes n = Some k
or_place None true n = None
or_place None false n = Some n

abbrev pub first_failing : (ℕ → Bool) → ℕ → Option ℕ
first_failing passes zero = None
first_failing passes (suc n) = or_place (first_failing passes n) (passes n) n

-- whether all places below n pass a test
abbrev pub each_below : (ℕ → Bool) → ℕ → Bool
each_below passes zero = true
each_below passes (suc n) = each_below passes n && passes n
