-- Tables of spans in order: by node, kind and period.
use Rattle.std.specs.Prelude.{◌≡◌, ℕ, ◌+◌, ◌*◌, ◌<◌, ◌≤◌, List, [], ◌∷◌, All, ⊤, Bool, true, ◌&&◌, ◌||◌}
use Rattle.std.specs.List.{list_any, list_all}
use Rattle.network_model.specs.declared.network.Span.{Span}
use Rattle.network_model.specs.declared.network.Pause.{Pause}
use Rattle.network_model.specs.declared.network.Pause.TheVariants.{Orders, Shipments, Receipts}
use Rattle.disruption.specs.Calendars.{PausesAlike}

-- the order of kinds
abbrev pub rank : Pause → ℕ
rank Orders = 0
rank Shipments = 1
rank Receipts = 2

-- the order of nodes, and of kinds at a node
abbrev pub group : ℕ → Pause → ℕ
group node what = 3 * node + rank what

-- a stands before b: it is of an earlier node or kind, or of the same and ends before b begins
pub record IsBefore (a b : Span) : Type 0 where
  pub order : group a.node a.what ≤ group b.node b.what
  pub ends : group a.node a.what ≡ group b.node b.what → a.to < b.from

-- each span holds a period and stands before all that follow
abbrev pub IsTable : List Span → Type 0
IsTable [] = ⊤
IsTable (a ∷ rest) = (a.from ≤ a.to) × All (IsBefore a) rest × IsTable rest

-- a span is of this node and kind and begins at or before period t, or is of an earlier one
pub record Begins (node : ℕ) (what : Pause) (t : ℕ) (a : Span) : Type 0 where
  pub order : group a.node a.what ≤ group node what
  pub begins : group a.node a.what ≡ group node what → a.from ≤ t

-- a span is of this node and kind and begins after period t, or is of a later one
pub record Follows (node : ℕ) (what : Pause) (t : ℕ) (a : Span) : Type 0 where
  pub order : group node what ≤ group a.node a.what
  pub begins : group a.node a.what ≡ group node what → t < a.from

-- a list has the elements of another one and one more
pub record HasOneMore (span : Span) (before after : List Span) : Type 0 where
  pub some : (p : Span → Bool) → list_any p after ≡ (p span || list_any p before)
  pub each : (p : Span → Bool) → list_all p after ≡ (p span && list_all p before)

-- a table says the same of each node and period as the spans seen so far, and has no other spans
pub record IsTableOf (seen table : List Span) : Type 0 where
  pub ordered : IsTable table
  pub alike : PausesAlike table seen
  pub each : (p : Span → Bool) → list_all p seen ≡ true → list_all p table ≡ true
