-- Pauses, of which no two of one node and kind share a period.
use Rattle.std.specs.Prelude.{ℕ, suc, ◌≤◌, ◌<◌, ◌&&◌, List, length, take, Bool, true, false, not, ◌==◌, nat_le, max, Option, option_map}
use Rattle.std.specs.List.{list_all, list_any}
use Rattle.std.proofs.Common.{get_or}
use Rattle.network_model.specs.declared.network.Span.{Span}
use Rattle.network_model.specs.declared.network.Pause.{Pause}
use Rattle.network_model.specs.declared.network.Pause.TheVariants.{Orders, Shipments, Receipts}
use Rattle.network_model.specs.Nodes.{first_failing}

pub record IsReadableSpan (periods nodes : ℕ) (span : Span) : Type 0 where
  pub node : span.node < nodes
  pub from_one : 1 ≤ span.from
  pub to : span.from ≤ span.to
  pub within : span.to ≤ periods

abbrev pub same_pause : Pause → Pause → Bool
same_pause Orders Orders = true
same_pause Orders Shipments = false
same_pause Orders Receipts = false
same_pause Shipments Orders = false
same_pause Shipments Shipments = true
same_pause Shipments Receipts = false
same_pause Receipts Orders = false
same_pause Receipts Shipments = false
same_pause Receipts Receipts = true

-- whether a span of the kind and node holds period t, both ends counted
abbrev pub holds : Pause → ℕ → ℕ → Span → Bool
holds what node t span = same_pause span.what what && (span.node == node) && nat_le span.from t && nat_le t span.to

abbrev pub is_paused : List Span → Pause → ℕ → ℕ → Bool
is_paused spans what node t = list_any (holds what node t) spans

-- whether both hold the later of their first periods: where they share a period, they share this one
abbrev pub share_a_period : Span → Span → Bool
share_a_period a b = holds b.what b.node (max a.from b.from) a && holds b.what b.node (max a.from b.from) b

-- whether no period is paused by both
abbrev pub are_apart : Span → Span → Bool
are_apart a b = not (share_a_period a b)

abbrev pub no_span : Span
no_span = record { node = 0; what = Orders; from = 0; to = 0 }

-- no pause before pause k shares node, kind and a period with it
abbrev pub is_apart_at : List Span → ℕ → Bool
is_apart_at spans k = list_all (are_apart (get_or spans k no_span)) (take k spans)

-- the first pause, from 1, that shares node, kind and a period with an earlier one
unfoldable pub overlapping_span : List Span → Option ℕ
overlapping_span spans = option_map suc (first_failing (is_apart_at spans) (length spans))
