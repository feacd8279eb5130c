use Rattle.std.proofs.Common.{◌≡◌, ℕ, List, map}
use Rattle.std.specs.Str.{bytes_eq}
use Rattle.std.specs.HashMap.{get_by}
use Rattle.serde_json.specs.View.{view}
use Rattle.network_json.specs.Names.{names_in, place_below}
use Rattle.network_json.proofs.names.Names.of.Given as goal

abbrev pub invariant-loop-place : goal.invariant-loop-place
invariant-loop-place l = (name : List ℕ) → get_by (λ k. bytes_eq name k.now) l.places ≡ place_below (names_in (map view l.nodes)) name l.place
