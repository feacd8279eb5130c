-- A map from names to their last places.
use Rattle.std.specs.Prelude.{◌≡◌, ℕ, List}
use Rattle.std.specs.Str.{bytes_eq}
use Rattle.std.specs.HashMap.{HashMap, get_by}
use Rattle.std.proofs.Common.{Bor}
use Rattle.json_forms.specs.NodeNames.{Name}
use Rattle.network_json.specs.Names.{place_of}

-- a look-up finds the last place of each name
abbrev pub FindsPlaces : {S : Type 0} → HashMap (Bor (List ℕ)) ℕ S → List Name → Type 0
FindsPlaces places names = (name : Name) → get_by (λ k. bytes_eq name k.now) places ≡ place_of names name
