-- The items of a list.
use Rattle.std.proofs.Common.{◌≡◌, List, [], ◌∷◌, map, Option, Some, refl, sym, ap, ◌∙◌, option_map}
use Rattle.serde_json.specs.Data.{Data, Items}
use Rattle.serde_json.specs.View.{view, items_of, items_view}
use Rattle.serde_json.specs.declared.value.Value.{Value}
use Rattle.json_forms.specs.Numbers.{list_of}

list_of-items_of : (ds : List Data) → list_of (items_of ds) ≡ ds
list_of-items_of [] = refl
list_of-items_of (d ∷ ds) = ap (λ es. d ∷ es) (list_of-items_of ds)

pub items_are : (vs items : List Value) (found : Option Items) → items ≡ vs → Some (items_view vs) ≡ found → Some (map view items) ≡ option_map list_of found
items_are vs items found same e = ap (λ (xs : List Value). Some (map view xs)) same ∙ ap Some (sym (list_of-items_of (map view vs))) ∙ ap (option_map list_of) e
