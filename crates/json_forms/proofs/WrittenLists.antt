-- The data of lists that are written.
use Rattle.std.proofs.Common.{◌≡◌, ℕ, List, [], ◌∷◌, length, get_or, map, Vec, Global, sym, ap, ◌∙◌, refl, arith}
use Rattle.serde_json.specs.Data.{Data, array}
use Rattle.serde_json.specs.View.{view, items_of}
use Rattle.serde_json.specs.declared.value.Value.{Value, Array}
use Rattle.serde_json.proofs.Views.{view-Array}
use Rattle.json_forms.specs.WrittenValues.{list_data, law_data, laws_data}

-- a value that holds the items is their list
pub view-list : (values : Vec Value Global) (ds : List Data) → map view values.items ≡ ds → view (Array values) ≡ list_data ds
view-list values ds same = view-Array values ∙ ap (λ (xs : List Data). array (items_of xs)) same

-- one law is written as that law
pub laws_data-one : (laws : List (List ℕ)) (law : List ℕ) → length laws ≡ 1 → law ≡ get_or laws 0 law → laws_data laws ≡ law_data law
unfolding laws_data
laws_data-one [] law one is = absurd (omega arith)
laws_data-one (x ∷ []) law one is = ap law_data (sym is)
laws_data-one (x ∷ y ∷ laws) law one is = absurd (omega arith)

-- and any other number of them as a list
pub laws_data-several : (laws : List (List ℕ)) → (length laws ≡ 1 → ⊥) → laws_data laws ≡ list_data (map law_data laws)
unfolding laws_data
laws_data-several [] several = refl
laws_data-several (x ∷ []) several = absurd (several refl)
laws_data-several (x ∷ y ∷ laws) several = refl
