-- Lists of objects, each with keys of its own.
use Rattle.std.specs.Prelude.{ℕ, suc, List, [], ◌∷◌, Bool, if◌then◌else◌, Option, Some, None, is_some, Result, Ok, Err}
use Rattle.std.specs.List.{list_all}
use Rattle.serde_json.specs.Data.{Data}
use Rattle.serde_json.specs.Find.{as_object}
use Rattle.json_forms.specs.declared.fault.KeyList.{KeyList}
use Rattle.json_forms.specs.declared.fault.FieldFault.{FieldFault}
use Rattle.json_forms.specs.declared.fault.FieldFault.TheVariants.{WrongType}
use Rattle.json_forms.specs.declared.fault.InstanceFault.{InstanceFault}
use Rattle.json_forms.specs.Faults.{of_item}
use Rattle.json_forms.specs.Steps.{◌>>=◌}
use Rattle.json_forms.specs.Numbers.{items_in, of_length_within}
use Rattle.json_forms.specs.Keys.{Row, has_keys}

abbrev pub is_object : Data → Bool
is_object d = is_some (as_object d)

abbrev pub list_or_fault : Option (List Data) → Result (List Data) FieldFault
list_or_fault None = Err WrongType
list_or_fault (Some ds) = Ok ds

abbrev pub all_objects : List Data → Result (List Data) FieldFault
all_objects ds = if list_all is_object ds then Ok ds else Err WrongType

-- a list of `least` to `most` objects: a list, its length, and then its items
abbrev pub objects_in : ℕ → ℕ → Data → Result (List Data) FieldFault
objects_in least most d = do
  listed ← list_or_fault (items_in d)
  few ← of_length_within least most listed
  all_objects few

-- the keys of an item, and then their values
abbrev pub item_of : {A : Type 0} → List Row → (Data → Result A InstanceFault) → Data → Result A InstanceFault
item_of keys reading d = do
  _ ← has_keys keys d
  reading d

-- the items one by one, the first of which has this place
abbrev pub items_from : {A : Type 0} → KeyList → ℕ → (Data → Result A InstanceFault) → List Data → Result (List A) InstanceFault
items_from list place reading [] = Ok []
items_from list place reading (d ∷ ds) = do
  a ← of_item list place (reading d)
  rest ← items_from list (suc place) reading ds
  Ok (a ∷ rest)
