-- The rules by which nodes order, in JSON values.
use Rattle.std.specs.Prelude.{◌&&◌, ◌==◌, ℤ, List, [], ◌∷◌, length, codes, Bool, if◌then◌else◌, int_lt, Option, Some, None, Result, Ok, Err}
use Rattle.std.specs.List.{list_all}
use Rattle.serde_json.specs.Data.{Data}
use Rattle.serde_json.specs.Find.{get, as_object}
use Rattle.network_model.specs.declared.network.Rule.{Rule}
use Rattle.network_model.specs.declared.network.Rule.TheVariants.{Base, MinMax, Lot, Echelon, House}
use Rattle.network_model.specs.Limits.{most_lot, most_house_index, most_house_cap}
use Rattle.json_forms.specs.declared.fault.FieldFault.{FieldFault}
use Rattle.json_forms.specs.declared.fault.FieldFault.TheVariants.{WrongType, OutOfRange}
use Rattle.json_forms.specs.Steps.{◌>>=◌}
use Rattle.json_forms.specs.Numbers.{position_in}
use Rattle.json_forms.specs.LawTexts.{key_count}
use Rattle.json_forms.specs.NodeNames.{Name}
use Rattle.network_json.specs.Sources.{is_number, amount_under}

-- an object that has a whole number under each of these keys, and no other key
abbrev pub has_numbers : List Name → Data → Bool
has_numbers names d = list_all (λ name. is_number (get name d)) names && (key_count (as_object d) == length names)

abbrev pub position_under : Option Data → Result ℤ FieldFault
position_under None = Err WrongType
position_under (Some d) = position_in d

abbrev pub base_in : Data → Result Rule FieldFault
base_in d = do
  level ← position_under (get (codes "base") d)
  Ok (Base level)

-- the low level is below the high one
abbrev pub min_max_in : Data → Result Rule FieldFault
min_max_in d = do
  low ← position_under (get (codes "min") d)
  high ← position_under (get (codes "max") d)
  if int_lt low high then Ok (MinMax low high) else Err OutOfRange

abbrev pub lot_in : Data → Result Rule FieldFault
lot_in d = do
  reorder ← position_under (get (codes "reorder") d)
  lot ← amount_under 1 most_lot (get (codes "lot") d)
  Ok (Lot reorder lot)

abbrev pub echelon_in : Data → Result Rule FieldFault
echelon_in d = do
  level ← position_under (get (codes "echelon") d)
  Ok (Echelon level)

abbrev pub house_in : Data → Result Rule FieldFault
house_in d = do
  index ← amount_under 0 most_house_index (get (codes "house") d)
  cap ← amount_under 0 most_house_cap (get (codes "cap") d)
  Ok (House index cap)

-- a rule, by its keys
abbrev pub rule_in : Data → Result Rule FieldFault
rule_in d =
    if has_numbers (codes "base" ∷ []) d then base_in d
    else (if has_numbers (codes "min" ∷ codes "max" ∷ []) d then min_max_in d
    else (if has_numbers (codes "reorder" ∷ codes "lot" ∷ []) d then lot_in d
    else (if has_numbers (codes "echelon" ∷ []) d then echelon_in d
    else (if has_numbers (codes "house" ∷ codes "cap" ∷ []) d then house_in d
    else Err WrongType))))
