-- Whole numbers and lists of them in JSON values.
use Rattle.std.specs.Prelude.{ℕ, ◌&&◌, ◌||◌, ℤ, pos, List, [], ◌∷◌, length, replicate, Bool, nat_le, int_le, if◌then◌else◌, Option, Some, None, is_some, is_ok, option_map, option_and_then, Result, Ok, Err}
use Rattle.std.specs.List.{list_all}
use Rattle.serde_json.specs.Data.{Data, Items, no_items, item}
use Rattle.serde_json.specs.Find.{as_number, as_u64, as_i64, as_array}
use Rattle.model_terms.specs.Limits.{least_position, most_position, most_cap}
use Rattle.json_forms.specs.declared.fault.FieldFault.{FieldFault}
use Rattle.json_forms.specs.declared.fault.FieldFault.TheVariants.{WrongType, OutOfRange, LengthMismatch}
use Rattle.json_forms.specs.Steps.{◌>>=◌, each}

-- a number without fraction or exponent that fits 64 bits, with a sign or without
abbrev pub is_whole : Data → Bool
is_whole d = is_some (option_and_then as_i64 (as_number d)) || is_some (option_and_then as_u64 (as_number d))

abbrev pub within : ℕ → ℕ → Option ℕ → Result ℕ FieldFault
within least most None = Err OutOfRange
within least most (Some n) = if nat_le least n && nat_le n most then Ok n else Err OutOfRange

-- a whole number from `least` to `most`
abbrev pub amount_in : ℕ → ℕ → Data → Result ℕ FieldFault
amount_in least most d = if is_whole d then within least most (option_and_then as_u64 (as_number d)) else Err WrongType

-- whether a value is such a number
abbrev pub is_amount : ℕ → ℕ → Data → Bool
is_amount least most d = is_ok (amount_in least most d)

abbrev pub position_within : Option ℤ → Result ℤ FieldFault
position_within None = Err OutOfRange
position_within (Some z) = if int_le least_position z && int_le z most_position then Ok z else Err OutOfRange

-- a whole number from -1,000,000 to 1,000,000
abbrev pub position_in : Data → Result ℤ FieldFault
position_in d = if is_whole d then position_within (option_and_then as_i64 (as_number d)) else Err WrongType

-- a cap, from 0
abbrev pub cap_in : Data → Result ℤ FieldFault
cap_in d = amount_in 0 most_cap d >>= λ n. Ok (pos n)

-- ---- lists
abbrev pub list_of : Items → List Data
list_of no_items = []
list_of (item d ds) = d ∷ list_of ds

-- the items of a list, if the value is one
abbrev pub items_in : Data → Option (List Data)
items_in d = option_map list_of (as_array d)

-- the items of a list of whole numbers
abbrev pub all_whole : Option (List Data) → Result (List Data) FieldFault
all_whole None = Err WrongType
all_whole (Some ds) = if list_all is_whole ds then Ok ds else Err WrongType

-- a list of whole numbers from 0 to `most`
abbrev pub amounts_in : ℕ → Data → Result (List ℕ) FieldFault
amounts_in most d = do
  items ← all_whole (items_in d)
  each (amount_in 0 most) items

-- a list of positions
abbrev pub positions_in : Data → Result (List ℤ) FieldFault
positions_in d = do
  items ← all_whole (items_in d)
  each position_in items

-- a list of a length from `least` to `most`
abbrev pub of_length_within : {A : Type 0} → ℕ → ℕ → List A → Result (List A) FieldFault
of_length_within least most list = if nat_le least (length list) && nat_le (length list) most then Ok list else Err LengthMismatch

-- a list of `least` to `most` whole numbers from 0 to `most_each`
abbrev pub some_amounts_in : ℕ → ℕ → ℕ → Data → Result (List ℕ) FieldFault
some_amounts_in most_each least most d = amounts_in most_each d >>= of_length_within least most

-- one position a place
abbrev pub start_positions_in : ℕ → Data → Result (List ℤ) FieldFault
start_positions_in places d = positions_in d >>= of_length_within places places

-- one rate a place, or one that serves every place
abbrev pub rates_in : ℕ → ℕ → Data → Result (List ℕ) FieldFault
rates_in most places d = if is_some (as_array d) then some_amounts_in most places places d else (amount_in 0 most d >>= λ rate. Ok (replicate places rate))
