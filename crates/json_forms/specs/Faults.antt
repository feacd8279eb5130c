-- Faults of keys, and what a reader's answer says.
use Rattle.std.specs.Prelude.{◌≡◌, ℕ, List, Result, Ok, Err, ⊤}
use Rattle.json_forms.specs.declared.fault.Key.{Key}
use Rattle.json_forms.specs.declared.fault.KeyList.{KeyList}
use Rattle.json_forms.specs.declared.fault.KeyList.TheVariants.{Top}
use Rattle.json_forms.specs.declared.fault.FieldFault.{FieldFault}
use Rattle.json_forms.specs.declared.fault.FieldFault.TheVariants.{WrongType, OutOfRange, LengthMismatch, BadLaw}
use Rattle.json_forms.specs.declared.fault.FieldErr.{FieldErr}
use Rattle.json_forms.specs.declared.fault.FieldErr.TheVariants as field
use Rattle.json_forms.specs.declared.fault.InstanceFault.{InstanceFault}
use Rattle.json_forms.specs.declared.fault.InstanceFault.TheVariants as instance
use Rattle.json_forms.specs.declared.fault.InstanceErr.{InstanceErr}
use Rattle.json_forms.specs.declared.fault.InstanceErr.TheVariants.{Bad, Memory}

-- a key of the instance itself
abbrev pub top_key : List ℕ → Key
top_key name = record { list = Top; item = 0; name = name }

-- what is wrong with the value of a key, with the key
abbrev pub fault_of_key : Key → FieldFault → InstanceFault
fault_of_key key WrongType = instance.WrongType key
fault_of_key key OutOfRange = instance.OutOfRange key
fault_of_key key LengthMismatch = instance.LengthMismatch key
fault_of_key key (BadLaw f) = instance.BadLaw key f

-- the reading of a key's value, with the key of its fault
abbrev pub of_key : {A : Type 0} → List ℕ → Result A FieldFault → Result A InstanceFault
of_key name (Ok a) = Ok a
of_key name (Err f) = Err (fault_of_key (top_key name) f)

-- the answer of a field's reader is the reading, or memory was refused
abbrev pub GivesField : {A : Type 0} → Result A FieldErr → Result A FieldFault → Type 0
GivesField (Ok a) reading = reading ≡ Ok a
GivesField (Err (field.Bad f)) reading = reading ≡ Err f
GivesField (Err field.Memory) reading = ⊤

-- the refusal for a key's value is the value's fault, told of the key, or memory was refused
abbrev pub IsKeyErr : List ℕ → FieldErr → InstanceErr → Type 0
IsKeyErr name e Memory = ⊤
IsKeyErr name (field.Bad f) (Bad g) = g ≡ fault_of_key (top_key name) f
IsKeyErr name field.Memory (Bad g) = ⊥

-- the reading has this fault, or memory was refused
abbrev pub Refuses : {A : Type 0} → InstanceErr → Result A InstanceFault → Type 0
Refuses (Bad f) reading = reading ≡ Err f
Refuses Memory reading = ⊤

-- the answer of a reader is the reading, or memory was refused
abbrev pub Gives : {A : Type 0} → Result A InstanceErr → Result A InstanceFault → Type 0
Gives (Ok a) reading = reading ≡ Ok a
Gives (Err e) reading = Refuses e reading

-- the fault of a refusal; nothing is said of want of memory
abbrev pub MatchErr : InstanceErr → (InstanceFault → Type 0) → Type 0
MatchErr (Bad f) P = P f
MatchErr Memory P = ⊤

-- ---- items of a list
-- the key of an item, whose place is from 1
abbrev pub item_key : KeyList → ℕ → Key → Key
item_key list place key = record { list = list; item = place; name = key.name }

-- a fault of a key, told of the item that has the key
abbrev pub at_item : KeyList → ℕ → InstanceFault → InstanceFault
at_item list place (instance.Missing key) = instance.Missing (item_key list place key)
at_item list place (instance.UnknownKey key) = instance.UnknownKey (item_key list place key)
at_item list place (instance.WrongType key) = instance.WrongType (item_key list place key)
at_item list place (instance.OutOfRange key) = instance.OutOfRange (item_key list place key)
at_item list place (instance.LengthMismatch key) = instance.LengthMismatch (item_key list place key)
at_item list place (instance.BadLaw key f) = instance.BadLaw (item_key list place key) f
at_item list place fault = fault

-- the reading of an item, with the item of its fault
abbrev pub of_item : {A : Type 0} → KeyList → ℕ → Result A InstanceFault → Result A InstanceFault
of_item list place (Ok a) = Ok a
of_item list place (Err f) = Err (at_item list place f)

-- the refusal of an item
abbrev pub item_err : KeyList → ℕ → InstanceErr → InstanceErr
item_err list place (Bad f) = Bad (at_item list place f)
item_err list place Memory = Memory
