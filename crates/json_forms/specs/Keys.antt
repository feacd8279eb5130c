-- The keys of an object, and what stands under them.
use Rattle.std.specs.Prelude.{ℕ, ◌&&◌, List, [], ◌∷◌, Bool, true, false, if◌then◌else◌, Option, Some, None, is_none, unwrap_or, Result, Ok, Err, ⊤}
use Rattle.std.specs.List.{list_any}
use Rattle.std.specs.Str.{bytes_eq}
use Rattle.serde_json.specs.Data.{Data, Members, no_members, member}
use Rattle.serde_json.specs.Find.{get, as_object}
use Rattle.json_forms.specs.declared.keys.KeyRow.{KeyRow}
use Rattle.json_forms.specs.declared.keys.KeyRow.TheVariants.{Needed, Allowed}
use Rattle.json_forms.specs.declared.fault.FieldFault.{FieldFault}
use Rattle.json_forms.specs.declared.fault.FieldFault.TheVariants.{OutOfRange}
use Rattle.json_forms.specs.declared.fault.InstanceFault.{InstanceFault}
use Rattle.json_forms.specs.declared.fault.InstanceFault.TheVariants.{Missing, UnknownKey}
use Rattle.json_forms.specs.Faults.{top_key, of_key}
use Rattle.json_forms.specs.Steps.{◌>>=◌}

-- ---- the value under a key
abbrev pub given_value : {A : Type 0} → (Data → Result A FieldFault) → List ℕ → Option Data → Result (Option A) InstanceFault
given_value form name None = Ok None
given_value form name (Some d) = of_key name (form d) >>= λ a. Ok (Some a)

-- a key that may be absent, whose value has this form
abbrev pub given : {A : Type 0} → (Data → Result A FieldFault) → List ℕ → Data → Result (Option A) InstanceFault
given form name d = given_value form name (get name d)

abbrev pub present : {A : Type 0} → List ℕ → Option A → Result A InstanceFault
present name None = Err (Missing (top_key name))
present name (Some a) = Ok a

-- a required key, whose value has this form
abbrev pub required : {A : Type 0} → (Data → Result A FieldFault) → List ℕ → Data → Result A InstanceFault
required form name d = given form name d >>= present name

-- an optional key, whose value has this form, and what holds where it is absent
abbrev pub optional : {A : Type 0} → (Data → Result A FieldFault) → A → List ℕ → Data → Result A InstanceFault
optional form default name d = given form name d >>= λ found. Ok (unwrap_or found default)

-- a key's value is out of range where this doesn't hold
abbrev pub in_range : List ℕ → Bool → Result ⊤ InstanceFault
in_range name holds = of_key name (if holds then Ok tt else Err OutOfRange)

-- ---- the table of a kind
-- a row: whether the key must be there, and the key
abbrev pub Row : Type 0
Row = Bool × List ℕ

abbrev pub needs : List ℕ → Row
needs name = (true, name)

abbrev pub allows : List ℕ → Row
allows name = (false, name)

abbrev pub row_of : KeyRow → Row
row_of (Needed name) = needs name.now
row_of (Allowed name) = allows name.now

abbrev pub row_met : Row → Option Data → Result ⊤ InstanceFault
row_met row found = if row.0 && is_none found then Err (Missing (top_key row.1)) else Ok tt

-- each key that must be there is there
abbrev pub all_present : List Row → Data → Result ⊤ InstanceFault
all_present [] d = Ok tt
all_present (row ∷ rows) d = row_met row (get row.1 d) >>= λ _. all_present rows d

-- the keys of an object's members, which stand in byte order
abbrev pub member_names : Members → List (List ℕ)
member_names no_members = []
member_names (member k d ms) = k ∷ member_names ms

-- each of the keys has a row
abbrev pub each_known : List Row → List (List ℕ) → Result ⊤ InstanceFault
each_known rows [] = Ok tt
each_known rows (k ∷ ks) = if list_any (λ row. bytes_eq row.1 k) rows then each_known rows ks else Err (UnknownKey (top_key k))

abbrev pub all_known : List Row → Option Members → Result ⊤ InstanceFault
all_known rows None = Ok tt
all_known rows (Some ms) = each_known rows (member_names ms)

-- each key that must be there is there, and then no key has no row
abbrev pub has_keys : List Row → Data → Result ⊤ InstanceFault
has_keys rows d = all_present rows d >>= λ _. all_known rows (as_object d)
