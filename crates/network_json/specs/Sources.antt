-- The sources of a node in JSON values.
use Rattle.std.specs.Prelude.{ℕ, ◌&&◌, ◌==◌, List, codes, Bool, true, false, if◌then◌else◌, Option, Some, None, is_some, Result, Ok, Err}
use Rattle.std.specs.List.{list_all}
use Rattle.serde_json.specs.Data.{Data}
use Rattle.serde_json.specs.Find.{get, as_str, as_object}
use Rattle.network_model.specs.declared.network.Link.{Link}
use Rattle.network_model.specs.Limits.{most_network_lead, most_sources}
use Rattle.json_forms.specs.declared.fault.FieldFault.{FieldFault}
use Rattle.json_forms.specs.declared.fault.FieldFault.TheVariants.{WrongType}
use Rattle.json_forms.specs.Steps.{◌>>=◌, each}
use Rattle.json_forms.specs.Numbers.{is_whole, amount_in, items_in, of_length_within}
use Rattle.json_forms.specs.LawTexts.{key_count}
use Rattle.json_forms.specs.NodeNames.{Name, text_in}
use Rattle.network_json.specs.Names.{supplier}

-- ---- inner keys
abbrev pub is_text : Option Data → Bool
is_text None = false
is_text (Some d) = is_some (as_str d)

abbrev pub is_number : Option Data → Bool
is_number None = false
is_number (Some d) = is_whole d

abbrev pub is_number_or_none : Option Data → Bool
is_number_or_none None = true
is_number_or_none (Some d) = is_whole d

abbrev pub amount_under : ℕ → ℕ → Option Data → Result ℕ FieldFault
amount_under least most None = Err WrongType
amount_under least most (Some d) = amount_in least most d

abbrev pub amount_or_zero : ℕ → Option Data → Result ℕ FieldFault
amount_or_zero most None = Ok 0
amount_or_zero most (Some d) = amount_in 0 most d

-- ---- sources
-- an object with a name, a lead time, perhaps the time that an order takes, and no other key
abbrev pub is_source : Data → Bool
is_source d =
    is_text (get (codes "from") d)
    && is_number (get (codes "lead") d)
    && is_number_or_none (get (codes "order_lead") d)
    && (key_count (as_object d) == (if is_some (get (codes "order_lead") d) then 3 else 2))

abbrev pub supplier_under : List Name → Option Data → Result (Option ℕ) FieldFault
supplier_under names None = Err WrongType
supplier_under names (Some d) = text_in d >>= λ name. Ok (supplier names name)

-- a source of the right shape; an order reaches it at once where nothing else is said
abbrev pub source_in : List Name → Data → Result Link FieldFault
source_in names d = do
  from ← supplier_under names (get (codes "from") d)
  lead ← amount_under 0 most_network_lead (get (codes "lead") d)
  order_lead ← amount_or_zero most_network_lead (get (codes "order_lead") d)
  Ok (record { from = from; lead = lead; order_lead = order_lead })

abbrev pub all_sources : Option (List Data) → Result (List Data) FieldFault
all_sources None = Err WrongType
all_sources (Some ds) = if list_all is_source ds then Ok ds else Err WrongType

-- a list of 1 to 8 sources
abbrev pub sources_in : List Name → Data → Result (List Link) FieldFault
sources_in names d = do
  shaped ← all_sources (items_in d)
  links ← each (source_in names) shaped
  of_length_within 1 most_sources links
