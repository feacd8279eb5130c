-- The text of lot sizing.
use Rattle.std.specs.Prelude.{ℕ, List, [], ◌∷◌, length, replicate, codes, Option, Some, None, Result, Ok, Err, ⊤}
use Rattle.serde_json.specs.Data.{Data, string, object}
use Rattle.decision_model.specs.declared.kinds.Kind.TheVariants as kind
use Rattle.decision_model.specs.Kind.{kind_word}
use Rattle.decision_model.specs.declared.lots.LotSize.{LotSize}
use Rattle.decision_model.specs.Limits.{most_rate, most_lot_periods, most_lot_demand, most_lot_setup}
use Rattle.decision_model.specs.Lots.{IsReadableLots, speculative_period_of, HasNoSpeculation}
use Rattle.json_forms.specs.declared.fault.InstanceFault.{InstanceFault}
use Rattle.json_forms.specs.declared.fault.InstanceFault.TheVariants.{Speculative}
use Rattle.json_forms.specs.Steps.{◌>>=◌}
use Rattle.json_forms.specs.Numbers.{some_amounts_in, rates_in}
use Rattle.json_forms.specs.Keys.{Row, needs, allows, required, optional}
use Rattle.json_forms.specs.WrittenValues.{amounts_data}
use Rattle.json_forms.specs.Members.{Named, listed}
use Rattle.instance_json.specs.KindText.{TextOf}

abbrev pub lots_keys : List Row
lots_keys =
    allows (codes "kind")
    ∷ needs (codes "demand")
    ∷ needs (codes "setup")
    ∷ needs (codes "holding")
    ∷ allows (codes "unit")
    ∷ []

-- the values, key by key: one demand a period, and the rates of each period
unfoldable pub lots_of : Data → Result LotSize InstanceFault
lots_of d = do
  demand ← required (some_amounts_in most_lot_demand 1 most_lot_periods) (codes "demand") d
  setup ← required (rates_in most_lot_setup (length demand)) (codes "setup") d
  holding ← required (rates_in most_rate (length demand)) (codes "holding") d
  unit ← optional (rates_in most_rate (length demand)) (replicate (length demand) 0) (codes "unit") d
  Ok (record { demand = demand; setup = setup; unit = unit; holding = holding })

-- the first period with speculative costs is refused
abbrev pub speculation : Option ℕ → Result ⊤ InstanceFault
speculation None = Ok tt
speculation (Some t) = Err (Speculative t)

abbrev pub lots_members : LotSize → List Named
lots_members lots =
    (codes "demand", amounts_data lots.demand)
    ∷ (codes "holding", amounts_data lots.holding)
    ∷ (codes "kind", string (kind_word kind.Lots))
    ∷ (codes "setup", amounts_data lots.setup)
    ∷ (codes "unit", amounts_data lots.unit)
    ∷ []

unfoldable pub lots_data : LotSize → Data
lots_data lots = object (listed (lots_members lots))

abbrev pub lots_text : TextOf LotSize
lots_text = record {
  keys = lots_keys;
  reading = lots_of;
  readable = IsReadableLots;
  broken = λ lots. speculation (speculative_period_of lots);
  meets = HasNoSpeculation;
  typed = λ lots. ⊤;
  written = lots_data;
}
