-- The text of a serial system.
use Rattle.std.specs.Prelude.{List, [], ◌∷◌, length, replicate, codes, Result, Ok, ⊤}
use Rattle.serde_json.specs.Data.{Data, string, object}
use Rattle.decision_model.specs.declared.kinds.Kind.TheVariants as kind
use Rattle.decision_model.specs.Kind.{kind_word}
use Rattle.decision_model.specs.declared.serial.Serial.{Serial}
use Rattle.decision_model.specs.Limits.{most_rate, most_periods, most_echelons, most_total}
use Rattle.decision_model.specs.Serial.{IsReadableSerial}
use Rattle.json_forms.specs.declared.fault.InstanceFault.{InstanceFault}
use Rattle.json_forms.specs.Steps.{◌>>=◌}
use Rattle.json_forms.specs.Numbers.{amount_in, cap_in, some_amounts_in, rates_in, start_positions_in}
use Rattle.instance_json.specs.Positions.{is_start}
use Rattle.json_forms.specs.LawTexts.{laws_in}
use Rattle.json_forms.specs.Discounts.{discount_in}
use Rattle.json_forms.specs.Keys.{Row, needs, allows, required, given, optional, in_range}
use Rattle.json_forms.specs.WrittenValues.{amount_data, position_data, amounts_data, positions_data, pair_data, laws_data}
use Rattle.json_forms.specs.Members.{Named, listed}
use Rattle.instance_json.specs.KindText.{TextOf}

abbrev pub serial_keys : List Row
serial_keys =
    allows (codes "kind")
    ∷ needs (codes "periods")
    ∷ needs (codes "holding")
    ∷ allows (codes "unit")
    ∷ needs (codes "stockout")
    ∷ allows (codes "discount")
    ∷ allows (codes "total")
    ∷ needs (codes "demand")
    ∷ needs (codes "cap")
    ∷ needs (codes "start")
    ∷ []

-- the values, key by key: one holding rate an echelon, one law, or one a period
unfoldable pub serial_of : Data → Result Serial InstanceFault
serial_of d = do
  periods ← required (amount_in 1 most_periods) (codes "periods") d
  holding ← required (some_amounts_in most_rate 1 most_echelons) (codes "holding") d
  unit ← optional (rates_in most_rate (length holding)) (replicate (length holding) 0) (codes "unit") d
  stockout ← required (amount_in 0 most_rate) (codes "stockout") d
  discount ← optional discount_in (1, 1) (codes "discount") d
  total ← given (amount_in 1 most_total) (codes "total") d
  laws ← required (laws_in periods total) (codes "demand") d
  cap ← required cap_in (codes "cap") d
  start ← required (start_positions_in (length holding)) (codes "start") d
  _ ← in_range (codes "start") (is_start cap start)
  Ok (record {
    periods = periods;
    holding = holding;
    unit = unit;
    stockout = stockout;
    discount_num = discount.0;
    discount_den = discount.1;
    laws = laws;
    cap = cap;
    start = start;
  })

abbrev pub serial_members : Serial → List Named
serial_members serial =
    (codes "cap", position_data serial.cap)
    ∷ (codes "demand", laws_data serial.laws)
    ∷ (codes "discount", pair_data serial.discount_num serial.discount_den)
    ∷ (codes "holding", amounts_data serial.holding)
    ∷ (codes "kind", string (kind_word kind.Serial))
    ∷ (codes "periods", amount_data serial.periods)
    ∷ (codes "start", positions_data serial.start)
    ∷ (codes "stockout", amount_data serial.stockout)
    ∷ (codes "unit", amounts_data serial.unit)
    ∷ []

unfoldable pub serial_data : Serial → Data
serial_data serial = object (listed (serial_members serial))

abbrev pub serial_text : TextOf Serial
serial_text = record {
  keys = serial_keys;
  reading = serial_of;
  readable = IsReadableSerial;
  broken = λ serial. Ok tt;
  meets = λ serial. ⊤;
  typed = λ serial. ⊤;
  written = serial_data;
}
