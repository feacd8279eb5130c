-- What is proved of the text of a serial system.
use Rattle.std.proofs.Common.{◌≡◌, length, Some, None, Ok, refl, codes, replicate, arith, le-leb}
use Rattle.serde_json.specs.Find.{get}
use Rattle.decision_model.specs.declared.serial.Serial as serial
use Rattle.decision_model.specs.declared.instance.Instance.TheVariants.{Serial}
use Rattle.decision_model.specs.declared.kinds.Kind.TheVariants as kind
use Rattle.decision_model.specs.Kind.{kind_word}
use Rattle.decision_model.specs.Limits.{most_rate, most_periods, most_echelons, most_total}
use Rattle.decision_model.specs.Serial.{IsReadableSerial}
use Rattle.json_forms.specs.Numbers.{amount_in, cap_in, some_amounts_in, rates_in, start_positions_in}
use Rattle.json_forms.specs.LawTexts.{laws_in}
use Rattle.json_forms.specs.Discounts.{discount_in}
use Rattle.instance_json.specs.Positions.{is_start}
use Rattle.json_forms.specs.Keys.{has_keys}
use Rattle.json_forms.specs.WrittenValues.{amount_data, position_data, amounts_data, positions_data, pair_data, laws_data}
use Rattle.instance_json.specs.Serial.{serial_keys, serial_of, serial_members, serial_data, serial_text}
use Rattle.instance_json.specs.Reads.{kind_in}
use Rattle.json_forms.proofs.BackNumbers.{cap_back, some_amounts_back, rates_back, start_positions_back}
use Rattle.json_forms.proofs.BackLaws.{laws_back}
use Rattle.json_forms.proofs.BackDiscount.{discount_back}
use Rattle.instance_json.proofs.BackFields.{is_start_back}
use Rattle.json_forms.proofs.BackKeys.{given_absent, required_back, optional_back, required_amount, in_range_back}
use Rattle.json_forms.proofs.Plain.{IsPlain, one_deeper, object_plain, amount_plain, amounts_plain, position_plain, positions_plain, text_plain, pair_plain, laws_plain}
use Rattle.instance_json.proofs.Proven.{Proven, again}

abbrev Instance : Type 0
Instance = serial.Serial

-- what stands under each key
record Under (it : Instance) : Type 0 where
  periods : get (codes "periods") (serial_data it) ≡ Some (amount_data it.periods)
  holding : get (codes "holding") (serial_data it) ≡ Some (amounts_data it.holding)
  unit : get (codes "unit") (serial_data it) ≡ Some (amounts_data it.unit)
  stockout : get (codes "stockout") (serial_data it) ≡ Some (amount_data it.stockout)
  discount : get (codes "discount") (serial_data it) ≡ Some (pair_data it.discount_num it.discount_den)
  demand : get (codes "demand") (serial_data it) ≡ Some (laws_data it.laws)
  cap : get (codes "cap") (serial_data it) ≡ Some (position_data it.cap)
  start : get (codes "start") (serial_data it) ≡ Some (positions_data it.start)
  total : get (codes "total") (serial_data it) ≡ None

under : (it : Instance) → Under it
unfolding serial_data
under it = record { periods = refl; holding = refl; unit = refl; stockout = refl; discount = refl; demand = refl; cap = refl; start = refl; total = refl }

keys : (it : Instance) → has_keys serial_keys (serial_data it) ≡ Ok tt
unfolding serial_data
keys it = refl

values : (it : Instance) → IsReadableSerial it → serial_of (serial_data it) ≡ Ok it
unfolding serial_of
values it is =
    let d = serial_data it in
    let here = under it in
    let echelons = length it.holding in
    let periods = required_amount 1 most_periods (codes "periods") d it.periods here.periods is.periods.least is.periods.most in
    let holding = required_back (some_amounts_in most_rate 1 most_echelons) (codes "holding") d (amounts_data it.holding) it.holding here.holding (some_amounts_back most_rate 1 most_echelons it.holding is.holding is.some_echelon is.most_echelons) in
    let unit = optional_back (rates_in most_rate echelons) (replicate echelons 0) (codes "unit") d (amounts_data it.unit) it.unit here.unit (rates_back most_rate echelons it.unit is.unit is.unit_each) in
    let stockout = required_amount 0 most_rate (codes "stockout") d it.stockout here.stockout (omega arith) is.stockout in
    let discount = optional_back discount_in (1, 1) (codes "discount") d (pair_data it.discount_num it.discount_den) (it.discount_num, it.discount_den) here.discount (discount_back it.discount_num it.discount_den is.discount) in
    let total = given_absent (amount_in 1 most_total) (codes "total") d here.total in
    let laws = required_back (laws_in it.periods None) (codes "demand") d (laws_data it.laws) it.laws here.demand (laws_back it.periods it.laws is.laws) in
    let cap = required_back cap_in (codes "cap") d (position_data it.cap) it.cap here.cap (cap_back it.cap is.cap) in
    let start = required_back (start_positions_in echelons) (codes "start") d (positions_data it.start) it.start here.start (start_positions_back echelons it.start is.start is.start_each) in
    let fits = in_range_back (codes "start") (is_start it.cap it.start) (is_start_back it.cap it.start is.start is.never_falling is.last_below) in
    rw (periods, holding, unit, stockout, discount, total, laws, cap, start, fits) refl

kind_written : (it : Instance) → kind_in (serial_data it) ≡ Some kind.Serial
unfolding serial_data
kind_written it = refl

plain : (it : Instance) → IsPlain 5 (serial_data it)
unfolding serial_data
plain it =
    object_plain 4 (serial_members it)
    (position_plain 4 it.cap, (laws_plain it.laws, (pair_plain 3 it.discount_num it.discount_den, (amounts_plain 3 it.holding, (text_plain 4 (kind_word kind.Serial), (amount_plain 4 it.periods, (positions_plain 3 it.start, (amount_plain 4 it.stockout, (amounts_plain 3 it.unit, tt)))))))))

pub serial_proven : (it : Instance) → Proven (Serial it)
serial_proven it = record {
  kind = kind_written it;
  plain = one_deeper 5 _ (plain it);
  back = λ typed valid. again Serial serial_text it (keys it) (values it valid.regular.readable);
  regular = λ readable meets grid. record { readable = readable; grid = grid };
  valid = λ regular width. record { regular = regular; width = width };
  readable = λ valid. valid.regular.readable;
  met = λ valid. refl;
  grid = λ valid. rw (le-leb _ _ valid.regular.grid.positions, le-leb _ _ valid.regular.grid.cells) refl;
  width = λ valid. le-leb _ _ valid.width;
}
