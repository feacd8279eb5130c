-- What is proved of the text of lot sizing.
use Rattle.std.proofs.Common.{◌≡◌, ℕ, zero, suc, ◌+◌, ◌-◌, ◌<◌, ◌≤◌, length, find, get_or, Bool, false, Some, None, Ok, refl, codes, replicate, arith, le-ltb}
use Rattle.std.specs.List.{range_with_len}
use Rattle.serde_json.specs.Find.{get}
use Rattle.decision_model.specs.declared.lots.LotSize.{LotSize}
use Rattle.decision_model.specs.declared.instance.Instance.TheVariants.{Lots}
use Rattle.decision_model.specs.declared.kinds.Kind.TheVariants as kind
use Rattle.decision_model.specs.Kind.{kind_word}
use Rattle.decision_model.specs.Limits.{most_rate, most_lot_periods, most_lot_demand, most_lot_setup}
use Rattle.decision_model.specs.Lots.{is_speculative, speculative_period_of, HasNoSpeculation, IsReadableLots}
use Rattle.json_forms.specs.Numbers.{some_amounts_in, rates_in}
use Rattle.json_forms.specs.Keys.{has_keys}
use Rattle.json_forms.specs.WrittenValues.{amounts_data}
use Rattle.instance_json.specs.Lots.{lots_keys, lots_of, lots_members, lots_data, lots_text}
use Rattle.instance_json.specs.Reads.{kind_in}
use Rattle.json_forms.proofs.BackNumbers.{some_amounts_back, rates_back}
use Rattle.json_forms.proofs.BackKeys.{required_back, optional_back}
use Rattle.json_forms.proofs.Plain.{IsPlain, one_deeper, object_plain, amounts_plain, text_plain}
use Rattle.instance_json.proofs.Proven.{Proven, again}

-- what stands under each key
record Under (lots : LotSize) : Type 0 where
  demand : get (codes "demand") (lots_data lots) ≡ Some (amounts_data lots.demand)
  setup : get (codes "setup") (lots_data lots) ≡ Some (amounts_data lots.setup)
  holding : get (codes "holding") (lots_data lots) ≡ Some (amounts_data lots.holding)
  unit : get (codes "unit") (lots_data lots) ≡ Some (amounts_data lots.unit)

under : (lots : LotSize) → Under lots
unfolding lots_data
under lots = record { demand = refl; setup = refl; holding = refl; unit = refl }

keys : (lots : LotSize) → has_keys lots_keys (lots_data lots) ≡ Ok tt
unfolding lots_data
keys lots = refl

values : (lots : LotSize) → IsReadableLots lots → lots_of (lots_data lots) ≡ Ok lots
unfolding lots_of
values lots is =
    let d = lots_data lots in
    let here = under lots in
    let periods = length lots.demand in
    let demand = required_back (some_amounts_in most_lot_demand 1 most_lot_periods) (codes "demand") d (amounts_data lots.demand) lots.demand here.demand (some_amounts_back most_lot_demand 1 most_lot_periods lots.demand is.demand is.some_period is.most_periods) in
    let setup = required_back (rates_in most_lot_setup periods) (codes "setup") d (amounts_data lots.setup) lots.setup here.setup (rates_back most_lot_setup periods lots.setup is.setup is.setup_each) in
    let holding = required_back (rates_in most_rate periods) (codes "holding") d (amounts_data lots.holding) lots.holding here.holding (rates_back most_rate periods lots.holding is.holding is.holding_each) in
    let unit = optional_back (rates_in most_rate periods) (replicate periods 0) (codes "unit") d (amounts_data lots.unit) lots.unit here.unit (rates_back most_rate periods lots.unit is.unit is.unit_each) in
    rw (demand, setup, holding, unit) refl

find-none : (p : ℕ → Bool) (from n : ℕ) → ((t : ℕ) → from ≤ t → t < from + n → p t ≡ false) → find p (range_with_len from n) ≡ None
find-none p from zero fails = refl
find-none p from (suc n) fails = rw (fails from (omega arith) (omega arith)) (find-none p (from + 1) n (λ t above below. fails t (omega arith) (omega arith)))

no_speculation : (lots : LotSize) → HasNoSpeculation lots → speculative_period_of lots ≡ None
unfolding speculative_period_of
no_speculation lots waits =
    find-none (is_speculative lots) 1 (length lots.unit - 1)
    (λ t above below. le-ltb (get_or lots.unit (t - 1) 0 + get_or lots.holding (t - 1) 0) (get_or lots.unit t 0) (waits t above (omega arith)))

kind_written : (lots : LotSize) → kind_in (lots_data lots) ≡ Some kind.Lots
unfolding lots_data
kind_written lots = refl

plain : (lots : LotSize) → IsPlain 5 (lots_data lots)
unfolding lots_data
plain lots =
    object_plain 4 (lots_members lots)
    (amounts_plain 3 lots.demand, (amounts_plain 3 lots.holding, (text_plain 4 (kind_word kind.Lots), (amounts_plain 3 lots.setup, (amounts_plain 3 lots.unit, tt)))))

pub lots_proven : (lots : LotSize) → Proven (Lots lots)
lots_proven lots = record {
  kind = kind_written lots;
  plain = one_deeper 5 _ (plain lots);
  back = λ typed valid. again Lots lots_text lots (keys lots) (values lots valid.readable);
  regular = λ readable meets grid. record { readable = readable; no_speculation = meets };
  valid = λ regular width. regular;
  readable = λ valid. valid.readable;
  met = λ valid. rw (no_speculation lots valid.no_speculation) refl;
  grid = λ valid. refl;
  width = λ valid. refl;
}
