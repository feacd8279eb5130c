-- What is proved of the text of an average-cost instance.
use Rattle.std.proofs.Common.{◌≡◌, ℕ, List, Bool, true, false, Some, Ok, refl, codes, arith, lt-ltb, le-leb}
use Rattle.std.specs.Prelude.{int_le, IsTrue, not, ◌||◌}
use Rattle.serde_json.specs.Data.{string}
use Rattle.serde_json.specs.Find.{get}
use Rattle.demand_law.specs.Law.{greatest_of}
use Rattle.decision_model.specs.declared.average.Average as average
use Rattle.decision_model.specs.declared.instance.Instance.TheVariants.{Average}
use Rattle.decision_model.specs.declared.kinds.Kind.TheVariants as kind
use Rattle.decision_model.specs.Kind.{kind_word}
use Rattle.decision_model.specs.Limits.{most_rate, most_setup, most_lead}
use Rattle.decision_model.specs.Average.{IsUnitDemand, is_unit_demand, IsReadableAverage, IsValidAverage}
use Rattle.json_forms.specs.Numbers.{position_in}
use Rattle.json_forms.specs.LawTexts.{law_in}
use Rattle.instance_json.specs.Fields.{policy_in}
use Rattle.json_forms.specs.Keys.{has_keys}
use Rattle.json_forms.specs.WrittenValues.{amount_data, position_data, law_data}
use Rattle.instance_json.specs.Average.{average_keys, average_of, lots_fit, average_broken, policy_text, average_members, average_data, average_text}
use Rattle.instance_json.specs.Reads.{kind_in}
use Rattle.json_forms.proofs.BackNumbers.{position_back, int_le_is}
use Rattle.json_forms.proofs.BackLaws.{law_back}
use Rattle.instance_json.proofs.BackFields.{policy_back}
use Rattle.json_forms.proofs.BackKeys.{required_back, optional_back, required_amount, optional_amount, in_range_back}
use Rattle.json_forms.proofs.Plain.{IsPlain, one_deeper, object_plain, amount_plain, position_plain, text_plain, one_law_plain}
use Rattle.instance_json.proofs.Proven.{Proven, again}

abbrev Instance : Type 0
Instance = average.Average

-- what stands under each key
record Under (it : Instance) : Type 0 where
  lead : get (codes "lead") (average_data it) ≡ Some (amount_data it.lead)
  setup : get (codes "setup") (average_data it) ≡ Some (amount_data it.setup)
  holding : get (codes "holding") (average_data it) ≡ Some (amount_data it.holding)
  stockout : get (codes "stockout") (average_data it) ≡ Some (amount_data it.stockout)
  demand : get (codes "demand") (average_data it) ≡ Some (law_data it.law)
  floor : get (codes "floor") (average_data it) ≡ Some (position_data it.floor)
  cap : get (codes "cap") (average_data it) ≡ Some (position_data it.cap)
  policy : get (codes "policy") (average_data it) ≡ Some (string (policy_text it.lots))

under : (it : Instance) → Under it
unfolding average_data
under it = record { lead = refl; setup = refl; holding = refl; stockout = refl; demand = refl; floor = refl; cap = refl; policy = refl }

keys : (it : Instance) → has_keys average_keys (average_data it) ≡ Ok tt
unfolding average_data
keys it = refl

values : (it : Instance) → IsReadableAverage it → average_of (average_data it) ≡ Ok it
unfolding average_of
values it is =
    let d = average_data it in
    let here = under it in
    let lead = optional_amount most_lead (codes "lead") d it.lead here.lead is.lead in
    let setup = optional_amount most_setup (codes "setup") d it.setup here.setup is.setup in
    let holding = required_amount 0 most_rate (codes "holding") d it.holding here.holding (omega arith) is.holding in
    let stockout = required_amount 0 most_rate (codes "stockout") d it.stockout here.stockout (omega arith) is.stockout in
    let law = required_back law_in (codes "demand") d (law_data it.law) it.law here.demand (law_back it.law is.law) in
    let floor = required_back position_in (codes "floor") d (position_data it.floor) it.floor here.floor (position_back it.floor is.floor.least is.floor.most) in
    let cap = required_back position_in (codes "cap") d (position_data it.cap) it.cap here.cap (position_back it.cap is.cap.least is.cap.most) in
    let above = in_range_back (codes "cap") (int_le it.floor it.cap) (int_le_is it.floor it.cap is.floor_below) in
    let lots = optional_back policy_in false (codes "policy") d (string (policy_text it.lots)) it.lots here.policy (policy_back it.lots) in
    rw (lead, setup, holding, stockout, law, floor, cap, above, lots) refl

lots_fit-where : (lots : Bool) (law : List ℕ) → (IsTrue lots → IsUnitDemand law) → (not lots || is_unit_demand law) ≡ true
lots_fit-where true law unit = le-leb (greatest_of law) 1 (unit refl)
lots_fit-where false law unit = refl

rules_met : (it : Instance) → IsValidAverage it → average_broken it ≡ Ok tt
rules_met it valid =
    let demand = lt-ltb _ _ valid.regular.has_demand in
    let fits : lots_fit it ≡ true = lots_fit-where it.lots it.law valid.regular.unit_demand in
    rw (demand, fits) refl

kind_written : (it : Instance) → kind_in (average_data it) ≡ Some kind.Average
unfolding average_data
kind_written it = refl

plain : (it : Instance) → IsPlain 5 (average_data it)
unfolding average_data
plain it =
    object_plain 4 (average_members it)
    (position_plain 4 it.cap, (one_law_plain it.law, (position_plain 4 it.floor, (amount_plain 4 it.holding, (text_plain 4 (kind_word kind.Average), (amount_plain 4 it.lead, (text_plain 4 (policy_text it.lots), (amount_plain 4 it.setup, (amount_plain 4 it.stockout, tt)))))))))

pub average_proven : (it : Instance) → Proven (Average it)
average_proven it = record {
  kind = kind_written it;
  plain = one_deeper 5 _ (plain it);
  back = λ typed valid. again Average average_text it (keys it) (values it valid.regular.readable);
  regular = λ readable meets grid. record { readable = readable; has_demand = meets.demand; unit_demand = meets.unit_demand; grid = grid };
  valid = λ regular width. record { regular = regular; width = width };
  readable = λ valid. valid.regular.readable;
  met = λ valid. rules_met it valid;
  grid = λ valid. le-leb _ _ valid.regular.grid;
  width = λ valid. le-leb _ _ valid.width;
}
