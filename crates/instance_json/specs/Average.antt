-- The text of an average-cost instance.
use Rattle.std.specs.Prelude.{ℕ, ◌||◌, List, [], ◌∷◌, codes, Bool, true, false, not, IsTrue, int_le, Result, Ok, ⊤}
use Rattle.serde_json.specs.Data.{Data, string, object}
use Rattle.decision_model.specs.declared.kinds.Kind.TheVariants as kind
use Rattle.decision_model.specs.Kind.{kind_word}
use Rattle.decision_model.specs.declared.average.Average.{Average}
use Rattle.decision_model.specs.Limits.{most_rate, most_setup, most_lead}
use Rattle.decision_model.specs.Average.{IsReadableAverage, HasDemand, has_demand, IsUnitDemand, is_unit_demand}
use Rattle.json_forms.specs.declared.fault.InstanceFault.{InstanceFault}
use Rattle.json_forms.specs.declared.fault.InstanceFault.TheVariants.{NoDemand, NotUnitDemand}
use Rattle.json_forms.specs.Steps.{◌>>=◌, unless}
use Rattle.json_forms.specs.Numbers.{amount_in, position_in}
use Rattle.json_forms.specs.LawTexts.{law_in}
use Rattle.instance_json.specs.Fields.{policy_in}
use Rattle.json_forms.specs.Keys.{Row, needs, allows, required, optional, in_range}
use Rattle.json_forms.specs.WrittenValues.{amount_data, position_data, law_data}
use Rattle.json_forms.specs.Members.{Named, listed}
use Rattle.instance_json.specs.KindText.{TextOf}

abbrev pub average_keys : List Row
average_keys =
    allows (codes "kind")
    ∷ allows (codes "lead")
    ∷ allows (codes "setup")
    ∷ needs (codes "holding")
    ∷ needs (codes "stockout")
    ∷ needs (codes "demand")
    ∷ needs (codes "floor")
    ∷ needs (codes "cap")
    ∷ allows (codes "policy")
    ∷ []

-- the values, key by key; the cap is at least the floor
unfoldable pub average_of : Data → Result Average InstanceFault
average_of d = do
  lead ← optional (amount_in 0 most_lead) 0 (codes "lead") d
  setup ← optional (amount_in 0 most_setup) 0 (codes "setup") d
  holding ← required (amount_in 0 most_rate) (codes "holding") d
  stockout ← required (amount_in 0 most_rate) (codes "stockout") d
  law ← required law_in (codes "demand") d
  floor ← required position_in (codes "floor") d
  cap ← required position_in (codes "cap") d
  _ ← in_range (codes "cap") (int_le floor cap)
  lots ← optional policy_in false (codes "policy") d
  Ok (record { lead = lead; setup = setup; holding = holding; stockout = stockout; law = law; floor = floor; cap = cap; lots = lots })

-- lots are asked for only where no demand is above 1
abbrev pub lots_fit : Average → Bool
lots_fit average = not average.lots || is_unit_demand average.law

abbrev pub average_broken : Average → Result ⊤ InstanceFault
average_broken average = do
  _ ← unless NoDemand (has_demand average.law)
  unless NotUnitDemand (lots_fit average)

-- what the rules mean
pub record MeetsAverageRules (average : Average) : Type 0 where
  pub demand : HasDemand average.law
  pub unit_demand : IsTrue average.lots → IsUnitDemand average.law

-- the policy's text
abbrev pub policy_text : Bool → List ℕ
policy_text true = codes "rQ"
policy_text false = codes "sS"

abbrev pub average_members : Average → List Named
average_members average =
    (codes "cap", position_data average.cap)
    ∷ (codes "demand", law_data average.law)
    ∷ (codes "floor", position_data average.floor)
    ∷ (codes "holding", amount_data average.holding)
    ∷ (codes "kind", string (kind_word kind.Average))
    ∷ (codes "lead", amount_data average.lead)
    ∷ (codes "policy", string (policy_text average.lots))
    ∷ (codes "setup", amount_data average.setup)
    ∷ (codes "stockout", amount_data average.stockout)
    ∷ []

unfoldable pub average_data : Average → Data
average_data average = object (listed (average_members average))

abbrev pub average_text : TextOf Average
average_text = record {
  keys = average_keys;
  reading = average_of;
  readable = IsReadableAverage;
  broken = average_broken;
  meets = MeetsAverageRules;
  typed = λ average. ⊤;
  written = average_data;
}
