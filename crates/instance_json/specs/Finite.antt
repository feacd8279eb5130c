-- The text of a finite instance.
use Rattle.std.specs.Prelude.{ℕ, ◌+◌, ◌≤◌, List, [], ◌∷◌, ◌++◌, codes, int_le, Option, Some, None, Result, Ok, ⊤}
use Rattle.serde_json.specs.Data.{Data, string, object}
use Rattle.decision_model.specs.declared.kinds.Kind.TheVariants as kind
use Rattle.decision_model.specs.Kind.{kind_word}
use Rattle.decision_model.specs.declared.finite.Finite.{Finite}
use Rattle.decision_model.specs.Limits.{most_rate, most_setup, most_periods, most_lead, most_order, most_total}
use Rattle.decision_model.specs.Rates.{IsRate}
use Rattle.decision_model.specs.Finite.{IsReadableFinite}
use Rattle.json_forms.specs.declared.fault.InstanceFault.{InstanceFault}
use Rattle.instance_json.specs.declared.finite.FiniteCosts.{FiniteCosts}
use Rattle.json_forms.specs.Steps.{◌>>=◌}
use Rattle.json_forms.specs.Numbers.{amount_in, position_in, cap_in}
use Rattle.json_forms.specs.LawTexts.{laws_in}
use Rattle.json_forms.specs.Discounts.{discount_in}
use Rattle.json_forms.specs.Keys.{Row, needs, allows, required, given, optional, in_range}
use Rattle.json_forms.specs.WrittenValues.{amount_data, position_data, pair_data, laws_data}
use Rattle.json_forms.specs.Members.{Named, listed}
use Rattle.instance_json.specs.KindText.{TextOf}

abbrev pub finite_keys : List Row
finite_keys =
    allows (codes "kind")
    ∷ needs (codes "periods")
    ∷ allows (codes "lead")
    ∷ allows (codes "setup")
    ∷ allows (codes "unit")
    ∷ needs (codes "holding")
    ∷ needs (codes "stockout")
    ∷ allows (codes "end_holding")
    ∷ allows (codes "end_stockout")
    ∷ allows (codes "discount")
    ∷ allows (codes "most")
    ∷ allows (codes "total")
    ∷ needs (codes "demand")
    ∷ needs (codes "cap")
    ∷ needs (codes "start")
    ∷ []

-- the cost rates in range
pub record AreCostRates (costs : FiniteCosts) : Type 0 where
  pub setup : costs.setup ≤ most_setup
  pub unit : IsRate costs.unit
  pub holding : IsRate costs.holding
  pub stockout : IsRate costs.stockout
  pub end_holding : IsRate costs.end_holding
  pub end_stockout : IsRate costs.end_stockout

-- the cost rates
unfoldable pub finite_costs_of : Data → Result FiniteCosts InstanceFault
finite_costs_of d = do
  setup ← optional (amount_in 0 most_setup) 0 (codes "setup") d
  unit ← optional (amount_in 0 most_rate) 0 (codes "unit") d
  holding ← required (amount_in 0 most_rate) (codes "holding") d
  stockout ← required (amount_in 0 most_rate) (codes "stockout") d
  end_holding ← optional (amount_in 0 most_rate) 0 (codes "end_holding") d
  end_stockout ← optional (amount_in 0 most_rate) 0 (codes "end_stockout") d
  Ok (record { setup = setup; unit = unit; holding = holding; stockout = stockout; end_holding = end_holding; end_stockout = end_stockout })

-- the values, key by key: one law, or one for each of the periods and of the lead time's
unfoldable pub finite_of : Data → Result Finite InstanceFault
finite_of d = do
  periods ← required (amount_in 1 most_periods) (codes "periods") d
  lead ← optional (amount_in 0 most_lead) 0 (codes "lead") d
  costs ← finite_costs_of d
  discount ← optional discount_in (1, 1) (codes "discount") d
  most ← given (amount_in 1 most_order) (codes "most") d
  total ← given (amount_in 1 most_total) (codes "total") d
  laws ← required (laws_in (periods + lead) total) (codes "demand") d
  cap ← required cap_in (codes "cap") d
  start ← required position_in (codes "start") d
  _ ← in_range (codes "start") (int_le start cap)
  Ok (record {
    periods = periods;
    lead = lead;
    setup = costs.setup;
    unit = costs.unit;
    holding = costs.holding;
    stockout = costs.stockout;
    end_holding = costs.end_holding;
    end_stockout = costs.end_stockout;
    discount_num = discount.0;
    discount_den = discount.1;
    laws = laws;
    cap = cap;
    start = start;
    most = most;
  })

-- the greatest order of a period stands there only where there is one
abbrev pub with_most : Option ℕ → List Named → List Named
with_most None ms = ms
with_most (Some order) ms = (codes "most", amount_data order) ∷ ms

abbrev pub finite_to_lead : Finite → List Named
finite_to_lead finite =
    (codes "cap", position_data finite.cap)
    ∷ (codes "demand", laws_data finite.laws)
    ∷ (codes "discount", pair_data finite.discount_num finite.discount_den)
    ∷ (codes "end_holding", amount_data finite.end_holding)
    ∷ (codes "end_stockout", amount_data finite.end_stockout)
    ∷ (codes "holding", amount_data finite.holding)
    ∷ (codes "kind", string (kind_word kind.Finite))
    ∷ (codes "lead", amount_data finite.lead)
    ∷ []

abbrev pub finite_from_periods : Finite → List Named
finite_from_periods finite =
    (codes "periods", amount_data finite.periods)
    ∷ (codes "setup", amount_data finite.setup)
    ∷ (codes "start", position_data finite.start)
    ∷ (codes "stockout", amount_data finite.stockout)
    ∷ (codes "unit", amount_data finite.unit)
    ∷ []

abbrev pub finite_members : Finite → List Named
finite_members finite = finite_to_lead finite ++ with_most finite.most (finite_from_periods finite)

unfoldable pub finite_data : Finite → Data
finite_data finite = object (listed (finite_members finite))

abbrev pub finite_text : TextOf Finite
finite_text = record {
  keys = finite_keys;
  reading = finite_of;
  readable = IsReadableFinite;
  broken = λ finite. Ok tt;
  meets = λ finite. ⊤;
  typed = λ finite. ⊤;
  written = finite_data;
}
