-- What is proved of the text of a finite instance.
use Rattle.std.proofs.Common.{◌≡◌, ℕ, ◌+◌, [], ◌++◌, Option, Some, None, Ok, refl, codes, arith, le-leb}
use Rattle.std.specs.Prelude.{int_le, IfSome}
use Rattle.serde_json.specs.Data.{Data, object}
use Rattle.serde_json.specs.Find.{get}
use Rattle.decision_model.specs.declared.finite.Finite as finite
use Rattle.decision_model.specs.declared.instance.Instance.TheVariants.{Finite}
use Rattle.decision_model.specs.declared.kinds.Kind.TheVariants as kind
use Rattle.decision_model.specs.Kind.{kind_word}
use Rattle.decision_model.specs.Limits.{most_rate, most_setup, most_periods, most_lead, most_order, most_total}
use Rattle.decision_model.specs.Finite.{IsReadableFinite, IsMostOrder}
use Rattle.json_forms.specs.Numbers.{amount_in, position_in, cap_in}
use Rattle.json_forms.specs.LawTexts.{laws_in}
use Rattle.json_forms.specs.Discounts.{discount_in}
use Rattle.json_forms.specs.Keys.{given, has_keys}
use Rattle.json_forms.specs.WrittenValues.{amount_data, position_data, pair_data, laws_data}
use Rattle.json_forms.specs.Members.{Named, listed, put_all}
use Rattle.instance_json.specs.declared.finite.FiniteCosts.{FiniteCosts}
use Rattle.instance_json.specs.Finite.{finite_keys, finite_costs_of, finite_of, with_most, finite_to_lead, finite_from_periods, finite_members, finite_data, finite_text}
use Rattle.instance_json.specs.Reads.{kind_in}
use Rattle.json_forms.proofs.BackNumbers.{amount_back, position_back, cap_back, int_le_is}
use Rattle.json_forms.proofs.BackLaws.{laws_back}
use Rattle.json_forms.proofs.BackDiscount.{discount_back}
use Rattle.json_forms.proofs.BackKeys.{given_back, given_absent, required_back, optional_back, required_amount, optional_amount, in_range_back}
use Rattle.json_forms.proofs.Plain.{IsPlain, ArePlain, one_deeper, object_plain, amount_plain, position_plain, text_plain, pair_plain, laws_plain}
use Rattle.instance_json.proofs.Proven.{Proven, again}
use Rattle.std.proofs.Common.{List}

abbrev Instance : Type 0
Instance = finite.Finite

abbrev written : Instance → Option ℕ → Data
written it most = object (listed (finite_to_lead it ++ with_most most (finite_from_periods it)))

-- what stands under each key, whether there is a greatest order or not
record Under (it : Instance) (d : Data) : Type 0 where
  periods : get (codes "periods") d ≡ Some (amount_data it.periods)
  lead : get (codes "lead") d ≡ Some (amount_data it.lead)
  setup : get (codes "setup") d ≡ Some (amount_data it.setup)
  unit : get (codes "unit") d ≡ Some (amount_data it.unit)
  holding : get (codes "holding") d ≡ Some (amount_data it.holding)
  stockout : get (codes "stockout") d ≡ Some (amount_data it.stockout)
  end_holding : get (codes "end_holding") d ≡ Some (amount_data it.end_holding)
  end_stockout : get (codes "end_stockout") d ≡ Some (amount_data it.end_stockout)
  discount : get (codes "discount") d ≡ Some (pair_data it.discount_num it.discount_den)
  total : get (codes "total") d ≡ None
  demand : get (codes "demand") d ≡ Some (laws_data it.laws)
  cap : get (codes "cap") d ≡ Some (position_data it.cap)
  start : get (codes "start") d ≡ Some (position_data it.start)
  keys : has_keys finite_keys d ≡ Ok tt
  kind : kind_in d ≡ Some kind.Finite

under_with : (it : Instance) (most : Option ℕ) → Under it (written it most)
under_with it None = record { periods = refl; lead = refl; setup = refl; unit = refl; holding = refl; stockout = refl; end_holding = refl; end_stockout = refl; discount = refl; total = refl; demand = refl; cap = refl; start = refl; keys = refl; kind = refl }
under_with it (Some order) = record { periods = refl; lead = refl; setup = refl; unit = refl; holding = refl; stockout = refl; end_holding = refl; end_stockout = refl; discount = refl; total = refl; demand = refl; cap = refl; start = refl; keys = refl; kind = refl }

under : (it : Instance) → Under it (finite_data it)
unfolding finite_data
under it = under_with it it.most

most_in : (it : Instance) (most : Option ℕ) → IfSome most IsMostOrder → given (amount_in 1 most_order) (codes "most") (written it most) ≡ Ok most
most_in it None is = refl
most_in it (Some order) is = given_back (amount_in 1 most_order) (codes "most") (written it (Some order)) (amount_data order) order refl (amount_back 1 most_order order is.least is.most)

most_back : (it : Instance) → IfSome it.most IsMostOrder → given (amount_in 1 most_order) (codes "most") (finite_data it) ≡ Ok it.most
unfolding finite_data
most_back it is = most_in it it.most is

abbrev costs : Instance → FiniteCosts
costs it = record { setup = it.setup; unit = it.unit; holding = it.holding; stockout = it.stockout; end_holding = it.end_holding; end_stockout = it.end_stockout }

costs_back : (it : Instance) → IsReadableFinite it → finite_costs_of (finite_data it) ≡ Ok (costs it)
unfolding finite_costs_of
costs_back it is =
    let d = finite_data it in
    let here = under it in
    let setup = optional_amount most_setup (codes "setup") d it.setup here.setup is.setup in
    let unit = optional_amount most_rate (codes "unit") d it.unit here.unit is.unit in
    let holding = required_amount 0 most_rate (codes "holding") d it.holding here.holding (omega arith) is.holding in
    let stockout = required_amount 0 most_rate (codes "stockout") d it.stockout here.stockout (omega arith) is.stockout in
    let end_holding = optional_amount most_rate (codes "end_holding") d it.end_holding here.end_holding is.end_holding in
    let end_stockout = optional_amount most_rate (codes "end_stockout") d it.end_stockout here.end_stockout is.end_stockout in
    rw (setup, unit, holding, stockout, end_holding, end_stockout) refl

values : (it : Instance) → IsReadableFinite it → finite_of (finite_data it) ≡ Ok it
unfolding finite_of
values it is =
    let d = finite_data it in
    let here = under it in
    let periods = required_amount 1 most_periods (codes "periods") d it.periods here.periods is.periods.least is.periods.most in
    let lead = optional_amount most_lead (codes "lead") d it.lead here.lead is.lead in
    let discount = optional_back discount_in (1, 1) (codes "discount") d (pair_data it.discount_num it.discount_den) (it.discount_num, it.discount_den) here.discount (discount_back it.discount_num it.discount_den is.discount) in
    let total = given_absent (amount_in 1 most_total) (codes "total") d here.total in
    let laws = required_back (laws_in (it.periods + it.lead) None) (codes "demand") d (laws_data it.laws) it.laws here.demand (laws_back (it.periods + it.lead) it.laws is.laws) in
    let cap = required_back cap_in (codes "cap") d (position_data it.cap) it.cap here.cap (cap_back it.cap is.cap) in
    let start = required_back position_in (codes "start") d (position_data it.start) it.start here.start (position_back it.start is.start.least is.start.most) in
    let below = in_range_back (codes "start") (int_le it.start it.cap) (int_le_is it.start it.cap is.start_below) in
    rw (periods, lead, costs_back it is, discount, most_back it is.most, total, laws, cap, start, below) refl

most_plain : (n : ℕ) (most : Option ℕ) (ms : List Named) → ArePlain n ms → ArePlain n (with_most most ms)
most_plain n None ms plain = plain
most_plain n (Some order) ms plain = (amount_plain n order, plain)

plain : (it : Instance) → IsPlain 5 (finite_data it)
unfolding finite_data
plain it =
    let after = most_plain 4 it.most (finite_from_periods it)
    (amount_plain 4 it.periods, (amount_plain 4 it.setup, (position_plain 4 it.start, (amount_plain 4 it.stockout, (amount_plain 4 it.unit, tt))))) in
    object_plain 4 (finite_members it)
    (position_plain 4 it.cap, (laws_plain it.laws, (pair_plain 3 it.discount_num it.discount_den, (amount_plain 4 it.end_holding, (amount_plain 4 it.end_stockout, (amount_plain 4 it.holding, (text_plain 4 (kind_word kind.Finite), (amount_plain 4 it.lead, after))))))))

-- the greatest order of a period, put among the other members
pub put_most-listed : (it : Instance) (most : Option ℕ) → put_all (with_most most []) (listed (finite_to_lead it ++ finite_from_periods it)) ≡ listed (finite_to_lead it ++ with_most most (finite_from_periods it))
put_most-listed it None = refl
put_most-listed it (Some order) = refl

pub finite_proven : (it : Instance) → Proven (Finite it)
finite_proven it = record {
  kind = (under it).kind;
  plain = one_deeper 5 _ (plain it);
  back = λ typed valid. again Finite finite_text it (under it).keys (values it valid.regular.readable);
  regular = λ readable meets grid. record { readable = readable; grid = grid };
  valid = λ regular width. record { regular = regular; width = width };
  readable = λ valid. valid.regular.readable;
  met = λ valid. refl;
  grid = λ valid. rw (le-leb _ _ valid.regular.grid.positions, le-leb _ _ valid.regular.grid.cells) refl;
  width = λ valid. le-leb _ _ valid.width;
}
