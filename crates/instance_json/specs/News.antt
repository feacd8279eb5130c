-- The text of a newsvendor.
use Rattle.std.specs.Prelude.{◌+◌, List, [], ◌∷◌, codes, nat_lt, Result, Ok, ⊤}
use Rattle.newsvendor.specs.Item.{NewsvendorItem, IsNewsvendor}
use Rattle.decision_model.specs.Limits.{most_rate}
use Rattle.serde_json.specs.Data.{Data, string, object}
use Rattle.decision_model.specs.declared.kinds.Kind.TheVariants as kind
use Rattle.decision_model.specs.Kind.{kind_word}
use Rattle.json_forms.specs.declared.fault.InstanceFault.{InstanceFault}
use Rattle.json_forms.specs.Steps.{◌>>=◌}
use Rattle.json_forms.specs.Numbers.{amount_in}
use Rattle.json_forms.specs.LawTexts.{law_in}
use Rattle.json_forms.specs.Keys.{Row, needs, allows, required, in_range}
use Rattle.json_forms.specs.WrittenValues.{amount_data, law_data}
use Rattle.json_forms.specs.Members.{Named, listed}
use Rattle.instance_json.specs.KindText.{TextOf}

abbrev pub news_keys : List Row
news_keys =
    allows (codes "kind")
    ∷ needs (codes "holding")
    ∷ needs (codes "stockout")
    ∷ needs (codes "demand")
    ∷ []

-- the values, key by key; the rates are not both 0
unfoldable pub news_of : Data → Result NewsvendorItem InstanceFault
news_of d = do
  holding ← required (amount_in 0 most_rate) (codes "holding") d
  stockout ← required (amount_in 0 most_rate) (codes "stockout") d
  _ ← in_range (codes "stockout") (nat_lt 0 (holding + stockout))
  law ← required law_in (codes "demand") d
  Ok (record { holding = holding; stockout = stockout; law = law })

abbrev pub news_members : NewsvendorItem → List Named
news_members news =
    (codes "demand", law_data news.law)
    ∷ (codes "holding", amount_data news.holding)
    ∷ (codes "kind", string (kind_word kind.News))
    ∷ (codes "stockout", amount_data news.stockout)
    ∷ []

unfoldable pub news_data : NewsvendorItem → Data
news_data news = object (listed (news_members news))

abbrev pub news_text : TextOf NewsvendorItem
news_text = record {
  keys = news_keys;
  reading = news_of;
  readable = λ news. ⊤;
  broken = λ news. Ok tt;
  meets = λ news. ⊤;
  typed = IsNewsvendor;
  written = news_data;
}
