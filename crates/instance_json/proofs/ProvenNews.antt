-- What is proved of a newsvendor's text.
use Rattle.std.proofs.Common.{◌≡◌, ◌+◌, Some, Ok, refl, codes, arith, lt-ltb}
use Rattle.std.specs.Prelude.{nat_lt}
use Rattle.serde_json.specs.Find.{get}
use Rattle.newsvendor.specs.Item.{NewsvendorItem, IsNewsvendor}
use Rattle.decision_model.specs.declared.instance.Instance.TheVariants.{News}
use Rattle.decision_model.specs.Limits.{most_rate}
use Rattle.decision_model.specs.DemandLaws.{IsDemandLaw}
use Rattle.json_forms.specs.LawTexts.{law_in}
use Rattle.json_forms.specs.Keys.{has_keys}
use Rattle.json_forms.specs.WrittenValues.{amount_data, law_data}
use Rattle.instance_json.specs.News.{news_keys, news_of, news_members, news_data, news_text}
use Rattle.instance_json.specs.Reads.{kind_in}
use Rattle.json_forms.proofs.BackLaws.{law_back}
use Rattle.json_forms.proofs.BackKeys.{required_back, required_amount, in_range_back}
use Rattle.json_forms.proofs.Plain.{IsPlain, one_deeper, object_plain, amount_plain, text_plain, one_law_plain}
use Rattle.instance_json.proofs.Proven.{Proven, again}
use Rattle.decision_model.specs.declared.kinds.Kind.TheVariants as kind
use Rattle.decision_model.specs.Kind.{kind_word}

-- what stands under each key
record Under (news : NewsvendorItem) : Type 0 where
  holding : get (codes "holding") (news_data news) ≡ Some (amount_data news.holding)
  stockout : get (codes "stockout") (news_data news) ≡ Some (amount_data news.stockout)
  demand : get (codes "demand") (news_data news) ≡ Some (law_data news.law)

under : (news : NewsvendorItem) → Under news
unfolding news_data
under news = record { holding = refl; stockout = refl; demand = refl }

keys : (news : NewsvendorItem) → has_keys news_keys (news_data news) ≡ Ok tt
unfolding news_data
keys news = refl

law_in_range : (news : NewsvendorItem) → IsNewsvendor news → IsDemandLaw news.law
law_in_range news is = record {
  some_demand = is.some_demand;
  greatest_in_range = is.greatest_in_range;
  greatest_has_weight = is.greatest_has_weight;
  total_in_range = is.total_in_range;
}

values : (news : NewsvendorItem) → IsNewsvendor news → news_of (news_data news) ≡ Ok news
unfolding news_of
values news is =
    let d = news_data news in
    let here = under news in
    let holding = required_amount 0 most_rate (codes "holding") d news.holding here.holding (omega arith) is.holding_in_range in
    let stockout = required_amount 0 most_rate (codes "stockout") d news.stockout here.stockout (omega arith) is.stockout_in_range in
    let some_rate = in_range_back (codes "stockout") (nat_lt 0 (news.holding + news.stockout)) (lt-ltb 0 (news.holding + news.stockout) is.some_rate) in
    let law = required_back law_in (codes "demand") d (law_data news.law) news.law here.demand (law_back news.law (law_in_range news is)) in
    rw (holding, stockout, some_rate, law) refl

kind_written : (news : NewsvendorItem) → kind_in (news_data news) ≡ Some kind.News
unfolding news_data
kind_written news = refl

plain : (news : NewsvendorItem) → IsPlain 5 (news_data news)
unfolding news_data
plain news =
    object_plain 4 (news_members news)
    (one_law_plain news.law, (amount_plain 4 news.holding, (text_plain 4 (kind_word kind.News), (amount_plain 4 news.stockout, tt))))

pub news_proven : (news : NewsvendorItem) → Proven (News news)
news_proven news = record {
  kind = kind_written news;
  plain = one_deeper 5 _ (plain news);
  back = λ typed valid. again News news_text news (keys news) (values news typed);
  regular = λ readable meets grid. tt;
  valid = λ regular width. tt;
  readable = λ valid. tt;
  met = λ valid. refl;
  grid = λ valid. refl;
  width = λ valid. refl;
}
