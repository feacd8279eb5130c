-- The newsvendor among the kinds. It is valid by its type, and has neither a grid nor a width number.
use Rattle.std.specs.Prelude.{true, ⊤}
use Rattle.newsvendor.specs.Item.{NewsvendorItem}
use Rattle.decision_model.specs.declared.kinds.Kind.TheVariants as kind
use Rattle.decision_model.specs.Rules.{Rules}

abbrev pub news_rules : NewsvendorItem → Rules
news_rules newsvendor = record {
  kind = kind.News;
  readable = ⊤;
  grid = ⊤;
  grid_test = true;
  width = ⊤;
  width_test = true;
  regular = ⊤;
  valid = ⊤;
}
