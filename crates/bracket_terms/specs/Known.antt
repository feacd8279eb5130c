-- The instance of some rules.
use Rattle.decision_model.specs.declared.average.Average.{Average}
use Rattle.decision_model.specs.WideAverage.{IsWideAverage}
use Rattle.bracket_terms.specs.WideKnown.{wide_known}
use Rattle.bracket_terms.specs.declared.terms.Terms.{Terms}

abbrev pub item_of : Terms → Average
item_of terms = terms.item.now

-- its cost may be bounded
pub wide_of : (terms : Terms) → IsWideAverage (item_of terms)
wide_of terms = wide_known terms.item.now terms.wide
