use Rattle.std.proofs.Common.{◌∙◌, arith}
use Rattle.std.proofs.lemmas.List.{get_or_read}
use Rattle.decision_model.specs.Average.{average_positions}
use Rattle.value_cert.specs.BracketValues.{up_cost}
use Rattle.bracket_terms.proofs.WalkFacts.{count_costs, listed_cost}
use Rattle.bracket_terms.specs.Known.{item_of}
use Rattle.bracket_terms.proofs.terms.Terms.up_at.Goals as goal

pub index-requires : goal.index-requires
index-requires c = let terms = c.args.self.now in omega (arith, c.requires, count_costs (up_cost (item_of terms)) (average_positions (item_of terms)) terms.costs.up.items terms.costs_are.are_up)

pub returns : goal.returns
returns c =
    let terms = c.args.self.now in
    let cost = up_cost (item_of terms) in
    let n = average_positions (item_of terms) in
    get_or_read terms.costs.up.items _ _ (omega (arith, c.requires, count_costs cost n terms.costs.up.items terms.costs_are.are_up)) c.index.ensures 0 ∙ listed_cost cost n terms.costs.up.items terms.costs_are.are_up c.args.k c.requires
