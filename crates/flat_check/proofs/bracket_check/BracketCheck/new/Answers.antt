use Rattle.std.proofs.Common.{ap}
use Rattle.value_cert.specs.declared.flat_grammar.FlatGrammar.{FlatGrammar}
use Rattle.flat_check.proofs.bracket_check.BracketCheck.new.Goals as goal

pub returns : goal.returns
returns c = record {
  wide = c.requires;
  named = ap (λ (grammar : FlatGrammar). grammar.name) c.new-2.ensures.grammar;
  stands = c.new-2.ensures.stands c.args.average.now (record { average_is = c.in_ok-rules.ensures.instance; rows = c.in_ok-rules.ensures.rows });
}
