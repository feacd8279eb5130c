-- Which lines a bracket's certificate may have, and what acceptance says of its text.
use Rattle.std.specs.Prelude.{◌≡◌, ℕ, List}
use Rattle.decision_model.specs.declared.average.Average.{Average}
use Rattle.line_text.specs.Breaches.{RuledGrammar, ruled}
use Rattle.line_text.specs.Reading.{lines_text}
use Rattle.value_cert.specs.Bracket.{bracket_lines, HasBracketText}
use Rattle.value_cert.specs.BracketRules.{bracket_rules, IsBracket}
use Rattle.value_cert.specs.FlatGrammar.{flat_grammar}
use Rattle.value_cert.specs.declared.bracket.BracketCert.{BracketCert}
use Rattle.value_cert.specs.declared.flat_line.FlatName.TheVariants.{Bracket}

-- flat texts of brackets, by the rules of an instance
abbrev pub bracket_ruled : Average → RuledGrammar
bracket_ruled average = ruled (flat_grammar Bracket) (bracket_rules average)

-- the text is that of a certificate which bounds the cost of every number of periods
pub record IsBracketText (average : Average) (text : List ℕ) : Type 0 where
  pub cert : BracketCert
  pub readable : HasBracketText cert
  pub text_is : text ≡ lines_text (flat_grammar Bracket) (bracket_lines cert)
  pub bracket : IsBracket average cert
