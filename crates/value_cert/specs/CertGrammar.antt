-- Certificates as a grammar of lines.
use Rattle.std.proofs.Common.{◌≡◌, Bool, true, false, cond, Option, Some, None, refl, arith}
use Rattle.line_text.specs.Grammar.{GrammarOf}
use Rattle.value_cert.specs.Grammar.{has_numbers, next_place, step_of, is_ended}
use Rattle.value_cert.specs.Lines.{line_words}
use Rattle.value_cert.specs.Parsing.{line_of}
use Rattle.value_cert.specs.ParsingFacts.{line_of-line_words, line_words-line_of, line_words-without, length-line_words}
use Rattle.value_cert.specs.declared.line.CertLine.{CertLine}
use Rattle.value_cert.specs.declared.place.Place.{Place}
use Rattle.value_cert.specs.declared.place.Place.TheVariants as place

-- a line that may stand somewhere has numbers that may
pub step_numbers : (at : Place) (line : CertLine) (next : Place) → step_of at line ≡ Some next → has_numbers line ≡ true
step_numbers at line next h = passed (has_numbers line) (next_place at line) h
  where
    passed : (b : Bool) (x : Option Place) → cond b x None ≡ Some next → b ≡ true
    passed true x h = refl
    passed false x h = cc

-- a line that comes to 128 bytes with no line feed is no line of a certificate
abbrev pub cert_grammar : GrammarOf CertLine Place
cert_grammar = record {
  start = place.Start;
  step = step_of;
  ends = is_ended;
  words = line_words;
  spelt = line_of;
  limit = 128;
  some = omega arith;
  unended = refl;
  short = λ at line next h. omega (arith, length-line_words line (step_numbers at line next h));
  without_feed = λ at line next h. line_words-without line;
  spells = λ at line next h. line_of-line_words line (step_numbers at line next h);
  spelling = line_words-line_of;
}
