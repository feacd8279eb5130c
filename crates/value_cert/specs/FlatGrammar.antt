-- Flat texts as a grammar of lines.
use Rattle.std.proofs.Common.{◌≡◌, Bool, true, false, Some, None, refl, arith, if◌then◌else◌}
use Rattle.line_text.specs.Grammar.{GrammarOf}
use Rattle.value_cert.specs.FlatFacts.{line_of-line_words, line_words-line_of, line_words-without, length-line_words}
use Rattle.value_cert.specs.FlatLines.{has_numbers, step_of, is_flat_end, line_words, line_of}
use Rattle.value_cert.specs.declared.flat_line.FlatLine.{FlatLine}
use Rattle.value_cert.specs.declared.flat_line.FlatLine.TheVariants.{Head, Row, End}
use Rattle.value_cert.specs.declared.flat_line.FlatName.{FlatName}
use Rattle.value_cert.specs.declared.flat_line.FlatPlace.{FlatPlace}
use Rattle.value_cert.specs.declared.flat_line.FlatPlace.TheVariants.{Start, Body, Ended}

numbered : (t : Bool) (next : FlatPlace) → (if t then Some Body else None) ≡ Some next → t ≡ true
numbered true next h = refl
numbered false next h = absurd (cc)

-- a line that may stand somewhere has numbers that may
pub step_numbers : (at : FlatPlace) (line : FlatLine) (next : FlatPlace) → step_of at line ≡ Some next → has_numbers line ≡ true
step_numbers at Head next h = refl
step_numbers at End next h = refl
step_numbers Body (Row tag count a b c e) next h = numbered (has_numbers (Row tag count a b c e)) next h
step_numbers Start (Row tag count a b c e) next h = absurd (cc)
step_numbers Ended (Row tag count a b c e) next h = absurd (cc)

-- a line that comes to 256 bytes with no line feed is no line of a flat text
abbrev pub flat_grammar : FlatName → GrammarOf FlatLine FlatPlace
flat_grammar name = record {
  start = Start;
  step = step_of;
  ends = is_flat_end;
  words = line_words name;
  spelt = line_of name;
  limit = 256;
  some = omega arith;
  unended = refl;
  short = λ at line next h. omega (arith, length-line_words name line (step_numbers at line next h));
  without_feed = λ at line next h. line_words-without name line (step_numbers at line next h);
  spells = λ at line next h. line_of-line_words name line (step_numbers at line next h);
  spelling = λ bytes line h. (line_words-line_of name bytes line h).0;
}
