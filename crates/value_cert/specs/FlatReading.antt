-- What a reader of flat texts knows of the bytes that have come, and what it says of the next ones.
use Rattle.std.specs.Prelude.{◌≡◌, true}
use Rattle.line_text.specs.Reading.{ReaderOf}
use Rattle.value_cert.specs.declared.flat_grammar.FlatGrammar.{FlatGrammar}
use Rattle.value_cert.specs.declared.flat_line.FlatPlace.{FlatPlace}
use Rattle.value_cert.specs.declared.reader.CertErr.{CertErr}
use Rattle.value_cert.specs.declared.reader.CertErr.TheVariants.{BadLine}

-- a reader of the flat texts of a name
abbrev pub FlatState : Type 0
FlatState = ReaderOf FlatGrammar FlatPlace

-- a reader refuses the line under way, and stays so
pub record FlatFails (old new : FlatState) (error : CertErr) : Type 0 where
  pub told : error ≡ BadLine old.lines.number
  pub after : new ≡ record old { lines = record old.lines { failed = true } }
