-- What a reader's answers say of the texts of certificates.
use Rattle.std.proofs.Common.{ℕ, List, refl}
use Rattle.line_text.specs.Reading as lines
use Rattle.line_text.specs.ReadingFacts.{has_read_lines}
use Rattle.value_cert.specs.CertFacts.{whole_ends, front_from_place}
use Rattle.value_cert.specs.CertGrammar.{cert_grammar}
use Rattle.value_cert.specs.Reading.{ReaderState, BeginsNoText, HasRead, AreLinesOf}
use Rattle.value_cert.specs.Texts.{cert_lines}
use Rattle.value_cert.specs.declared.line.CertLine.{CertLine}

-- what begins no text of the grammar begins no certificate
pub no_text : (bytes : List ℕ) → lines.BeginsNoText cert_grammar bytes → BeginsNoText bytes
no_text bytes none more whole = none (cert_lines whole.0) more (whole_ends (cert_lines whole.0) (whole.0, whole.1, refl)) whole.2

-- the lines that a reader gave are those of the bytes that it took
pub read_lines : (reader : ReaderState) (bytes : List ℕ) (told : List CertLine) → HasRead reader bytes told → AreLinesOf bytes told
read_lines reader bytes told read = record {
  front = front_from_place told reader.place read.place;
  only = λ whole more is_whole same. has_read_lines cert_grammar reader bytes told read whole more (whole_ends whole is_whole) same;
}
