-- What a reader of certificates knows of the bytes that have come, and what it says of the next ones.
use Rattle.std.specs.Prelude.{◌≡◌, ℕ, List, ◌++◌, true}
use Rattle.line_text.specs.Reading as lines
use Rattle.value_cert.specs.CertGrammar.{cert_grammar}
use Rattle.value_cert.specs.Texts.{IsWhole, IsFront, lines_text, IsText}
use Rattle.value_cert.specs.declared.line.CertLine.{CertLine}
use Rattle.value_cert.specs.declared.place.Place.{Place}
use Rattle.value_cert.specs.declared.reader.CertErr.{CertErr}
use Rattle.value_cert.specs.declared.reader.CertErr.TheVariants.{BadLine}
use Rattle.value_cert.specs.declared.reader.Progress.{Progress}

-- a reader of certificates
abbrev pub ReaderState : Type 0
ReaderState = lines.ReaderState Place

-- bytes that a line may begin with and go on: fewer than 128, and no line feed among them
abbrev pub IsUnfinished : List ℕ → Type 0
IsUnfinished bytes = lines.IsUnfinished 128 bytes

-- no text of a certificate begins so
abbrev pub BeginsNoText : List ℕ → Type 0
BeginsNoText front = (more : List ℕ) → IsText (front ++ more) → ⊥

-- the line under way ended with the first bytes of a piece, and it may stand where it does
abbrev pub EndsLine : ReaderState → ReaderState → List ℕ → ℕ → CertLine → Type 0
EndsLine old new piece count line = lines.EndsLine cert_grammar old new piece count line

-- the line under way goes on past a piece
abbrev pub KeepsPiece : ReaderState → ReaderState → List ℕ → ℕ → Type 0
KeepsPiece old new piece count = lines.KeepsPiece old new piece count

-- what a reader that hasn't failed says of a piece
abbrev pub Reads : ReaderState → ReaderState → List ℕ → Progress → Type 0
Reads old new piece progress = lines.Reads cert_grammar old new piece progress.taken progress.line

-- with a piece the line under way ended, or grew too long, and it may not stand where it does
abbrev pub Refuses : ReaderState → List ℕ → Type 0
Refuses old piece = lines.Refuses cert_grammar old piece

-- a reader refuses the line under way, and stays so
pub record Fails (old new : ReaderState) (error : CertErr) : Type 0 where
  pub told : error ≡ BadLine old.number
  pub after : new ≡ record old { failed = true }

-- a reader has read these bytes: they are these lines, which may stand so, and an unfinished one
abbrev pub HasRead : ReaderState → List ℕ → List CertLine → Type 0
HasRead reader bytes told = lines.HasRead cert_grammar reader bytes told

-- a certificate begins with these lines, and so does each whose text begins with these bytes
pub record AreLinesOf (bytes : List ℕ) (lines : List CertLine) : Type 0 where
  pub front : IsFront lines
  pub only : (whole : List CertLine) (more : List ℕ) → IsWhole whole → bytes ++ more ≡ lines_text whole → (rest : List CertLine) × (whole ≡ lines ++ rest)
