-- The text of a certificate, and what is one.
use Rattle.std.specs.Prelude.{◌≡◌, ℕ, List, [], ◌∷◌, ◌++◌, IsTrue}
use Rattle.std.specs.List.{flat_map, list_all}
use Rattle.value_cert.specs.Contents.{head_line}
use Rattle.value_cert.specs.Grammar.{has_numbers}
use Rattle.value_cert.specs.Kinds.{contents_of}
use Rattle.value_cert.specs.Lines.{line_text}
use Rattle.value_cert.specs.declared.cert.Cert.{Cert}
use Rattle.value_cert.specs.declared.line.CertLine.{CertLine}
use Rattle.value_cert.specs.declared.line.CertLine.TheVariants.{End}

-- the lines of a certificate
abbrev pub cert_lines : Cert → List CertLine
cert_lines c = let held = contents_of c in head_line held.head ∷ held.lines ++ End ∷ []

-- the text of lines
abbrev pub lines_text : List CertLine → List ℕ
lines_text lines = flat_map line_text lines

-- the one text of a certificate
abbrev pub cert_text : Cert → List ℕ
cert_text c = lines_text (cert_lines c)

-- no list of the certificate is empty, and lists that go together are of one length
abbrev pub IsComplete : Cert → Type 0
IsComplete c = (contents_of c).complete

-- the certificate has a text: its numbers are of the stated kinds, and it is complete
pub record HasText (c : Cert) : Type 0 where
  pub numbers : IsTrue (list_all has_numbers (cert_lines c))
  pub complete : IsComplete c

-- lines that are those of a certificate
abbrev pub IsWhole : List CertLine → Type 0
IsWhole lines = (c : Cert) × HasText c × (cert_lines c ≡ lines)

-- lines that a certificate begins with
abbrev pub IsFront : List CertLine → Type 0
IsFront lines = (more : List CertLine) × IsWhole (lines ++ more)

-- the text of some certificate
abbrev pub IsText : List ℕ → Type 0
IsText text = (c : Cert) × HasText c × (text ≡ cert_text c)
