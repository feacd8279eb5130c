-- A certificate of whatever a command is about.
use Rattle.std.specs.Prelude.{ℕ, List}
use Rattle.value_cert.specs.Bracket.{bracket_lines, HasBracketText}
use Rattle.value_cert.specs.FlatWrites.{flat_text}
use Rattle.value_cert.specs.Texts.{HasText, cert_text}
use Rattle.value_cert.specs.declared.bracket.BracketCert.{BracketCert}
use Rattle.value_cert.specs.declared.flat_line.FlatName.TheVariants.{Bracket}
use Rattle.stock_cli.specs.declared.any_cert.AnyCert.{AnyCert}
use Rattle.stock_cli.specs.declared.any_cert.AnyCert.TheVariants as any

abbrev pub bracket_text : BracketCert → List ℕ
bracket_text c = flat_text Bracket (bracket_lines c)

-- its text, and that it has one
abbrev pub any_text : AnyCert → List ℕ
any_text (any.Kind c) = cert_text c
any_text (any.Bracket c) = bracket_text c

abbrev pub AnyHasText : AnyCert → Type 0
AnyHasText (any.Kind c) = HasText c
AnyHasText (any.Bracket c) = HasBracketText c
