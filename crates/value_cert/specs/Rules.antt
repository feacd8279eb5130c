-- The rules of a kind of instance on the lines of a certificate.
use Rattle.std.specs.Prelude.{ℕ, List, Option}
use Rattle.line_text.specs.Rules as lines
use Rattle.value_cert.specs.declared.line.CertLine.{CertLine}

-- what is known of no line and of a further one, and the least rule from 2 on that a line breaks behind lines of which this is known
abbrev pub Rules : Type 1
Rules = lines.RulesOf CertLine

-- what is known of lines behind others
abbrev pub known_from : (rules : Rules) → rules.Known → List CertLine → rules.Known
known_from rules known told = lines.known_from rules known told

-- what is known of lines
abbrev pub known_of : (rules : Rules) → List CertLine → rules.Known
known_of rules told = lines.known_of rules told

-- the least rule from 2 on that a line breaks behind these
abbrev pub later_rule : Rules → List CertLine → CertLine → Option ℕ
later_rule rules before line = lines.later_rule rules before line
