-- The first breach of a certificate: its first line that breaks a rule, and the least rule that this line breaks.
use Rattle.std.specs.Prelude.{ℕ, List, Option}
use Rattle.decision_model.specs.declared.instance.Instance.{Instance}
use Rattle.line_text.specs.Breaches as lines
use Rattle.line_text.specs.TextBreaches as texts
use Rattle.value_cert.specs.CertGrammar.{cert_grammar}
use Rattle.value_cert.specs.Standards.{rules_of}
use Rattle.value_cert.specs.declared.line.CertLine.{CertLine}

-- a line, from 1, and the least rule that it breaks: it can stand there in a certificate (1), it must stand there for the
-- instance (2), and what it says is so (from 3 on)
abbrev pub Breach : Type 0
Breach = lines.Breach

-- certificates, and the rules of an instance on their lines
abbrev pub cert_rules : Instance → lines.RuledGrammar
cert_rules instance = lines.ruled cert_grammar (rules_of instance)

-- the first breach of lines, if there is one
abbrev pub lines_breach : Instance → List CertLine → Option Breach
lines_breach instance told = lines.lines_breach (cert_rules instance) told

-- the first breach of a text, if there is one
abbrev pub text_breach : Instance → List ℕ → Option Breach
text_breach instance text = texts.text_breach (cert_rules instance) text
