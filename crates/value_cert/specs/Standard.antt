-- What certificates are held against.
use Rattle.std.specs.Prelude.{ℕ, ℤ, pos, Option, Some, None}
use Rattle.value_cert.specs.Rules.{Rules}
use Rattle.value_cert.specs.declared.cert.Cert.{Cert}
use Rattle.value_cert.specs.declared.line.CertLine.{CertLine}

-- the rules on the lines behind the head; which certificates name a policy than which none costs less, and its cost; the one that the
-- solver writes, if the kind is solved; and the cost that is printed of one, in lowest terms
pub record Standard : Type 1 where
  pub rules : Rules
  pub Certifies : Cert → Type 0
  pub solved : Option Cert
  pub printed_num : Cert → ℤ
  pub printed_den : Cert → ℕ

-- each line breaks rule 2
abbrev pub no_line : Unit {0} → CertLine → Option ℕ
no_line known line = Some 2

abbrev pub nothing_known : Unit {0} → CertLine → Unit {0}
nothing_known known line = known

abbrev pub no_line_rules : Rules
no_line_rules = record { Known = Unit {0}; nothing = tt; further = nothing_known; broken = no_line }

-- the standard of a kind that isn't solved: no certificate is for it
abbrev pub unsolved : Standard
unsolved = record { rules = no_line_rules; Certifies = λ c. ⊥; solved = None; printed_num = λ c. pos 0; printed_den = λ c. 1 }
