-- What the head of a certificate has to say of its instance.
use Rattle.std.specs.Prelude.{Bool, true, false, ◌&&◌, if◌then◌else◌, pos, Some}
use Rattle.decision_model.specs.declared.instance.Instance.{Instance}
use Rattle.decision_model.specs.declared.instance.Instance.TheVariants.{News, Lots, Finite, Average, Serial, Network}
use Rattle.decision_model.specs.declared.kinds.Kind.{Kind}
use Rattle.decision_model.specs.declared.kinds.Kind.TheVariants as kind
use Rattle.value_cert.specs.Numbers.{is_number}
use Rattle.value_cert.specs.Rules.{Rules}
use Rattle.value_cert.specs.declared.heading.Heading.{Heading}
use Rattle.value_cert.specs.declared.line.CertLine.{CertLine}
use Rattle.value_cert.specs.declared.line.CertLine.TheVariants.{Head}

-- a kind without discounts: 1/1
abbrev pub plain_heading : Kind → Heading
plain_heading kind = record { kind = kind; num = 1; den = 1 }

abbrev pub heading_of : Instance → Heading
heading_of (News newsvendor) = plain_heading kind.News
heading_of (Lots lots) = plain_heading kind.Lots
heading_of (Finite finite) = record { kind = kind.Finite; num = finite.discount_num; den = finite.discount_den }
heading_of (Average average) = plain_heading kind.Average
heading_of (Serial serial) = record { kind = kind.Serial; num = serial.discount_num; den = serial.discount_den }
heading_of (Network net) = plain_heading kind.Network

abbrev pub same_kind : Kind → Kind → Bool
same_kind kind.News kind.News = true
same_kind kind.Lots kind.Lots = true
same_kind kind.Finite kind.Finite = true
same_kind kind.Average kind.Average = true
same_kind kind.Serial kind.Serial = true
same_kind kind.Network kind.Network = true
same_kind _ _ = false

-- the line is no head, or the one that says this
abbrev pub allows_line : Heading → CertLine → Bool
allows_line heading (Head kind num den) =
    same_kind heading.kind kind && is_number (pos heading.num) num && is_number (pos heading.den) den
allows_line heading _ = true

-- the rules of a kind behind a head: a head says this (2)
abbrev pub with_head : Heading → Rules → Rules
with_head heading rules = record {
  Known = rules.Known;
  nothing = rules.nothing;
  further = rules.further;
  broken = λ known line. if allows_line heading line then rules.broken known line else Some 2;
}
