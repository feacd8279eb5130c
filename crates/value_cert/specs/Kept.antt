-- Lines that break no rule.
use Rattle.std.proofs.Common.{◌≡◌, ℕ, ◌&&◌, true, cond, List, [], ◌∷◌, ◌++◌, Option, Some, None, pos, refl, ap}
use Rattle.std.proofs.lemmas.Bool.{and_from}
use Rattle.decision_model.specs.declared.instance.Instance.{Instance}
use Rattle.decision_model.specs.declared.kinds.Kind.{Kind}
use Rattle.decision_model.specs.declared.kinds.Kind.TheVariants as kind
use Rattle.value_cert.specs.Contents.{head_line}
use Rattle.value_cert.specs.Headings.{same_kind, allows_line}
use Rattle.value_cert.specs.Numbers.{is_number}
use Rattle.value_cert.specs.RuleTests.{number_at}
use Rattle.value_cert.specs.Rules.{Rules, known_from, known_of}
use Rattle.value_cert.specs.Standards.{rules_of}
use Rattle.value_cert.specs.Texts.{cert_lines}
use Rattle.value_cert.specs.declared.cert.Cert.{Cert}
use Rattle.value_cert.specs.declared.heading.Heading.{Heading}
use Rattle.value_cert.specs.declared.line.CertLine.{CertLine}

-- no line breaks a rule from 2 on
abbrev pub Keeps : (rules : Rules) → rules.Known → List CertLine → Type 0
Keeps rules known [] = Unit {0}
Keeps rules known (line ∷ lines) = (rules.broken known line ≡ None) × Keeps rules (rules.further known line) lines

-- no line of a certificate breaks a rule of the instance
abbrev pub BreaksNoRule : Instance → Cert → Type 0
BreaksNoRule instance c = Keeps (rules_of instance) (rules_of instance).nothing (cert_lines c)

-- what is known of a further line
known_from-more : (rules : Rules) (known : rules.Known) (before : List CertLine) (line : CertLine) → known_from rules known (before ++ line ∷ []) ≡ rules.further (known_from rules known before) line
known_from-more rules known [] line = refl
known_from-more rules known (next ∷ before) line = known_from-more rules (rules.further known next) before line

pub known_of-more : (rules : Rules) (before : List CertLine) (line : CertLine) → known_of rules (before ++ line ∷ []) ≡ rules.further (known_of rules before) line
known_of-more rules before line = known_from-more rules rules.nothing before line

-- ---- the head of a certificate
same_as_itself : (which : Kind) → same_kind which which ≡ true
same_as_itself kind.News = refl
same_as_itself kind.Lots = refl
same_as_itself kind.Finite = refl
same_as_itself kind.Average = refl
same_as_itself kind.Serial = refl
same_as_itself kind.Network = refl

own_line : (heading : Heading) → allows_line heading (head_line heading) ≡ true
own_line heading =
    let num = is_number (pos heading.num) (pos heading.num) in
    let den = is_number (pos heading.den) (pos heading.den) in
    and_from (same_kind heading.kind heading.kind && num) den
    (and_from (same_kind heading.kind heading.kind) num (same_as_itself heading.kind) (number_at (pos heading.num) (pos heading.num) refl))
    (number_at (pos heading.den) (pos heading.den) refl)

-- a head that says what it has to breaks no rule
pub own_head : (heading : Heading) → cond {A = Option ℕ} (allows_line heading (head_line heading)) None (Some 2) ≡ None
own_head heading = ap (λ b. cond {A = Option ℕ} b None (Some 2)) (own_line heading)
