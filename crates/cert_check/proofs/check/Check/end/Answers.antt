use Rattle.std.proofs.Common.{◌≡◌, sym, ◌∙◌, ⊎_elim}
use Rattle.line_check.specs.CheckFacts.{going_ends, others_end, accepted_whole}
use Rattle.line_check.specs.declared.verdict.Verdict.TheVariants.{Going, Accepted, Rejected}
use Rattle.value_cert.specs.Breaches.{cert_rules}
use Rattle.cert_check.specs.Kinds.{KnowsKind}
use Rattle.cert_check.proofs.Texts.{certified_lines}
use Rattle.cert_check.proofs.check.Check.end.Goals as goal

pub returns-in-Going-clause-answer : goal.returns-in-Going-clause-answer
returns-in-Going-clause-answer c = λ instance lines stands. let s = c.args.self.now in
    c.rejection.ensures ∙ going_ends (cert_rules instance) (KnowsKind s.kind instance) s.place s.number s.verdict lines stands.stands c.in-Going.is

pub returns-in-Accepted-clause-answer : goal.returns-in-Accepted-clause-answer
returns-in-Accepted-clause-answer c = λ instance lines stands. let s = c.args.self.now in
    others_end (cert_rules instance) (KnowsKind s.kind instance) s.place s.number s.verdict lines stands.stands
    (λ going. ⊎_elim (λ is. let e : Accepted ≡ Going = sym is ∙ going in cc) (λ other. let e : Rejected other.0 other.1 ≡ Going = sym other.2 ∙ going in cc) c.in-Accepted.is)

pub returns-in-Going-clause-accepted : goal.returns-in-Going-clause-accepted
returns-in-Going-clause-accepted c = λ instance lines stands is. let s = c.args.self.now in
    certified_lines instance lines stands.valid (accepted_whole (cert_rules instance) (KnowsKind s.kind instance) s.place s.number s.verdict lines stands.stands (sym (returns-in-Going-clause-answer c instance lines stands) ∙ is))

pub returns-in-Accepted-clause-accepted : goal.returns-in-Accepted-clause-accepted
returns-in-Accepted-clause-accepted c = λ instance lines stands is. let s = c.args.self.now in
    certified_lines instance lines stands.valid (accepted_whole (cert_rules instance) (KnowsKind s.kind instance) s.place s.number s.verdict lines stands.stands (sym (returns-in-Accepted-clause-answer c instance lines stands) ∙ is))
