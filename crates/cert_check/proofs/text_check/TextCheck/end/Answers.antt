use Rattle.std.proofs.Common.{◌≡◌, sym, ap, ◌∙◌, ⊎_elim}
use Rattle.line_check.specs.TextCheckFacts.{going_ends, others_end, accepted_whole}
use Rattle.line_check.specs.Verdicts.{verdict_of}
use Rattle.line_check.specs.declared.verdict.Verdict.TheVariants.{Going, Accepted, Rejected}
use Rattle.value_cert.specs.Breaches.{cert_rules}
use Rattle.cert_check.specs.Kinds.{KnowsKind}
use Rattle.cert_check.proofs.Texts.{certified_text, own_passes}
use Rattle.cert_check.proofs.text_check.TextCheck.end.Goals as goal

pub returns-in-Going-clause-answer : goal.returns-in-Going-clause-answer
returns-in-Going-clause-answer c = λ item bytes stands. let s = c.args.self.now in
    ap (λ n. Rejected n 1) c.number.ensures ∙ going_ends (cert_rules item) (KnowsKind s.kind item) s.reader.lines s.verdict bytes stands.stands c.in-Going.is

pub returns-in-Accepted-clause-answer : goal.returns-in-Accepted-clause-answer
returns-in-Accepted-clause-answer c = λ item bytes stands. let s = c.args.self.now in
    others_end (cert_rules item) (KnowsKind s.kind item) s.reader.lines s.verdict bytes stands.stands
    (λ going. ⊎_elim (λ is. let e : Accepted ≡ Going = sym is ∙ going in cc) (λ other. let e : Rejected other.0 other.1 ≡ Going = sym other.2 ∙ going in cc) c.in-Accepted.is)

pub returns-in-Accepted-clause-accepted : goal.returns-in-Accepted-clause-accepted
returns-in-Accepted-clause-accepted c = λ item bytes stands is. let s = c.args.self.now in
    certified_text item bytes stands.valid.rules (accepted_whole (cert_rules item) (KnowsKind s.kind item) s.reader.lines s.verdict bytes stands.stands is)

pub returns-in-Going-clause-own : goal.returns-in-Going-clause-own
returns-in-Going-clause-own c = λ item bytes stands own. returns-in-Going-clause-answer c item bytes stands ∙ ap verdict_of (own_passes item bytes stands.valid own)

pub returns-in-Accepted-clause-own : goal.returns-in-Accepted-clause-own
returns-in-Accepted-clause-own c = λ item bytes stands own. returns-in-Accepted-clause-answer c item bytes stands ∙ ap verdict_of (own_passes item bytes stands.valid own)
