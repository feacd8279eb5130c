use Rattle.std.proofs.Common.{sym, ◌∙◌}
use Rattle.line_check.specs.CheckFacts.{unrejected, rejected_keeps, rejected_stands}
use Rattle.value_cert.specs.Breaches.{cert_rules}
use Rattle.cert_check.specs.Kinds.{KnowsKind}
use Rattle.cert_check.proofs.check.Check.feed.Goals as goal

pub returns-then-is_rejected-clause-stands : goal.returns-then-is_rejected-clause-stands
returns-then-is_rejected-clause-stands c = λ instance lines stands. let s = c.args.self.now in
    record { valid = stands.valid; stands = rejected_stands (cert_rules instance) (KnowsKind s.kind instance) s.place s.number s.verdict lines c.args.line.now stands.stands (sym c.is_rejected.ensures ∙ c.if-is_rejected.true) }

pub returns-then-is_rejected-clause-answer : goal.returns-then-is_rejected-clause-answer
returns-then-is_rejected-clause-answer c = λ instance lines stands. let s = c.args.self.now in
    rejected_keeps (cert_rules instance) (KnowsKind s.kind instance) s.place s.number s.verdict lines c.args.line.now stands.stands (sym c.is_rejected.ensures ∙ c.if-is_rejected.true)

pub returns-clause-stands : goal.returns-clause-stands
returns-clause-stands c = λ instance lines stands. let s = c.args.self.now in
    let passing = unrejected (cert_rules instance) (KnowsKind s.kind instance) s.place s.number s.verdict lines stands.stands (sym c.is_rejected.ensures ∙ c.if-is_rejected.false) in
    record { valid = stands.valid; stands = record { said = c.test-verdict.ensures.answer instance lines passing; passing = c.test-verdict.ensures.passing instance lines passing } }

pub returns-clause-answer : goal.returns-clause-answer
returns-clause-answer c = λ instance lines stands. let s = c.args.self.now in
    c.test-verdict.ensures.answer instance lines (unrejected (cert_rules instance) (KnowsKind s.kind instance) s.place s.number s.verdict lines stands.stands (sym c.is_rejected.ensures ∙ c.if-is_rejected.false))
