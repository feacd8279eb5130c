use Rattle.std.proofs.Common.{sym, ap, ◌∙◌}
use Rattle.line_check.specs.CheckFacts.{misplaced, misplaced_fails, broken_later, broken_later_fails, passes_verdict, passes}
use Rattle.line_check.specs.Verdicts.{ended_verdict}
use Rattle.value_cert.specs.Breaches.{cert_rules}
use Rattle.value_cert.specs.CertGrammar.{step_numbers}
use Rattle.cert_check.specs.Kinds.{KnowsKind}
use Rattle.cert_check.proofs.check.Check.test.Goals as goal

pub feed-requires : goal.feed-requires
feed-requires c = step_numbers c.args.self.now.place c.args.line.now c.in-Some.next (sym c.in-Some.ensures)

pub returns-in_default-clause-answer : goal.returns-in_default-clause-answer
returns-in_default-clause-answer c = λ instance lines passing. let s = c.args.self.now in
    c.rejection.ensures ∙ misplaced (cert_rules instance) (KnowsKind s.kind instance) s.place s.number lines c.args.line.now passing (sym c.after.ensures ∙ c.in_default.is)

pub returns-in_default-clause-passing : goal.returns-in_default-clause-passing
returns-in_default-clause-passing c = λ instance lines passing none. let s = c.args.self.now in
    absurd (misplaced_fails (cert_rules instance) (KnowsKind s.kind instance) s.place s.number lines c.args.line.now passing (sym c.after.ensures ∙ c.in_default.is) none)

pub returns-in-Some-feed-clause-answer : goal.returns-in-Some-feed-clause-answer
returns-in-Some-feed-clause-answer c = λ instance lines passing. let s = c.args.self.now in
    c.rejection-in-Some-feed.ensures ∙ broken_later (cert_rules instance) (KnowsKind s.kind instance) s.place s.number lines c.args.line.now c.in-Some.next _ _ c.in-Some-feed.rule passing (sym c.in-Some.ensures) (c.feed.ensures instance lines passing.known) c.in-Some-feed.is

pub returns-in-Some-feed-clause-passing : goal.returns-in-Some-feed-clause-passing
returns-in-Some-feed-clause-passing c = λ instance lines passing none. let s = c.args.self.now in
    absurd (broken_later_fails (cert_rules instance) (KnowsKind s.kind instance) s.place s.number lines c.args.line.now c.in-Some.next _ _ c.in-Some-feed.rule passing (sym c.in-Some.ensures) (c.feed.ensures instance lines passing.known) c.in-Some-feed.is none)

pub returns-clause-answer : goal.returns-clause-answer
returns-clause-answer c = λ instance lines passing. let s = c.args.self.now in
    c.of_passing.ensures ∙ ap ended_verdict c.has_ended.ensures ∙ passes_verdict (cert_rules instance) (KnowsKind s.kind instance) s.place s.number lines c.args.line.now c.in-Some.next _ _ passing (sym c.in-Some.ensures) (c.feed.ensures instance lines passing.known) c.in_default-feed.is

pub returns-clause-passing : goal.returns-clause-passing
returns-clause-passing c = λ instance lines passing none. let s = c.args.self.now in
    passes (cert_rules instance) (KnowsKind s.kind instance) _ s.place c.in-Some.next s.number _ lines c.args.line.now _ passing (sym c.in-Some.ensures) (c.feed.ensures instance lines passing.known) c.in_default-feed.is c.saturating_add-self.ensures
