use Rattle.std.proofs.Common.{sym, ap, ◌∙◌}
use Rattle.line_text.specs.Breaches.{ruled}
use Rattle.line_check.specs.Verdicts.{ended_verdict}
use Rattle.line_check.specs.CheckFacts.{misplaced, misplaced_fails, broken_later, broken_later_fails, passes_verdict, passes}
use Rattle.line_check.proofs.line_check.LineCheck.test.Goals as goal

pub returns-in_default-clause-answer : goal.returns-in_default-clause-answer
returns-in_default-clause-answer g c = λ of lines passing. let s = c.args.self.now in
    c.rejection.ensures ∙ misplaced (ruled (g.G.Grammar.grammar c.args.self.now.grammar) (g.R.LineRules.rules of)) (g.R.LineRules.knows c.args.self.now.rules of) s.place s.number lines c.args.line.now passing (sym c.after.ensures ∙ c.in_default.is)

pub returns-in_default-clause-passing : goal.returns-in_default-clause-passing
returns-in_default-clause-passing g c = λ of lines passing none. let s = c.args.self.now in
    absurd (misplaced_fails (ruled (g.G.Grammar.grammar c.args.self.now.grammar) (g.R.LineRules.rules of)) (g.R.LineRules.knows c.args.self.now.rules of) s.place s.number lines c.args.line.now passing (sym c.after.ensures ∙ c.in_default.is) none)

pub returns-in-Some-feed-clause-answer : goal.returns-in-Some-feed-clause-answer
returns-in-Some-feed-clause-answer g c = λ of lines passing. let s = c.args.self.now in
    c.rejection-in-Some-feed.ensures ∙ broken_later (ruled (g.G.Grammar.grammar c.args.self.now.grammar) (g.R.LineRules.rules of)) (g.R.LineRules.knows c.args.self.now.rules of) s.place s.number lines c.args.line.now c.in-Some.next _ _ c.in-Some-feed.rule passing (sym c.in-Some.ensures) (c.feed.ensures of lines passing.known) c.in-Some-feed.is

pub returns-in-Some-feed-clause-passing : goal.returns-in-Some-feed-clause-passing
returns-in-Some-feed-clause-passing g c = λ of lines passing none. let s = c.args.self.now in
    absurd (broken_later_fails (ruled (g.G.Grammar.grammar c.args.self.now.grammar) (g.R.LineRules.rules of)) (g.R.LineRules.knows c.args.self.now.rules of) s.place s.number lines c.args.line.now c.in-Some.next _ _ c.in-Some-feed.rule passing (sym c.in-Some.ensures) (c.feed.ensures of lines passing.known) c.in-Some-feed.is none)

pub returns-clause-answer : goal.returns-clause-answer
returns-clause-answer g c = λ of lines passing. let s = c.args.self.now in
    c.of_passing.ensures ∙ ap ended_verdict c.has_ended.ensures ∙ passes_verdict (ruled (g.G.Grammar.grammar c.args.self.now.grammar) (g.R.LineRules.rules of)) (g.R.LineRules.knows c.args.self.now.rules of) s.place s.number lines c.args.line.now c.in-Some.next _ _ passing (sym c.in-Some.ensures) (c.feed.ensures of lines passing.known) c.in_default-feed.is

pub returns-clause-passing : goal.returns-clause-passing
returns-clause-passing g c = λ of lines passing none. let s = c.args.self.now in
    passes (ruled (g.G.Grammar.grammar c.args.self.now.grammar) (g.R.LineRules.rules of)) (g.R.LineRules.knows c.args.self.now.rules of) _ s.place c.in-Some.next s.number _ lines c.args.line.now _ passing (sym c.in-Some.ensures) (c.feed.ensures of lines passing.known) c.in_default-feed.is c.saturating_add-self.ensures
