use Rattle.std.proofs.Common.{sym, ◌∙◌}
use Rattle.line_text.specs.Breaches.{ruled}
use Rattle.line_check.specs.CheckFacts.{unrejected, rejected_keeps, rejected_stands}
use Rattle.line_check.proofs.line_check.LineCheck.feed.Goals as goal

pub returns-then-is_rejected-clause-stands : goal.returns-then-is_rejected-clause-stands
returns-then-is_rejected-clause-stands g c = λ of lines stands. let s = c.args.self.now in rejected_stands (ruled (g.G.Grammar.grammar c.args.self.now.grammar) (g.R.LineRules.rules of)) (g.R.LineRules.knows c.args.self.now.rules of) s.place s.number s.verdict lines c.args.line.now stands (sym c.is_rejected.ensures ∙ c.if-is_rejected.true)

pub returns-then-is_rejected-clause-answer : goal.returns-then-is_rejected-clause-answer
returns-then-is_rejected-clause-answer g c = λ of lines stands. let s = c.args.self.now in rejected_keeps (ruled (g.G.Grammar.grammar c.args.self.now.grammar) (g.R.LineRules.rules of)) (g.R.LineRules.knows c.args.self.now.rules of) s.place s.number s.verdict lines c.args.line.now stands (sym c.is_rejected.ensures ∙ c.if-is_rejected.true)

pub returns-clause-stands : goal.returns-clause-stands
returns-clause-stands g c = λ of lines stands. let s = c.args.self.now in
    let passing = unrejected (ruled (g.G.Grammar.grammar c.args.self.now.grammar) (g.R.LineRules.rules of)) (g.R.LineRules.knows c.args.self.now.rules of) s.place s.number s.verdict lines stands (sym c.is_rejected.ensures ∙ c.if-is_rejected.false) in
    record { said = c.test-verdict.ensures.answer of lines passing; passing = c.test-verdict.ensures.passing of lines passing }

pub returns-clause-answer : goal.returns-clause-answer
returns-clause-answer g c = λ of lines stands. let s = c.args.self.now in
    c.test-verdict.ensures.answer of lines (unrejected (ruled (g.G.Grammar.grammar c.args.self.now.grammar) (g.R.LineRules.rules of)) (g.R.LineRules.knows c.args.self.now.rules of) s.place s.number s.verdict lines stands (sym c.is_rejected.ensures ∙ c.if-is_rejected.false))
