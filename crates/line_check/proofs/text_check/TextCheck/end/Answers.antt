use Rattle.std.proofs.Common.{◌≡◌, sym, ap, ◌∙◌, ⊎_elim}
use Rattle.line_text.specs.Breaches.{ruled}
use Rattle.line_check.specs.declared.verdict.Verdict.TheVariants.{Going, Accepted, Rejected}
use Rattle.line_check.specs.TextCheckFacts.{going_ends, others_end, accepted_whole}
use Rattle.line_check.proofs.text_check.TextCheck.end.Goals as goal

pub returns-in-Going-clause-answer : goal.returns-in-Going-clause-answer
returns-in-Going-clause-answer g c = λ of bytes stands. let s = c.args.self.now in
    ap (λ n. Rejected n 1) c.number.ensures ∙ going_ends (ruled (g.G.Grammar.grammar c.args.self.now.reader.grammar) (g.R.LineRules.rules of)) (g.R.LineRules.knows s.rules of) s.reader.lines s.verdict bytes stands c.in-Going.is

pub returns-in-Accepted-clause-answer : goal.returns-in-Accepted-clause-answer
returns-in-Accepted-clause-answer g c = λ of bytes stands. let s = c.args.self.now in
    others_end (ruled (g.G.Grammar.grammar c.args.self.now.reader.grammar) (g.R.LineRules.rules of)) (g.R.LineRules.knows s.rules of) s.reader.lines s.verdict bytes stands
    (λ going. ⊎_elim (λ is. let e : Accepted ≡ Going = sym is ∙ going in cc) (λ other. let e : Rejected other.0 other.1 ≡ Going = sym other.2 ∙ going in cc) c.in-Accepted.is)

pub returns-in-Accepted-clause-accepted : goal.returns-in-Accepted-clause-accepted
returns-in-Accepted-clause-accepted g c = λ of bytes stands is. let s = c.args.self.now in
    accepted_whole (ruled (g.G.Grammar.grammar c.args.self.now.reader.grammar) (g.R.LineRules.rules of)) (g.R.LineRules.knows s.rules of) s.reader.lines s.verdict bytes stands is
