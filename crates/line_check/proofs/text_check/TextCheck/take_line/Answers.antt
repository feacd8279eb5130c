use Rattle.std.proofs.Common.{◌++◌, take, ℕ, sym, ◌∙◌, refl, subst}
use Rattle.std.specs.Prelude.{IfSome}
use Rattle.line_text.specs.Breaches.{ruled}
use Rattle.line_check.specs.Rules.{MayStand}
use Rattle.line_check.specs.TextChecks.{FeedsLine, IsTextCheckOf}
use Rattle.line_check.specs.TextCheckFacts.{may_stand, reads_piece, refuses}
use Rattle.line_check.proofs.text_check.TextCheck.take_line.Goals as goal

pub verdict_behind-self-requires : goal.verdict_behind-self-requires
verdict_behind-self-requires g c =
    let taken = c.in-Ok.taken in
    let P : _ → Type 0 = λ grammar. IfSome taken.line (MayStand (g.G.Grammar.grammar grammar)) in
    subst P (sym c.in-Ok.ensures.grammar)
    (may_stand (g.G.Grammar.grammar c.args.self.now.reader.grammar) c.args.self.now.reader.lines c.push.new.self.lines c.args.piece.now taken.count taken.line c.in-Ok.ensures.reads)

pub returns-in-Ok-clause-stands : goal.returns-in-Ok-clause-stands
returns-in-Ok-clause-stands g c = λ of bytes stands.
    let s = c.args.self.now in
    let G = ruled (g.G.Grammar.grammar s.reader.grammar) (g.R.LineRules.rules of) in
    let live = sym c.is_rejected.ensures ∙ c.if-is_rejected.false in
    let fed = c.verdict_behind-self in
    let knew = g.R.LineRules.knows s.rules of in
    let knows = g.R.LineRules.knows fed.new.self.rules of in
    let taken = c.in-Ok.taken in
    let H : _ → Type 0 = λ grammar. FeedsLine (ruled (g.G.Grammar.grammar grammar) (g.R.LineRules.rules of)) knew knows c.number-number.result
    ((g.G.Grammar.grammar grammar).ends c.push.new.self.lines.place) taken.line fed.result in
    let F : ℕ → Type 0 = λ n. FeedsLine G knew knows n ((g.G.Grammar.grammar s.reader.grammar).ends c.push.new.self.lines.place) taken.line fed.result in
    let P : _ → Type 0 = λ r. IsTextCheckOf G knows r.lines fed.result (bytes ++ take taken.count c.args.piece.now) in
    subst P (sym fed.ensures.reader)
    (reads_piece G knew knows s.reader.lines c.push.new.self.lines fed.result bytes c.args.piece.now taken.count taken.line (stands.reading live) c.requires
    c.in-Ok.ensures.reads (λ lines read. c.in-Ok.ensures.read bytes lines read) c.in-Ok.ensures.unfinished
    (subst F c.number-number.ensures (subst H c.in-Ok.ensures.grammar (fed.ensures.feeds of))))

pub returns-in-Err-clause-stands : goal.returns-in-Err-clause-stands
returns-in-Err-clause-stands g c = λ of bytes stands.
    let G = ruled (g.G.Grammar.grammar c.args.self.now.reader.grammar) (g.R.LineRules.rules of) in
    let s = c.args.self.now in
    let live = sym c.is_rejected.ensures ∙ c.if-is_rejected.false in
    refuses G (g.R.LineRules.knows s.rules of) (g.R.LineRules.knows s.rules of) s.reader.lines c.push.new.self.lines s.verdict _ bytes c.args.piece.now stands live c.in-Err.ensures.refuses (rw c.in-Err.ensures.fails.told refl)
