use Rattle.std.proofs.Common.{◌≡◌, ◌++◌, take, length, ◌∙◌, sym, ap, arith}
use Rattle.std.proofs.lemmas.List.{length-append, length-take-le}
use Rattle.line_text.specs.ReadingFacts.{long_is_none, unspelled_is_none, misplaced_is_none}
use Rattle.line_text.proofs.reader.LineReader.ended_line.Goals as goal

pub returns-then-end-limit : goal.returns-then-end-limit
returns-then-end-limit g c =
    let inside = c.self.inside in
    let old = c.args.self.now in
    let same : take inside.len inside.line ≡ old.lines.unfinished = ap (λ s. s.lines.unfinished) c.self.view_is in
    long_is_none (g.G.Grammar.grammar old.grammar) old.lines.place (old.lines.unfinished ++ c.args.end.now)
    (omega (arith, length-append old.lines.unfinished c.args.end.now, ap length same, ap (λ s. (g.G.Grammar.grammar s.grammar).limit) c.self.view_is, length-take-le inside.len inside.line (omega (arith, c.self.invariant)), c.limit.ensures.limit, c.self.invariant))

pub returns-in_err-line : goal.returns-in_err-line
returns-in_err-line g c = rw c.from_residual.ensures (unspelled_is_none (g.G.Grammar.grammar c.args.self.now.grammar) c.args.self.now.lines.place _ (sym c.in_err-line.ensures))

pub returns-in_err-place : goal.returns-in_err-place
returns-in_err-place g c =
    let old = c.args.self.now in
    let same = ap (λ s. (g.G.Grammar.grammar s.grammar).step s.lines.place c.in_ok-line.line) (sym c.self.view_is) in
    rw c.from_residual-in_err-place.ensures (misplaced_is_none (g.G.Grammar.grammar old.grammar) old.lines.place _ c.in_ok-line.line (sym c.in_ok-line.ensures) (same ∙ sym c.in_err-place.ensures))
