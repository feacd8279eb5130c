use Rattle.std.proofs.Common.{◌≡◌, ap, take, length, arith}
use Rattle.std.proofs.lemmas.List.{length-take-le}
use Rattle.line_text.proofs.reader.LineReader.line_with.Goals as goal

pub fill-requires : goal.fill-requires
fill-requires g c =
    let inside = c.self.inside in
    let same : take inside.len inside.line ≡ c.args.self.now.lines.unfinished = ap (λ s. s.lines.unfinished) c.self.view_is in
    omega (arith, ap length same, ap (λ s. (g.G.Grammar.grammar s.grammar).limit) c.self.view_is, length-take-le inside.len inside.line (omega (arith, c.self.invariant)), c.requires, c.self.invariant)
