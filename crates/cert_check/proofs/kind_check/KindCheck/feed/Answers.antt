use Rattle.std.proofs.Common.{refl, sym, ◌∙◌}
use Rattle.cert_check.proofs.Heads.{other_head, behind_head}
use Rattle.cert_check.proofs.kind_check.KindCheck.feed.Goals as goal

pub returns-then-not-allows : goal.returns-then-not-allows
returns-then-not-allows c = λ instance before knows.
    other_head instance c.args.self.now before c.args.line.now knows (sym c.allows.ensures ∙ c.if-not-allows.true)

pub returns : goal.returns
returns c = λ instance before knows.
    behind_head instance c.args.self.now _ before c.args.line.now c.feed.result knows (sym c.allows.ensures ∙ c.if-not-allows.false) refl (c.feed.ensures instance before knows.rules)
