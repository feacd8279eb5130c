use Rattle.std.proofs.Common.{◌≡◌, ◌∙◌, sym, subst, arith, true, false, Some, None, ap}
use Rattle.least_values.specs.Sweeps.{better, IsLeastPair}
use Rattle.least_values.specs.Rooms.{held}
use Rattle.least_values.specs.Windows.{HasSeen, last_of}
use Rattle.least_values.proofs.WindowSteps.{first_least, whole_least, both_least, earlier_least}
use Rattle.least_values.proofs.window.Window.least.Goals as goal

pub returns-then-not-self : goal.returns-then-not-self
returns-then-not-self c = λ width pairs known.
    let w = c.args.self.now in
    let seen : HasSeen width w.filled false w.best c.args.room.now pairs = subst (λ whole. HasSeen width w.filled whole w.best c.args.room.now pairs) c.if-not-self.true known.1 in
    first_least width w.filled w.best c.args.room.now pairs (omega (arith, known.0, w.within)) seen

pub returns-then-self : goal.returns-then-self
returns-then-self c = λ width pairs known.
    let w = c.args.self.now in
    let full : w.filled ≡ width = c.if-self.true ∙ known.0 in
    let seen : HasSeen width width w.whole w.best c.args.room.now pairs = subst (λ filled. HasSeen width filled w.whole w.best c.args.room.now pairs) full known.1 in
    whole_least width w.whole w.best c.args.room.now pairs seen

pub returns-in-Some : goal.returns-in-Some
returns-in-Some c = λ width pairs known.
    let w = c.args.self.now in
    let room = c.args.room.now in
    let seen : HasSeen width w.filled true (Some c.in-Some.best) room pairs = subst (λ best. HasSeen width w.filled true best room pairs) c.in-Some.is (subst (λ whole. HasSeen width w.filled whole w.best room pairs) c.if-not-self.false known.1) in
    let e : c.better.result ≡ better (held room w.filled) c.in-Some.best = c.better.ensures ∙ ap (λ p. better p c.in-Some.best) c.pair_at-earlier.ensures in
    subst (IsLeastPair (last_of width pairs)) (sym e) (both_least width w.filled c.in-Some.best room pairs (omega (arith, known.0, w.within)) seen)

pub returns-in-None : goal.returns-in-None
returns-in-None c = λ width pairs known.
    let w = c.args.self.now in
    let room = c.args.room.now in
    let seen : HasSeen width w.filled true None room pairs = subst (λ best. HasSeen width w.filled true best room pairs) c.in-None.is (subst (λ whole. HasSeen width w.filled whole w.best room pairs) c.if-not-self.false known.1) in
    subst (IsLeastPair (last_of width pairs)) (sym c.pair_at-earlier.ensures) (earlier_least width w.filled room pairs (omega (arith, known.0, w.within)) seen)
