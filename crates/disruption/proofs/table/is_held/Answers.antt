use Rattle.std.proofs.Common.{◌≡◌, ℕ, ◌-◌, ◌<◌, nat_lt, false, length, ap, sym, ◌∙◌, arith}
use Rattle.std.proofs.lemmas.List.{get_or_default}
use Rattle.std.proofs.lemmas.Bool.Decides.{nat_tests}
use Rattle.network_model.specs.Pauses.{holds, no_span}
use Rattle.disruption.proofs.TableFacts.{none_paused, last_decides}
use Rattle.disruption.proofs.table.is_held.Goals as goal

pub returns-then-begun-gt0 : goal.returns-then-begun-gt0
returns-then-begun-gt0 c =
    let table = c.args.table.now in
    let last : ℕ = c.count_begun-begun.result - 1 in
    let within : last < length table = omega (arith, c.count_begun-begun.ensures.within) in
    c.holds.ensures
    ∙ ap (holds c.args.what c.args.node c.args.t) (get_or_default table last _ no_span within)
    ∙ sym (last_decides table c.args.what c.args.node c.args.t last c.requires within (c.count_begun-begun.ensures.begun last (omega arith)) (λ i more lt. c.count_begun-begun.ensures.rest i (omega arith) lt))

none_begun : (n : ℕ) → n ≡ 0 → nat_lt 0 n ≡ false
none_begun n e = grind (arith, nat_tests)

pub returns-else-begun-gt0 : goal.returns-else-begun-gt0
returns-else-begun-gt0 c =
    none_begun c.count_begun-begun.result (omega arith)
    ∙ sym (none_paused c.args.table.now c.args.what c.args.node c.args.t (λ i lt. c.count_begun-begun.ensures.rest i (omega arith) lt))
