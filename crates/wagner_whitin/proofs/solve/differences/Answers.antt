use Rattle.std.proofs.Common.{◌≡◌, ◌-◌, length, ◌∙◌, ap, map, arith}
use Rattle.std.specs.List.{range_with_len}
use Rattle.wagner_whitin.proofs.Steps.{difference, differences_more}
use Rattle.wagner_whitin.proofs.solve.differences.Goals as goal

pub loop-period-preserved : goal.loop-period-preserved
loop-period-preserved c = c.in_ok-push.ensures.items ∙ differences_more c.args.costs.now c.loop-period.differences.items c.loop-period.period c.loop-period.auto.period c.loop-period.invariant

pub returns : goal.returns
returns c =
    let end : c.loop-period.period - 1 ≡ length c.args.costs.now - 1 = omega (arith, c.requires.some) in
    c.loop-period.invariant ∙ ap (λ n. map (difference c.args.costs.now) (range_with_len 0 n)) end
