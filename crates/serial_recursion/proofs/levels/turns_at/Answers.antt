use Rattle.std.proofs.Common.{◌-◌, sym, ◌∙◌, arith}
use Rattle.serial_recursion.proofs.Turns.{each_range, fails_range}
use Rattle.serial_recursion.specs.Rows.{turns_from, value_at}
use Rattle.serial_recursion.proofs.levels.turns_at.Goals as goal

pub returns-then-not-turns : goal.returns-then-not-turns
returns-then-not-turns c =
    sym (fails_range (turns_from (value_at c.args.costs.now) c.args.level) 0 (c.args.count - 1) c.loop-place.place (omega arith) (omega (arith, c.loop-place-test.true)) (sym c.turns.ensures ∙ c.if-not-turns.true))

pub returns : goal.returns
returns c =
    sym (each_range (turns_from (value_at c.args.costs.now) c.args.level) 0 (c.args.count - 1) (λ k le lt. c.loop-place.invariant k (omega (arith, lt, c.loop-place-test.false))))
