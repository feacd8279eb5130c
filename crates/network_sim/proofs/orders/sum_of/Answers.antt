use Rattle.std.proofs.Common.{◌≡◌, arith, length, drop, ap, ◌∙◌}
use Rattle.network_sim.specs.Machine.{sum_at}
use Rattle.network_sim.proofs.Lists.{sum_from, sum_past}
use Rattle.network_sim.proofs.orders.sum_of.Goals as goal

pub overflow_add-sum : goal.overflow_add-sum
overflow_add-sum c =
    let a = sum_from c.args.places.now c.args.amounts.now c.loop-i.i 0 c.loop-i-test.true in
    let b = c.loop-i.invariant in
    let d = c.requires.few in
    omega arith

pub loop-i-preserved : goal.loop-i-preserved
loop-i-preserved c =
    let a = sum_from c.args.places.now c.args.amounts.now c.loop-i.i 0 c.loop-i-test.true in
    let b = c.loop-i.invariant in
    omega arith

pub returns : goal.returns
returns c =
    let e : c.loop-i.i ≡ length c.args.places.now = let a = c.loop-i-test.false in let b = c.loop-i.auto.i-end in omega arith in
    let a = ap (λ k. sum_at (drop k c.args.places.now) c.args.amounts.now) e ∙ sum_past c.args.places.now c.args.amounts.now in
    let b = c.loop-i.invariant in
    omega arith
