use Rattle.std.proofs.Common.{◌≡◌, arith, ◌∙◌, ap, length, drop}
use Rattle.node_state.specs.Totals.{Line}
use Rattle.node_state.specs.Table.{costs}
use Rattle.network_sim.specs.Machine.{no_line}
use Rattle.network_sim.proofs.Ordered.{get_or_any}
use Rattle.network_sim.proofs.Lists.{costs_from, costs_past}
use Rattle.network_sim.proofs.rows.sum_costs.Goals as goal

pub loop-i-preserved : goal.loop-i-preserved
loop-i-preserved c =
    let same = ap (λ (x : Line). x.cost) (c.line.view_is ∙ c.index-lines-i.is ∙ get_or_any c.args.lines.now c.loop-i.i c.index-lines-i.result no_line c.loop-i-test.true) in
    let a = costs_from c.args.lines.now c.loop-i.i no_line c.loop-i-test.true in
    let b = c.loop-i.invariant.rest in
    let d = c.loop-i.invariant.few in
    let e = c.requires.small c.loop-i.i c.loop-i-test.true in
    record { rest = omega arith; few = omega arith }

pub returns : goal.returns
returns c =
    let e : c.loop-i.i ≡ length c.args.lines.now = let a = c.loop-i-test.false in let b = c.loop-i.auto.i-end in omega arith in
    let a = ap (λ k. costs (drop k c.args.lines.now)) e ∙ costs_past c.args.lines.now in
    let b = c.loop-i.invariant.rest in
    let d = c.loop-i.invariant.few in
    let f = c.requires.few in
    record { value = omega arith; small = omega arith }
