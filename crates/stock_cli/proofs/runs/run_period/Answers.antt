use Rattle.std.proofs.Common.{suc, ◌≤◌, arith}
use Rattle.stock_cli.proofs.Simulations.{drawn_length}
use Rattle.stock_cli.proofs.runs.run_period.Goals as goal

pub write_period-requires : goal.write_period-requires
write_period-requires g c =
    let net = c.args.net.now in
    let t = c.args.period in
    let some = c.requires.stands in
    let left : suc t ≤ net.periods = omega (arith, c.requires.left) in
    record { row = drawn_length net some.handed t _ (c.in_ok-draw.ensures.row net some.handed t some.stands.after some.stands.drawn left) }

pub returns-clause-row : goal.returns-clause-row
returns-clause-row g c =
    let net = c.args.net.now in
    let t = c.args.period in
    let some = c.requires.stands in
    let left : suc t ≤ net.periods = omega (arith, c.requires.left) in
    drawn_length net some.handed t _ (c.in_ok-draw.ensures.row net some.handed t some.stands.after some.stands.drawn left)
