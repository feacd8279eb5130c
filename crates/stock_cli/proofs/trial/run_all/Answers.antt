use Rattle.std.proofs.Common.{◌≡◌, ℕ, suc, ◌+◌, ◌≤◌, [], List, map, sym, subst, arith}
use Rattle.node_state.specs.Handed.{Handed}
use Rattle.stock_cli.specs.Runs.{Stands}
use Rattle.stock_cli.proofs.Simulations.{drawn_length}
use Rattle.stock_cli.proofs.trial.run_all.Goals as goal

pub loop-period-preserved : goal.loop-period-preserved
loop-period-preserved g c =
    let net = c.args.net.now in
    let t = c.loop-period.period in
    let left : suc t ≤ net.periods = omega (arith, c.loop-period-test.true) in
    let same : t + 1 ≡ suc t = omega arith in
    let here = c.loop-period.invariant.stands in
    let both = c.in-Ok.ensures.stands net [] t here.after here.drawn left in
    let now : List Handed = map (λ b. (g.dyn-1.0.entry b.vtable).1.meaning b.value) c.draw.new.self.rules.items in
    let S : ℕ → Type 0 = λ n. Stands net [] n c.draw.new.self now in
    record {
      stands = subst S (sym same) (record { after = both.0; drawn = both.1 });
      row = drawn_length net [] t _ (c.in-Ok.ensures.row net [] t here.after here.drawn left);
    }
