use Rattle.std.proofs.Common.{◌≡◌, ℕ, suc, ◌+◌, ◌≤◌, Result, Err, List, map, None, rules, subst, sym, arith}
use Rattle.std.specs.Io.KnownBytes.{Appends}
use Rattle.node_state.specs.Handed.{Handed}
use Rattle.node_state.specs.Table.{setting_of, network_total}
use Rattle.report_text.specs.Network.{first_periods}
use Rattle.stock_cli.specs.Runs.{RanAll, Stands, run_of}
use Rattle.stock_cli.specs.declared.runs.RunErr.{RunErr}
use Rattle.stock_cli.proofs.Simulations.{has_run, ran_all, ran_error, ran_further, ran_part}
use Rattle.stock_cli.proofs.runs.run_rows.Goals as goal

pub returns-in_err-run_period-clause-part : goal.returns-in_err-run_period-clause-part
returns-in_err-run_period-clause-part g c = λ handed stands.
    let net = c.args.net.now in
    let t = c.loop-period.period in
    let left : suc t ≤ net.periods = omega (arith, c.loop-period-test.true) in
    let here = c.loop-period.invariant.stands handed stands in
    let now : List Handed = map (λ b. (g.dyn-1.0.entry b.vtable).1.meaning b.value) c.run_period.new.sim.rules.items in
    let e = c.in_err-run_period.field-0.0 in
    let failed : Result (Unit {0}) RunErr = Err e in
    ran_part net handed c.run_period.new.sim now _ _ failed
    (ran_error net handed t c.run_period.new.sim now _ _ _ (Unit {0}) (Unit {0}) e left here.1 here.2 (c.in_err-run_period.ensures.ran handed here.0))

pub returns-clause-part : goal.returns-clause-part
returns-clause-part g c = λ handed stands.
    let net = c.args.net.now in
    let sim = c.loop-period.sim in
    let done : c.loop-period.period ≡ net.periods = omega (arith, c.loop-period-test.false, c.loop-period.auto.period-end) in
    let now : List Handed = map (λ b. (g.dyn-1.0.entry b.vtable).1.meaning b.value) sim.rules.items in
    let S : ℕ → Type 0 = λ n. Stands net handed n sim now in
    let R : ℕ → Type 0 = λ n. run_of net handed n ≡ record { ran = n; over = None } in
    let W : ℕ → Type 0 = λ n. Appends (g.K.Sink.written c.args.out.now) (g.K.Sink.written c.loop-period.out) (first_periods net handed n) in
    let here = c.loop-period.invariant.stands handed stands in
    let all = subst S done here.0 in
    let total : c.total.result ≡ network_total net handed net.periods = c.total.ensures (setting_of net handed) net.periods (has_run (setting_of net handed) net.periods sim now all.after) in
    ran_part net handed sim now _ _ c.write_total.result
    (ran_all net handed c.total.result sim now _ _ _ c.write_total.result c.requires.valid.readable.some_periods all (subst R done here.1) (subst W done here.2) total
    c.write_total.ensures.written c.write_total.ensures.part c.write_total.ensures.not_over)

pub returns-in_err-run_period-clause-ran : goal.returns-in_err-run_period-clause-ran
returns-in_err-run_period-clause-ran g c = λ handed stands.
    let net = c.args.net.now in
    let t = c.loop-period.period in
    let left : suc t ≤ net.periods = omega (arith, c.loop-period-test.true) in
    let here = c.loop-period.invariant.stands handed stands in
    let sim = c.run_period.new.sim in
    let now : List Handed = map (λ b. (g.dyn-1.0.entry b.vtable).1.meaning b.value) sim.rules.items in
    let e = c.in_err-run_period.field-0.0 in
    let failed : Result (Unit {0}) RunErr = Err e in
    let same : c.from_residual.result ≡ failed = search rules in
    let Ran : Result (Unit {0}) RunErr → Type 0 = RanAll net handed sim now (g.K.Sink.written c.args.out.now) (g.K.Sink.written c.run_period.new.out) in
    subst Ran (sym same) (ran_error net handed t sim now _ _ _ (Unit {0}) (Unit {0}) e left here.1 here.2 (c.in_err-run_period.ensures.ran handed here.0))

pub loop-period-preserved : goal.loop-period-preserved
loop-period-preserved g c =
    let net = c.args.net.now in
    let t = c.loop-period.period in
    let same : t + 1 ≡ suc t = omega arith in
    record {
      stands = λ handed stands.
          let here = c.loop-period.invariant.stands handed stands in
          let ran = c.in_ok-run_period.ensures.ran handed here.0 in
          ran_further net handed t (t + 1) c.run_period.new.sim _ _ _ _ same here.1 here.2 ran.0 ran.1 ran.2;
      row = c.in_ok-run_period.ensures.row;
      later = omega (arith, c.loop-period.invariant.later, c.in_ok-run_period.ensures.later);
    }

pub returns-clause-ran : goal.returns-clause-ran
returns-clause-ran g c = λ handed stands.
    let net = c.args.net.now in
    let sim = c.loop-period.sim in
    let done : c.loop-period.period ≡ net.periods = omega (arith, c.loop-period-test.false, c.loop-period.auto.period-end) in
    let now : List Handed = map (λ b. (g.dyn-1.0.entry b.vtable).1.meaning b.value) sim.rules.items in
    let S : ℕ → Type 0 = λ n. Stands net handed n sim now in
    let R : ℕ → Type 0 = λ n. run_of net handed n ≡ record { ran = n; over = None } in
    let W : ℕ → Type 0 = λ n. Appends (g.K.Sink.written c.args.out.now) (g.K.Sink.written c.loop-period.out) (first_periods net handed n) in
    let here = c.loop-period.invariant.stands handed stands in
    let all = subst S done here.0 in
    let total : c.total.result ≡ network_total net handed net.periods = c.total.ensures (setting_of net handed) net.periods (has_run (setting_of net handed) net.periods sim now all.after) in
    ran_all net handed c.total.result sim now _ _ _ c.write_total.result c.requires.valid.readable.some_periods all (subst R done here.1) (subst W done here.2) total
    c.write_total.ensures.written c.write_total.ensures.part c.write_total.ensures.not_over
