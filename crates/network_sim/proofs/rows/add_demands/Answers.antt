use Rattle.std.proofs.Common.{◌+◌, arith, ◌∙◌, ap, slice_index}
use Rattle.std.proofs.lemmas.List.{length-set}
use Rattle.network_sim.proofs.Lists.{written, kept}
use Rattle.network_sim.proofs.rows.add_demands.Goals as goal

pub overflow_add-demanded : goal.overflow_add-demanded
overflow_add-demanded c =
    let a = c.loop-i.invariant.rest c.loop-i.i (omega arith) in
    let b = c.requires.few c.loop-i.i c.loop-i-test.true in
    omega arith

pub loop-i-preserved : goal.loop-i-preserved
loop-i-preserved c =
    let v = slice_index c.loop-i.demanded c.loop-i.i + slice_index c.args.demands.now c.loop-i.i in
    record {
      all = length-set c.loop-i.demanded c.loop-i.i v ∙ c.loop-i.invariant.all;
      done = written c.loop-i.demanded c.loop-i.i v 0 (λ k. slice_index c.args.demanded.now k + slice_index c.args.demands.now k)
          (let a = c.loop-i.invariant.all in let b = c.loop-i-test.true in omega arith) c.loop-i.invariant.done
          (ap (λ n. n + slice_index c.args.demands.now c.loop-i.i) (c.loop-i.invariant.rest c.loop-i.i (omega arith)));
      rest = kept c.loop-i.demanded c.loop-i.i v 0 (λ k. slice_index c.args.demanded.now k) c.loop-i.invariant.rest;
    }
