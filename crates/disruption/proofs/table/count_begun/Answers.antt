use Rattle.std.proofs.Common.{ℕ, ◌+◌, ◌-◌, ◌/◌, ◌<◌, get_or, arith}
use Rattle.network_model.specs.Pauses.{no_span}
use Rattle.disruption.specs.Tables.{Begins, Follows}
use Rattle.disruption.proofs.TableFacts.{begins_earlier, follows_later}
use Rattle.disruption.proofs.table.count_begun.Goals as goal

pub loop-low-preserved-then-begins_by : goal.loop-low-preserved-then-begins_by
loop-low-preserved-then-begins_by c =
    let middle : ℕ = c.loop-low.low + (c.loop-low.high - c.loop-low.low) / 2 in
    let within : middle < c.loop-low.high = omega arith in
    let here : Begins c.args.node c.args.what c.args.t (get_or c.args.table.now middle no_span) = c.if-begins_by.ensures in
    record {
      ordered = omega arith;
      within = c.loop-low.invariant.within;
      begun = λ i lt. begins_earlier c.args.table.now c.args.node c.args.what c.args.t i middle c.requires (omega arith) (omega (arith, c.loop-low.invariant.within)) here;
      rest = c.loop-low.invariant.rest;
    }

pub loop-low-preserved : goal.loop-low-preserved
loop-low-preserved c =
    let middle : ℕ = c.loop-low.low + (c.loop-low.high - c.loop-low.low) / 2 in
    let within : middle < c.loop-low.high = omega arith in
    let here : Follows c.args.node c.args.what c.args.t (get_or c.args.table.now middle no_span) = c.if-begins_by.ensures in
    record {
      ordered = omega arith;
      within = omega (arith, c.loop-low.invariant.within);
      begun = c.loop-low.invariant.begun;
      rest = λ i least lt. follows_later c.args.table.now c.args.node c.args.what c.args.t middle i c.requires least lt here;
    }
