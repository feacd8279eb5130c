use Rattle.std.proofs.Common.{suc, ◌-◌, slice_index, arith, sym, add-one, pow-suc}
use Rattle.std.proofs.Math.Nat.{pow-zero}
use Rattle.average_cost.specs.Moves.{moves_upto}
use Rattle.average_cost.proofs.MoveFacts.{factor_most, power_next, moves_more}
use Rattle.average_cost.proofs.moves.list_moves.Goals as goal

pub loop-back-init : goal.loop-back-init
unfolding moves_upto
loop-back-init c = record { listed = c.new-moves.ensures.items; power_is = sym (pow-zero c.args.total) }

pub push_move-requires : goal.push_move-requires
push_move-requires c =
    rw (c.loop-back.invariant.power_is, add-one)
    (omega (arith, c.requires.fits, factor_most (slice_index c.args.weights.now (suc c.loop-back.back)) c.args.total c.loop-back.back (c.args.count - 1) (c.requires.each c.loop-back.back) c.requires.some (omega (arith, c.loop-back-test.true, c.min-back-end.ensures))))

pub overflow_mul-power : goal.overflow_mul-power
overflow_mul-power c =
    rw c.loop-back.invariant.power_is
    (omega (arith, c.requires.fits, power_next c.args.total c.loop-back.back (c.args.count - 1) c.requires.some (omega (arith, c.loop-back-test.true, c.min-back-end.ensures))))

pub loop-back-preserved : goal.loop-back-preserved
loop-back-preserved c = record {
  listed = moves_more c.args.weights.now c.args.total c.loop-back.back c.loop-back.power c.loop-back.moves.items c.push_move.new.moves.items c.loop-back.invariant.listed c.loop-back.invariant.power_is c.in_ok-push_move.ensures;
  power_is = rw c.loop-back.invariant.power_is (rw add-one (omega (arith, pow-suc c.args.total c.loop-back.back)));
}
