use Rattle.std.proofs.Common.{arith}
use Rattle.cert_check.proofs.LotBounds.{whole_small}
use Rattle.cert_check.proofs.lots.LotsCheck.new.Goals as goal

pub total-requires : goal.total-requires
total-requires c = rw c.as_slice.ensures (omega (arith, whole_small c.args.lots.now c.requires.valid.readable))
