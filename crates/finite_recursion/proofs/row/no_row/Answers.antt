use Rattle.std.proofs.Common.{arith}
use Rattle.finite_recursion.proofs.Bounds.{positions_some}
use Rattle.finite_recursion.proofs.row.no_row.Goals as goal

pub new-requires-2-clause-some : goal.new-requires-2-clause-some
new-requires-2-clause-some c = omega (arith, c.requires.positions, positions_some c.args.finite.now c.requires.valid)
