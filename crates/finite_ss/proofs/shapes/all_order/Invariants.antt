use Rattle.std.proofs.Common.{◌≡◌, drop}
use Rattle.finite_ss.specs.Shapes.{all_order_to}
use Rattle.finite_ss.proofs.shapes.all_order.Given as goal

abbrev pub invariant-loop-cell : goal.invariant-loop-cell
invariant-loop-cell l = all_order_to l.high l.cells ≡ all_order_to l.high (drop l.cell-index l.cells)
