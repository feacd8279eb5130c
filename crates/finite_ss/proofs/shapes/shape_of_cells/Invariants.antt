use Rattle.std.proofs.Common.{◌≡◌, drop}
use Rattle.finite_ss.specs.Shapes.{shape_of}
use Rattle.finite_ss.proofs.shapes.shape_of_cells.Given as goal

abbrev pub invariant-loop-place : goal.invariant-loop-place
invariant-loop-place l = shape_of l.cells ≡ shape_of (drop l.place l.cells)
