use Rattle.std.proofs.Common.{◌≡◌, ◌+◌, ◌-◌, ◌≤◌, length}
use Rattle.stock_edge.specs.KnownFiles.{BeginsFile}
use Rattle.stock_edge.proofs.whole_file.read_file.Given as goal

abbrev pub invariant-loop-buf : goal.invariant-loop-buf
invariant-loop-buf g l = record {
  begins : BeginsFile (g.F.Files.held l.fn.files) l.name l.all.items;
  same : g.F.Files.held l.files ≡ g.F.Files.held l.fn.files;
  later : g.F.Files.faults l.fn.files ≤ g.F.Files.faults l.files;
  short : length l.all.items ≤ l.limit + 1;
}

abbrev pub decreases-loop-buf : goal.decreases-loop-buf
decreases-loop-buf g l = l.limit + 1 - length l.all.items
