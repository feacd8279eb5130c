use Rattle.std.proofs.Common.{◌≡◌, ◌≢◌, ◌+◌, ◌-◌, ◌≤◌, [], None}
use Rattle.stock_cli.specs.Checks.{HasCome}
use Rattle.stock_cli.specs.Inputs.{origin_of}
use Rattle.stock_cli.proofs.certificates.check_from.Given as goal

abbrev pub invariant-loop-taken : goal.invariant-loop-taken
invariant-loop-taken g l = record {
  come : (of : g.C.TakesText.check.Of) → g.C.TakesText.check.StandsFor of l.fn.check [] → HasCome g.C.TakesText.check of l.check (origin_of l.from) (g.I.Source.left l.fn.input) (g.I.Source.left l.input) (g.F.Files.held l.fn.files) l.taken;
  same_held : g.F.Files.held l.files ≡ g.F.Files.held l.fn.files;
  later_input : g.I.Source.faults l.fn.input ≤ g.I.Source.faults l.input;
  later_files : g.F.Files.faults l.fn.files ≤ g.F.Files.faults l.files;
  same_input : origin_of l.from ≢ None → l.input ≡ l.fn.input;
  same_files : origin_of l.from ≡ None → l.files ≡ l.fn.files;
}

abbrev pub decreases-loop-taken : goal.decreases-loop-taken
decreases-loop-taken g l = 18446744073709547519 + 1 - l.taken
