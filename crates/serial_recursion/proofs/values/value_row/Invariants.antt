use Rattle.serial_recursion.proofs.Stocks.{IsWalking}
use Rattle.serial_recursion.proofs.values.value_row.Given as goal

abbrev pub invariant-loop-place : goal.invariant-loop-place
invariant-loop-place l = IsWalking l.frame l.rates l.weights l.costs l.level l.base l.walk l.fn.charges l.charges l.place
