use Rattle.serial_recursion.proofs.Known.{valid_known}
use Rattle.serial_recursion.proofs.recursion.Recursion.serial.Goals as goal

pub returns-clause-valid : goal.returns-clause-valid
returns-clause-valid c = valid_known c.args.self.now.serial.now c.args.self.now.valid
