use Rattle.std.proofs.Common.{refl}
use Rattle.least_values.proofs.WindowSteps.{seen_none}
use Rattle.least_values.proofs.window.Window.new.Goals as goal

pub returns-clause-none : goal.returns-clause-none
returns-clause-none c = λ room len. (refl, seen_none c.args.width room len)
