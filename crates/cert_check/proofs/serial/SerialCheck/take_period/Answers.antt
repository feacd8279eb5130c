use Rattle.cert_check.proofs.serial.SerialCheck.take_period.Goals as goal

pub returns-clause-rows : goal.returns-clause-rows
returns-clause-rows c = λ first knows none. c.begin_period.ensures.knows first c.args.period knows
