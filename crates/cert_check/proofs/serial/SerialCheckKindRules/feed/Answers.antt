use Rattle.cert_check.proofs.ProvenSerial.{serial_answers}
use Rattle.cert_check.proofs.serial.SerialCheckKindRules.feed.Goals as goal

pub returns : goal.returns
returns c = λ instance before knows.
    serial_answers instance before c.args.line.now c.args.self.now c.take.new.self c.take.result knows c.take.ensures.serial c.take.ensures.rule c.take.ensures.rows
