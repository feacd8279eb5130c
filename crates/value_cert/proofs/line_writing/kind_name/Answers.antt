use Rattle.std.proofs.Common.{◌≡◌, length, ap, arith}
use Rattle.decision_model.specs.Kind.{kind_word}
use Rattle.value_cert.specs.KindWords.{named}
use Rattle.value_cert.proofs.line_writing.kind_name.Goals as goal

pub returns-clause-bound : goal.returns-clause-bound
returns-clause-bound c =
    let is : c.as_bytes.result.now ≡ kind_word c.args.kind = cc in
    omega (arith, (named c.args.kind).short, ap length is)
