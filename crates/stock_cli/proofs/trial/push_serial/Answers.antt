use Rattle.std.proofs.Common.{◌≡◌, ◌++◌, OnOk, subst, sym}
use Rattle.decision_model.specs.declared.instance.Instance.{Instance}
use Rattle.stock_cli.specs.Trial.{IsTried, solved_line}
use Rattle.stock_cli.proofs.Trials.{serial_is_tried}
use Rattle.stock_cli.proofs.trial.push_serial.Goals as goal

pub push_solved-requires : goal.push_solved-requires
push_solved-requires c = subst IsTried (sym c.in_ok-made.ensures) (serial_is_tried c.args.number)

pub returns : goal.returns
returns c =
    let Appended : Instance → Type 0 = λ made. OnOk c.push_solved.result (c.push_solved.new.out ≡ c.args.out.now ++ solved_line made) in
    subst Appended c.in_ok-made.ensures c.push_solved.ensures
