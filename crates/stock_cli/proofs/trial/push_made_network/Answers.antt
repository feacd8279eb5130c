use Rattle.std.proofs.Common.{◌≡◌, ◌++◌, OnOk, subst, sym}
use Rattle.decision_model.specs.declared.instance.Instance.{Instance}
use Rattle.decision_model.specs.Valid.{IsValid}
use Rattle.trial_instances.specs.Network.{trial_network_valid}
use Rattle.stock_cli.specs.Trial.{IsNetwork, network_line_of}
use Rattle.stock_cli.proofs.trial.push_made_network.Goals as goal

pub push_network-requires : goal.push_network-requires
push_network-requires c = record { valid = subst IsValid (sym c.in_ok-made.ensures) (trial_network_valid c.args.number); network = subst IsNetwork (sym c.in_ok-made.ensures) tt }

pub returns : goal.returns
returns c =
    let Appended : Instance → Type 0 = λ made. OnOk c.push_network.result (c.push_network.new.out ≡ c.args.out.now ++ network_line_of made) in
    subst Appended c.in_ok-made.ensures c.push_network.ensures
