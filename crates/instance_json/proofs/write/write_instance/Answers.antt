use Rattle.std.proofs.Common.{◌≤◌, Some, ap, ◌∙◌, arith}
use Rattle.serde_json.specs.Data.{depth}
use Rattle.serde_json.specs.View.{view}
use Rattle.serde_json.specs.Written.{has_float, compact_text}
use Rattle.instance_json.specs.Written.{instance_text}
use Rattle.instance_json.proofs.ProvenKinds.{proven, reads_back}
use Rattle.instance_json.proofs.write.write_instance.Goals as goal

pub returns-in-Ok-clause-text : goal.returns-in-Ok-clause-text
unfolding instance_text
returns-in-Ok-clause-text c =
    let whole = (proven c.args.instance.now).plain.0 in
    c.in-Ok.ensures.text (ap has_float c.in_ok-value.ensures.value ∙ whole) ∙ ap compact_text c.in_ok-value.ensures.value

pub returns-in-Ok-clause-is_json : goal.returns-in-Ok-clause-is_json
returns-in-Ok-clause-is_json c =
    let shallow = (proven c.args.instance.now).plain.1 in
    let fits : depth (view c.in_ok-value.value) ≤ 127 = omega (arith, ap depth c.in_ok-value.ensures.value) in
    c.in-Ok.ensures.reads_back fits ∙ ap Some c.in_ok-value.ensures.value

pub returns-in-Ok-clause-reads_back : goal.returns-in-Ok-clause-reads_back
returns-in-Ok-clause-reads_back c = λ valid.
    let shallow = (proven c.args.instance.now).plain.1 in
    let fits : depth (view c.in_ok-value.value) ≤ 127 = omega (arith, ap depth c.in_ok-value.ensures.value) in
    let says = c.in-Ok.ensures.reads_back fits ∙ ap Some c.in_ok-value.ensures.value in
    reads_back c.in-Ok.bytes.items c.args.instance.now c.in-Ok.ensures.utf8 says c.in_ok-value.ensures.typed valid
