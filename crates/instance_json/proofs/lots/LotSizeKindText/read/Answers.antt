use Rattle.std.proofs.Common.{◌≡◌, codes, length, Ok, rules}
use Rattle.serde_json.specs.View.{view}
use Rattle.decision_model.specs.Limits.{most_rate, most_lot_setup}
use Rattle.json_forms.specs.Numbers.{rates_in}
use Rattle.json_forms.specs.Keys.{required}
use Rattle.instance_json.specs.Lots.{lots_of}
use Rattle.json_forms.proofs.Chained.{gives_refused, gives_rest}
use Rattle.instance_json.proofs.lots.LotSizeKindText.read.Goals as goal

pub returns-in_err-holding-clause-value : goal.returns-in_err-holding-clause-value
unfolding lots_of
returns-in_err-holding-clause-value c =
    let setup : required (rates_in most_lot_setup (length c.in_ok-demand.demand)) (codes "setup") (view c.args.object.now) ≡ Ok c.in_ok-setup.setup = search rules in
    search (rules, gives_refused, gives_rest)

pub returns-in_err-unit-clause-value : goal.returns-in_err-unit-clause-value
unfolding lots_of
returns-in_err-unit-clause-value c =
    let setup : required (rates_in most_lot_setup (length c.in_ok-demand.demand)) (codes "setup") (view c.args.object.now) ≡ Ok c.in_ok-setup.setup = search rules in
    let holding : required (rates_in most_rate (length c.in_ok-demand.demand)) (codes "holding") (view c.args.object.now) ≡ Ok c.in_ok-holding.holding = search rules in
    search (rules, gives_refused, gives_rest)
