use Rattle.instance_json.proofs.ProvenKinds.{proven}
use Rattle.instance_json.proofs.rules.rules.Goals as goal

pub width_ok-requires : goal.width_ok-requires
width_ok-requires c = (proven _).regular c.requires c.in_ok-kind_rules.ensures.meaning (c.grid_fits.ensures.meaning.0 c.if-not-grid_fits.false)

pub returns-clause-valid : goal.returns-clause-valid
returns-clause-valid c =
    (proven _).valid ((proven _).regular c.requires c.in_ok-kind_rules.ensures.meaning (c.grid_fits.ensures.meaning.0 c.if-not-grid_fits.false))
    (c.width_ok.ensures.meaning.0 c.if-not-width_ok.false)
