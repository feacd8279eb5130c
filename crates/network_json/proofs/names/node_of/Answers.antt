use Rattle.std.proofs.Common.{length, sym}
use Rattle.network_json.proofs.Places.{place_within}
use Rattle.network_json.proofs.names.node_of.Goals as goal

pub returns-in-Some-clause-range : goal.returns-in-Some-clause-range
returns-in-Some-clause-range c = place_within c.args.names.now c.in_ok-name.name.now (length c.args.names.now) c.in-Some.place (sym c.in-Some.ensures)
