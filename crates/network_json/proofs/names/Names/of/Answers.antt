use Rattle.std.proofs.Common.{◌<◌, length, rules}
use Rattle.network_json.proofs.Places.{places_more}
use Rattle.network_json.proofs.names.Names.of.Goals as goal

pub loop-place-preserved : goal.loop-place-preserved
loop-place-preserved c =
    let lt : c.loop-place.place < length c.args.nodes.now = search rules in
    places_more c.loop-place.places c.insert.new.self c.args.nodes.now c.loop-place.place _ c.name_under.result.now lt c.index-nodes-place.is c.name_under.ensures c.loop-place.invariant c.in_ok-insert.ensures.updates
