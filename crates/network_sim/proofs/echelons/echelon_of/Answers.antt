use Rattle.std.proofs.Common.{◌≡◌, ◌<◌, slice_index, subst, sym, rules}
use Rattle.network_sim.specs.Machine.{IsEchelonOf}
use Rattle.network_sim.proofs.EchelonPlaces.{later_read, found_next, found_stays, all_found}
use Rattle.network_sim.proofs.echelons.echelon_of.Goals.{then-counts-node-gt0+in_ok-push, else-counts-node-gt0}
use Rattle.network_sim.proofs.echelons.echelon_of.Goals as goal

pub count_paths-counts-requires-clause-earlier : goal.count_paths-counts-requires-clause-earlier
count_paths-counts-requires-clause-earlier c = later_read c.args.network.now c.as_slice-nodes.result.now c.args.place c.requires.shaped c.requires.within c.as_slice-nodes.ensures

pub loop-node-preserved : goal.loop-node-preserved
loop-node-preserved c =
    elim c.if-counts-node-gt0.branch [
      | then-counts-node-gt0+in_ok-push w ↦
          let some : 0 < slice_index c.count_paths-counts.result c.loop-node.node = search rules in
          found_next c.args.network.now c.as_slice-nodes.result.now w.index-nodes-node.result c.args.place c.loop-node.node c.loop-node.stock c.if-counts-node-gt0.stock c.loop-node.places.items c.if-counts-node-gt0.places.items c.count_paths-counts.result
          c.requires.readable c.requires.within c.as_slice-nodes.ensures c.count_paths-counts.ensures.exact (search rules) some c.loop-node.invariant (search rules) (search rules)
      | else-counts-node-gt0 w ↦
          let none : slice_index c.count_paths-counts.result c.loop-node.node ≡ 0 = search rules in
          found_stays c.args.network.now c.as_slice-nodes.result.now c.args.place c.loop-node.node c.loop-node.stock c.if-counts-node-gt0.stock c.loop-node.places.items c.if-counts-node-gt0.places.items c.count_paths-counts.result
          c.as_slice-nodes.ensures c.count_paths-counts.ensures.exact (search rules) none c.loop-node.invariant (search rules) (search rules)
    ]

pub returns : goal.returns
returns c =
    subst (IsEchelonOf c.args.network.now.nodes c.args.place c.loop-node.stock) (sym c.new.ensures)
    (all_found c.args.network.now c.args.place c.loop-node.node c.loop-node.stock c.loop-node.places.items c.requires.within (search rules) c.loop-node.invariant)
