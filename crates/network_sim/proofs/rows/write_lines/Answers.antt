use Rattle.std.proofs.Common.{◌<◌, ◌≤◌, ◌^◌, arith, ◌∙◌, length, slice_index}
use Rattle.std.proofs.lemmas.List.{length-set}
use Rattle.node_state.specs.Totals.{Line}
use Rattle.node_state.specs.Holdings.{no_holding}
use Rattle.network_sim.specs.Machine.{node, station, no_station, no_line, line_of}
use Rattle.network_sim.proofs.Lists.{written, all_written}
use Rattle.network_sim.proofs.Ordered.{get_or_any}
use Rattle.network_sim.proofs.rows.write_lines.Goals as goal

pub loop-i-preserved : goal.loop-i-preserved
loop-i-preserved c =
    let long : c.loop-i.i < length c.loop-i.lines = let a = c.loop-i.invariant.all in let b = c.loop-i-test.true in let d = c.requires.lines in omega arith in
    let s = get_or_any c.args.stations.now c.loop-i.i c.index-stations-i.result no_station (let b = c.loop-i-test.true in let d = c.requires.stations in omega arith) in
    let h = get_or_any c.args.nodes.now c.loop-i.i c.index-nodes-i.result no_holding c.loop-i-test.true in
    record {
      all = length-set c.loop-i.lines c.loop-i.i c.line.result ∙ c.loop-i.invariant.all;
      each = written c.loop-i.lines c.loop-i.i c.line.result no_line (λ k. line_of (station c.args.stations.now k) (slice_index c.args.ordered.now k) (node c.args.nodes.now k))
          long c.loop-i.invariant.each
          (c.line.ensures.value ∙ (λ j. line_of ((c.index-stations-i.is ∙ s) j) (slice_index c.args.ordered.now c.loop-i.i) ((c.index-nodes-i.is ∙ h) j)));
      small = all_written c.loop-i.lines c.loop-i.i c.line.result no_line (λ (x : Line). x.cost ≤ 2 ^ 85) long c.loop-i.invariant.small c.line.ensures.small;
    }
