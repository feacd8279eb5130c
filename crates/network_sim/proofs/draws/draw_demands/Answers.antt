use Rattle.std.proofs.Common.{◌≤◌, ◌<◌, ◌∙◌, ap, sym, subst, arith, add-one, cond, length}
use Rattle.std.proofs.lemmas.List.{length-set}
use Rattle.rand_pcg.specs.Pcg.{pcg32}
use Rattle.network_model.specs.Nodes.{top_of}
use Rattle.network_model.specs.Network.{is_drawn}
use Rattle.node_state.specs.Draws.{demand_of, after_words, word_at}
use Rattle.network_sim.specs.declared.station.Station.{Station}
use Rattle.network_sim.specs.Machine.{station, no_station, drawn_in}
use Rattle.network_sim.proofs.Lists.{written}
use Rattle.network_sim.proofs.Ordered.{get_or_any}
use Rattle.network_sim.proofs.Drawn.{more_words, set_each}
use Rattle.network_sim.proofs.draws.draw_demands.Goals as goal

pub demand-requires : goal.demand-requires
demand-requires c = λ law e.
    c.requires.light c.loop-i.i law c.loop-i-test.true
    (sym (ap (λ (s : Station). s.demand) (c.index-stations-i.is ∙ get_or_any c.args.stations.now c.loop-i.i c.index-stations-i.result no_station c.loop-i-test.true)) ∙ e)

pub loop-i-preserved : goal.loop-i-preserved
loop-i-preserved c =
    let same = c.index-stations-i.is ∙ get_or_any c.args.stations.now c.loop-i.i c.index-stations-i.result no_station c.loop-i-test.true in
    let lt : c.loop-i.i < length c.loop-i.demands = let a = c.loop-i.invariant.all in let b = c.loop-i-test.true in let d = c.requires.all in omega arith in
    record {
      all = length-set c.loop-i.demands c.loop-i.i c.demand.result ∙ c.loop-i.invariant.all;
      words = c.demand.ensures.words
          ∙ (λ j. after_words (c.loop-i.invariant.words j) (cond (is_drawn (same j).demand) 1 0))
          ∙ more_words c.args.words.now (drawn_in c.args.stations.now c.loop-i.i) (cond (is_drawn (station c.args.stations.now c.loop-i.i).demand) 1 0)
          ∙ ap (λ m. after_words c.args.words.now (drawn_in c.args.stations.now m)) (sym (add-one c.loop-i.i));
      each = written c.loop-i.demands c.loop-i.i c.demand.result 0 (λ k. demand_of (station c.args.stations.now k).demand c.args.t (word_at c.args.words.now (drawn_in c.args.stations.now k)))
          lt c.loop-i.invariant.each
          (c.demand.ensures.value ∙ (λ j. demand_of (same j).demand c.args.t (pcg32 (c.loop-i.invariant.words j)).0));
      small = set_each (λ k d. d ≤ top_of (station c.args.stations.now k).demand) c.loop-i.demands c.loop-i.i c.demand.result 0 lt c.loop-i.invariant.small
          (subst (λ (s : Station). c.demand.result ≤ top_of s.demand) same c.demand.ensures.small);
    }
