use Rattle.std.proofs.Common.{◌≡◌, ◌<◌, List, length, sym, ◌∙◌, ap, subst, arith, get_or}
use Rattle.network_model.specs.declared.network.NodeSpec.{NodeSpec}
use Rattle.network_model.specs.Nodes.{node_at, no_node, IsReadableDemand}
use Rattle.network_model.specs.NetworkFacts.{node_readable}
use Rattle.network_sim.proofs.Ordered.{get_or_any}
use Rattle.network_sim.proofs.stations.station_of.Goals as goal

pub returns : goal.returns
returns c =
    let lt : c.args.place < length c.as_slice.result.now = let a = c.requires.within in let b = ap length c.as_slice.ensures in omega arith in
    let same : c.index-as_slice-place.result ≡ node_at c.args.network.now.nodes c.args.place =
    c.index-as_slice-place.is ∙ get_or_any c.as_slice.result.now c.args.place c.index-as_slice-place.result no_node lt ∙ ap (λ (xs : List NodeSpec). get_or xs c.args.place no_node) c.as_slice.ensures in
    let readable = node_readable c.args.network.now c.requires.valid.readable c.args.place c.requires.within in
    let h = ap (λ (x : NodeSpec). x.holding) same in
    let o = ap (λ (x : NodeSpec). x.stockout) same in
    let demand = c.in_ok-demand.ensures ∙ ap (λ (x : NodeSpec). x.demand) same in
    record {
      rule = c.of_rule.ensures ∙ ap (λ (x : NodeSpec). x.rule) same;
      holding = h;
      stockout = o;
      rates = (let a = readable.holding in omega arith, let a = readable.stockout in omega arith);
      callers = c.requires.callers;
      suppliers = c.requires.suppliers;
      echelon = c.in_ok-echelon.ensures;
      demand = demand;
      demanded = subst (IsReadableDemand c.args.network.now.periods) (sym demand) readable.demand;
    }
