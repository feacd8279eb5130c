use Rattle.std.proofs.Common.{rules, ◌<◌, arith, map, length, ◌∙◌}
use Rattle.network_sim.specs.Machine.{no_station}
use Rattle.network_sim.specs.Asks.{Pass}
use Rattle.network_sim.proofs.Ordered.{get_or_any}
use Rattle.network_sim.proofs.Replied.{passed, cut}
use Rattle.network_sim.proofs.orders.order_pass.Goals as goal

pub returns-in_err-order_node-clause-over : goal.returns-in_err-order_node-clause-over
returns-in_err-order_node-clause-over g c =
    let handed = map (λ b. (g.dyn-1.0.entry b.vtable).1.meaning b.value) c.args.rules.now in
    let p : Pass = record { nodes = c.args.nodes.now; stations = c.args.stations.now; demanded = c.args.demanded.now; demands = c.args.demands.now; paused = c.args.paused.now; handed = handed; caps = c.args.caps.now } in
    let in_stations : c.loop-i.i < length c.args.stations.now = let a = c.requires.stations in let b = c.loop-i-test.true in omega arith in
    let is = cut p (length c.args.nodes.now) c.requires.rules c.loop-i.i c.loop-i-test.true c.loop-i.nodes (map (λ b. (g.dyn-1.0.entry b.vtable).1.meaning b.value) c.loop-i.rules) c.loop-i.invariant
    _ (c.index-stations-i.is ∙ get_or_any c.args.stations.now c.loop-i.i c.index-stations-i.result no_station in_stations)
    (map (λ b. (g.dyn-1.0.entry b.vtable).1.meaning b.value) c.order_node.new.rules) c.order_node.ensures.asked
    _ c.in_err-order_node.ensures.over in
    search rules

pub loop-i-preserved : goal.loop-i-preserved
loop-i-preserved g c =
    let handed = map (λ b. (g.dyn-1.0.entry b.vtable).1.meaning b.value) c.args.rules.now in
    let p : Pass = record { nodes = c.args.nodes.now; stations = c.args.stations.now; demanded = c.args.demanded.now; demands = c.args.demands.now; paused = c.args.paused.now; handed = handed; caps = c.args.caps.now } in
    let in_stations : c.loop-i.i < length c.args.stations.now = let a = c.requires.stations in let b = c.loop-i-test.true in omega arith in
    passed p (length c.args.nodes.now) c.requires.rules c.loop-i.i c.loop-i-test.true c.loop-i.nodes (map (λ b. (g.dyn-1.0.entry b.vtable).1.meaning b.value) c.loop-i.rules) c.loop-i.invariant
    _ (c.index-stations-i.is ∙ get_or_any c.args.stations.now c.loop-i.i c.index-stations-i.result no_station in_stations)
    (map (λ b. (g.dyn-1.0.entry b.vtable).1.meaning b.value) c.order_node.new.rules) c.order_node.ensures.asked
    c.order_node.new.nodes c.in_ok-order_node.ensures.done c.in_ok-order_node.ensures.within
