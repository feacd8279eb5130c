use Rattle.std.proofs.Common.{rules, sym, ◌∙◌, ap, subst, cond, map, arith}
use Rattle.node_state.specs.Holdings.{Holding}
use Rattle.network_sim.specs.Machine.{ask_of, order_with}
use Rattle.network_sim.specs.Asks.{over_with, IsAsked}
use Rattle.network_sim.proofs.Ordered.{noted_is, ordered_is, held_is, gathered}
use Rattle.network_sim.proofs.orders.order_node.Goals as goal

pub order_by-requires-clause-seen : goal.order_by-requires-clause-seen
order_by-requires-clause-seen g c =
    let o = order_with c.args.station.now c.args.demanded.now (map (λ b. (g.dyn-1.0.entry b.vtable).1.meaning b.value) c.args.rules.now) in
    let noted = noted_is o c.args.nodes.now c.args.i c.args.station.now.callers c.args.demand c.args.paused c.requires.room c.index-nodes-i.result c.begin.new.self c.gather.new.nodes c.begin.ensures (c.gather.ensures ∙ gathered c.args.nodes.now c.args.i c.begin.new.self _ _ c.as_slice.ensures) in
    let e = ap (λ (h : Holding). h.seen) (held_is o c.args.nodes.now c.args.i c.args.station.now.callers c.args.demand c.args.paused c.requires.room c.index-nodes-i-2.result c.gather.new.nodes noted) in
    let f = c.requires.room.few_noted in
    omega arith

pub returns-in_err-order-clause-over : goal.returns-in_err-order-clause-over
returns-in_err-order-clause-over g c =
    let handed = map (λ b. (g.dyn-1.0.entry b.vtable).1.meaning b.value) c.args.rules.now in
    let o = order_with c.args.station.now c.args.demanded.now handed in
    let noted = noted_is o c.args.nodes.now c.args.i c.args.station.now.callers c.args.demand c.args.paused c.requires.room c.index-nodes-i.result c.begin.new.self c.gather.new.nodes c.begin.ensures (c.gather.ensures ∙ gathered c.args.nodes.now c.args.i c.begin.new.self _ _ c.as_slice.ensures) in
    let held = held_is o c.args.nodes.now c.args.i c.args.station.now.callers c.args.demand c.args.paused c.requires.room c.index-nodes-i-2.result c.gather.new.nodes noted in
    let over = sym (ap (λ (h : Holding). over_with c.args.i c.args.station.now.rule handed (ask_of c.args.station.now c.args.demanded.now h) c.args.caps.now) held) ∙ c.in_err-order.ensures.over in
    search rules

pub returns-in_err-order-clause-asked : goal.returns-in_err-order-clause-asked
returns-in_err-order-clause-asked g c =
    let o = order_with c.args.station.now c.args.demanded.now (map (λ b. (g.dyn-1.0.entry b.vtable).1.meaning b.value) c.args.rules.now) in
    let noted = noted_is o c.args.nodes.now c.args.i c.args.station.now.callers c.args.demand c.args.paused c.requires.room c.index-nodes-i.result c.begin.new.self c.gather.new.nodes c.begin.ensures (c.gather.ensures ∙ gathered c.args.nodes.now c.args.i c.begin.new.self _ _ c.as_slice.ensures) in
    subst (λ (h : Holding). IsAsked c.args.station.now.rule (map (λ b. (g.dyn-1.0.entry b.vtable).1.meaning b.value) c.args.rules.now) (map (λ b. (g.dyn-1.0.entry b.vtable).1.meaning b.value) c.order_by.new.rules) (ask_of c.args.station.now c.args.demanded.now h))
    (held_is o c.args.nodes.now c.args.i c.args.station.now.callers c.args.demand c.args.paused c.requires.room c.index-nodes-i-2.result c.gather.new.nodes noted) c.order_by.ensures.asked

pub place-requires : goal.place-requires
place-requires g c =
    let o = order_with c.args.station.now c.args.demanded.now (map (λ b. (g.dyn-1.0.entry b.vtable).1.meaning b.value) c.args.rules.now) in
    let noted = noted_is o c.args.nodes.now c.args.i c.args.station.now.callers c.args.demand c.args.paused c.requires.room c.index-nodes-i.result c.begin.new.self c.gather.new.nodes c.begin.ensures (c.gather.ensures ∙ gathered c.args.nodes.now c.args.i c.begin.new.self _ _ c.as_slice.ensures) in
    let held = held_is o c.args.nodes.now c.args.i c.args.station.now.callers c.args.demand c.args.paused c.requires.room c.index-nodes-i-2.result c.gather.new.nodes noted in
    let e = ap (λ (h : Holding). h.ordered) held in
    let q = c.unless.ensures ∙ ap (λ n. cond c.args.paused 0 n) (c.in_ok-order.ensures.order ∙ ap o held) in
    let f = c.requires.room.few_ordered in
    omega arith

pub returns-clause-done : goal.returns-clause-done
returns-clause-done g c =
    let o = order_with c.args.station.now c.args.demanded.now (map (λ b. (g.dyn-1.0.entry b.vtable).1.meaning b.value) c.args.rules.now) in
    let noted = noted_is o c.args.nodes.now c.args.i c.args.station.now.callers c.args.demand c.args.paused c.requires.room c.index-nodes-i.result c.begin.new.self c.gather.new.nodes c.begin.ensures (c.gather.ensures ∙ gathered c.args.nodes.now c.args.i c.begin.new.self _ _ c.as_slice.ensures) in
    let held = held_is o c.args.nodes.now c.args.i c.args.station.now.callers c.args.demand c.args.paused c.requires.room c.index-nodes-i-2.result c.gather.new.nodes noted in
    ordered_is o c.args.nodes.now c.args.i c.args.station.now.callers c.args.demand c.args.paused c.requires.room c.index-nodes-i-2.result c.gather.new.nodes c.unless.result c.place.new.self noted
    (c.unless.ensures ∙ ap (λ n. cond c.args.paused 0 n) (c.in_ok-order.ensures.order ∙ ap o held))
    c.place.ensures

pub returns-clause-asked : goal.returns-clause-asked
returns-clause-asked g c =
    let o = order_with c.args.station.now c.args.demanded.now (map (λ b. (g.dyn-1.0.entry b.vtable).1.meaning b.value) c.args.rules.now) in
    let noted = noted_is o c.args.nodes.now c.args.i c.args.station.now.callers c.args.demand c.args.paused c.requires.room c.index-nodes-i.result c.begin.new.self c.gather.new.nodes c.begin.ensures (c.gather.ensures ∙ gathered c.args.nodes.now c.args.i c.begin.new.self _ _ c.as_slice.ensures) in
    subst (λ (h : Holding). IsAsked c.args.station.now.rule (map (λ b. (g.dyn-1.0.entry b.vtable).1.meaning b.value) c.args.rules.now) (map (λ b. (g.dyn-1.0.entry b.vtable).1.meaning b.value) c.order_by.new.rules) (ask_of c.args.station.now c.args.demanded.now h))
    (held_is o c.args.nodes.now c.args.i c.args.station.now.callers c.args.demand c.args.paused c.requires.room c.index-nodes-i-2.result c.gather.new.nodes noted) c.order_by.ensures.asked

pub returns-clause-within : goal.returns-clause-within
returns-clause-within g c =
    let handed = map (λ b. (g.dyn-1.0.entry b.vtable).1.meaning b.value) c.args.rules.now in
    let o = order_with c.args.station.now c.args.demanded.now handed in
    let noted = noted_is o c.args.nodes.now c.args.i c.args.station.now.callers c.args.demand c.args.paused c.requires.room c.index-nodes-i.result c.begin.new.self c.gather.new.nodes c.begin.ensures (c.gather.ensures ∙ gathered c.args.nodes.now c.args.i c.begin.new.self _ _ c.as_slice.ensures) in
    let held = held_is o c.args.nodes.now c.args.i c.args.station.now.callers c.args.demand c.args.paused c.requires.room c.index-nodes-i-2.result c.gather.new.nodes noted in
    sym (ap (λ (h : Holding). over_with c.args.i c.args.station.now.rule handed (ask_of c.args.station.now c.args.demanded.now h) c.args.caps.now) held) ∙ c.in_ok-order.ensures.within
