use Rattle.std.proofs.Common.{rules, ◌≡◌, ℕ, ◌<◌, suc, ◌∙◌, sym, ap, subst, length, map, slice_index}
use Rattle.network_sim.specs.Machine.{order_at, callers_at, flag_at, after_orders, CanOrder}
use Rattle.network_sim.specs.Supply.{suppliers_at, supply_down, CanSupplyDown}
use Rattle.network_sim.specs.Houses.{first_over, HaveAnswered}
use Rattle.network_sim.specs.Asks.{over_in, HaveRules, HaveReplied, IsCut}
use Rattle.network_sim.specs.Simulated.{Holds, IsCutShort}
use Rattle.network_sim.proofs.Ordered.{after_length}
use Rattle.network_sim.proofs.Answered.{all_answered}
use Rattle.network_sim.proofs.Periods.{in_reach, can_order, can_supply, period_holds, rules_fit, first_is, answered_upto}
use Rattle.network_sim.proofs.period.run_period.Goals as goal

pub order_pass-requires-clause-reach : goal.order_pass-requires-clause-reach
order_pass-requires-clause-reach g c =
    let q = c.requires in
    in_reach q.setting q.played c.args.nodes.now c.args.stations.now c.args.demanded.now c.args.demands.now c.args.paused.now _ c.args.caps.now q.ready

pub order_pass-requires-clause-rules : goal.order_pass-requires-clause-rules
order_pass-requires-clause-rules g c =
    let q = c.requires in
    let handed = map (λ b. (g.dyn-1.0.entry b.vtable).1.meaning b.value) c.args.rules.now in
    subst (λ fs. HaveRules (record { nodes = c.args.nodes.now; stations = c.args.stations.now; demanded = c.args.demanded.now; demands = c.args.demands.now; paused = fs; handed = handed; caps = c.args.caps.now }) (length c.args.nodes.now)) (sym c.deref.ensures.value)
    (rules_fit q.setting q.played c.args.nodes.now c.args.stations.now c.args.demanded.now c.args.demands.now c.args.paused.now handed c.args.caps.now q.ready)

pub order_pass-requires-clause-room : goal.order_pass-requires-clause-room
order_pass-requires-clause-room g c =
    let q = c.requires in
    let handed = map (λ b. (g.dyn-1.0.entry b.vtable).1.meaning b.value) c.args.rules.now in
    subst (λ fs. (i : ℕ) → i < length c.args.nodes.now →
    CanOrder (order_at c.args.stations.now c.args.demanded.now handed i)
    (after_orders (order_at c.args.stations.now c.args.demanded.now handed) (callers_at c.args.stations.now) (slice_index c.args.demands.now) (flag_at fs) c.args.nodes.now i)
    i (callers_at c.args.stations.now i) (slice_index c.args.demands.now i) (flag_at fs i)) (sym c.deref.ensures.value)
    (can_order q.setting q.played c.args.nodes.now c.args.stations.now c.args.demanded.now c.args.demands.now c.args.paused.now handed c.args.caps.now q.ready)

pub returns-in_err-order_pass-clause-over : goal.returns-in_err-order_pass-clause-over
returns-in_err-order_pass-clause-over g c = λ s t ready.
    let handed = map (λ b. (g.dyn-1.0.entry b.vtable).1.meaning b.value) c.args.rules.now in
    let new = map (λ b. (g.dyn-1.0.entry b.vtable).1.meaning b.value) c.order_pass.new.rules in
    let cut : IsCut (record { nodes = c.args.nodes.now; stations = c.args.stations.now; demanded = c.args.demanded.now; demands = c.args.demands.now; paused = c.args.paused.now.orders.items; handed = handed; caps = c.args.caps.now }) (length c.args.nodes.now) c.in_err-order_pass.field-0.0 new =
    subst (λ fs. IsCut (record { nodes = c.args.nodes.now; stations = c.args.stations.now; demanded = c.args.demanded.now; demands = c.args.demands.now; paused = fs; handed = handed; caps = c.args.caps.now }) (length c.args.nodes.now) c.in_err-order_pass.field-0.0 new) c.deref.ensures.value c.in_err-order_pass.ensures.over in
    let is : IsCutShort s t c.in_err-order_pass.field-0.0 new = record {
      first = sym (first_is s t c.args.nodes.now c.args.stations.now c.args.demanded.now c.args.demands.now c.args.paused.now handed c.args.caps.now ready) ∙ cut.first;
      answered = answered_upto s t c.args.nodes.now c.args.stations.now c.args.demanded.now c.args.demands.now c.args.paused.now handed c.args.caps.now ready c.in_err-order_pass.field-0.0.node new cut.replied;
    } in
    search rules

pub supply_pass-requires-clause-room : goal.supply_pass-requires-clause-room
supply_pass-requires-clause-room g c =
    let q = c.requires in
    let handed = map (λ b. (g.dyn-1.0.entry b.vtable).1.meaning b.value) c.args.rules.now in
    let ordered = c.in_ok-order_pass.ensures.done.ordered in
    let n : length c.order_pass.new.nodes ≡ length c.args.nodes.now = ap length ordered ∙ after_length (order_at c.args.stations.now c.args.demanded.now handed) (callers_at c.args.stations.now) (slice_index c.args.demands.now) (flag_at c.deref.result.now) c.args.nodes.now (length c.args.nodes.now) in
    let e = ordered ∙ (λ j. after_orders (order_at c.args.stations.now c.args.demanded.now handed) (callers_at c.args.stations.now) (slice_index c.args.demands.now) (flag_at (c.deref.ensures.value j)) c.args.nodes.now (length c.args.nodes.now)) in
    subst (λ k. CanSupplyDown (suppliers_at c.args.stations.now) (flag_at c.deref-2.result.now) (flag_at c.deref-3.result.now) c.order_pass.new.nodes k) (sym n)
    (subst (λ ns. CanSupplyDown (suppliers_at c.args.stations.now) (flag_at c.deref-2.result.now) (flag_at c.deref-3.result.now) ns (length c.args.nodes.now)) (sym e)
    (subst (λ fs. CanSupplyDown (suppliers_at c.args.stations.now) (flag_at fs) (flag_at c.deref-3.result.now) (after_orders (order_at c.args.stations.now c.args.demanded.now handed) (callers_at c.args.stations.now) (slice_index c.args.demands.now) (flag_at c.args.paused.now.orders.items) c.args.nodes.now (length c.args.nodes.now)) (length c.args.nodes.now)) (sym c.deref-2.ensures.value)
    (subst (λ fs. CanSupplyDown (suppliers_at c.args.stations.now) (flag_at c.args.paused.now.receipts.items) (flag_at fs) (after_orders (order_at c.args.stations.now c.args.demanded.now handed) (callers_at c.args.stations.now) (slice_index c.args.demands.now) (flag_at c.args.paused.now.orders.items) c.args.nodes.now (length c.args.nodes.now)) (length c.args.nodes.now)) (sym c.deref-3.ensures.value)
    (can_supply q.setting q.played c.args.nodes.now c.args.stations.now c.args.demanded.now c.args.demands.now c.args.paused.now handed c.args.caps.now q.ready))))

pub returns-clause-holds : goal.returns-clause-holds
returns-clause-holds g c = λ s t ready.
    let handed = map (λ b. (g.dyn-1.0.entry b.vtable).1.meaning b.value) c.args.rules.now in
    let ordered = c.in_ok-order_pass.ensures.done.ordered in
    let n : length c.order_pass.new.nodes ≡ length c.args.nodes.now = ap length ordered ∙ after_length (order_at c.args.stations.now c.args.demanded.now handed) (callers_at c.args.stations.now) (slice_index c.args.demands.now) (flag_at c.deref.result.now) c.args.nodes.now (length c.args.nodes.now) in
    let o = ordered ∙ (λ j. after_orders (order_at c.args.stations.now c.args.demanded.now handed) (callers_at c.args.stations.now) (slice_index c.args.demands.now) (flag_at (c.deref.ensures.value j)) c.args.nodes.now (length c.args.nodes.now)) in
    let e = c.supply_pass.ensures
    ∙ (λ j. supply_down (suppliers_at c.args.stations.now) (flag_at (c.deref-2.ensures.value j)) (flag_at (c.deref-3.ensures.value j)) (o j) (n j)) in
    subst (λ ns. Holds s (suc t) ns) (sym e)
    (period_holds s t c.args.nodes.now c.args.stations.now c.args.demanded.now c.args.demands.now c.args.paused.now handed c.args.caps.now ready)

pub returns-clause-within : goal.returns-clause-within
returns-clause-within g c = λ s t ready.
    let handed = map (λ b. (g.dyn-1.0.entry b.vtable).1.meaning b.value) c.args.rules.now in
    sym (first_is s t c.args.nodes.now c.args.stations.now c.args.demanded.now c.args.demands.now c.args.paused.now handed c.args.caps.now ready)
    ∙ ap (λ fs. first_over (over_in (record { nodes = c.args.nodes.now; stations = c.args.stations.now; demanded = c.args.demanded.now; demands = c.args.demands.now; paused = fs; handed = handed; caps = c.args.caps.now })) (length c.args.nodes.now)) (sym c.deref.ensures.value)
    ∙ c.in_ok-order_pass.ensures.done.within

pub returns-clause-answered : goal.returns-clause-answered
returns-clause-answered g c = λ s t ready.
    let handed = map (λ b. (g.dyn-1.0.entry b.vtable).1.meaning b.value) c.args.rules.now in
    let new = map (λ b. (g.dyn-1.0.entry b.vtable).1.meaning b.value) c.order_pass.new.rules in
    all_answered s t new
    (subst (λ n. HaveAnswered s t n new) ready.holds.all
    (answered_upto s t c.args.nodes.now c.args.stations.now c.args.demanded.now c.args.demands.now c.args.paused.now handed c.args.caps.now ready (length c.args.nodes.now) new
    (subst (λ fs. HaveReplied (record { nodes = c.args.nodes.now; stations = c.args.stations.now; demanded = c.args.demanded.now; demands = c.args.demands.now; paused = fs; handed = handed; caps = c.args.caps.now }) (length c.args.nodes.now) (length c.args.nodes.now) new) c.deref.ensures.value
    c.in_ok-order_pass.ensures.done.replied)))
