use Rattle.std.proofs.Common.{◌≡◌, rules, arith}
use Rattle.node_state.specs.Holdings.{least_raw, leg_made}
use Rattle.node_state.specs.Sound.{sound_finished, stock_room, least_below, refilled}
use Rattle.node_state.proofs.node.Node.make.Goals as goal

pub overflow_add-self : goal.overflow_add-self
overflow_add-self c =
    let h = stock_room c.self.inside.legs.items c.self.inside.stock _ c.self.invariant.stocked c.self.invariant.piped in
    let e : c.least-units.result ≡ least_raw c.self.inside.legs.items = search rules in
    let a = c.self.invariant.few_initial in
    let b = c.self.invariant.few_ordered in
    grind arith

pub make_all-requires : goal.make_all-requires
make_all-requires c = λ k d lt.
    let e : c.least-units.result ≡ least_raw c.deref_mut.result.now = search rules in
    rw e (least_below c.deref_mut.result.now k d lt)

pub invariant_of-self : goal.invariant_of-self
invariant_of-self c =
    let e : c.least-units.result ≡ least_raw c.self.inside.legs.items = search rules in
    sound_finished _ c.least-units.result _ c.self.invariant e
    (refilled (leg_made c.least-units.result) _ _ _ _ _ c.make_all.ensures c.deref_mut.ensures.value c.deref_mut.ensures.len)
