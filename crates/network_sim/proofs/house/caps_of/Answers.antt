use Rattle.std.proofs.Common.{◌∙◌, ◌++◌, [], ◌∷◌, map, arith}
use Rattle.node_state.specs.Handed.{Handed}
use Rattle.network_sim.proofs.Boxes.{map_length, taken_most, taken_all}
use Rattle.network_sim.proofs.house.caps_of.Goals as goal

pub loop-index-init : goal.loop-index-init
loop-index-init g c = c.in_ok-caps.ensures.items

pub loop-index-preserved : goal.loop-index-preserved
loop-index-preserved g c =
    let handed = map (λ b. (g.dyn-1.0.entry b.vtable).1.meaning b.value) c.args.rules.now in
    let long = map_length (λ b. (g.dyn-1.0.entry b.vtable).1.meaning b.value) c.args.rules.now in
    c.in_ok-push.ensures.items
    ∙ (λ j. c.loop-index.invariant j ++ c.cap_of.ensures j ∷ [])
    ∙ taken_most handed c.loop-index.index (let a = c.loop-index-test.true in omega arith)

pub returns : goal.returns
returns g c =
    let handed = map (λ b. (g.dyn-1.0.entry b.vtable).1.meaning b.value) c.args.rules.now in
    let long = map_length (λ b. (g.dyn-1.0.entry b.vtable).1.meaning b.value) c.args.rules.now in
    let caps = map_length (λ (r : Handed). r.most) handed in
    c.loop-index.invariant ∙ taken_all (map (λ (r : Handed). r.most) handed) c.loop-index.index (let a = c.loop-index-test.false in omega arith)
