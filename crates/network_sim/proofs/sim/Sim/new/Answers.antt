use Rattle.std.proofs.Common.{◌∙◌, sym, ap, length, map, refl}
use Rattle.node_state.specs.Handed.{Handed}
use Rattle.network_sim.specs.Houses.{rules_refusal}
use Rattle.network_sim.proofs.Answered.{none_asked}
use Rattle.network_sim.proofs.Begun.{replicate_length}
use Rattle.network_sim.proofs.sim.Sim.new.Goals as goal

pub returns-clause-stands : goal.returns-clause-stands
returns-clause-stands g c = λ demand.
    let handed = map (λ b. (g.dyn-1.0.entry b.vtable).1.meaning b.value) c.args.rules.items in
    record {
      going = refl;
      state = c.in_ok-state.ensures demand handed;
      drawn_room = ap length (c.in_ok-drawn.ensures.items_if_clones_equal (λ y e. e)) ∙ replicate_length (length c.as_slice-2.result.now) 0 ∙ ap length c.as_slice-2.ensures;
      caps = c.in_ok-caps.ensures ∙ ap (λ xs. map (λ (r : Handed). r.most) (map (λ b. (g.dyn-1.0.entry b.vtable).1.meaning b.value) xs)) c.deref-2.ensures.value;
      ready =
          (λ j. rules_refusal (sym c.as_slice.ensures j) (map (λ b. (g.dyn-1.0.entry b.vtable).1.meaning b.value) (sym c.deref.ensures.value j)))
          ∙ c.in_ok-check_rules.ensures.fit;
      answered = none_asked (record { network = c.args.network.now; demand = demand; handed = handed });
    }
