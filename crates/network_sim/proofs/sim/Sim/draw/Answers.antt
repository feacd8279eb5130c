use Rattle.std.proofs.Common.{rules, ◌≡◌, ◌∙◌, suc, sym, ap, subst, map, length, None}
use Rattle.std.proofs.lemmas.List.{with_items_is}
use Rattle.node_state.specs.Table.{setting_of}
use Rattle.network_sim.specs.Houses.{HaveAnswered}
use Rattle.network_sim.specs.Simulated.{AreFit}
use Rattle.network_sim.proofs.Going.{going, ok_after, err_after}
use Rattle.network_sim.proofs.Drawn.{drawn_are, words_next, few_weights}
use Rattle.network_sim.proofs.sim.Sim.draw.Goals as goal

pub draw_demands-requires-clause-light : goal.draw_demands-requires-clause-light
draw_demands-requires-clause-light g c =
    let none : c.args.self.now.over ≡ None = search rules in
    let q = going c.args.self.now.over none c.requires in
    few_weights q.network c.args.self.now.state.stations.items c.deref.result.now c.deref.ensures.value q.after.state.stations

pub advance-played-requires : goal.advance-played-requires
advance-played-requires g c =
    let none : c.args.self.now.over ≡ None = search rules in
    let q = going c.args.self.now.over none c.requires in
    let net = q.network in
    let handed = q.handed in
    let n = q.played in
    let after = q.after in
    let drawn = q.drawn in
    let room = with_items_is c.args.self.now.drawn c.draw_demands.new.demands (c.draw_demands.ensures.all ∙ c.deref_mut.ensures.len) in
    let given = drawn_are net handed n c.args.self.now.state after.state c.args.self.now.words drawn.words c.deref.result.now c.deref.ensures.value
    c.deref-2.result.now c.draw_demands.new.demands c.args.self.now.drawn.items (c.deref-2.ensures.value ∙ room)
    (c.draw_demands.ensures.all ∙ ap length c.deref_mut.ensures.value) after.drawn_room c.draw_demands.ensures.each c.draw_demands.ensures.small in
    let fit : AreFit (setting_of net handed) n (map (λ b. (g.dyn-1.0.entry b.vtable).1.meaning b.value) c.deref_mut-2.result.now) c.deref-3.result.now = record {
      ready = after.ready;
      answered = subst (λ xs. HaveAnswered (setting_of net handed) n 0 (map (λ b. (g.dyn-1.0.entry b.vtable).1.meaning b.value) xs)) (sym c.deref_mut-2.ensures.value) after.answered;
      caps = c.deref-3.ensures.value ∙ after.caps;
    } in
    record {
      setting = setting_of net handed;
      played = n;
      after = after.state;
      fit = fit;
      left = q.left;
      demands = given;
      lines = q.lines;
    }

pub returns-clause-stands : goal.returns-clause-stands
returns-clause-stands g c = λ net handed n after drawn left.
    let room = with_items_is c.args.self.now.drawn c.draw_demands.new.demands (c.draw_demands.ensures.all ∙ c.deref_mut.ensures.len) in
    let given = drawn_are net handed n c.args.self.now.state after.state c.args.self.now.words drawn.words c.deref.result.now c.deref.ensures.value
    c.deref-2.result.now c.draw_demands.new.demands c.args.self.now.drawn.items (c.deref-2.ensures.value ∙ room)
    (c.draw_demands.ensures.all ∙ ap length c.deref_mut.ensures.value) after.drawn_room c.draw_demands.ensures.each c.draw_demands.ensures.small in
    let fit : AreFit (setting_of net handed) n (map (λ b. (g.dyn-1.0.entry b.vtable).1.meaning b.value) c.deref_mut-2.result.now) c.deref-3.result.now = record {
      ready = after.ready;
      answered = subst (λ xs. HaveAnswered (setting_of net handed) n 0 (map (λ b. (g.dyn-1.0.entry b.vtable).1.meaning b.value) xs)) (sym c.deref_mut-2.ensures.value) after.answered;
      caps = c.deref-3.ensures.value ∙ after.caps;
    } in
    let state = c.advance-played.ensures.stands (setting_of net handed) n after.state fit left given in
    let answered = c.advance-played.ensures.answered (setting_of net handed) n after.state fit left given in
    let words = words_next net handed n c.args.self.now.state after.state c.args.self.now.words drawn.words c.deref.result.now c.deref.ensures.value c.draw_demands.new.words c.draw_demands.ensures.words in
    let rules_now = with_items_is c.args.self.now.rules c.advance-played.new.rules (c.advance-played.ensures.rules ∙ c.deref_mut-2.ensures.len) in
    ok_after c.advance-played.result c.err-self.result c.err-self.ensures.value state answered (λ none after_it asked. (
      record {
        going = none;
        state = after_it;
        drawn_room = ap length room ∙ c.draw_demands.ensures.all ∙ ap length c.deref_mut.ensures.value ∙ after.drawn_room;
        caps = after.caps;
        ready = after.ready;
        answered = subst (λ xs. HaveAnswered (setting_of net handed) (suc n) 0 (map (λ b. (g.dyn-1.0.entry b.vtable).1.meaning b.value) xs)) (sym rules_now) asked;
      },
      record { words = words },
    ))

pub returns-clause-row : goal.returns-clause-row
returns-clause-row g c = λ net handed n after drawn left.
    let room = with_items_is c.args.self.now.drawn c.draw_demands.new.demands (c.draw_demands.ensures.all ∙ c.deref_mut.ensures.len) in
    let given = drawn_are net handed n c.args.self.now.state after.state c.args.self.now.words drawn.words c.deref.result.now c.deref.ensures.value
    c.deref-2.result.now c.draw_demands.new.demands c.args.self.now.drawn.items (c.deref-2.ensures.value ∙ room)
    (c.draw_demands.ensures.all ∙ ap length c.deref_mut.ensures.value) after.drawn_room c.draw_demands.ensures.each c.draw_demands.ensures.small in
    let fit : AreFit (setting_of net handed) n (map (λ b. (g.dyn-1.0.entry b.vtable).1.meaning b.value) c.deref_mut-2.result.now) c.deref-3.result.now = record {
      ready = after.ready;
      answered = subst (λ xs. HaveAnswered (setting_of net handed) n 0 (map (λ b. (g.dyn-1.0.entry b.vtable).1.meaning b.value) xs)) (sym c.deref_mut-2.ensures.value) after.answered;
      caps = c.deref-3.ensures.value ∙ after.caps;
    } in
    c.advance-played.ensures.row (setting_of net handed) n after.state fit left given

pub returns-clause-within : goal.returns-clause-within
returns-clause-within g c = λ net handed n after drawn left.
    let room = with_items_is c.args.self.now.drawn c.draw_demands.new.demands (c.draw_demands.ensures.all ∙ c.deref_mut.ensures.len) in
    let given = drawn_are net handed n c.args.self.now.state after.state c.args.self.now.words drawn.words c.deref.result.now c.deref.ensures.value
    c.deref-2.result.now c.draw_demands.new.demands c.args.self.now.drawn.items (c.deref-2.ensures.value ∙ room)
    (c.draw_demands.ensures.all ∙ ap length c.deref_mut.ensures.value) after.drawn_room c.draw_demands.ensures.each c.draw_demands.ensures.small in
    let fit : AreFit (setting_of net handed) n (map (λ b. (g.dyn-1.0.entry b.vtable).1.meaning b.value) c.deref_mut-2.result.now) c.deref-3.result.now = record {
      ready = after.ready;
      answered = subst (λ xs. HaveAnswered (setting_of net handed) n 0 (map (λ b. (g.dyn-1.0.entry b.vtable).1.meaning b.value) xs)) (sym c.deref_mut-2.ensures.value) after.answered;
      caps = c.deref-3.ensures.value ∙ after.caps;
    } in
    c.advance-played.ensures.within (setting_of net handed) n after.state fit left given

pub returns-clause-over : goal.returns-clause-over
returns-clause-over g c = λ net handed n after drawn left.
    let room = with_items_is c.args.self.now.drawn c.draw_demands.new.demands (c.draw_demands.ensures.all ∙ c.deref_mut.ensures.len) in
    let given = drawn_are net handed n c.args.self.now.state after.state c.args.self.now.words drawn.words c.deref.result.now c.deref.ensures.value
    c.deref-2.result.now c.draw_demands.new.demands c.args.self.now.drawn.items (c.deref-2.ensures.value ∙ room)
    (c.draw_demands.ensures.all ∙ ap length c.deref_mut.ensures.value) after.drawn_room c.draw_demands.ensures.each c.draw_demands.ensures.small in
    let fit : AreFit (setting_of net handed) n (map (λ b. (g.dyn-1.0.entry b.vtable).1.meaning b.value) c.deref_mut-2.result.now) c.deref-3.result.now = record {
      ready = after.ready;
      answered = subst (λ xs. HaveAnswered (setting_of net handed) n 0 (map (λ b. (g.dyn-1.0.entry b.vtable).1.meaning b.value) xs)) (sym c.deref_mut-2.ensures.value) after.answered;
      caps = c.deref-3.ensures.value ∙ after.caps;
    } in
    let over = c.advance-played.ensures.over (setting_of net handed) n after.state fit left given in
    let rules_now = with_items_is c.args.self.now.rules c.advance-played.new.rules (c.advance-played.ensures.rules ∙ c.deref_mut-2.ensures.len) in
    err_after c.advance-played.result c.err-self.result c.err-self.ensures.value over c.advance-played.ensures.periods c.advance-played.ensures.played c.advance-played.ensures.total
    (λ x is cut periods played total. record {
      is = is;
      first = cut.first;
      ran = record {
        periods = periods ∙ after.state.periods;
        played = played ∙ after.state.played;
        total = total ∙ after.state.total;
      };
      answered = subst (λ xs. HaveAnswered (setting_of net handed) n x.node (map (λ b. (g.dyn-1.0.entry b.vtable).1.meaning b.value) xs)) (sym rules_now) cut.answered;
    })
