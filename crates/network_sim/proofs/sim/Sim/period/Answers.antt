use Rattle.std.proofs.Common.{◌∙◌, sym, subst, map}
use Rattle.network_sim.specs.Houses.{HaveAnswered}
use Rattle.network_sim.proofs.sim.Sim.period.Goals as goal

pub returns-clause-row : goal.returns-clause-row
returns-clause-row g c = λ s n after left given.
    c.advance-played.ensures.row s n after.state
    (record {
      ready = after.ready;
      answered = subst (λ xs. HaveAnswered s n 0 (map (λ b. (g.dyn-1.0.entry b.vtable).1.meaning b.value) xs)) (sym c.deref_mut.ensures.value) after.answered;
      caps = c.deref.ensures.value ∙ after.caps;
    })
    left given

pub returns-clause-within : goal.returns-clause-within
returns-clause-within g c = λ s n after left given.
    c.advance-played.ensures.within s n after.state
    (record {
      ready = after.ready;
      answered = subst (λ xs. HaveAnswered s n 0 (map (λ b. (g.dyn-1.0.entry b.vtable).1.meaning b.value) xs)) (sym c.deref_mut.ensures.value) after.answered;
      caps = c.deref.ensures.value ∙ after.caps;
    })
    left given
