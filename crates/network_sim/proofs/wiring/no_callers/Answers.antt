use Rattle.std.proofs.Common.{◌≡◌, ◌++◌, ◌∷◌, [], ◌∙◌, rules}
use Rattle.network_sim.specs.Wiring.{no_callers}
use Rattle.network_sim.proofs.Wired.{no_callers-more}
use Rattle.network_sim.proofs.wiring.no_callers.Goals as goal

pub loop-held-preserved : goal.loop-held-preserved
loop-held-preserved c =
    let e : c.push.new.self.items ≡ no_callers c.loop-held.held ++ [] ∷ [] = search rules in
    e ∙ no_callers-more c.loop-held.held
