use Rattle.std.proofs.Common.{◌≡◌, ◌++◌, ◌∷◌, [], ◌∙◌, rules}
use Rattle.node_state.specs.Holdings.{new_claims, no_claim}
use Rattle.node_state.specs.Sound.{claims_more}
use Rattle.node_state.proofs.legs.new_claims.Goals as goal

pub loop-held-preserved : goal.loop-held-preserved
loop-held-preserved c =
    let e : c.push.new.self.items ≡ new_claims c.loop-held.held ++ no_claim ∷ [] = search rules in
    e ∙ claims_more c.loop-held.held
