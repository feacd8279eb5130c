-- A jump of so many words is that many steps.
use Rattle.std.proofs.Common.{◌≡◌, ℕ, zero, suc, refl, ap, ◌∙◌}
use Rattle.rand_pcg.specs.Lcg.{Lcg, next_state, state_after, next, advance}
use Rattle.rand_pcg.specs.Pcg.{multiplier_64}
use Rattle.node_state.specs.Draws.{after_words}

-- the last step may be taken last
step_last : (w m p n s : ℕ) → state_after w m p (suc n) s ≡ next_state w m p (state_after w m p n s)
unfolding state_after
step_last w m p zero s = refl
step_last w m p (suc n) s = step_last w m p n (next_state w m p s)

pub advance_words : (g : Lcg) (n : ℕ) → advance 64 multiplier_64 n g ≡ after_words g n
unfolding state_after
advance_words g zero = refl
advance_words g (suc n) = ap (λ s. record { state = s; increment = g.increment }) (step_last 64 multiplier_64 g.increment n g.state) ∙ ap (next 64 multiplier_64) (advance_words g n)
