-- The order rules that the program hands in.
use Rattle.std.specs.Prelude.{ℕ, ◌*◌, min, max, ℤ, pos, ◌-ℤ◌, List, [], ◌∷◌, take, sum}
use Rattle.decision_model.specs.Positions.{above_zero}
use Rattle.node_state.specs.Handed.{Ask, Handed}

-- the most that a rule answers
abbrev pub most : ℕ
most = 10000

-- what a position lacks to a level, as far as a rule may answer
abbrev pub short_of : ℕ → ℤ → ℕ
short_of level position = min most (above_zero (pos level -ℤ position))

-- ---- up to twice the units seen in the last four periods; these are listed with the latest first
abbrev pub window_after : List ℕ → Ask → List ℕ
window_after seen ask = take 4 (ask.seen ∷ seen)

abbrev pub window_replies : List ℕ → List Ask → List ℕ
window_replies seen [] = []
window_replies seen (ask ∷ asks) = short_of (2 * sum (window_after seen ask)) ask.position ∷ window_replies (window_after seen ask) asks

abbrev pub window_rule : List ℕ → Handed
window_rule seen = record { most = most; replies = window_replies seen }

-- ---- up to a level that rises to twice the units seen in a period where these are more
abbrev pub step_replies : ℕ → List Ask → List ℕ
step_replies level [] = []
step_replies level (ask ∷ asks) = short_of (max level (2 * ask.seen)) ask.position ∷ step_replies (max level (2 * ask.seen)) asks

abbrev pub step_rule : ℕ → Handed
step_rule level = record { most = most; replies = step_replies level }
