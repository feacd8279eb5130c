-- A law has some weight.
use Rattle.std.proofs.Common.{ℕ, ◌≤◌, List, length, ◌-◌, sum, arith}
use Rattle.std.proofs.lemmas.List.Sums.{get_or-le-sum_by}
use Rattle.demand_law.specs.Law.{IsLaw}

pub IsLaw-some : (ws : List ℕ) → IsLaw ws → 1 ≤ sum ws
IsLaw-some ws law = omega (arith, law.last, get_or-le-sum_by (λ w. w) ws (length ws - 1) 0 (omega (arith, law.some)))
