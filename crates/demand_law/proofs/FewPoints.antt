-- Points of few demands make a law.
use Rattle.std.proofs.Common.{◌≡◌, ℕ, ◌+◌, ◌<◌, ◌≤◌, List, [], ◌∷◌, refl, arith, Some, None, Result, Ok, Err, IfErr}
use Rattle.demand_law.specs.declared.law.LawErr.{LawErr}
use Rattle.demand_law.specs.declared.law.LawErr.TheVariants.{Bad, Memory}
use Rattle.demand_law.specs.Points.{points_fault}
use Rattle.demand_law.specs.Placed.{MatchErr}

pub no_fault_one : (d w : ℕ) → d ≤ 10000 → 0 < w → w ≤ 1000000000 → points_fault ((d, w) ∷ []) ≡ None
no_fault_one d w small some fits = grind arith

pub no_fault_two : (v w : ℕ) → 0 < v → 0 < w → v + w ≤ 1000000000 → points_fault ((0, v) ∷ (1, w) ∷ []) ≡ None
no_fault_two v w some others fits = grind arith

-- where points make a law, only memory can be wanting
pub is_memory : (ps : List (ℕ × ℕ)) (e : LawErr) → points_fault ps ≡ None → MatchErr e (λ f. points_fault ps ≡ Some f) → e ≡ Memory
is_memory ps Memory none bad = refl
is_memory ps (Bad f) none bad = absurd (cc)

pub only_memory : {T : Type 0} (ps : List (ℕ × ℕ)) (made : Result T LawErr) → points_fault ps ≡ None → IfErr made (λ e. MatchErr e (λ f. points_fault ps ≡ Some f)) → IfErr made (λ e. e ≡ Memory)
only_memory ps (Ok law) none bad = tt
only_memory ps (Err e) none bad = is_memory ps e none bad
