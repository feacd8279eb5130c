-- Rules of the caller's own, as they are known: by their cap and their replies.
use Rattle.std.specs.Prelude.{ℕ, ℤ, List, [], ◌∷◌}
use Rattle.std.proofs.Common.{get_or}

-- what such a rule is asked in a period
pub record Ask : Type 0 where
  pub position : ℤ
  -- the units seen in the period
  pub seen : ℕ

-- the most that it may answer, and its answers to a list of asks
pub record Handed : Type 0 where
  pub most : ℕ
  pub replies : List Ask → List ℕ

abbrev pub nobody : Handed
nobody = record { most = 0; replies = λ asks. [] }

-- the rule at an index of those that the caller hands in
abbrev pub rule_at : List Handed → ℕ → Handed
rule_at handed index = get_or handed index nobody

-- the answer to one ask
abbrev pub reply_to : Handed → Ask → ℕ
reply_to rule ask = get_or (rule.replies (ask ∷ [])) 0 0
