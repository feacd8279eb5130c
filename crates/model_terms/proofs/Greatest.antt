-- The greatest demand of the first laws of a list.
use Rattle.std.proofs.Common.{◌≡◌, ℕ, zero, suc, ◌+◌, ◌<◌, max, List, [], ◌∷◌, length, get_or, take, arith, add-one}
use Rattle.demand_law.specs.Law.{greatest_of}
use Rattle.demand_law.specs.Sequences.{greatest_in}

-- one law more
pub greatest_in_more : (laws : List (List ℕ)) (i : ℕ) (d : List ℕ) → i < length laws → greatest_in (take (i + 1) laws) ≡ max (greatest_in (take i laws)) (greatest_of (get_or laws i d))
greatest_in_more laws i d lt = rw add-one (more laws i lt)
  where
    more : (laws : List (List ℕ)) (i : ℕ) → i < length laws → greatest_in (take (suc i) laws) ≡ max (greatest_in (take i laws)) (greatest_of (get_or laws i d))
    more [] i lt = absurd (omega arith)
    more (law ∷ laws) zero lt = omega arith
    more (law ∷ laws) (suc i) lt = omega (arith, more laws i (omega arith))
