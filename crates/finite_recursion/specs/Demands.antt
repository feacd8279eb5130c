-- The listed demands of a law.
use Rattle.std.specs.Prelude.{◌≡◌, ℕ, ◌<◌, ℤ, pos, ◌+ℤ◌, ◌*ℤ◌, List, [], ◌∷◌, length, slice_index}
use Rattle.demand_law.specs.Law.{weighted}

-- the sum over the listed demands d of weight(d) times f(d)
abbrev pub listed_sum : List ℕ → List ℕ → (ℕ → ℤ) → ℤ
listed_sum weights [] f = pos 0
listed_sum weights (d ∷ ds) f = pos (slice_index weights d) *ℤ f d +ℤ listed_sum weights ds f

-- the list has demands of the law, and each that has a weight once
pub record AreDemandsOf (weights listed : List ℕ) : Type 0 where
  pub within : (i : ℕ) → i < length listed → slice_index listed i < length weights
  pub sums : (f : ℕ → ℤ) → listed_sum weights listed f ≡ weighted weights f
