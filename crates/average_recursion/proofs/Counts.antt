-- Sums over listed demands.
use Rattle.std.proofs.Common.{◌≡◌, ℕ, zero, suc, ◌+◌, ◌*◌, ◌<◌, ◌≤◌, pos, ◌+ℤ◌, List, [], ◌∷◌, length, take, slice_index, refl, sym, ◌∙◌, ap, arith, add-one}
use Rattle.std.proofs.lemmas.Int.{ints}
use Rattle.demand_law.specs.CountedSums.{counted, counted_is}
use Rattle.finite_recursion.specs.Demands.{listed_sum, AreDemandsOf}
use Rattle.average_recursion.specs.Entries.{listed_count}

-- one demand more
pub count_more : (weights listed : List ℕ) (i : ℕ) (f : ℕ → ℕ) → i < length listed → listed_count weights (take (i + 1) listed) f ≡ listed_count weights (take i listed) f + slice_index weights (slice_index listed i) * f (slice_index listed i)
count_more weights listed i f lt = rw add-one (more listed i lt)
  where
    more : (listed : List ℕ) (i : ℕ) → i < length listed → listed_count weights (take (suc i) listed) f ≡ listed_count weights (take i listed) f + slice_index weights (slice_index listed i) * f (slice_index listed i)
    more [] i lt = absurd (omega (arith, lt))
    more (d ∷ listed) zero lt = omega arith
    more (d ∷ listed) (suc i) lt = omega (arith, more listed i (omega (arith, lt)))

-- the first demands come to no more than all
pub count_front : (weights listed : List ℕ) (i : ℕ) (f : ℕ → ℕ) → listed_count weights (take i listed) f ≤ listed_count weights listed f
count_front weights listed zero f = omega arith
count_front weights [] (suc i) f = omega arith
count_front weights (d ∷ listed) (suc i) f = omega (arith, count_front weights listed i f)

-- the same sum in whole numbers
listed_is : (weights listed : List ℕ) (f : ℕ → ℕ) → listed_sum weights listed (λ d. pos (f d)) ≡ pos (listed_count weights listed f)
listed_is weights [] f = refl
listed_is weights (d ∷ listed) f = ap (λ z. pos (slice_index weights d * f d) +ℤ z) (listed_is weights listed f)

-- so over a law's demands it is that over the law
pub count_is : (weights listed : List ℕ) (f : ℕ → ℕ) → AreDemandsOf weights listed → listed_count weights listed f ≡ counted weights f
count_is weights listed f are = same (listed_count weights listed f) (counted weights f) (sym (listed_is weights listed f) ∙ are.sums (λ d. pos (f d)) ∙ counted_is weights f)
  where
    same : (a b : ℕ) → pos a ≡ pos b → a ≡ b
    same a b e = omega (arith, ints, e)
