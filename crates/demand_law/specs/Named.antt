-- Laws that are given by name, and a law at another sum of weights.
use Rattle.std.specs.Prelude.{ℕ, zero, suc, ◌+◌, ◌-◌, ◌*◌, ◌/◌, ◌%◌, ◌^◌, List, ◌++◌, map, sum, replicate, if◌then◌else◌, nat_lt, ◌==◌, Option, Some, None}
use Rattle.std.specs.List.{range_with_len}
use Rattle.demand_law.specs.declared.law.LawFault.{LawFault}
use Rattle.demand_law.specs.declared.law.LawFault.TheVariants.{TooLarge, Disordered, NotMultiple}

-- ---- uniform
-- why no law gives weight 1 to each demand from lo to hi
abbrev pub uniform_fault : ℕ → ℕ → Option LawFault
uniform_fault lo hi = if nat_lt hi lo then Some Disordered else (if nat_lt 10000 hi then Some TooLarge else None)

-- weight 1 for each demand from lo to hi
unfoldable pub uniform_law : ℕ → ℕ → List ℕ
uniform_law lo hi = replicate lo 0 ++ replicate (hi + 1 - lo) 1

-- ---- binomial
-- how many ways there are to choose k of n
unfoldable pub choose : ℕ → ℕ → ℕ
choose zero zero = 1
choose zero (suc k) = 0
choose (suc n) zero = 1
choose (suc n) (suc k) = choose n k + choose n (suc k)

-- the weight of k successes in n trials, each of which succeeds with a weight of a in b
abbrev pub binomial_weight : ℕ → ℕ → ℕ → ℕ → ℕ
binomial_weight n a b k = choose n k * a ^ k * (b - a) ^ (n - k)

-- the greatest number of successes that has a weight above 0
abbrev pub binomial_greatest : ℕ → ℕ → ℕ
binomial_greatest n a = if a == 0 then 0 else n

-- why there is no law of the number of successes
unfoldable pub binomial_fault : ℕ → ℕ → ℕ → Option LawFault
binomial_fault n a b =
    if b == 0 then Some Disordered
    else (if nat_lt b a then Some Disordered
    else (if nat_lt 10000 n then Some TooLarge
    else (if nat_lt 1000000000 (b ^ n) then Some TooLarge else None)))

-- the law of the number of successes
unfoldable pub binomial_law : ℕ → ℕ → ℕ → List ℕ
binomial_law n a b = map (binomial_weight n a b) (range_with_len 0 (binomial_greatest n a + 1))

-- ---- another sum of weights
-- why a law has no multiple of this sum
abbrev pub rescale_fault : List ℕ → ℕ → Option LawFault
rescale_fault ws total = if total % sum ws == 0 then None else Some NotMultiple

-- the multiple of a law that has this sum
abbrev pub rescaled_law : List ℕ → ℕ → List ℕ
rescaled_law ws total = map (λ w. w * (total / sum ws)) ws
