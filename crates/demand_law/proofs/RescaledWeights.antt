-- A law, each weight times a number.
use Rattle.std.proofs.Common.{◌≡◌, ℕ, zero, suc, ◌-◌, ◌*◌, ◌/◌, ◌%◌, ◌^◌, ◌<◌, ◌≤◌, List, [], ◌∷◌, length, sum, map, slice_index, ◌∙◌, ap, arith, mul-le-mul_left}
use Rattle.std.proofs.lemmas.List.{length-map, get_or-map}
use Rattle.std.proofs.Math.Nat.{div-add-mod}
use Rattle.demand_law.specs.Law.{IsLaw}
use Rattle.demand_law.specs.WeightedSums.{sum-cons}
use Rattle.demand_law.specs.Named.{rescaled_law}

sum-multiplied : (ws : List ℕ) (c : ℕ) → sum (map (λ w. w * c) ws) ≡ sum ws * c
sum-multiplied [] c = omega arith
sum-multiplied (w ∷ ws) c = sum-cons (w * c) (map (λ v. v * c) ws) ∙ omega (arith, sum-multiplied ws c, ap (λ n. n * c) (sum-cons w ws))

IsLaw-multiplied : (ws : List ℕ) (c : ℕ) → IsLaw ws → 0 < c → sum ws * c ≤ 2 ^ 120 → IsLaw (map (λ w. w * c) ws)
IsLaw-multiplied ws c is some fits =
    let same : length (map (λ w. w * c) ws) ≡ length ws = length-map ws (λ w. w * c) in
    let last : slice_index (map (λ w. w * c) ws) (length ws - 1) ≡ slice_index ws (length ws - 1) * c = get_or-map (λ w. w * c) ws (length ws - 1) 0 0 (omega (arith, is.some)) in
    let least : 1 ≤ slice_index ws (length ws - 1) = omega (arith, is.last) in
    record {
      some = omega (arith, same, is.some);
      last = omega (arith, ap (λ n. slice_index (map (λ w. w * c) ws) (n - 1)) same, last, mul-le-mul_left c least);
      short = omega (arith, same, is.short);
      fits = omega (arith, sum-multiplied ws c);
    }

-- a number that another divides is their quotient, so often
quotient : (s total : ℕ) → total % s ≡ 0 → s * (total / s) ≡ total
quotient s total none = omega (arith, div-add-mod total s)

pub sum-rescaled_law : (ws : List ℕ) (total : ℕ) → total % sum ws ≡ 0 → sum (rescaled_law ws total) ≡ total
sum-rescaled_law ws total none = sum-multiplied ws (total / sum ws) ∙ quotient (sum ws) total none

pub IsLaw-rescaled_law : (ws : List ℕ) (total : ℕ) → IsLaw ws → 1 ≤ total → total ≤ 1000000000 → total % sum ws ≡ 0 → IsLaw (rescaled_law ws total)
IsLaw-rescaled_law ws total is some most none = IsLaw-multiplied ws (total / sum ws) is (positive (total / sum ws) (quotient (sum ws) total none)) (omega (arith, quotient (sum ws) total none))
  where
    positive : (c : ℕ) → sum ws * c ≡ total → 0 < c
    positive zero e = absurd (omega arith)
    positive (suc c) e = omega arith
