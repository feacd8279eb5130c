-- The law that points make, each of them a demand and its weight.
use Rattle.std.specs.Prelude.{ℕ, ◌+◌, max, List, [], ◌∷◌, ◌++◌, map, Bool, true, false, if◌then◌else◌, nat_lt, ◌==◌, Option, Some, None}
use Rattle.std.specs.List.{range_with_len}
use Rattle.demand_law.specs.declared.law.LawFault.{LawFault}
use Rattle.demand_law.specs.declared.law.LawFault.TheVariants.{Empty, Repeated, ZeroWeight, TooLarge}

-- the weight that is given to a demand, 0 where none is
abbrev pub weight_in : List (ℕ × ℕ) → ℕ → ℕ
weight_in [] d = 0
weight_in (p ∷ ps) d = if p.0 == d then p.1 else weight_in ps d

abbrev pub total_in : List (ℕ × ℕ) → ℕ
total_in [] = 0
total_in (p ∷ ps) = p.1 + total_in ps

-- one more than the greatest demand, 0 where there is none
abbrev pub width_in : List (ℕ × ℕ) → ℕ
width_in [] = 0
width_in (p ∷ ps) = max (p.0 + 1) (width_in ps)

-- whether a demand is listed
abbrev pub is_listed : List (ℕ × ℕ) → ℕ → Bool
is_listed [] d = false
is_listed (p ∷ ps) d = if p.0 == d then true else is_listed ps d

-- the first point that fails, after those that are listed before it
abbrev pub first_fault : List (ℕ × ℕ) → List (ℕ × ℕ) → Option LawFault
first_fault before [] = None
first_fault before (p ∷ ps) =
    if nat_lt 10000 p.0 then Some TooLarge
    else (if p.1 == 0 then Some (ZeroWeight p.0)
    else (if is_listed before p.0 then Some (Repeated p.0) else first_fault (before ++ p ∷ []) ps))

abbrev pub sum_fault : List (ℕ × ℕ) → Option LawFault → Option LawFault
sum_fault ps (Some f) = Some f
sum_fault ps None = if nat_lt 1000000000 (total_in ps) then Some TooLarge else None

-- why points make no law
abbrev pub points_fault : List (ℕ × ℕ) → Option LawFault
points_fault [] = Some Empty
points_fault (p ∷ ps) = sum_fault (p ∷ ps) (first_fault [] (p ∷ ps))

-- the law that points make
abbrev pub points_law : List (ℕ × ℕ) → List ℕ
points_law ps = map (weight_in ps) (range_with_len 0 (width_in ps))
