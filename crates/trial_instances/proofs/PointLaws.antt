-- The law of points whose demands are 0, 1, 2 and so on has their weights.
use Rattle.std.proofs.Common.{◌≡◌, ℕ, zero, suc, ◌+◌, ◌*◌, ◌<◌, ◌≤◌, List, [], ◌∷◌, ◌++◌, length, map, sum, get_or, false, None, refl, ap, ◌∙◌, arith}
use Rattle.std.specs.List.{All, range_with_len}
use Rattle.std.proofs.Math.Nat.{mul-le-mul_right}
use Rattle.std.proofs.lemmas.List.FromFn.{map-range_with_len_more}
use Rattle.std.proofs.lemmas.List.Sums.{sum_by-cons}
use Rattle.std.proofs.lemmas.List.Elements.{All-head, All-tail, All-weaker}
use Rattle.trial_instances.specs.Numbers.{number, numbers}
use Rattle.trial_instances.specs.NumberFacts.{IsFromTo, length_numbers, numbers_in_range, sum_numbers_most}
use Rattle.demand_law.specs.Points.{weight_in, total_in, width_in, is_listed, first_fault, points_fault, points_law}

-- a point for each weight, with demands from d on
abbrev pub pointed : ℕ → List ℕ → List (ℕ × ℕ)
pointed d [] = []
pointed d (w ∷ ws) = (d, w) ∷ pointed (d + 1) ws

-- ---- the law
at_first : (d k w : ℕ) (ps : List (ℕ × ℕ)) → d ≡ k → weight_in ((d, w) ∷ ps) k ≡ w
at_first d k w ps same = grind arith

past_first : (d k w : ℕ) (ps : List (ℕ × ℕ)) → d < k → weight_in ((d, w) ∷ ps) k ≡ weight_in ps k
past_first d k w ps past = grind arith

weight_pointed : (d i : ℕ) (ws : List ℕ) → weight_in (pointed d ws) (d + i) ≡ get_or ws i 0
weight_pointed d i [] = refl
weight_pointed d zero (w ∷ ws) = at_first d (d + 0) w (pointed (d + 1) ws) (omega arith)
weight_pointed d (suc i) (w ∷ ws) =
    let next : d + suc i ≡ d + 1 + i = omega arith in
    past_first d (d + suc i) w (pointed (d + 1) ws) (omega arith) ∙ ap (weight_in (pointed (d + 1) ws)) next ∙ weight_pointed (d + 1) i ws

width_pointed : (d w : ℕ) (ws : List ℕ) → width_in (pointed d (w ∷ ws)) ≡ d + length (w ∷ ws)
width_pointed d w [] = omega arith
width_pointed d w (v ∷ ws) = omega (arith, width_pointed (d + 1) v ws)

listed : (f : ℕ → ℕ) (d : ℕ) (ws : List ℕ) → ((i : ℕ) → f (d + i) ≡ get_or ws i 0) → map f (range_with_len d (length ws)) ≡ ws
listed f d [] same = refl
listed f d (w ∷ ws) same =
    let here : d ≡ d + 0 = omega arith in
    let first : f d ≡ w = ap f here ∙ same 0 in
    let others = listed f (d + 1) ws (λ i. let next : d + 1 + i ≡ d + suc i = omega arith in ap f next ∙ same (suc i)) in
    cc

pub law_pointed : (ws : List ℕ) → points_law (pointed 0 ws) ≡ ws
law_pointed [] = refl
law_pointed (w ∷ ws) =
    let width : width_in (pointed 0 (w ∷ ws)) ≡ length (w ∷ ws) = omega (arith, width_pointed 0 w ws) in
    ap (λ n. map (weight_in (pointed 0 (w ∷ ws))) (range_with_len 0 n)) width
    ∙ listed (weight_in (pointed 0 (w ∷ ws))) 0 (w ∷ ws) (λ i. weight_pointed 0 i (w ∷ ws))

-- ---- its faults
total_pointed : (d : ℕ) (ws : List ℕ) → total_in (pointed d ws) ≡ sum ws
total_pointed d [] = refl
total_pointed d (w ∷ ws) = omega (arith, total_pointed (d + 1) ws, sum_by-cons (λ x. x) w ws)

-- a demand past the last one isn't listed
unlisted_push : (before : List (ℕ × ℕ)) (d k w : ℕ) → is_listed before k ≡ false → d < k → is_listed (before ++ (d, w) ∷ []) k ≡ false
unlisted_push [] d k w none past = grind arith
unlisted_push (p ∷ before) d k w none past = let rest = unlisted_push before d k w in grind arith

first_fault_pointed : (before : List (ℕ × ℕ)) (d : ℕ) (ws : List ℕ) → ((k : ℕ) → d ≤ k → is_listed before k ≡ false)
    → All (λ w. 1 ≤ w) ws → d + length ws ≤ 10001 → first_fault before (pointed d ws) ≡ None
first_fault_pointed before d [] new positive few = refl
first_fault_pointed before d (w ∷ ws) new positive few =
    let some : 1 ≤ w = All-head (λ v. 1 ≤ v) w ws positive in
    let first = new d (omega arith) in
    let rest = first_fault_pointed (before ++ (d, w) ∷ []) (d + 1) ws (λ k past. unlisted_push before d k w (new k (omega arith)) (omega arith))
    (All-tail (λ v. 1 ≤ v) w ws positive) (omega arith) in
    grind arith

pub no_fault_pointed : (ws : List ℕ) → 1 ≤ length ws → length ws ≤ 10001 → All (λ w. 1 ≤ w) ws → sum ws ≤ 1000000000 → points_fault (pointed 0 ws) ≡ None
no_fault_pointed [] some few positive fits = absurd (omega arith)
no_fault_pointed (w ∷ ws) some few positive fits =
    let none = first_fault_pointed [] 0 (w ∷ ws) (λ k past. refl) positive (omega arith) in
    let total = total_pointed 0 (w ∷ ws) in
    grind arith

-- ---- points whose weights are numbers
unfoldable pub points : ℕ → ℕ → ℕ → ℕ → List (ℕ × ℕ)
points trial place most count = map (λ d. (d, number trial (place + d) 1 most)) (range_with_len 0 count)

pub points_none : (trial place most : ℕ) → points trial place most 0 ≡ []
unfolding points
points_none trial place most = refl

pub points_more : (trial place most count : ℕ) → points trial place most (count + 1) ≡ points trial place most count ++ (count, number trial (place + count) 1 most) ∷ []
unfolding points
points_more trial place most count = map-range_with_len_more (λ d. (d, number trial (place + d) 1 most)) 0 count count (omega arith)

all_pointed : (f : ℕ → ℕ) (d n : ℕ) → map (λ k. (k, f k)) (range_with_len d n) ≡ pointed d (map f (range_with_len d n))
all_pointed f d zero = refl
all_pointed f d (suc n) = ap (λ ps. (d, f d) ∷ ps) (all_pointed f (d + 1) n)

points_pointed : (trial place most count : ℕ) → points trial place most count ≡ pointed 0 (numbers trial place count 1 most)
unfolding points numbers
points_pointed trial place most count = all_pointed (λ k. number trial (place + k) 1 most) 0 count

pub law_of_points : (trial place most count : ℕ) → points_law (points trial place most count) ≡ numbers trial place count 1 most
law_of_points trial place most count = ap points_law (points_pointed trial place most count) ∙ law_pointed (numbers trial place count 1 most)

pub few_weights : (count most : ℕ) → 1 ≤ count → count * most ≤ 1000000000 → most ≤ 1000000000
few_weights count most some fits = omega (arith, fits, mul-le-mul_right most some)

pub no_fault_of_points : (trial place most count : ℕ) → 1 ≤ count → count ≤ 10001 → 1 ≤ most → count * most ≤ 1000000000 → points_fault (points trial place most count) ≡ None
no_fault_of_points trial place most count some few positive fits =
    let weights = numbers trial place count 1 most in
    let same = length_numbers trial place count 1 most in
    ap points_fault (points_pointed trial place most count)
    ∙ no_fault_pointed weights (omega arith) (omega arith)
    (All-weaker (IsFromTo 1 most) (λ w. 1 ≤ w) (λ w is. is.least_most) weights (numbers_in_range trial place count 1 most positive))
    (omega (arith, sum_numbers_most trial place count 1 most positive))
