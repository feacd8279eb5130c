-- The points that a law is written as make that law.
use Rattle.std.proofs.Common.{◌≡◌, ◌≢◌, ℕ, zero, suc, ◌+◌, ◌-◌, ◌<◌, ◌≤◌, ◌==◌, sum, List, [], ◌∷◌, ◌++◌, length, get_or, map, Bool, true, false, cond, None, refl, sym, ap, ◌∙◌, arith, le-ltb, ne_eqb, eq-eqb, add-one}
use Rattle.std.specs.Prelude.{⊤}
use Rattle.std.specs.List.{range_with_len}
use Rattle.std.proofs.lemmas.Bool.{eqb-true}
use Rattle.std.proofs.lemmas.List.Sums.{sum_by-cons}
use Rattle.demand_law.specs.Points.{weight_in, total_in, width_in, is_listed, first_fault, sum_fault, points_fault, points_law}
use Rattle.model_terms.specs.DemandLaws.{IsDemandLaw}
use Rattle.json_forms.specs.WrittenValues.{points_from}

-- a demand and its weight
abbrev pub Point : Type 0
Point = ℕ × ℕ

-- the points of a law from one demand on, by whether that demand has a weight
abbrev next_point : Bool → ℕ → ℕ → List Point → List Point
next_point none first w rest = cond none rest ((first, w) ∷ rest)

-- ---- weights
weight_below-at : (none : Bool) (first w d : ℕ) (rest : List Point) → d < first → weight_in rest d ≡ 0 → weight_in (next_point none first w rest) d ≡ 0
weight_below-at true first w d rest below later = later
weight_below-at false first w d rest below later = let other : first ≢ d = λ e. omega arith in rw (ne_eqb first d other) later

-- a demand before the first has no weight
weight_below : (first : ℕ) (ws : List ℕ) (d : ℕ) → d < first → weight_in (points_from first ws) d ≡ 0
weight_below first [] d below = refl
weight_below first (w ∷ ws) d below = weight_below-at (w == 0) first w d (points_from (suc first) ws) below (weight_below (suc first) ws d (omega arith))

weight_here-at : (none : Bool) (first w : ℕ) (rest : List Point) → (w == 0) ≡ none → weight_in rest first ≡ 0 → weight_in (next_point none first w rest) first ≡ w
weight_here-at true first w rest is later = later ∙ sym (eqb-true w 0 is)
weight_here-at false first w rest is later = rw (eq-eqb first first refl) refl

-- the first demand has its weight
weight_here : (first w : ℕ) (ws : List ℕ) → weight_in (points_from first (w ∷ ws)) first ≡ w
weight_here first w ws = weight_here-at (w == 0) first w (points_from (suc first) ws) refl (weight_below (suc first) ws first (omega arith))

weight_later-at : (none : Bool) (first w d : ℕ) (rest : List Point) → first < d → weight_in (next_point none first w rest) d ≡ weight_in rest d
weight_later-at true first w d rest above = refl
weight_later-at false first w d rest above = let other : first ≢ d = λ e. omega arith in rw (ne_eqb first d other) refl

-- the weights of the demands from the first on
weights_again : (first : ℕ) (ws : List ℕ) (f : ℕ → ℕ) → ((d : ℕ) → first ≤ d → f d ≡ weight_in (points_from first ws) d) → map f (range_with_len first (length ws)) ≡ ws
weights_again first [] f same = refl
weights_again first (w ∷ ws) f same =
    let here : f first ≡ w = same first (omega arith) ∙ weight_here first w ws in
    let later : map f (range_with_len (suc first) (length ws)) ≡ ws =
    weights_again (suc first) ws f (λ d le. same d (omega arith) ∙ weight_later-at (w == 0) first w d (points_from (suc first) ws) (omega arith)) in
    rw (here, add-one first) (ap (λ (xs : List ℕ). w ∷ xs) later)

-- ---- width and total
width-at : (none : Bool) (first w n : ℕ) (rest : List Point) → width_in rest ≡ suc first + suc n → width_in (next_point none first w rest) ≡ first + suc (suc n)
width-at true first w n rest later = omega arith
width-at false first w n rest later = omega arith

-- the demands reach as far as the weights, the last of which is above 0
width_again : (first : ℕ) (ws : List ℕ) (last : ℕ) → suc last ≡ length ws → 0 < get_or ws last 0 → width_in (points_from first ws) ≡ first + length ws
width_again first [] last is some = absurd (omega arith)
width_again first (w ∷ []) zero is some = let given : w ≢ 0 = λ e. omega arith in rw (ne_eqb w 0 given) (omega arith)
width_again first (w ∷ []) (suc last) is some = absurd (omega arith)
width_again first (w ∷ x ∷ ws) zero is some = absurd (omega arith)
width_again first (w ∷ x ∷ ws) (suc last) is some = width-at (w == 0) first w (length ws) (points_from (suc first) (x ∷ ws)) (width_again (suc first) (x ∷ ws) last (omega arith) some)

total-at : (none : Bool) (first w : ℕ) (rest : List Point) → (w == 0) ≡ none → total_in (next_point none first w rest) ≡ w + total_in rest
total-at true first w rest is = omega (arith, eqb-true w 0 is)
total-at false first w rest is = refl

total_again : (first : ℕ) (ws : List ℕ) → total_in (points_from first ws) ≡ sum ws
total_again first [] = refl
total_again first (w ∷ ws) = total-at (w == 0) first w (points_from (suc first) ws) refl ∙ ap (λ n. w + n) (total_again (suc first) ws) ∙ sym (sum_by-cons (λ y. y) w ws)

-- ---- no fault
listed-at : (here : Bool) (before : List Point) (p : Point) (d : ℕ) → cond here true (is_listed before d) ≡ false → (is_listed before d ≡ false → is_listed (before ++ p ∷ []) d ≡ false)
    → cond here true (is_listed (before ++ p ∷ []) d) ≡ false
listed-at true before p d absent later = absent
listed-at false before p d absent later = later absent

is_listed-push : (before : List Point) (p : Point) (d : ℕ) → is_listed before d ≡ false → p.0 ≢ d → is_listed (before ++ p ∷ []) d ≡ false
is_listed-push [] p d absent other = rw (ne_eqb p.0 d other) refl
is_listed-push (q ∷ before) p d absent other = listed-at (q.0 == d) before p d absent (λ h. is_listed-push before p d h other)

-- no demand from the first on is listed before
abbrev Apart : List Point → ℕ → Type 0
Apart before first = (d : ℕ) → first ≤ d → is_listed before d ≡ false

fault-at : (none : Bool) (before rest : List Point) (first w : ℕ) → (w == 0) ≡ none → first ≤ 10000 → is_listed before first ≡ false
    → (none ≡ true → first_fault before rest ≡ None) → (none ≡ false → first_fault (before ++ (first, w) ∷ []) rest ≡ None)
    → first_fault before (next_point none first w rest) ≡ None
fault-at true before rest first w is small apart skipped taken = skipped refl
fault-at false before rest first w is small apart skipped taken = rw (le-ltb 10000 first small, is, apart) (taken refl)

no_fault : (before : List Point) (first : ℕ) (ws : List ℕ) → first + length ws ≤ 10001 → Apart before first → first_fault before (points_from first ws) ≡ None
no_fault before first [] short apart = refl
no_fault before first (w ∷ ws) short apart =
    let rest = points_from (suc first) ws in
    let later = λ (d : ℕ) (le : suc first ≤ d). apart d (omega arith) in
    let pushed = λ (d : ℕ) (le : suc first ≤ d). is_listed-push before (first, w) d (apart d (omega arith)) (λ e. omega arith) in
    fault-at (w == 0) before rest first w refl (omega arith) (apart first (omega arith))
    (λ _. no_fault before (suc first) ws (omega arith) later)
    (λ _. no_fault (before ++ (first, w) ∷ []) (suc first) ws (omega arith) pushed)

points_fault-none : (ps : List Point) → 0 < width_in ps → first_fault [] ps ≡ None → total_in ps ≤ 1000000000 → points_fault ps ≡ None
points_fault-none [] some none small = absurd (omega arith)
points_fault-none (p ∷ ps) some none small = ap (sum_fault (p ∷ ps)) none ∙ rw (le-ltb 1000000000 (total_in (p ∷ ps)) small) refl

-- ---- small numbers
abbrev pub AreSmall : List Point → Type 0
AreSmall [] = ⊤
AreSmall (p ∷ ps) = (p.0 ≤ 10000) × (p.1 ≤ 1000000000) × AreSmall ps

small-at : (none : Bool) (first w : ℕ) (rest : List Point) → first ≤ 10000 → w ≤ 1000000000 → AreSmall rest → AreSmall (next_point none first w rest)
small-at true first w rest demand weight later = later
small-at false first w rest demand weight later = (demand, weight, later)

pub small_again : (first : ℕ) (ws : List ℕ) → first + length ws ≤ 10001 → sum ws ≤ 1000000000 → AreSmall (points_from first ws)
small_again first [] short small = tt
small_again first (w ∷ ws) short small =
    let total = sum_by-cons (λ y. y) w ws in
    small-at (w == 0) first w (points_from (suc first) ws) (omega arith) (omega (arith, total)) (small_again (suc first) ws (omega arith) (omega (arith, total)))

-- ---- all together
pub points_law-back : (ws : List ℕ) → IsDemandLaw ws → points_law (points_from 0 ws) ≡ ws
points_law-back ws law =
    let width = width_again 0 ws (length ws - 1) (omega (arith, law.some_demand)) law.greatest_has_weight in
    let whole : width_in (points_from 0 ws) ≡ length ws = omega (arith, width) in
    ap (λ n. map (weight_in (points_from 0 ws)) (range_with_len 0 n)) whole ∙ weights_again 0 ws (weight_in (points_from 0 ws)) (λ d le. refl)

pub points_fault-back : (ws : List ℕ) → IsDemandLaw ws → points_fault (points_from 0 ws) ≡ None
points_fault-back ws law =
    let width = width_again 0 ws (length ws - 1) (omega (arith, law.some_demand)) law.greatest_has_weight in
    points_fault-none (points_from 0 ws) (omega (arith, width, law.some_demand)) (no_fault [] 0 ws (omega (arith, law.greatest_in_range)) (λ d le. refl)) (omega (arith, total_again 0 ws, law.total_in_range))
