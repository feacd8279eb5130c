-- The sums of weights up to each demand, and the first that passes a number.
use Rattle.std.proofs.Common.{◌≡◌, ◌++◌, map, drop, set, get_or, slice_set, Fits, ℕ, zero, suc, ◌+◌, ◌-◌, ◌<◌, ◌≤◌, List, [], ◌∷◌, length, sum, take, slice_index_or, cond, ◌∙◌, ap, subst, sym, true, false, leb, leb-true, leb-false, ◌⊎◌, inl, inr, arith, mul-le-mul_right, min, ◌*◌, ◌/◌, ◌^◌}
use Rattle.std.specs.List.Sorted.{IsNonDecreasingBy, IsPartitionPoint}
use Rattle.std.proofs.lemmas.Bool.{cases_lt, lt-ltb, le-ltb}
use Rattle.std.specs.Int.{w128}
use Rattle.std.specs.List.{range_with_len}
use Rattle.std.proofs.Math.Seq.{drop-cons, drop-length, set-append_seam, get_or-append_seam, append_snoc}
use Rattle.std.proofs.lemmas.List.{take_all, append-nil}
use Rattle.std.proofs.lemmas.List.Sums.{sum_by_more, sum_by_more_le}
use Rattle.std.proofs.lemmas.List.FromFn.{length-map-range_with_len, get_or-map-range_with_len, map-range_with_len_more}
use Rattle.demand_law.specs.Law.{IsLaw, greatest_of, upto_of, running_sums}
use Rattle.demand_law.specs.LawSums.{sum_positive}
use Rattle.demand_law.specs.WeightedSums.{sum-cons}
use Rattle.demand_law.specs.Picked.{first_above, picked}

pub length-running_sums : (ws : List ℕ) → length (running_sums ws) ≡ length ws
unfolding running_sums
length-running_sums ws = length-map-range_with_len (upto_of ws) 0 (length ws)

pub running_sums-at : (ws : List ℕ) (d e : ℕ) → d < length ws → slice_index_or (running_sums ws) d e ≡ upto_of ws d
unfolding running_sums
running_sums-at ws d e lt = get_or-map-range_with_len (upto_of ws) 0 (length ws) d d e lt (omega arith)

-- ---- weights that become sums, from the first on
-- up to a place they are sums, behind it they are still weights
abbrev pub AddedSoFar : (ws now : List ℕ) (place total : ℕ) → Type 0
AddedSoFar ws now place total =
    (total ≡ sum (take place ws)) × (now ≡ map (upto_of ws) (range_with_len 0 place) ++ drop place ws)

abbrev sums_before : List ℕ → ℕ → List ℕ
sums_before ws place = map (upto_of ws) (range_with_len 0 place)

at_seam : (ws now : List ℕ) (place total : ℕ) → place < length ws → AddedSoFar ws now place total → now ≡ sums_before ws place ++ get_or ws place 0 ∷ drop (suc place) ws
at_seam ws now place total lt so_far = so_far.1 ∙ ap (λ xs. sums_before ws place ++ xs) (drop-cons ws place 0 lt)

length-sums_before : (ws : List ℕ) (place : ℕ) → length (sums_before ws place) ≡ place
length-sums_before ws place = length-map-range_with_len (upto_of ws) 0 place

weight_here : (ws now : List ℕ) (place total : ℕ) → place < length ws → AddedSoFar ws now place total → slice_index_or now place 0 ≡ get_or ws place 0
weight_here ws now place total lt so_far =
    ap (λ xs. get_or xs place 0) (at_seam ws now place total lt so_far)
    ∙ ap (λ n. get_or (sums_before ws place ++ get_or ws place 0 ∷ drop (suc place) ws) n 0) (sym (length-sums_before ws place))
    ∙ get_or-append_seam (sums_before ws place) (get_or ws place 0) (drop (suc place) ws) 0

sum_here : (ws now : List ℕ) (place total : ℕ) → place < length ws → AddedSoFar ws now place total → total + slice_index_or now place 0 ≡ upto_of ws place
sum_here ws now place total lt so_far =
    ap (λ n. n + slice_index_or now place 0) so_far.0
    ∙ ap (λ n. sum (take place ws) + n) (weight_here ws now place total lt so_far)
    ∙ sym (sum_by_more (λ x. x) ws place 0 lt)

pub added_fits : (ws now : List ℕ) (place total : ℕ) → place < length ws → sum ws < 2 ^ 128 → AddedSoFar ws now place total → Fits w128 (total + slice_index_or now place 0)
added_fits ws now place total lt most so_far =
    omega (arith, most, so_far.0, weight_here ws now place total lt so_far, sum_by_more_le (λ x. x) ws place 0 lt)

pub added_up : (ws now : List ℕ) (place total : ℕ) → place < length ws → AddedSoFar ws now place total → AddedSoFar ws (slice_set now place (total + slice_index_or now place 0)) (place + 1) (total + slice_index_or now place 0)
added_up ws now place total lt so_far = (here, listed)
  where
    here : total + slice_index_or now place 0 ≡ upto_of ws place
    here = sum_here ws now place total lt so_far

    before : List ℕ
    before = sums_before ws place

    rest : List ℕ
    rest = drop (suc place) ws

    next : suc place ≡ place + 1
    next = omega arith

    listed : slice_set now place (total + slice_index_or now place 0) ≡ map (upto_of ws) (range_with_len 0 (place + 1)) ++ drop (place + 1) ws
    listed =
        ap (λ x. set now place x) here
        ∙ ap (λ xs. set xs place (upto_of ws place)) (at_seam ws now place total lt so_far)
        ∙ ap (λ n. set (before ++ get_or ws place 0 ∷ rest) n (upto_of ws place)) (sym (length-sums_before ws place))
        ∙ set-append_seam before (get_or ws place 0) rest (upto_of ws place)
        ∙ sym (append_snoc before (upto_of ws place) rest)
        ∙ ap (λ xs. xs ++ rest) (sym (map-range_with_len_more (upto_of ws) 0 place place (omega arith)))
        ∙ ap (λ n. map (upto_of ws) (range_with_len 0 (place + 1)) ++ drop n ws) next

pub added_whole : (ws now : List ℕ) (place total : ℕ) → place ≡ length ws → AddedSoFar ws now place total → now ≡ running_sums ws
unfolding running_sums
added_whole ws now place total all so_far =
    so_far.1
    ∙ ap (λ n. map (upto_of ws) (range_with_len 0 n) ++ drop n ws) all
    ∙ ap (λ xs. map (upto_of ws) (range_with_len 0 (length ws)) ++ xs) (drop-length ws)
    ∙ append-nil _

-- ---- growth
take_grows : (ws : List ℕ) (i j : ℕ) → i ≤ j → sum (take i ws) ≤ sum (take j ws)
take_grows ws zero j le = omega arith
take_grows [] (suc i) j le = omega arith
take_grows (w ∷ ws) (suc i) zero le = absurd (omega arith)
take_grows (w ∷ ws) (suc i) (suc j) le = omega (arith, take_grows ws i j (omega arith), sum-cons w (take i ws), sum-cons w (take j ws))

pub running_sums-grow : (ws : List ℕ) → IsNonDecreasingBy (λ s. s) (running_sums ws)
running_sums-grow ws i j e le lt =
    let within : j < length ws = omega (arith, length-running_sums ws) in
    omega (arith, running_sums-at ws i e (omega arith), running_sums-at ws j e within, take_grows ws (i + 1) (j + 1) (omega arith))

-- from the greatest demand on, the sum is whole
pub upto_of-whole : (ws : List ℕ) (d : ℕ) → length ws ≤ d + 1 → upto_of ws d ≡ sum ws
upto_of-whole ws d le = ap sum (take_all (d + 1) ws le)

-- ---- the first that passes a number
first_above_at : (ws : List ℕ) (v i : ℕ) → v < sum (take (suc i) ws) → ((d : ℕ) → d < i → sum (take (suc d) ws) ≤ v) → first_above ws v ≡ i
first_above_at [] v i above below = absurd (omega arith)
first_above_at (w ∷ ws) v zero above below =
    ap (λ b. cond b 0 (suc (first_above ws (v - w)))) (lt-ltb v w (omega (arith, sum-cons w (take 0 ws))))
first_above_at (w ∷ ws) v (suc i) above below =
    let first : w ≤ v = omega (arith, below 0 (omega arith), sum-cons w (take 0 ws)) in
    let rest : first_above ws (v - w) ≡ i = first_above_at ws (v - w) i (omega (arith, sum-cons w (take (suc i) ws))) (λ d lt. omega (arith, below (suc d) (omega arith), sum-cons w (take (suc d) ws))) in
    ap (λ b. cond b 0 (suc (first_above ws (v - w)))) (le-ltb v w first) ∙ ap suc rest

pub first_above-is : (ws : List ℕ) (v i : ℕ) → v < upto_of ws i → ((d : ℕ) → d < i → upto_of ws d ≤ v) → first_above ws v ≡ i
first_above-is ws v i above below = first_above_at ws v i (at i above) (λ d lt. at_most d (below d lt))
  where
    next : (d : ℕ) → d + 1 ≡ suc d
    next d = omega arith

    at : (d : ℕ) → v < upto_of ws d → v < sum (take (suc d) ws)
    at d h = subst (λ n. v < sum (take n ws)) (next d) h

    at_most : (d : ℕ) → upto_of ws d ≤ v → sum (take (suc d) ws) ≤ v
    at_most d h = subst (λ n. sum (take n ws) ≤ v) (next d) h

-- ---- what a law looks up
-- the sum up to a demand stands at the demand, or at the greatest one
pub upto_of-found : (ws sums : List ℕ) (d place : ℕ) → IsLaw ws → sums ≡ running_sums ws → place ≡ min d (greatest_of ws) → (place < length sums) × ((e : ℕ) → slice_index_or sums place e ≡ upto_of ws d)
upto_of-found ws sums d place is same at =
    let within : place < length ws = omega (arith, is.some) in
    (omega (arith, ap length same, length-running_sums ws), λ e. ap (λ xs. slice_index_or xs place e) same ∙ running_sums-at ws place e within ∙ by_place (cases_lt d (length ws)))
  where
    by_place : (d < length ws) ⊎ (length ws ≤ d) → upto_of ws place ≡ upto_of ws d
    by_place (inl lt) =
        let here : place ≡ d = omega arith in
        ap (upto_of ws) here
    by_place (inr le) = upto_of-whole ws place (omega arith) ∙ sym (upto_of-whole ws d (omega arith))

share_within : (share total : ℕ) → share ≤ 4294967295 * total → 0 < total → share / 2 ^ 32 < total
share_within share total le some = omega arith

-- a demand that a word picks
pub record Picks (ws : List ℕ) (word d : ℕ) : Type 0 where
  pub within : d < length ws
  pub value : d ≡ picked ws word
  pub above : word * sum ws / 2 ^ 32 < upto_of ws d
  pub least : (k : ℕ) → k < d → upto_of ws k ≤ word * sum ws / 2 ^ 32

pub picks_at : (ws sums : List ℕ) (word d : ℕ) → IsLaw ws → sums ≡ running_sums ws → word < 2 ^ 32 → d ≤ length sums → IsPartitionPoint (λ s. leb s (word * sum ws / 2 ^ 32) ≡ true) (λ s. leb s (word * sum ws / 2 ^ 32) ≡ false) sums d → Picks ws word d
picks_at ws sums word d is same small le point = record {
  within = within;
  value = sym (first_above-is ws v d above least);
  above = above;
  least = least;
}
  where
    v : ℕ
    v = word * sum ws / 2 ^ 32

    long : length sums ≡ length ws
    long = ap length same ∙ length-running_sums ws

    at : (k : ℕ) → k < length ws → slice_index_or sums k 0 ≡ upto_of ws k
    at k lt = ap (λ xs. slice_index_or xs k 0) same ∙ running_sums-at ws k 0 lt

    least : (k : ℕ) → k < d → upto_of ws k ≤ v
    least k lt = omega (arith, at k (omega (arith, long)), leb-true _ _ (point.0 k 0 (omega arith) lt))

    not_all : v < sum ws
    not_all = share_within (word * sum ws) (sum ws) (mul-le-mul_right (sum ws) (omega arith)) (sum_positive ws is)

    by_length : (d < length ws) ⊎ (length ws ≤ d) → d < length ws
    by_length (inl lt) = lt
    by_length (inr past) = absurd (omega (arith, is.some, not_all, least (greatest_of ws) (omega (arith, is.some)), upto_of-whole ws (greatest_of ws) (omega arith)))

    within : d < length ws
    within = by_length (cases_lt d (length ws))

    above : v < upto_of ws d
    above = omega (arith, at d within, leb-false _ _ (point.1 d 0 (omega arith) (omega (arith, long, within))))
