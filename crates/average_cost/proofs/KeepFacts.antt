-- What the code sums up over listed demands is the sum over the law.
use Rattle.std.proofs.Common.{◌≡◌, ℕ, zero, suc, ◌+◌, ◌-◌, ◌*◌, ◌^◌, ◌<◌, ◌≤◌, min, Bool, true, false, if◌then◌else◌, nat_lt, nat_eq, List, [], ◌∷◌, ◌++◌, length, sum, take, drop, slice_index, refl, sym, ◌∙◌, ap, arith, ◌⊎◌, inl, inr, add-one}
use Rattle.std.proofs.lemmas.Bool.{cases_lt}
use Rattle.std.proofs.lemmas.List.{take_all}
use Rattle.std.proofs.lemmas.Bool.Decides.{nat_tests}
use Rattle.demand_law.specs.CountedSums.{counted, counted-ext, counted-const, counted_more}
use Rattle.value_cert.specs.AverageValues.{moving, carried}
use Rattle.average_lemmas.specs.Iteration.{carried_at, carried_below}
use Rattle.average_lemmas.specs.Tables.{lt_true, lt_false}
use Rattle.average_cost.specs.Moves.{move_at, moves_upto, move_value, listed_sum, keep_of}
use Rattle.average_cost.specs.declared.moves.Move.{Move}

-- the weights from demand 1 up
length-moving : (law : List ℕ) → length (moving law) ≡ length law - 1
length-moving [] = refl
length-moving (w ∷ ws) = omega arith

second : (law : List ℕ) (d : ℕ) → slice_index (moving law) d ≡ slice_index law (suc d)
second [] d = refl
second (w ∷ ws) d = refl

length-take_le : (k : ℕ) (xs : List ℕ) → length (take k xs) ≤ k
length-take_le zero xs = omega arith
length-take_le (suc k) [] = omega arith
length-take_le (suc k) (x ∷ xs) = omega (arith, length-take_le k xs)

-- what a demand of d + 1 carries to place k from a place of the grid
abbrev from_grid : ℕ → (ℕ → ℕ) → ℕ → ℕ → ℕ
from_grid v a k d = if nat_lt d k then a (k - suc d) * v ^ d else 0

-- the first demands and the others
counted_split : (ws : List ℕ) (k : ℕ) (g : ℕ → ℕ) → counted ws g ≡ counted (take k ws) g + counted (drop k ws) (λ d. g (k + d))
counted_split ws zero g = counted-ext ws g (λ d. g (0 + d)) (λ d lt. ap g (omega arith)) ∙ omega arith
counted_split [] (suc k) g = omega arith
counted_split (w ∷ ws) (suc k) g =
    omega (arith, counted_split ws k (λ d. g (suc d)), counted-ext (drop k ws) (λ d. g (suc (k + d))) (λ d. g (suc k + d)) (λ d lt. ap g (omega arith)))

-- from place k on nothing comes from the grid
front_all : (ws : List ℕ) (v : ℕ) (a : ℕ → ℕ) (k j : ℕ) → (k ≤ j) ⊎ (length ws ≤ j) → counted (take j ws) (from_grid v a k) ≡ counted ws (from_grid v a k)
front_all ws v a k j (inl le) =
    let none = counted-ext (drop j ws) (λ d. from_grid v a k (j + d)) (λ d. 0) (λ d lt. ap (λ b. if b then a (k - suc (j + d)) * v ^ (j + d) else 0) (lt_false (j + d) k (omega (arith, le)))) in
    omega (arith, counted_split ws j (from_grid v a k), none, counted-const (drop j ws) 0)
front_all ws v a k j (inr le) = ap (λ xs. counted xs (from_grid v a k)) (take_all j ws le)

-- the sum over the law: what comes from the grid, and what comes from below the floor
carried_parts : (ws : List ℕ) (v s : ℕ) (a : ℕ → ℕ) (k : ℕ) → counted ws (carried v s a k) ≡ counted ws (from_grid v a k) + sum (drop k ws) * (s * v ^ k)
carried_parts ws v s a k =
    let grid = counted-ext (take k ws) (carried v s a k) (from_grid v a k) (λ d lt. below d (within d lt)) in
    let floor = counted-ext (drop k ws) (λ d. carried v s a k (k + d)) (λ d. s * v ^ k) (λ d lt. carried_below v s a k (k + d) (omega arith)) in
    omega (arith, counted_split ws k (carried v s a k), grid, floor, counted-const (drop k ws) (s * v ^ k), front_all ws v a k k (inl (omega arith)))
  where
    below : (d : ℕ) → d < k → carried v s a k d ≡ from_grid v a k d
    below d lt = carried_at v s a k d lt ∙ sym (ap (λ b. if b then a (k - suc d) * v ^ d else 0) (lt_true d k lt))

    within : (d : ℕ) → d < length (take k ws) → d < k
    within d lt = omega (arith, lt, length-take_le k ws)

-- one more listed demand
listed_snoc : (a : ℕ → ℕ) (k : ℕ) (moves : List Move) (move : Move) → listed_sum a k (moves ++ move ∷ []) ≡ listed_sum a k moves + move_value a k move
unfolding listed_sum
listed_snoc a k [] move = omega arith
listed_snoc a k (x ∷ xs) move = omega (arith, listed_snoc a k xs move)

-- the listed demands' sum is that over the first weights
listed_is : (law : List ℕ) (v : ℕ) (a : ℕ → ℕ) (k c : ℕ) → c ≤ length (moving law) → listed_sum a k (moves_upto law v c) ≡ counted (take c (moving law)) (from_grid v a k)
unfolding listed_sum moves_upto
listed_is law v a k zero le = refl
listed_is law v a k (suc d) le =
    let more = counted_more (moving law) d (from_grid v a k) le in
    by (nat_eq (slice_index law (suc d)) 0) refl (listed_is law v a k d (omega (arith, le))) (ap (λ c. counted (take c (moving law)) (from_grid v a k)) (sym (add-one d)) ∙ more)
  where
    weight : slice_index (moving law) d ≡ slice_index law (suc d)
    weight = second law d

    known : (x : ℕ) → nat_eq x 0 ≡ true → x ≡ 0
    known x h = grind (arith, nat_tests)

    product : (w : ℕ) (b : Bool) → (if b then w * v ^ d * a (k - suc d) else 0) ≡ w * (if b then a (k - suc d) * v ^ d else 0)
    product w true = omega arith
    product w false = omega arith

    by : (b : Bool) → nat_eq (slice_index law (suc d)) 0 ≡ b → listed_sum a k (moves_upto law v d) ≡ counted (take d (moving law)) (from_grid v a k)
        → counted (take (suc d) (moving law)) (from_grid v a k) ≡ counted (take d (moving law)) (from_grid v a k) + slice_index (moving law) d * from_grid v a k d
        → listed_sum a k (if nat_eq (slice_index law (suc d)) 0 then moves_upto law v d else moves_upto law v d ++ move_at d (slice_index law (suc d) * v ^ d) ∷ []) ≡ counted (take (suc d) (moving law)) (from_grid v a k)
    by true e before more =
        ap (λ b. listed_sum a k (if b then moves_upto law v d else moves_upto law v d ++ move_at d (slice_index law (suc d) * v ^ d) ∷ [])) e
        ∙ omega (arith, before, more, ap (λ z. z * from_grid v a k d) (weight ∙ known (slice_index law (suc d)) e))
    by false e before more =
        ap (λ b. listed_sum a k (if b then moves_upto law v d else moves_upto law v d ++ move_at d (slice_index law (suc d) * v ^ d) ∷ [])) e
        ∙ listed_snoc a k (moves_upto law v d) (move_at d (slice_index law (suc d) * v ^ d))
        ∙ omega (arith, before, more, product (slice_index law (suc d)) (nat_lt d k), ap (λ z. z * from_grid v a k d) weight)

-- what the code sums up
pub keep_is : (law : List ℕ) (v s first k count power rest : ℕ) (entries : List ℕ) → length entries ≡ k → k ≤ count → power ≡ v ^ k → rest ≡ sum (drop k (moving law))
    → keep_of (moves_upto law v (min count (length law - 1))) first (rest * s) power entries ≡ first * v ^ k + counted (moving law) (carried v s (slice_index entries) k)
keep_is law v s first k count power rest entries many le is_power is_rest =
    let c = min count (length law - 1) in
    let a = slice_index entries in
    let inside : c ≤ length (moving law) = omega (arith, length-moving law) in
    let listed = ap (λ j. listed_sum a j (moves_upto law v c)) many ∙ listed_is law v a k c inside ∙ front_all (moving law) v a k c (reaches (cases_lt count (length law - 1))) in
    omega (arith, listed, carried_parts (moving law) v s a k, ap (λ p. rest * s * p) is_power, ap (λ p. first * p) is_power, ap (λ r. r * s * v ^ k) is_rest)
  where
    reaches : (count < length law - 1) ⊎ (length law - 1 ≤ count) → (k ≤ min count (length law - 1)) ⊎ (length (moving law) ≤ min count (length law - 1))
    reaches (inl lt) = inl (omega (arith, lt, le))
    reaches (inr ge) = inr (omega (arith, ge, length-moving law))
