-- One step of a position changes its cost by what the demands up to it and past it say.
use Rattle.std.proofs.Common.{◌≡◌, ℕ, zero, suc, ◌+◌, ◌-◌, ◌*◌, ◌≤◌, ℤ, pos, negsuc, ◌+ℤ◌, ◌-ℤ◌, ◌*ℤ◌, refl, sym, ◌∙◌, ap, arith, List, [], ◌∷◌, sum, take, slice_index}
use Rattle.std.proofs.lemmas.Int.{ints}
use Rattle.demand_law.specs.WeightedSums.{weighted-ext, sum-cons}
use Rattle.demand_law.specs.Integers.{mul_add, mul_comm}
use Rattle.model_terms.specs.Positions.{above_zero}
use Rattle.least_values.specs.Stock.{cost_at, stock_cost, upto, weight_at}

-- equal numbers are as much above 0
above-ext : (a b : ℤ) → a ≡ b → above_zero a ≡ above_zero b
above-ext a b e = ap above_zero e

-- a demand more and a position more cost the same
cost_shift : (over under : ℕ) (y : ℤ) (d : ℕ) → cost_at over under y (suc d) ≡ cost_at over under (y -ℤ pos 1) d
cost_shift over under y d =
    let left : above_zero (y -ℤ pos (suc d)) ≡ above_zero (y -ℤ pos 1 -ℤ pos d) = above-ext (y -ℤ pos (suc d)) (y -ℤ pos 1 -ℤ pos d) (omega (arith, ints)) in
    let lacks : above_zero (pos (suc d) -ℤ y) ≡ above_zero (pos d -ℤ (y -ℤ pos 1)) = above-ext (pos (suc d) -ℤ y) (pos d -ℤ (y -ℤ pos 1)) (omega (arith, ints)) in
    ap (λ a. over * a + under * above_zero (pos (suc d) -ℤ y)) left ∙ ap (λ b. over * above_zero (y -ℤ pos 1 -ℤ pos d) + under * b) lacks

-- the first demand and the others
cost_cons : (over under w : ℕ) (ws : List ℕ) (y : ℤ) → stock_cost over under (w ∷ ws) y ≡ pos w *ℤ pos (cost_at over under y 0) +ℤ stock_cost over under ws (y -ℤ pos 1)
unfolding stock_cost
cost_cons over under w ws y = ap (λ z. pos w *ℤ pos (cost_at over under y 0) +ℤ z) (weighted-ext ws (λ d. pos (cost_at over under y (suc d))) (λ d. pos (cost_at over under (y -ℤ pos 1) d)) (λ d. ap pos (cost_shift over under y d)))

pub cost_nil : (over under : ℕ) (y : ℤ) → stock_cost over under [] y ≡ pos 0
unfolding stock_cost
cost_nil over under y = refl

taken_nil : (n : ℕ) → sum (take n []) ≡ 0
taken_nil zero = refl
taken_nil (suc n) = refl

upto_nil : (y : ℤ) → upto [] y ≡ 0
upto_nil y = taken_nil (above_zero (y +ℤ pos 1))

-- below 0 there is no demand
upto_below : (ws : List ℕ) (n : ℕ) → upto ws (negsuc n) ≡ 0
upto_below ws n = ap (λ k. sum (take k ws)) (none n)
  where
    none : (n : ℕ) → above_zero (negsuc n +ℤ pos 1) ≡ 0
    none zero = refl
    none (suc n) = above-ext (negsuc (suc n) +ℤ pos 1) (negsuc n) (omega (arith, ints))

upto_at : (ws : List ℕ) (y : ℤ) (n : ℕ) → y +ℤ pos 1 ≡ pos n → upto ws y ≡ sum (take n ws)
upto_at ws y n e = ap (λ z. sum (take (above_zero z) ws)) e

upto_cons : (w : ℕ) (ws : List ℕ) (n : ℕ) → upto (w ∷ ws) (pos n) ≡ w + upto ws (pos n -ℤ pos 1)
upto_cons w ws n =
    upto_at (w ∷ ws) (pos n) (suc n) (omega (arith, ints))
    ∙ sum-cons w (take n ws)
    ∙ ap (λ k. w + k) (sym (upto_at ws (pos n -ℤ pos 1) n (omega (arith, ints))))

-- what the first demand adds to a step
first_up : (over under n : ℕ) → cost_at over under (pos n +ℤ pos 1) 0 ≡ cost_at over under (pos n) 0 + over
first_up over under n =
    let left : above_zero (pos n +ℤ pos 1 -ℤ pos 0) ≡ suc n = above-ext (pos n +ℤ pos 1 -ℤ pos 0) (pos (suc n)) (omega (arith, ints)) in
    let lacks : above_zero (pos 0 -ℤ (pos n +ℤ pos 1)) ≡ 0 = above-ext (pos 0 -ℤ (pos n +ℤ pos 1)) (negsuc n) (omega (arith, ints)) in
    let was_left : above_zero (pos n -ℤ pos 0) ≡ n = above-ext (pos n -ℤ pos 0) (pos n) (omega (arith, ints)) in
    let lacked : above_zero (pos 0 -ℤ pos n) ≡ 0 = none n in
    rw (left, lacks, was_left, lacked) (omega arith)
  where
    none : (n : ℕ) → above_zero (pos 0 -ℤ pos n) ≡ 0
    none zero = refl
    none (suc n) = above-ext (pos 0 -ℤ pos (suc n)) (negsuc n) (omega (arith, ints))

first_below : (over under n : ℕ) → cost_at over under (negsuc n) 0 ≡ cost_at over under (negsuc n +ℤ pos 1) 0 + under
first_below over under n =
    let was_left : above_zero (negsuc n -ℤ pos 0) ≡ 0 = above-ext (negsuc n -ℤ pos 0) (negsuc n) (omega (arith, ints)) in
    let lacked : above_zero (pos 0 -ℤ negsuc n) ≡ suc n = above-ext (pos 0 -ℤ negsuc n) (pos (suc n)) (omega (arith, ints)) in
    let left : above_zero (negsuc n +ℤ pos 1 -ℤ pos 0) ≡ 0 = none n in
    let lacks : above_zero (pos 0 -ℤ (negsuc n +ℤ pos 1)) ≡ n = above-ext (pos 0 -ℤ (negsuc n +ℤ pos 1)) (pos n) (omega (arith, ints)) in
    rw (left, lacks, was_left, lacked) (omega arith)
  where
    none : (n : ℕ) → above_zero (negsuc n +ℤ pos 1 -ℤ pos 0) ≡ 0
    none zero = above-ext (negsuc 0 +ℤ pos 1 -ℤ pos 0) (pos 0) (omega (arith, ints))
    none (suc n) = above-ext (negsuc (suc n) +ℤ pos 1 -ℤ pos 0) (negsuc n) (omega (arith, ints))

-- the change of one step up
unfoldable pub change : ℕ → ℕ → ℕ → ℕ → ℤ
change over under total below = pos over *ℤ pos below -ℤ pos under *ℤ (pos total -ℤ pos below)

-- one demand more that is covered, and one more that is not
more_covered : (over under w total below c : ℕ) → pos w *ℤ pos (c + over) +ℤ change over under total below ≡ pos w *ℤ pos c +ℤ change over under (w + total) (w + below)
unfolding change
more_covered over under w total below c =
    let e : pos (w + total) -ℤ pos (w + below) ≡ pos total -ℤ pos below = omega (arith, ints) in
    omega (arith, ints, mul_add (pos w) (pos c) (pos over), mul_add (pos over) (pos w) (pos below), mul_comm (pos w) (pos over), ap (λ z. pos under *ℤ z) e)

more_lacking : (over under w total c : ℕ) → pos w *ℤ pos c +ℤ change over under total 0 ≡ pos w *ℤ pos (c + under) +ℤ change over under (w + total) 0
unfolding change
more_lacking over under w total c =
    let e : pos total -ℤ pos 0 ≡ pos total = omega (arith, ints) in
    let f : pos (w + total) -ℤ pos 0 ≡ pos w +ℤ pos total = omega (arith, ints) in
    omega (arith, ints, mul_add (pos w) (pos c) (pos under), mul_add (pos under) (pos w) (pos total), mul_comm (pos w) (pos under), ap (λ z. pos under *ℤ z) e, ap (λ z. pos under *ℤ z) f)

nothing_up : (over under : ℕ) → change over under 0 0 ≡ pos 0
unfolding change
nothing_up over under = omega (arith, ints)

-- the step up
pub step_up : (over under : ℕ) (ws : List ℕ) (y : ℤ) → stock_cost over under ws (y +ℤ pos 1) ≡ stock_cost over under ws y +ℤ change over under (sum ws) (upto ws y)
step_up over under [] y = rw (cost_nil over under y, cost_nil over under (y +ℤ pos 1), upto_nil y) (omega (arith, ints, nothing_up over under))
step_up over under (w ∷ ws) (pos n) =
    let y : ℤ = pos n -ℤ pos 1 in
    let back : stock_cost over under ws (pos n +ℤ pos 1 -ℤ pos 1) ≡ stock_cost over under ws (y +ℤ pos 1) = ap (stock_cost over under ws) (omega (arith, ints)) in
    let first : pos w *ℤ pos (cost_at over under (pos n +ℤ pos 1) 0) ≡ pos w *ℤ pos (cost_at over under (pos n) 0 + over) = ap (λ k. pos w *ℤ pos k) (first_up over under n) in
    let changed : change over under (sum (w ∷ ws)) (upto (w ∷ ws) (pos n)) ≡ change over under (w + sum ws) (w + upto ws y) = ap (λ k. change over under k (upto (w ∷ ws) (pos n))) (sum-cons w ws) ∙ ap (change over under (w + sum ws)) (upto_cons w ws n) in
    combined _ _ _ _ (pos w *ℤ pos (cost_at over under (pos n) 0)) _ _ _ _ _ _ (cost_cons over under w ws (pos n +ℤ pos 1)) (cost_cons over under w ws (pos n)) first back (step_up over under ws y) (more_covered over under w (sum ws) (upto ws y) (cost_at over under (pos n) 0)) changed
  where
    combined : (next now first_next first_later first_now rest_next rest_later rest_now change_rest change_both change_all : ℤ) → next ≡ first_next +ℤ rest_next → now ≡ first_now +ℤ rest_now → first_next ≡ first_later → rest_next ≡ rest_later → rest_later ≡ rest_now +ℤ change_rest → first_later +ℤ change_rest ≡ first_now +ℤ change_both → change_all ≡ change_both → next ≡ now +ℤ change_all
    combined next now first_next first_later first_now rest_next rest_later rest_now change_rest change_both change_all a b c d e f g = omega (arith, ints, a, b, c, d, e, f, g)
step_up over under (w ∷ ws) (negsuc n) =
    let y : ℤ = negsuc n -ℤ pos 1 in
    let back : stock_cost over under ws (negsuc n +ℤ pos 1 -ℤ pos 1) ≡ stock_cost over under ws (y +ℤ pos 1) = ap (stock_cost over under ws) (omega (arith, ints)) in
    let first : pos w *ℤ pos (cost_at over under (negsuc n) 0) ≡ pos w *ℤ pos (cost_at over under (negsuc n +ℤ pos 1) 0 + under) = ap (λ k. pos w *ℤ pos k) (first_below over under n) in
    let same : y ≡ negsuc (suc n) = omega (arith, ints) in
    let below : upto ws y ≡ 0 = ap (upto ws) same ∙ upto_below ws (suc n) in
    let rest : change over under (sum ws) (upto ws y) ≡ change over under (sum ws) 0 = ap (change over under (sum ws)) below in
    let changed : change over under (sum (w ∷ ws)) (upto (w ∷ ws) (negsuc n)) ≡ change over under (w + sum ws) 0 = ap (λ k. change over under k (upto (w ∷ ws) (negsuc n))) (sum-cons w ws) ∙ ap (change over under (w + sum ws)) (upto_below (w ∷ ws) n) in
    combined (stock_cost over under (w ∷ ws) (negsuc n +ℤ pos 1)) (stock_cost over under (w ∷ ws) (negsuc n)) (pos w *ℤ pos (cost_at over under (negsuc n +ℤ pos 1) 0)) (pos w *ℤ pos (cost_at over under (negsuc n +ℤ pos 1) 0 + under)) (pos w *ℤ pos (cost_at over under (negsuc n) 0)) _ _ (stock_cost over under ws y) _ _ (change over under (w + sum ws) 0) _ (cost_cons over under w ws (negsuc n +ℤ pos 1)) (cost_cons over under w ws (negsuc n)) first back (step_up over under ws y) rest (more_lacking over under w (sum ws) (cost_at over under (negsuc n +ℤ pos 1) 0)) changed
  where
    combined : (next now first_next first_more first_now rest_next rest_later rest_now change_rest change_lacking change_both change_all : ℤ) → next ≡ first_next +ℤ rest_next → now ≡ first_now +ℤ rest_now → first_now ≡ first_more → rest_next ≡ rest_later → rest_later ≡ rest_now +ℤ change_rest → change_rest ≡ change_lacking → first_next +ℤ change_lacking ≡ first_more +ℤ change_both → change_all ≡ change_both → next ≡ now +ℤ change_all
    combined next now first_next first_more first_now rest_next rest_later rest_now change_rest change_lacking change_both change_all a b c d e f g h = omega (arith, ints, a, b, c, d, e, f, g, h)

-- the weights up to the next position
sum_next : (ws : List ℕ) (n : ℕ) → sum (take (suc n) ws) ≡ sum (take n ws) + slice_index ws n
sum_next [] zero = refl
sum_next [] (suc n) = refl
sum_next (w ∷ ws) zero = omega arith
sum_next (w ∷ ws) (suc n) = omega (arith, sum-cons w (take (suc n) ws), sum-cons w (take n ws), sum_next ws n)

upto_here : (ws : List ℕ) (y z : ℤ) → y +ℤ pos 1 ≡ z → upto ws z ≡ upto ws y + weight_at ws z
upto_here ws y (pos n) e = upto_at ws (pos n) (suc n) (omega (arith, ints)) ∙ sum_next ws n ∙ ap (λ k. k + slice_index ws n) (sym (upto_at ws y n e))
upto_here ws y (negsuc n) e =
    let same : y ≡ negsuc (suc n) = omega (arith, ints, e) in
    upto_below ws n ∙ sym (ap (λ k. k + 0) (ap (upto ws) same ∙ upto_below ws (suc n)))

pub upto_up : (ws : List ℕ) (y : ℤ) → upto ws (y +ℤ pos 1) ≡ upto ws y + weight_at ws (y +ℤ pos 1)
upto_up ws y = upto_here ws y (y +ℤ pos 1) refl

-- the change as the code tells it
pub change_is : (over under total below : ℕ) → below ≤ total → pos (over * below) -ℤ pos (under * (total - below)) ≡ change over under total below
unfolding change
change_is over under total below le =
    let e : pos (total - below) ≡ pos total -ℤ pos below = omega (arith, ints, le) in
    omega (arith, ints, ap (λ z. pos under *ℤ z) e)
