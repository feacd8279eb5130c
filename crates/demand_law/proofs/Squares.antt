-- The sum of two demands of one law, demand by demand.
use Rattle.std.proofs.Common.{◌≡◌, ℕ, zero, suc, ◌+◌, ◌*◌, ◌<◌, ◌≤◌, ℤ, pos, ◌+ℤ◌, ◌*ℤ◌, ◌≤ℤ◌, List, [], ◌∷◌, length, sum, take, get_or, replicate, sym, ◌∙◌, ap, arith}
use Rattle.std.proofs.Math.Nat.{mul-le-mul}
use Rattle.std.proofs.lemmas.List.Sums.{get_or-le-sum_by}
use Rattle.std.proofs.lemmas.Int.{ints}
use Rattle.std.proofs.lemmas.List.{take_all}
use Rattle.demand_law.specs.Law.{weighted}
use Rattle.demand_law.specs.Sequences.{one_at, weight_beyond, IsSumOf}
use Rattle.demand_law.specs.Integers as Z
use Rattle.demand_law.specs.WeightedSums.{weighted-ext, weighted-add, weighted-scale, weighted_more, weighted_front, weighted-mono, weighted_most}
use Rattle.demand_law.specs.LawSums.{one_at_nonnegative, weight_of_sum-pair}
use Rattle.demand_law.specs.Integers.{weight_mono}
use Rattle.demand_law.proofs.Convolved.{weight_beyond_nonnegative, weight_beyond_most, sums_none}

-- the weight of e in the sum of two demands of a law
abbrev pub square_at : List ℕ → ℕ → ℤ
square_at law e = weighted law (λ i. weighted law (λ j. one_at (i + j) e))

-- the weights after the first n demands
abbrev pub SquaresSoFar : List ℕ → ℕ → List ℕ → Type 0
SquaresSoFar law n sums = (e : ℕ) → pos (get_or sums e 0) ≡ square_at (take n law) e

-- no weight of fewer demands is greater
square_front : (law : List ℕ) (n : ℕ) (e : ℕ) → square_at (take n law) e ≤ℤ square_at law e
square_front law n e =
    let inner : weighted (take n law) (λ i. weighted (take n law) (λ j. one_at (i + j) e)) ≤ℤ weighted (take n law) (λ i. weighted law (λ j. one_at (i + j) e)) =
    weighted-mono (take n law) _ _ (λ i lt. weighted_front law n (λ j. one_at (i + j) e) (λ j. one_at_nonnegative (i + j) e)) in
    let outer : weighted (take n law) (λ i. weighted law (λ j. one_at (i + j) e)) ≤ℤ square_at law e =
    weighted_front law n (λ i. weighted law (λ j. one_at (i + j) e)) (λ i. weight_beyond_nonnegative i law e) in
    omega (arith, ints, inner, outer)

square_most : (law : List ℕ) (e : ℕ) → square_at law e ≤ℤ pos (sum law * sum law)
square_most law e = weighted_most law (λ i. weight_beyond i law e) (pos (sum law)) (λ i lt. weight_beyond_most i law e)

nonnegative : (w : ℕ) (z : ℤ) → pos 0 ≤ℤ z → pos 0 ≤ℤ (pos w *ℤ z)
nonnegative w z h = omega (arith, ints, weight_mono w (pos 0) z h)

-- the law that has all its weight, 1, on demand 0
alone : (k e : ℕ) → weight_beyond k (1 ∷ []) e ≡ one_at k e
alone k e =
    let here : k + 0 ≡ k = omega arith in
    let first : one_at (k + 0) e ≡ one_at k e = ap (λ n. one_at n e) here in
    omega (arith, ints, first)

own : (n : ℕ) → n ≤ n * n
own zero = omega arith
own (suc n) = omega arith

module _ (law : List ℕ) (n : ℕ) (within : n < length law) where
  abbrev front : List ℕ
  front = take n law

  abbrev last : ℕ
  last = get_or law n 0

  -- one demand more: with each earlier one twice, and with itself
  pub square_more : (e : ℕ) → square_at (take (n + 1) law) e ≡ (square_at front e +ℤ pos (2 * last) *ℤ weight_beyond n front e) +ℤ pos (last * last) *ℤ one_at (2 * n) e
  square_more e =
      let g : ℕ → ℕ → ℤ = λ i j. one_at (i + j) e in
      let row : (i : ℕ) → weighted (take (n + 1) law) (g i) ≡ weighted front (g i) +ℤ pos last *ℤ g i n = λ i. weighted_more law n (g i) within in
      let rows : square_at (take (n + 1) law) e ≡ weighted front (λ i. weighted front (g i) +ℤ pos last *ℤ g i n) +ℤ pos last *ℤ (weighted front (g n) +ℤ pos last *ℤ g n n) =
      weighted-ext (take (n + 1) law) _ _ row ∙ weighted_more law n (λ i. weighted front (g i) +ℤ pos last *ℤ g i n) within in
      let column : weighted front (λ i. pos last *ℤ g i n) ≡ pos last *ℤ weight_beyond n front e =
      weighted-scale (pos last) front (λ i. g i n) ∙ ap (λ z. pos last *ℤ z) (weighted-ext front _ _ (λ i. ap (λ k. one_at k e) (turned i))) in
      let parts : weighted front (λ i. weighted front (g i) +ℤ pos last *ℤ g i n) ≡ square_at front e +ℤ pos last *ℤ weight_beyond n front e =
      weighted-add front (λ i. weighted front (g i)) (λ i. pos last *ℤ g i n) ∙ ap (λ z. square_at front e +ℤ z) column in
      rows
      ∙ ap (λ z. z +ℤ pos last *ℤ (weighted front (g n) +ℤ pos last *ℤ g n n)) parts
      ∙ joined last (square_at front e) (weight_beyond n front e) (g n n)
      ∙ ap (λ k. (square_at front e +ℤ pos (2 * last) *ℤ weight_beyond n front e) +ℤ pos (last * last) *ℤ one_at k e) twice
    where
      turned : (i : ℕ) → i + n ≡ n + i
      turned i = omega arith

      twice : n + n ≡ 2 * n
      twice = omega arith

      joined : (w : ℕ) (s b o : ℤ) → (s +ℤ pos w *ℤ b) +ℤ pos w *ℤ (b +ℤ pos w *ℤ o) ≡ (s +ℤ pos (2 * w) *ℤ b) +ℤ pos (w * w) *ℤ o
      joined w s b o =
          let pair : pos w *ℤ (b +ℤ pos w *ℤ o) ≡ pos w *ℤ b +ℤ pos w *ℤ (pos w *ℤ o) = Z.mul_add (pos w) b (pos w *ℤ o) in
          let itself : pos (w * w) *ℤ o ≡ pos w *ℤ (pos w *ℤ o) = Z.mul_assoc (pos w) (pos w) o in
          let double : w + w ≡ 2 * w = omega arith in
          let twofold : pos (2 * w) *ℤ b ≡ pos w *ℤ b +ℤ pos w *ℤ b = ap (λ k. pos k *ℤ b) (sym double) ∙ Z.mul_sum w w b in
          omega (arith, ints, pair, itself, twofold)

  -- one demand more added to the weights so far
  pub squares_more : (sums middle new : List ℕ) → SquaresSoFar law n sums
      → ((e : ℕ) → pos (get_or middle e 0) ≡ pos (get_or sums e 0) +ℤ pos (2 * last) *ℤ weight_beyond n front e)
      → ((e : ℕ) → pos (get_or new e 0) ≡ pos (get_or middle e 0) +ℤ pos (last * last) *ℤ weight_beyond (2 * n) (1 ∷ []) e)
      → SquaresSoFar law (n + 1) new
  squares_more sums middle new so_far pairs itself e =
      itself e
      ∙ ap (λ z. z +ℤ pos (last * last) *ℤ weight_beyond (2 * n) (1 ∷ []) e) (pairs e ∙ ap (λ z. z +ℤ pos (2 * last) *ℤ weight_beyond n front e) (so_far e))
      ∙ ap (λ z. (square_at front e +ℤ pos (2 * last) *ℤ weight_beyond n front e) +ℤ pos (last * last) *ℤ z) (alone (2 * n) e)
      ∙ sym (square_more e)

  -- no weight passes the square of the sum of weights
  pub pairs_fit : (most : ℕ) → sum law * sum law ≤ most → (sums : List ℕ) → SquaresSoFar law n sums → (e : ℕ)
      → (pos (get_or sums e 0) +ℤ pos (2 * last) *ℤ weight_beyond n front e) ≤ℤ pos most
  pairs_fit most fits sums so_far e =
      let itself : pos 0 ≤ℤ (pos (last * last) *ℤ one_at (2 * n) e) = nonnegative (last * last) (one_at (2 * n) e) (one_at_nonnegative (2 * n) e) in
      omega (arith, ints, so_far e, square_more e, itself, square_front law (n + 1) e, square_most law e, fits)

  pub itself_fits : (most : ℕ) → sum law * sum law ≤ most → (sums middle : List ℕ) → SquaresSoFar law n sums
      → ((e : ℕ) → pos (get_or middle e 0) ≡ pos (get_or sums e 0) +ℤ pos (2 * last) *ℤ weight_beyond n front e) → (e : ℕ)
      → (pos (get_or middle e 0) +ℤ pos (last * last) *ℤ weight_beyond (2 * n) (1 ∷ []) e) ≤ℤ pos most
  itself_fits most fits sums middle so_far pairs e =
      let one : pos (last * last) *ℤ weight_beyond (2 * n) (1 ∷ []) e ≡ pos (last * last) *ℤ one_at (2 * n) e = ap (λ z. pos (last * last) *ℤ z) (alone (2 * n) e) in
      omega (arith, ints, so_far e, pairs e, one, square_more e, square_front law (n + 1) e, square_most law e, fits)

  -- a weight and its square are small
  pub weight_fits : (most : ℕ) → sum law * sum law ≤ most → (last ≤ most) × (last * last ≤ most)
  weight_fits most fits =
      let within_sum : last ≤ sum law = get_or-le-sum_by (λ x. x) law n 0 within in
      let square : last * last ≤ sum law * sum law = mul-le-mul within_sum within_sum in
      (omega (arith, own last, square, fits), omega (arith, square, fits))

-- no demands so far
pub squares_none : (law : List ℕ) (n : ℕ) → SquaresSoFar law 0 (replicate n 0)
squares_none law n e = sums_none law law n e

-- all demands
pub squares_all : (law : List ℕ) (n : ℕ) (sums : List ℕ) → 0 < length law → length sums + 1 ≡ length law + length law → length law ≤ n → SquaresSoFar law n sums → IsSumOf sums (law ∷ law ∷ [])
squares_all law n sums some width all so_far = record {
  weights = λ e. so_far e ∙ ap (λ ws. square_at ws e) (take_all n law all) ∙ sym (weight_of_sum-pair law law e);
  width = omega arith;
}
