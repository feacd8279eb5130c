-- A law added to the weights of a sum, demand by demand.
use Rattle.std.proofs.Common.{◌≡◌, ℕ, ◌+◌, ◌*◌, ◌<◌, ◌≤◌, ℤ, pos, ◌+ℤ◌, ◌*ℤ◌, ◌≤ℤ◌, List, [], ◌∷◌, length, sum, take, get_or, sym, ◌∙◌, ap, subst, arith, replicate, ◌⊎◌, inl, inr}
use Rattle.std.proofs.Math.ListN.{set}
use Rattle.std.proofs.lemmas.Int.{ints}
use Rattle.std.proofs.lemmas.List.{get_or-set_same, get_or-set_other, get_or-replicate, length-replicate, get_or_past, take_all}
use Rattle.std.proofs.lemmas.Bool.{cases_eq, cases_lt}
use Rattle.demand_law.specs.Law.{weighted}
use Rattle.demand_law.specs.Sequences.{one_at, weight_beyond, IsSumOf}
use Rattle.demand_law.specs.Integers as Z
use Rattle.demand_law.specs.Integers.{weight_mono}
use Rattle.demand_law.specs.WeightedSums.{weighted_more, weighted_front, weighted_most, weighted_nonnegative}
use Rattle.demand_law.specs.LawSums.{one_at-same, one_at-other, one_at_nonnegative, one_at_most, weight_of_sum-pair}

-- the weights after the first n demands of a law whose weights are added, each factor times, from a place on
abbrev pub AddsSoFar : List ℕ → List ℕ → ℕ → ℕ → List ℕ → ℕ → Type 0
AddsSoFar old now at factor law n = (e : ℕ) → pos (get_or now e 0) ≡ pos (get_or old e 0) +ℤ pos factor *ℤ weight_beyond at (take n law) e

-- a factor of 0 adds nothing
pub adds_nothing : (old : List ℕ) (at factor : ℕ) (law : List ℕ) (e : ℕ) → factor ≡ 0 → pos (get_or old e 0) ≡ pos (get_or old e 0) +ℤ pos factor *ℤ weight_beyond at law e
adds_nothing old at factor law e none =
    sym (ap (λ w. pos (get_or old e 0) +ℤ pos w *ℤ weight_beyond at law e) none ∙ ap (λ z. pos (get_or old e 0) +ℤ z) (Z.zero_mul (weight_beyond at law e)) ∙ Z.add_zero (pos (get_or old e 0)))

module _ (old now : List ℕ) (at factor : ℕ) (law : List ℕ) (n : ℕ) (within : n < length law) (so_far : AddsSoFar old now at factor law n) where
  more : (e : ℕ) → pos (get_or old e 0) +ℤ pos factor *ℤ weight_beyond at (take (n + 1) law) e ≡ pos (get_or now e 0) +ℤ pos (factor * get_or law n 0) *ℤ one_at (at + n) e
  more e =
      let f = λ (d : ℕ). one_at (at + d) e in
      ap (λ z. pos (get_or old e 0) +ℤ pos factor *ℤ z) (weighted_more law n f within)
      ∙ ap (λ z. pos (get_or old e 0) +ℤ z) (Z.mul_add (pos factor) (weighted (take n law) f) (pos (get_or law n 0) *ℤ f n))
      ∙ sym (Z.add_assoc (pos (get_or old e 0)) (pos factor *ℤ weighted (take n law) f) (pos factor *ℤ (pos (get_or law n 0) *ℤ f n)))
      ∙ ap (λ z. z +ℤ pos factor *ℤ (pos (get_or law n 0) *ℤ f n)) (sym (so_far e))
      ∙ ap (λ z. pos (get_or now e 0) +ℤ z) (sym (Z.mul_assoc (pos factor) (pos (get_or law n 0)) (f n)))

  here : pos (get_or old (at + n) 0) +ℤ pos factor *ℤ weight_beyond at (take (n + 1) law) (at + n) ≡ pos (get_or now (at + n) 0 + factor * get_or law n 0)
  here = more (at + n) ∙ ap (λ z. pos (get_or now (at + n) 0) +ℤ pos (factor * get_or law n 0) *ℤ z) (one_at-same (at + n)) ∙ ap (λ z. pos (get_or now (at + n) 0) +ℤ z) (Z.mul_one (pos (factor * get_or law n 0)))

  pub adds_more : at + n < length now → AddsSoFar old (set now (at + n) (get_or now (at + n) 0 + factor * get_or law n 0)) at factor law (n + 1)
  adds_more room e = by_place (cases_eq e (at + n))
    where
      by_place : (e ≡ at + n) ⊎ (e ≡ at + n → ⊥) → pos (get_or (set now (at + n) (get_or now (at + n) 0 + factor * get_or law n 0)) e 0) ≡ pos (get_or old e 0) +ℤ pos factor *ℤ weight_beyond at (take (n + 1) law) e
      by_place (inl is) =
          ap (λ k. pos (get_or (set now (at + n) (get_or now (at + n) 0 + factor * get_or law n 0)) k 0)) is
          ∙ ap pos (get_or-set_same now (at + n) (get_or now (at + n) 0 + factor * get_or law n 0) 0 room)
          ∙ sym here
          ∙ ap (λ k. pos (get_or old k 0) +ℤ pos factor *ℤ weight_beyond at (take (n + 1) law) k) (sym is)
      by_place (inr other) =
          ap pos (get_or-set_other now (at + n) e (get_or now (at + n) 0 + factor * get_or law n 0) 0 other)
          ∙ sym (Z.add_zero (pos (get_or now e 0)))
          ∙ ap (λ z. pos (get_or now e 0) +ℤ z) (sym (ap (λ z. pos (factor * get_or law n 0) *ℤ z) (one_at-other (at + n) e (λ same. other (sym same))) ∙ Z.mul_zero (pos (factor * get_or law n 0))))
          ∙ sym (more e)

  pub adds_fits : (most : ℕ) → (pos (get_or old (at + n) 0) +ℤ pos factor *ℤ weight_beyond at law (at + n)) ≤ℤ pos most → get_or now (at + n) 0 + factor * get_or law n 0 ≤ most
  adds_fits most fits =
      let front = weight_mono factor _ _ (weighted_front law (n + 1) (λ d. one_at (at + d) (at + n)) (λ d. one_at_nonnegative (at + d) (at + n))) in
      omega (arith, ints, here, front, fits)

-- ---- two laws
-- the weights after the first n demands of the first law
abbrev pub SumsSoFar : List ℕ → List ℕ → ℕ → List ℕ → Type 0
SumsSoFar first second n sums = (e : ℕ) → pos (get_or sums e 0) ≡ weighted (take n first) (λ d. weight_beyond d second e)

pub weight_beyond_nonnegative : (k : ℕ) (law : List ℕ) (e : ℕ) → pos 0 ≤ℤ weight_beyond k law e
weight_beyond_nonnegative k law e = weighted_nonnegative law (λ d. one_at (k + d) e) (λ d lt. one_at_nonnegative (k + d) e)

pub weight_beyond_most : (k : ℕ) (law : List ℕ) (e : ℕ) → weight_beyond k law e ≤ℤ pos (sum law)
weight_beyond_most k law e =
    subst (λ (z : ℤ). weight_beyond k law e ≤ℤ z) (Z.mul_one (pos (sum law))) (weighted_most law (λ d. one_at (k + d) e) (pos 1) (λ d lt. one_at_most (k + d) e))

module _ (first second : List ℕ) (n : ℕ) (sums : List ℕ) (within : n < length first) (so_far : SumsSoFar first second n sums) where
  one_more : (e : ℕ) → weighted (take (n + 1) first) (λ d. weight_beyond d second e) ≡ pos (get_or sums e 0) +ℤ pos (get_or first n 0) *ℤ weight_beyond n second e
  one_more e =
      weighted_more first n (λ d. weight_beyond d second e) within
      ∙ ap (λ z. z +ℤ pos (get_or first n 0) *ℤ weight_beyond n second e) (sym (so_far e))

  pub sums_fit : (most : ℕ) → sum first * sum second ≤ most → (e : ℕ) → (pos (get_or sums e 0) +ℤ pos (get_or first n 0) *ℤ weight_beyond n second e) ≤ℤ pos most
  sums_fit most fits e =
      let front = weighted_front first (n + 1) (λ d. weight_beyond d second e) (λ d. weight_beyond_nonnegative d second e) in
      let whole = weighted_most first (λ d. weight_beyond d second e) (pos (sum second)) (λ d lt. weight_beyond_most d second e) in
      omega (arith, ints, one_more e, front, whole, fits)

  pub sums_more : (new : List ℕ) → ((e : ℕ) → pos (get_or new e 0) ≡ pos (get_or sums e 0) +ℤ pos (get_or first n 0) *ℤ weight_beyond n second e) → SumsSoFar first second (n + 1) new
  sums_more new adds e = adds e ∙ sym (one_more e)

pub sums_none : (first second : List ℕ) (n : ℕ) → SumsSoFar first second 0 (replicate n 0)
sums_none first second n e = ap pos (by_place (cases_lt e n))
  where
    by_place : (e < n) ⊎ (n ≤ e) → get_or {A = ℕ} (replicate n 0) e 0 ≡ 0
    by_place (inl lt) = get_or-replicate n e 0 0 lt
    by_place (inr le) = get_or_past (replicate n 0) e 0 (omega (arith, length-replicate {A = ℕ} n 0))

pub sums_all : (first second : List ℕ) (n : ℕ) (sums : List ℕ) → 0 < length first → 0 < length second → length sums + 1 ≡ length first + length second → length first ≤ n → SumsSoFar first second n sums → IsSumOf sums (first ∷ second ∷ [])
sums_all first second n sums some others width all so_far = record {
  weights = λ e. so_far e ∙ ap (λ ws. weighted ws (λ d. weight_beyond d second e)) (take_all n first all) ∙ sym (weight_of_sum-pair first second e);
  width = omega arith;
}
