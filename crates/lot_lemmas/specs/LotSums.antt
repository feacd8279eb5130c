-- Sums over periods.
use Rattle.std.proofs.Common.{◌≡◌, ℕ, zero, suc, ◌+◌, ◌-◌, ◌<◌, ◌≤◌, List, length, slice_index, sum, take, drop, refl, sym, ◌∙◌, ap, arith, add-one, add-zero, length-drop, drop-cons}
use Rattle.std.specs.List.{range_with_len, sum_by}
use Rattle.std.proofs.lemmas.List.{get_or-drop}
use Rattle.std.proofs.lemmas.List.Sums.{sum_by-cons, sum_by_more, sum-map}
use Rattle.std.proofs.lemmas.List.FromFn.{fill_by_all}

-- the sum over n periods from t on
abbrev pub sum_from : (ℕ → ℕ) → ℕ → ℕ → ℕ
sum_from f t n = sum_by f (range_with_len t n)

pub sum_from-first : (f : ℕ → ℕ) (t n : ℕ) → sum_from f t (suc n) ≡ f t + sum_from f (t + 1) n
sum_from-first f t n = sum_by-cons f t (range_with_len (t + 1) n)

pub sum_from-last : (f : ℕ → ℕ) (t n : ℕ) → sum_from f t (suc n) ≡ sum_from f t n + f (t + n)
sum_from-last f t zero = sum_from-first f t 0 ∙ ap (λ k. f k + 0) (sym (add-zero t)) ∙ omega arith
sum_from-last f t (suc n) =
    let shift : t + 1 + n ≡ t + suc n = omega arith in
    sum_from-first f t (suc n) ∙ ap (λ s. f t + s) (sum_from-last f (t + 1) n ∙ ap (λ k. sum_from f (t + 1) n + f k) shift)
    ∙ omega (arith, sum_from-first f t n)

pub sum_from-parts : (f : ℕ → ℕ) (t m n : ℕ) → sum_from f t (m + n) ≡ sum_from f t m + sum_from f (t + m) n
sum_from-parts f t m zero = ap (sum_from f t) (add-zero m) ∙ omega arith
sum_from-parts f t m (suc n) =
    let all : m + suc n ≡ suc (m + n) = omega arith in
    let at : t + (m + n) ≡ t + m + n = omega arith in
    ap (sum_from f t) all ∙ sum_from-last f t (m + n) ∙ ap (λ k. sum_from f t (m + n) + f k) at
    ∙ omega (arith, sum_from-parts f t m n, sum_from-last f (t + m) n)

pub sum_from-same : (f g : ℕ → ℕ) (t n : ℕ) → ((k : ℕ) → t ≤ k → k < t + n → f k ≡ g k) → sum_from f t n ≡ sum_from g t n
sum_from-same f g t zero same = refl
sum_from-same f g t (suc n) same =
    sum_from-first f t n ∙ ap (λ x. x + sum_from f (t + 1) n) (same t (omega arith) (omega arith))
    ∙ ap (λ s. g t + s) (sum_from-same f g (t + 1) n (λ k low high. same k (omega arith) (omega arith))) ∙ sym (sum_from-first g t n)

pub sum_from-le : (f g : ℕ → ℕ) (t n : ℕ) → ((k : ℕ) → t ≤ k → k < t + n → f k ≤ g k) → sum_from f t n ≤ sum_from g t n
sum_from-le f g t zero less = omega arith
sum_from-le f g t (suc n) less =
    omega (arith, sum_from-first f t n, sum_from-first g t n, less t (omega arith) (omega arith), sum_from-le f g (t + 1) n (λ k low high. less k (omega arith) (omega arith)))

-- the sum of a list by its places
pub sum_from-list : (xs : List ℕ) → sum_from (slice_index xs) 0 (length xs) ≡ sum xs
sum_from-list xs =
    sym (sum-map (slice_index xs) (range_with_len 0 (length xs))) ∙ ap sum (sym (fill_by_all (slice_index xs) xs (length xs) 0 refl (λ k lt. refl)))

-- a stretch of a list
pub stretch-none : (xs : List ℕ) (t : ℕ) → sum (take (t - t) (drop t xs)) ≡ 0
stretch-none xs t = let none : t - t ≡ 0 = omega arith in ap (λ n. sum (take n (drop t xs))) none

pub stretch-last : (xs : List ℕ) (t k : ℕ) → t ≤ k → k < length xs → sum (take (k + 1 - t) (drop t xs)) ≡ sum (take (k - t) (drop t xs)) + slice_index xs k
stretch-last xs t k le lt =
    let more : k + 1 - t ≡ k - t + 1 = omega arith in
    let at : t + (k - t) ≡ k = omega arith in
    ap (λ n. sum (take n (drop t xs))) more
    ∙ sum_by_more (λ x. x) (drop t xs) (k - t) 0 (omega (arith, length-drop t xs))
    ∙ ap (λ x. sum (take (k - t) (drop t xs)) + x) (get_or-drop t xs (k - t) 0 ∙ ap (slice_index xs) at)

pub stretch-first : (xs : List ℕ) (t k : ℕ) → t < k → k ≤ length xs → sum (take (k - t) (drop t xs)) ≡ slice_index xs t + sum (take (k - (t + 1)) (drop (t + 1) xs))
stretch-first xs t k lt within =
    let rest : ℕ = k - (t + 1) in
    let count : k - t ≡ suc rest = omega arith in
    ap (λ n. sum (take n (drop t xs))) count
    ∙ ap (λ ys. sum (take (suc rest) ys)) (drop-cons xs t 0 (omega arith))
    ∙ sum_by-cons (λ x. x) (slice_index xs t) (take rest (drop (suc t) xs))
    ∙ ap (λ n. slice_index xs t + sum (take rest (drop n xs))) (sym (add-one t))
