-- Rings of zeros.
use Rattle.std.proofs.lemmas.List.Sums.{sum_by-cons}
use Rattle.std.proofs.Common.{sum, slice_index, ◌≡◌, ℕ, zero, suc, ◌+◌, ◌-◌, ◌<◌, ◌≤◌, List, [], ◌∷◌, ◌++◌, length, drop, refl, sym, ◌∙◌, ap, subst, arith, add-one, length-append}
use Rattle.circular_buffer.specs.Buffer.{Buffer, buffer, keep_last}
use Rattle.node_state.specs.Holdings.{zeros}

pub length-zeros : (n : ℕ) → length (zeros n) ≡ n
length-zeros zero = refl
length-zeros (suc n) = ap suc (length-zeros n)

pub zeros-more : (n : ℕ) → zeros n ++ 0 ∷ [] ≡ zeros (n + 1)
zeros-more n = more n ∙ ap zeros (sym (add-one n))
  where
    more : (n : ℕ) → zeros n ++ 0 ∷ [] ≡ zeros (suc n)
    more zero = refl
    more (suc n) = ap (λ xs. 0 ∷ xs) (more n)

drop-none : (k : ℕ) (xs : List ℕ) → k ≡ 0 → drop k xs ≡ xs
drop-none k xs e = let f = ap (λ j. drop j xs) e in f

pub pushed_zero : (b new : Buffer ℕ) (n cap : ℕ) → b ≡ buffer (zeros n) cap → n < cap → new ≡ buffer (keep_last b.capacity (b.items ++ 0 ∷ [])) b.capacity → new ≡ buffer (zeros (n + 1)) cap
pushed_zero b new n cap e lt made =
    made
    ∙ ap (λ (a : Buffer ℕ). buffer (keep_last a.capacity (a.items ++ 0 ∷ [])) a.capacity) e
    ∙ ap (λ xs. buffer xs cap) (drop-none (length (zeros n ++ 0 ∷ []) - cap) (zeros n ++ 0 ∷ []) short ∙ zeros-more n)
  where
    short : length (zeros n ++ 0 ∷ []) - cap ≡ 0
    short = omega (arith, length-append (zeros n) (0 ∷ []), length-zeros n)

pub full : (b : Buffer ℕ) (n cap : ℕ) → b ≡ buffer (zeros n) cap → n ≡ cap → 0 < cap → (length b.items ≡ b.capacity) × (0 < b.capacity)
full b n cap e same some = (ap (λ (a : Buffer ℕ). length a.items) e ∙ length-zeros n ∙ same ∙ sym (ap (λ (a : Buffer ℕ). a.capacity) e), subst (λ (a : Buffer ℕ). 0 < a.capacity) (sym e) some)

-- the sum from a place on begins with the amount there
pub sum_from : (xs : List ℕ) (i : ℕ) → i < length xs → sum (drop i xs) ≡ slice_index xs i + sum (drop (i + 1) xs)
sum_from xs i lt = from xs i lt ∙ ap (λ k. slice_index xs i + sum (drop k xs)) (sym (add-one i))
  where
    from : (xs : List ℕ) (i : ℕ) → i < length xs → sum (drop i xs) ≡ slice_index xs i + sum (drop (suc i) xs)
    from [] i lt = absurd (omega arith)
    from (x ∷ xs) zero lt = sum_by-cons (λ y. y) x xs
    from (x ∷ xs) (suc i) lt = from xs i (omega arith)

pub sum_past : (xs : List ℕ) (i : ℕ) → length xs ≤ i → sum (drop i xs) ≡ 0
sum_past [] zero le = refl
sum_past [] (suc i) le = refl
sum_past (x ∷ xs) zero le = absurd (omega arith)
sum_past (x ∷ xs) (suc i) le = sum_past xs i (omega arith)
