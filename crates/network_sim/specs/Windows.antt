-- Running totals and their gains.
use Rattle.std.proofs.Common.{◌≡◌, ℕ, zero, suc, ◌+◌, ◌≤◌, [], ◌∷◌, ◌++◌, drop, sum, slice_index, refl, ap, arith}
use Rattle.std.proofs.lemmas.List.Sums.{sum_by-cons}
use Rattle.node_state.specs.Totals.{before}
use Rattle.node_state.specs.Holdings.{push_ring, zeros}
use Rattle.node_state.specs.Stands.{gain, window}

-- a total that never falls
abbrev pub IsRunning : (ℕ → ℕ) → Type 0
IsRunning f = (t : ℕ) → f t ≤ f (suc t)

pub before-zero : (k : ℕ) → before k 0 ≡ 0
before-zero zero = refl
before-zero (suc k) = refl

pub gained : (f : ℕ → ℕ) → IsRunning f → (k t : ℕ) → f (before k t) + gain f (before k (suc t)) ≡ f (before k (suc t))
gained f up zero t = let a = up t in omega arith
gained f up (suc k) zero = rw (before-zero k) (omega arith)
gained f up (suc k) (suc t) = gained f up k t

pub before_up : (f : ℕ → ℕ) → IsRunning f → (k t : ℕ) → f (before k t) ≤ f (before k (suc t))
before_up f up k t = omega (arith, gained f up k t)

pub first_is : (f : ℕ → ℕ) (k t : ℕ) → slice_index (window f k t) 0 ≡ gain f (before k t)
first_is f zero t = refl
first_is f (suc k) t = refl

window_more : (f : ℕ → ℕ) (k t : ℕ) → window f k t ++ gain f (suc t) ∷ [] ≡ window f (suc k) (suc t)
window_more f zero t = refl
window_more f (suc k) t = ap (λ xs. gain f (before (suc k) t) ∷ xs) (window_more f k t)

pub window_next : (f : ℕ → ℕ) (k t : ℕ) → push_ring (window f k t) (gain f (suc t)) ≡ window f k (suc t)
window_next f zero t = refl
window_next f (suc k) t = window_more f k t

pub window_start : (f : ℕ → ℕ) (k : ℕ) → window f k 0 ≡ zeros (suc k)
window_start f zero = refl
window_start f (suc k) = ap (λ xs. 0 ∷ xs) (window_start f k)

-- what entered within the window: the units on their way
-- the gain of a period, and the total before it
gained_at : (f : ℕ → ℕ) → IsRunning f → (k t : ℕ) → gain f (before k t) + f (before (suc k) t) ≡ f (before k t)
gained_at f up zero zero = omega arith
gained_at f up zero (suc t) = let a = up t in omega arith
gained_at f up (suc k) zero = omega arith
gained_at f up (suc k) (suc t) = gained_at f up k t

pub window_sum : (f : ℕ → ℕ) → IsRunning f → (k t : ℕ) → sum (drop 1 (window f k t)) + f (before k t) ≡ f t
window_sum f up zero t = omega arith
window_sum f up (suc k) t = omega (arith, window_sum f up k t, rest k, gained_at f up k t)
  where
    rest : (k : ℕ) → sum (window f k t) ≡ gain f (before k t) + sum (drop 1 (window f k t))
    rest zero = sum_by-cons (λ y. y) (gain f t) []
    rest (suc k) = sum_by-cons (λ y. y) (gain f (before (suc k) t)) (window f k t)
