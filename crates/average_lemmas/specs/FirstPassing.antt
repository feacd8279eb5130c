-- The first number that passes a test.
use Rattle.std.proofs.Common.{◌≡◌, ℕ, zero, suc, ◌+◌, ◌<◌, ◌≤◌, Bool, true, false, if◌then◌else◌, refl, sym, ◌∙◌, ap, subst, arith, ◌⊎◌, inl, inr}
use Rattle.std.proofs.lemmas.Bool.{cases_lt, false≢true}
use Rattle.value_cert.specs.AverageValues.{first_passing}

-- a number passes, and none before it does
pub record IsFirstPassing (test : ℕ → Bool) (from r : ℕ) : Type 0 where
  pub passes : test r ≡ true
  pub least : from ≤ r
  pub before : (j : ℕ) → from ≤ j → j < r → test j ≡ false

-- where some number passes the first is found, and is no greater
pub first_passing_is : (test : ℕ → Bool) (from count k : ℕ) → from ≤ k → k < from + count → test k ≡ true → IsFirstPassing test from (first_passing test from count) × (first_passing test from count ≤ k)
unfolding first_passing
first_passing_is test from zero k le lt h = absurd (omega (arith, le, lt))
first_passing_is test from (suc count) k le lt h = by (test from) refl (λ beyond. first_passing_is test (suc from) count k beyond (omega (arith, lt)) h)
  where
    Found : ℕ → ℕ → Type 0
    Found start r = IsFirstPassing test start r × (r ≤ k)

    past : test from ≡ false → (from < k) ⊎ (k ≤ from) → suc from ≤ k
    past e (inl less) = less
    past e (inr from_k) =
        let same : from ≡ k = omega (arith, le, from_k) in
        absurd (false≢true (sym e ∙ ap test same ∙ h))

    wider : (r : ℕ) → test from ≡ false → Found (suc from) r → Found from r
    wider r e rest = (record { passes = rest.0.passes; least = omega (arith, rest.0.least); before = λ j l m. at j l m (cases_lt from j) }, rest.1)
      where
        at : (j : ℕ) → from ≤ j → j < r → (from < j) ⊎ (j ≤ from) → test j ≡ false
        at j l m (inl less) = rest.0.before j less m
        at j l m (inr j_from) = let same : from ≡ j = omega (arith, l, j_from) in ap test (sym same) ∙ e

    by : (b : Bool) → test from ≡ b → (suc from ≤ k → Found (suc from) (first_passing test (suc from) count)) → Found from (if test from then from else first_passing test (suc from) count)
    by true e rest =
        subst (λ (b : Bool). Found from (if b then from else first_passing test (suc from) count)) (sym e)
        (record { passes = e; least = omega arith; before = λ j l m. absurd (omega (arith, l, m)) }, le)
    by false e rest =
        subst (λ (b : Bool). Found from (if b then from else first_passing test (suc from) count)) (sym e)
        (wider (first_passing test (suc from) count) e (rest (past e (cases_lt from k))))
