-- The first level of least cost is one level, and the search finds it.
use Rattle.std.proofs.Common.{◌≡◌, ℕ, zero, suc, ◌<◌, ◌≤◌, ℤ, ◌≤ℤ◌, ◌<ℤ◌, refl, arith, Bool, true, false, cond, ◌⊎◌, inl, inr}
use Rattle.std.specs.Prelude.{int_lt}
use Rattle.std.proofs.lemmas.Int.{ints}
use Rattle.std.proofs.lemmas.Bool.{cases_lt}
use Rattle.newsvendor.specs.Least.{IsFirstLeast, first_least_upto}

-- of the levels up to n none costs less, and each lower one costs more
pub record IsFirstUpto (cost : ℕ → ℤ) (n q : ℕ) : Type 0 where
  pub within : q ≤ n
  pub least : (k : ℕ) → k ≤ n → cost q ≤ℤ cost k
  pub first : (k : ℕ) → k < q → cost q <ℤ cost k

one_more : (cost : ℕ → ℤ) (n q : ℕ) (cheaper : Bool) → IsFirstUpto cost n q → (cheaper ≡ true → cost (suc n) <ℤ cost q) → (cheaper ≡ false → cost q ≤ℤ cost (suc n)) → IsFirstUpto cost (suc n) (cond cheaper (suc n) q)
one_more cost n q true found less more =
    let lt = less refl in
    record {
      within = omega arith;
      least = λ k le. least_at k (cases_lt k (suc n)) le lt;
      first = λ k below. let m = found.least k (omega arith) in omega (arith, ints);
    }
  where
    least_at : (k : ℕ) → (k < suc n) ⊎ (suc n ≤ k) → k ≤ suc n → cost (suc n) <ℤ cost q → cost (suc n) ≤ℤ cost k
    least_at k (inl b) le lt = let m = found.least k (omega arith) in omega (arith, ints)
    least_at k (inr b) le lt = let e : k ≡ suc n = omega arith in rw e (omega (arith, ints))
one_more cost n q false found less more =
    let le = more refl in
    record {
      within = omega (arith, found.within);
      least = λ k small. least_at k (cases_lt k (suc n)) small le;
      first = found.first;
    }
  where
    least_at : (k : ℕ) → (k < suc n) ⊎ (suc n ≤ k) → k ≤ suc n → cost q ≤ℤ cost (suc n) → cost q ≤ℤ cost k
    least_at k (inl b) small le = found.least k (omega arith)
    least_at k (inr b) small le = let e : k ≡ suc n = omega arith in rw e le

is_less : (a b : ℤ) → int_lt a b ≡ true → a <ℤ b
is_less a b h = grind (arith, ints)

is_no_less : (a b : ℤ) → int_lt a b ≡ false → b ≤ℤ a
is_no_less a b h = grind (arith, ints)

-- the search finds the first level of least cost among those up to n
pub search_is_first : (cost : ℕ → ℤ) (n : ℕ) → IsFirstUpto cost n (first_least_upto cost n)
unfolding first_least_upto
search_is_first cost zero = record { within = omega arith; least = λ k le. let e : k ≡ 0 = omega arith in rw e (omega (arith, ints)); first = λ k below. absurd (omega arith) }
search_is_first cost (suc n) =
    let q = first_least_upto cost n in
    one_more cost n q (int_lt (cost (suc n)) (cost q)) (search_is_first cost n) (is_less (cost (suc n)) (cost q)) (is_no_less (cost (suc n)) (cost q))

same_first : (cost : ℕ → ℤ) (n p q : ℕ) → p ≤ n → IsFirstLeast cost p → IsFirstUpto cost n q → (p < q) ⊎ (q ≤ p) → p ≡ q
same_first cost n p q le p_is q_is (inl lt) = absurd (omega (arith, ints, q_is.first p lt, p_is.least q))
same_first cost n p q le p_is q_is (inr ge) = equal (cases_lt q p)
  where
    equal : (q < p) ⊎ (p ≤ q) → p ≡ q
    equal (inl lt) = absurd (omega (arith, ints, p_is.first q lt, q_is.least p le))
    equal (inr e) = omega arith

-- the first level of least cost is what the search up to any level past it finds
pub found : (cost : ℕ → ℤ) (n p : ℕ) → p ≤ n → IsFirstLeast cost p → p ≡ first_least_upto cost n
found cost n p le h = same_first cost n p (first_least_upto cost n) le h (search_is_first cost n) (cases_lt p (first_least_upto cost n))

-- where no level past n costs less than n, the search up to n finds the first level of least cost
pub first_by_search : (cost : ℕ → ℤ) (n : ℕ) → ((k : ℕ) → n ≤ k → cost n ≤ℤ cost k) → IsFirstLeast cost (first_least_upto cost n)
first_by_search cost n past = let h = search_is_first cost n in record { least = λ k. least_at h k (cases_lt k n); first = h.first }
  where
    least_at : IsFirstUpto cost n (first_least_upto cost n) → (k : ℕ) → (k < n) ⊎ (n ≤ k) → cost (first_least_upto cost n) ≤ℤ cost k
    least_at h k (inl lt) = h.least k (omega arith)
    least_at h k (inr le) = omega (arith, ints, h.least n (omega arith), past k le)

-- the search looks no further
pub search_within : (cost : ℕ → ℤ) (n : ℕ) → first_least_upto cost n ≤ n
search_within cost n = (search_is_first cost n).within
