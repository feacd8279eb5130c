-- What searches over places find.
use Rattle.std.proofs.Common.{◌≡◌, ℕ, zero, suc, ◌+◌, ◌<◌, ◌≤◌, Bool, true, false, not, if◌then◌else◌, refl, sym, ◌∙◌, ap, arith, ◌⊎◌, inl, inr, nat_le, nat_lt, ◌==◌}
use Rattle.std.proofs.lemmas.Bool.{cases_lt, and_parts, false≢true}
use Rattle.std.proofs.lemmas.Bool.Decides.{nat_tests}
use Rattle.value_cert.specs.AverageValues.{first_passing}
use Rattle.average_lemmas.specs.Iteration.{below_suc}
use Rattle.bracket_lemmas.specs.BracketSolved.{all_below, first_least}

pub le_known : (a b : ℕ) → nat_le a b ≡ true → a ≤ b
le_known a b h = grind (arith, nat_tests)

pub le_not : (a b : ℕ) → nat_le a b ≡ false → b < a
le_not a b h = grind (arith, nat_tests)

pub same_known : (a b : ℕ) → not (a == b) ≡ false → a ≡ b
same_known a b h = grind (arith, nat_tests)

pub other_known : (a b : ℕ) → not (a == b) ≡ true → a ≡ b → ⊥
other_known a b h e = grind (arith, nat_tests)

-- ---- all of them
pub all_known : (test : ℕ → Bool) (n : ℕ) → all_below test n ≡ true → (k : ℕ) → k < n → test k ≡ true
unfolding all_below
all_known test zero h k lt = absurd (omega (arith, lt))
all_known test (suc n) h k lt =
    let both = and_parts (all_below test n) (test n) h in
    below_suc (λ m. test m ≡ true) n (all_known test n both.0) both.1 k lt

pub all_from : (test : ℕ → Bool) (n : ℕ) → ((k : ℕ) → k < n → test k ≡ true) → all_below test n ≡ true
unfolding all_below
all_from test zero each = refl
all_from test (suc n) each = rw (all_from test n (λ k lt. each k (omega (arith, lt))), each n (omega arith)) refl

-- one more
pub all_more : (test : ℕ → Bool) (n : ℕ) → all_below test n ≡ true → test n ≡ true → all_below test (suc n) ≡ true
unfolding all_below
all_more test n h e = rw (h, e) refl

-- one that fails
pub all_fails : (test : ℕ → Bool) (n k : ℕ) → k < n → test k ≡ false → all_below test n ≡ false
all_fails test n k lt e = go (all_below test n) refl
  where
    go : (b : Bool) → all_below test n ≡ b → all_below test n ≡ false
    go true h = absurd (false≢true (sym e ∙ all_known test n h k lt))
    go false h = h

-- ---- the first of the least
pub record IsFirstLeast (f : ℕ → ℕ) (k j : ℕ) : Type 0 where
  pub within : j ≤ k
  pub least : (i : ℕ) → i ≤ k → f j ≤ f i
  pub first : (i : ℕ) → i < j → f j < f i

pub first_least_is : (f : ℕ → ℕ) (k : ℕ) → IsFirstLeast f k (first_least f k)
unfolding first_least
first_least_is f zero = record { within = omega arith; least = λ i le. (let same : i ≡ 0 = omega (arith, le) in omega (arith, ap f same)); first = λ i lt. absurd (omega (arith, lt)) }
first_least_is f (suc k) = by (nat_lt (f (suc k)) (f (first_least f k))) refl (first_least_is f k)
  where
    known : (a b : ℕ) → nat_lt a b ≡ true → a < b
    known a b h = grind (arith, nat_tests)

    known_not : (a b : ℕ) → nat_lt a b ≡ false → b ≤ a
    known_not a b h = grind (arith, nat_tests)

    by : (b : Bool) → nat_lt (f (suc k)) (f (first_least f k)) ≡ b → IsFirstLeast f k (first_least f k) → IsFirstLeast f (suc k) (if b then suc k else first_least f k)
    by true e is = record {
      within = omega arith;
      least = λ i le. below_suc (λ m. f (suc k) ≤ f m) (suc k) (λ m lt. omega (arith, known _ _ e, is.least m (omega (arith, lt)))) (omega arith) i (omega (arith, le));
      first = λ i lt. omega (arith, known _ _ e, is.least i (omega (arith, lt)));
    }
    by false e is = record {
      within = omega (arith, is.within);
      least = λ i le. below_suc (λ m. f (first_least f k) ≤ f m) (suc k) (λ m lt. is.least m (omega (arith, lt))) (known_not _ _ e) i (omega (arith, le));
      first = is.first;
    }

-- ---- the first of some, or their count
pub record IsFront (test : ℕ → Bool) (count r : ℕ) : Type 0 where
  pub within : r ≤ count
  pub before : (j : ℕ) → j < r → test j ≡ false
  pub at : r < count → test r ≡ true

front_from : (test : ℕ → Bool) (from count : ℕ) → (from ≤ first_passing test from count) × (first_passing test from count ≤ from + count) × ((j : ℕ) → from ≤ j → j < first_passing test from count → test j ≡ false) × (first_passing test from count < from + count → test (first_passing test from count) ≡ true)
unfolding first_passing
front_from test from zero = (omega arith, omega arith, λ j le lt. absurd (omega (arith, le, lt)), λ lt. absurd (omega (arith, lt)))
front_from test from (suc count) = by (test from) refl (front_from test (suc from) count)
  where
    Found : ℕ → ℕ → ℕ → Type 0
    Found from count r = (from ≤ r) × (r ≤ from + count) × ((j : ℕ) → from ≤ j → j < r → test j ≡ false) × (r < from + count → test r ≡ true)

    by : (b : Bool) → test from ≡ b → Found (suc from) count (first_passing test (suc from) count) → Found from (suc count) (if b then from else first_passing test (suc from) count)
    by true e rest = (omega arith, omega arith, λ j le lt. absurd (omega (arith, le, lt)), λ lt. e)
    by false e rest = (omega (arith, rest.0), omega (arith, rest.1), λ j le lt. at j le lt (cases_lt from j), λ lt. rest.3 (omega (arith, lt)))
      where
        at : (j : ℕ) → from ≤ j → j < first_passing test (suc from) count → (from < j) ⊎ (j ≤ from) → test j ≡ false
        at j le lt (inl less) = rest.2 j less lt
        at j le lt (inr same) = let here : from ≡ j = omega (arith, le, same) in ap test (sym here) ∙ e

pub front_is : (test : ℕ → Bool) (count : ℕ) → IsFront test count (first_passing test 0 count)
front_is test count =
    let is = front_from test 0 count in
    record { within = omega (arith, is.1); before = λ j lt. is.2 j (omega arith) lt; at = λ lt. is.3 (omega (arith, lt)) }

-- none
pub all_none : (test : ℕ → Bool) → all_below test 0 ≡ true
unfolding all_below
all_none test = refl
