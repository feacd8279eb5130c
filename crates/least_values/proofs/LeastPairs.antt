-- The least pair of two lists together.
use Rattle.std.proofs.Common.{◌≡◌, zero, suc, ℤ, ◌≤ℤ◌, ◌<ℤ◌, refl, ◌∙◌, subst, arith, Bool, true, false, List, [], ◌∷◌, ◌++◌, Option, Some, None, ◌⊎◌, inl, inr}
use Rattle.std.specs.Prelude.{int_lt, int_le, if◌then◌else◌}
use Rattle.std.specs.List.{Contains}
use Rattle.std.proofs.lemmas.Int.{ints}
use Rattle.std.proofs.lemmas.List.Elements.{Contains-append_left, Contains-append_right, Contains-append_cases}
use Rattle.least_values.specs.Sweeps.{IsLeastPair, IsLeastOf, better, better_of}

is_less : (a b : ℤ) → int_lt a b ≡ true → a <ℤ b
is_less a b h = grind (arith, ints)

is_no_less : (a b : ℤ) → int_lt a b ≡ false → b ≤ℤ a
is_no_less a b h = grind (arith, ints)

is_at_most : (a b : ℤ) → int_le a b ≡ true → a ≤ℤ b
is_at_most a b h = grind (arith, ints)

is_more : (a b : ℤ) → int_le a b ≡ false → b <ℤ a
is_more a b h = grind (arith, ints)

-- the first pair is the least of both lists where it is no worse than the least of the second one
left_least : (xs ys : List (ℤ × ℤ)) (p q : ℤ × ℤ) → IsLeastPair xs p → IsLeastPair ys q → p.1 ≤ℤ q.1 → (p.1 ≡ q.1 → p.0 ≤ℤ q.0) → IsLeastPair (xs ++ ys) p
left_least xs ys p q of_xs of_ys le first =
    record {
      listed = Contains-append_left xs ys p of_xs.listed;
      least = λ r in_both. least_at r (Contains-append_cases xs ys r in_both);
      first = λ r in_both same. first_at r (Contains-append_cases xs ys r in_both) same;
    }
  where
    least_at : (r : ℤ × ℤ) → Contains xs r ⊎ Contains ys r → p.1 ≤ℤ r.1
    least_at r (inl here) = of_xs.least r here
    least_at r (inr here) = let m = of_ys.least r here in omega (arith, ints)

    first_at : (r : ℤ × ℤ) → Contains xs r ⊎ Contains ys r → r.1 ≡ p.1 → p.0 ≤ℤ r.0
    first_at r (inl here) same = of_xs.first r here same
    first_at r (inr here) same =
        let m = of_ys.least r here in
        let e : p.1 ≡ q.1 = omega (arith, ints) in
        let f = of_ys.first r here (same ∙ e) in
        let g = first e in
        omega (arith, ints)

-- the same the other way round
right_least : (xs ys : List (ℤ × ℤ)) (p q : ℤ × ℤ) → IsLeastPair xs p → IsLeastPair ys q → q.1 ≤ℤ p.1 → (q.1 ≡ p.1 → q.0 ≤ℤ p.0) → IsLeastPair (xs ++ ys) q
right_least xs ys p q of_xs of_ys le first =
    record {
      listed = Contains-append_right xs ys q of_ys.listed;
      least = λ r in_both. least_at r (Contains-append_cases xs ys r in_both);
      first = λ r in_both same. first_at r (Contains-append_cases xs ys r in_both) same;
    }
  where
    least_at : (r : ℤ × ℤ) → Contains xs r ⊎ Contains ys r → q.1 ≤ℤ r.1
    least_at r (inr here) = of_ys.least r here
    least_at r (inl here) = let m = of_xs.least r here in omega (arith, ints)

    first_at : (r : ℤ × ℤ) → Contains xs r ⊎ Contains ys r → r.1 ≡ q.1 → q.0 ≤ℤ r.0
    first_at r (inr here) same = of_ys.first r here same
    first_at r (inl here) same =
        let m = of_xs.least r here in
        let e : q.1 ≡ p.1 = omega (arith, ints) in
        let f = of_xs.first r here (same ∙ e) in
        let g = first e in
        omega (arith, ints)

-- the better of the least pairs of two lists is the least pair of both together
pub least_of_both : (xs ys : List (ℤ × ℤ)) (p q : ℤ × ℤ) → IsLeastPair xs p → IsLeastPair ys q → IsLeastPair (xs ++ ys) (better p q)
least_of_both xs ys p q of_xs of_ys = by (int_lt p.1 q.1) (int_lt q.1 p.1) (int_le p.0 q.0) refl refl refl
  where
    by : (less more lower : Bool) → int_lt p.1 q.1 ≡ less → int_lt q.1 p.1 ≡ more → int_le p.0 q.0 ≡ lower → IsLeastPair (xs ++ ys) (if less then p else (if more then q else (if lower then p else q)))
    by true more lower a b c = let l = is_less p.1 q.1 a in left_least xs ys p q of_xs of_ys (omega (arith, ints)) (λ e. absurd (omega (arith, ints)))
    by false true lower a b c = let l = is_less q.1 p.1 b in right_least xs ys p q of_xs of_ys (omega (arith, ints)) (λ e. absurd (omega (arith, ints)))
    by false false true a b c = let n = is_no_less q.1 p.1 b in left_least xs ys p q of_xs of_ys n (λ e. is_at_most p.0 q.0 c)
    by false false false a b c = let n = is_no_less p.1 q.1 a in let l = is_more p.0 q.0 c in right_least xs ys p q of_xs of_ys n (λ e. omega (arith, ints))

-- a pair alone is the least
pub least_alone : (p : ℤ × ℤ) → IsLeastPair (p ∷ []) p
least_alone p = record { listed = (0, omega arith, refl); least = λ r here. only r here; first = λ r here same. only_first r here }
  where
    is_it : (r : ℤ × ℤ) → Contains (p ∷ []) r → p ≡ r
    is_it r (zero, lt, e) = e
    is_it r (suc k, lt, e) = absurd (omega arith)

    only : (r : ℤ × ℤ) → Contains (p ∷ []) r → p.1 ≤ℤ r.1
    only r here = subst (λ z. p.1 ≤ℤ z.1) (is_it r here) (omega (arith, ints))

    only_first : (r : ℤ × ℤ) → Contains (p ∷ []) r → p.0 ≤ℤ r.0
    only_first r here = subst (λ z. p.0 ≤ℤ z.0) (is_it r here) (omega (arith, ints))

-- one more pair
pub least_of_more : (pairs : List (ℤ × ℤ)) (best : Option (ℤ × ℤ)) (p : ℤ × ℤ) → IsLeastOf pairs best → IsLeastPair (pairs ++ p ∷ []) (better_of best p)
least_of_more pairs None p none = rw none (least_alone p)
least_of_more pairs (Some best) p found = least_of_both pairs (p ∷ []) best p found (least_alone p)
