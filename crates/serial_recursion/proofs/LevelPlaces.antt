-- Levels by place are levels by position.
use Rattle.std.proofs.Common.{◌≡◌, ℕ, zero, suc, ◌+◌, ◌-◌, ◌<◌, ◌≤◌, nat_lt, ℤ, pos, ◌+ℤ◌, ◌-ℤ◌, Bool, cond, ◌&&◌, List, refl, ◌∙◌, ap, arith}
use Rattle.std.specs.Prelude.{int_le, int_lt}
use Rattle.std.specs.List.{list_all, range_with_len}
use Rattle.std.proofs.lemmas.Int.{ints}
use Rattle.newsvendor.specs.Least.{first_least_upto}
use Rattle.newsvendor.specs.FirstLeast.{search_within}
use Rattle.decision_model.specs.Positions.{above_zero}
use Rattle.decision_model.specs.PositionTests.{above_zero_is}
use Rattle.value_cert.specs.SerialRules.{turns_at}
use Rattle.value_cert.specs.SerialValues.{least_position}
use Rattle.serial_recursion.specs.Rows.{turns_from, value_at}

-- searches among costs that agree
pub least-ext : (f g : ℕ → ℤ) (n : ℕ) → ((k : ℕ) → k ≤ n → f k ≡ g k) → first_least_upto f n ≡ first_least_upto g n
unfolding first_least_upto
least-ext f g zero same = refl
least-ext f g (suc n) same =
    let before = least-ext f g n (λ k le. same k (omega (arith, le))) in
    ap (λ q. cond (int_lt (f (suc n)) (f q)) (suc n) q) before
    ∙ ap (λ z. cond (int_lt z (f (first_least_upto g n))) (suc n) (first_least_upto g n)) (same (suc n) (omega arith))
    ∙ ap (λ z. cond (int_lt (g (suc n)) z) (suc n) (first_least_upto g n)) (same (first_least_upto g n) (omega (arith, search_within g n)))

-- the first least place is the least position
pub level_is : (C : ℤ → ℤ) (low cap : ℤ) (count place : ℕ) (costs : List ℤ) → pos count ≡ cap -ℤ low +ℤ pos 1 → 1 ≤ count → ((k : ℕ) → k < count → value_at costs k ≡ C (low +ℤ pos k)) → place ≡ first_least_upto (value_at costs) (count - 1) → low +ℤ pos place ≡ least_position low cap C
unfolding least_position
level_is C low cap count place costs width some same is =
    let far : pos (above_zero (cap -ℤ low)) ≡ cap -ℤ low = above_zero_is (cap -ℤ low) (omega (arith, ints, width, some)) in
    let last : count - 1 ≡ above_zero (cap -ℤ low) = omega (arith, ints, far, width, some) in
    ap (λ k. low +ℤ pos k)
    (is ∙ least-ext (value_at costs) (λ k. C (low +ℤ pos k)) (count - 1) (λ k le. same k (omega (arith, le, some))) ∙ ap (first_least_upto (λ k. C (low +ℤ pos k))) last)

-- tests of a range that agree
all-ext : (f g : ℕ → Bool) (a m : ℕ) → ((k : ℕ) → k < a + m → f k ≡ g k) → list_all f (range_with_len a m) ≡ list_all g (range_with_len a m)
all-ext f g a zero same = refl
all-ext f g a (suc m) same =
    ap (λ b. b && list_all f (range_with_len (a + 1) m)) (same a (omega arith)) ∙ ap (λ b. g a && b) (all-ext f g (a + 1) m (λ k lt. same k (omega (arith, lt))))

-- a place is below another where its position is
below_is : (low : ℤ) (k level : ℕ) → nat_lt k level ≡ int_lt (low +ℤ pos k) (low +ℤ pos level)
below_is low k level = grind (arith, ints)

-- the costs turn by place where they do by position
pub turns_is : (C : ℤ → ℤ) (low S : ℤ) (width level : ℕ) (costs : List ℤ) → ((k : ℕ) → k < width → value_at costs k ≡ C (low +ℤ pos k)) → low +ℤ pos level ≡ S → list_all (turns_from (value_at costs) level) (range_with_len 0 (width - 1)) ≡ list_all (λ place. turns_at C S (low +ℤ pos place)) (range_with_len 0 (width - 1))
turns_is C low S width level costs same at = all-ext (turns_from (value_at costs) level) (λ place. turns_at C S (low +ℤ pos place)) 0 (width - 1) each
  where
    next : (k : ℕ) → low +ℤ pos (k + 1) ≡ low +ℤ pos k +ℤ pos 1
    next k = omega (arith, ints)

    each : (k : ℕ) → k < 0 + (width - 1) → turns_from (value_at costs) level k ≡ turns_at C S (low +ℤ pos k)
    each k lt =
        let here = same k (omega (arith, lt)) in
        let there = same (k + 1) (omega (arith, lt)) ∙ ap C (next k) in
        ap (λ b. cond b (int_le (value_at costs (k + 1)) (value_at costs k)) (int_le (value_at costs k) (value_at costs (k + 1)))) (below_is low k level ∙ ap (int_lt (low +ℤ pos k)) at)
        ∙ ap (λ z. cond (int_lt (low +ℤ pos k) S) (int_le (value_at costs (k + 1)) z) (int_le z (value_at costs (k + 1)))) here
        ∙ ap (λ z. cond (int_lt (low +ℤ pos k) S) (int_le z (C (low +ℤ pos k))) (int_le (C (low +ℤ pos k)) z)) there
