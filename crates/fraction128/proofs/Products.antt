-- Products of lists without a 0, and of lists with one.
use Rattle.std.proofs.Common.{◌≡◌, ℕ, ◌+◌, ◌*◌, ◌<◌, Bool, true, false, ◌||◌, refl, List, [], ◌∷◌, All, length, get_or, drop, arith, ap}
use Rattle.std.specs.Prelude.{◌==◌}
use Rattle.std.specs.List.{list_any}
use Rattle.std.proofs.lemmas.List.Elements.{All-head, All-tail, All-drop}
use Rattle.std.proofs.lemmas.List.{at_drop_more}
use Rattle.std.proofs.Math.Nat.{mul-pos, le-mul_of_pos_right}
use Rattle.fraction128.specs.Product.{product}

pub product-positive : (xs : List ℕ) → All (λ x. 0 < x) xs → 0 < product xs
product-positive [] all = omega arith
product-positive (x ∷ xs) all = mul-pos (All-head (λ y. 0 < y) x xs all) (product-positive xs (All-tail (λ y. 0 < y) x xs all))

-- one factor more
pub product-drop_more : (xs : List ℕ) (i so_far next : ℕ) → i < length xs → next ≡ so_far * get_or xs i 0 → next * product (drop (i + 1) xs) ≡ so_far * product (drop i xs)
product-drop_more xs i so_far next h e =
    omega (arith, ap (λ n. so_far * n) (at_drop_more product xs i 0 h), ap (λ n. n * product (drop (i + 1) xs)) e)

-- without a 0 the whole product passes what the first factors pass
pub product_passes : (xs : List ℕ) (i so_far limit : ℕ) → All (λ x. 0 < x) xs → i < length xs → so_far * product (drop i xs) ≡ product xs → limit < so_far * get_or xs i 0 → limit < product xs
product_passes xs i so_far limit all h e over =
    let rest_positive = product-positive (drop (i + 1) xs) (All-drop (λ x. 0 < x) (i + 1) xs all) in
    omega (arith, product-drop_more xs i so_far (so_far * get_or xs i 0) h refl, le-mul_of_pos_right (so_far * get_or xs i 0) rest_positive)

is_zero : (x : ℕ) → (x == 0) ≡ true → x ≡ 0
is_zero x h = grind arith

one_is_zero : (x rest : ℕ) (first others : Bool) → (first ≡ true → x ≡ 0) → (others ≡ true → rest ≡ 0) → (first || others) ≡ true → x * rest ≡ 0
one_is_zero x rest true others p q h = omega (arith, ap (λ n. n * rest) (p refl))
one_is_zero x rest false others p q h = omega (arith, ap (λ n. x * n) (q h))

pub product-zero : (xs : List ℕ) → list_any (λ x. x == 0) xs ≡ true → product xs ≡ 0
product-zero [] h = absurd (cc)
product-zero (x ∷ xs) h = one_is_zero x (product xs) (x == 0) (list_any (λ y. y == 0) xs) (is_zero x) (product-zero xs) h
