-- The lines of orders, up to some period.
use Rattle.std.proofs.Common.{◌≡◌, ℕ, zero, suc, ◌+◌, ◌<◌, List, [], ◌∷◌, ◌++◌, length, take, drop, get_or, pos, refl, ap, arith, add-one}
use Rattle.value_cert.specs.Lots.{order_lines}
use Rattle.value_cert.specs.declared.line.CertLine.TheVariants.{Order}

-- the lines of the first orders, and of the rest
pub orders_split : (i : ℕ) (xs ys : List ℕ) → length ys ≡ length xs → order_lines (take i xs) (take i ys) ++ order_lines (drop i xs) (drop i ys) ≡ order_lines xs ys
orders_split zero xs ys same = refl
orders_split (suc i) [] ys same = refl
orders_split (suc i) (x ∷ xs) [] same = absurd (omega (arith, same))
orders_split (suc i) (x ∷ xs) (y ∷ ys) same = ap (λ t. Order (pos x) (pos y) ∷ t) (orders_split i xs ys (omega (arith, same)))

orders_next : (i : ℕ) (xs ys : List ℕ) → length ys ≡ length xs → i < length xs →
    order_lines (take (suc i) xs) (take (suc i) ys) ≡ order_lines (take i xs) (take i ys) ++ Order (pos (get_or xs i 0)) (pos (get_or ys i 0)) ∷ []
orders_next i [] ys same within = absurd (omega (arith, within))
orders_next i (x ∷ xs) [] same within = absurd (omega (arith, same))
orders_next zero (x ∷ xs) (y ∷ ys) same within = refl
orders_next (suc i) (x ∷ xs) (y ∷ ys) same within = ap (λ t. Order (pos x) (pos y) ∷ t) (orders_next i xs ys (omega (arith, same)) (omega (arith, within)))

-- the line of one order more
pub orders_more : (i : ℕ) (xs ys : List ℕ) → length ys ≡ length xs → i < length xs →
    order_lines (take (i + 1) xs) (take (i + 1) ys) ≡ order_lines (take i xs) (take i ys) ++ Order (pos (get_or xs i 0)) (pos (get_or ys i 0)) ∷ []
orders_more i xs ys same within = rw add-one (orders_next i xs ys same within)
