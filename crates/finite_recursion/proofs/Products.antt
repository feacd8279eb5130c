-- Sums and products that are small enough stay what they are when they are stored.
use Rattle.std.proofs.Common.{◌≡◌, ◌^◌, ℤ, pos, negsuc, ◌+ℤ◌, ◌-ℤ◌, ◌*ℤ◌, ◌≤ℤ◌, ◌∙◌, ap, arith, to_z, of_z}
use mir.Syntax.{w128}
use Rattle.std.proofs.lemmas.Int.{ints}
use Rattle.finite_lemmas.specs.Orders.{product_above}
use Rattle.finite_recursion.proofs.Casts.{wide}

-- a product of numbers that aren't below 0
pub product_least : (a b : ℤ) → pos 0 ≤ℤ a → pos 0 ≤ℤ b → pos 0 ≤ℤ (a *ℤ b)
product_least (pos a) b h k = product_above a b k
product_least (negsuc a) b h k = absurd (omega (arith, ints))

-- a number from 0 up
pub low_wide : (x : ℤ) → pos 0 ≤ℤ x → x ≤ℤ pos (2 ^ 120) → to_z w128 (of_z w128 x) ≡ x
low_wide x least most = wide x (omega (arith, ints)) (omega (arith, ints))

-- a product of stored factors
stored_product : (a b : ℤ) → to_z w128 (of_z w128 a) ≡ a → to_z w128 (of_z w128 b) ≡ b → pos 0 ≤ℤ (a *ℤ b) → (a *ℤ b) ≤ℤ pos (2 ^ 120) → to_z w128 (of_z w128 (to_z w128 (of_z w128 a) *ℤ to_z w128 (of_z w128 b))) ≡ a *ℤ b
stored_product a b e f least most = ap (λ z. to_z w128 (of_z w128 (z *ℤ to_z w128 (of_z w128 b)))) e ∙ ap (λ z. to_z w128 (of_z w128 (a *ℤ z))) f ∙ low_wide (a *ℤ b) least most

-- a sum of two products
pub stored_sum : (a b c d : ℤ) → to_z w128 (of_z w128 a) ≡ a → to_z w128 (of_z w128 b) ≡ b → to_z w128 (of_z w128 c) ≡ c → to_z w128 (of_z w128 d) ≡ d → pos 0 ≤ℤ (a *ℤ b) → pos 0 ≤ℤ (c *ℤ d) → (a *ℤ b +ℤ c *ℤ d) ≤ℤ pos (2 ^ 120)
    → to_z w128 (of_z w128 (to_z w128 (of_z w128 (to_z w128 (of_z w128 a) *ℤ to_z w128 (of_z w128 b))) +ℤ to_z w128 (of_z w128 (to_z w128 (of_z w128 c) *ℤ to_z w128 (of_z w128 d))))) ≡ a *ℤ b +ℤ c *ℤ d
stored_sum a b c d e f g h first second most =
    ap (λ z. to_z w128 (of_z w128 (z +ℤ to_z w128 (of_z w128 (to_z w128 (of_z w128 c) *ℤ to_z w128 (of_z w128 d)))))) (stored_product a b e f first (omega (arith, ints, second, most)))
    ∙ ap (λ z. to_z w128 (of_z w128 (a *ℤ b +ℤ z))) (stored_product c d g h second (omega (arith, ints, first, most)))
    ∙ low_wide (a *ℤ b +ℤ c *ℤ d) (omega (arith, ints, first, second)) most

-- the value of an order, of which each part is small
pub stored_order : (cost setup units : ℤ) → (pos 0 -ℤ pos (2 ^ 121)) ≤ℤ cost → cost ≤ℤ pos (2 ^ 121) → pos 0 ≤ℤ setup → setup ≤ℤ pos (2 ^ 120) → (pos 0 -ℤ pos (2 ^ 120)) ≤ℤ units → units ≤ℤ pos (2 ^ 120)
    → to_z w128 (of_z w128 (to_z w128 (of_z w128 (to_z w128 (of_z w128 cost) +ℤ to_z w128 (of_z w128 setup))) -ℤ to_z w128 (of_z w128 units))) ≡ cost +ℤ setup -ℤ units
stored_order cost setup units a b c d e f =
    ap (λ z. to_z w128 (of_z w128 (to_z w128 (of_z w128 (z +ℤ to_z w128 (of_z w128 setup))) -ℤ to_z w128 (of_z w128 units)))) (wide cost (omega (arith, ints)) (omega (arith, ints)))
    ∙ ap (λ z. to_z w128 (of_z w128 (to_z w128 (of_z w128 (cost +ℤ z)) -ℤ to_z w128 (of_z w128 units)))) (wide setup (omega (arith, ints)) (omega (arith, ints)))
    ∙ ap (λ z. to_z w128 (of_z w128 (z -ℤ to_z w128 (of_z w128 units)))) (wide (cost +ℤ setup) (omega (arith, ints)) (omega (arith, ints)))
    ∙ ap (λ z. to_z w128 (of_z w128 (cost +ℤ setup -ℤ z))) (wide units (omega (arith, ints)) (omega (arith, ints)))
    ∙ wide (cost +ℤ setup -ℤ units) (omega (arith, ints)) (omega (arith, ints))
