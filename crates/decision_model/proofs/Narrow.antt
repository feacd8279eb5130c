-- From a product of factors to a width number.
use Rattle.std.proofs.Common.{◌≡◌, ℕ, ◌*◌, ◌^◌, ◌<◌, ◌≤◌, Bool, false, IsTrue, ◌↔◌, arith, subst, sym, ap, ◌∙◌, pow-suc}
use Rattle.std.proofs.Math.Nat.{pow-zero}

-- a factor past 128 bits makes the number too wide
pub refused : (base base' times width : ℕ) → base ≡ base' → (base ^ times < 2 ^ 128 → ⊥) → (width ≤ 2 ^ 120 → base' ^ times ≤ 2 ^ 120) → IsTrue false ↔ (width ≤ 2 ^ 120)
refused base base' times width same past fits =
    (λ impossible. cc, λ narrow. absurd (past (rw same (omega (arith, fits narrow)))))

-- a product that is the number decides
pub decided : (r : Bool) (product width : ℕ) → (IsTrue r ↔ (product ≤ 2 ^ 120)) → product ≡ width → IsTrue r ↔ (width ≤ 2 ^ 120)
decided r product width by_product same = let P : ℕ → Type 0 = λ n. IsTrue r ↔ (n ≤ 2 ^ 120) in subst P same by_product

-- factors, one after another
pub regroup_four : (a b c d : ℕ) → a * (b * (c * (d * 1))) ≡ a * b * c * d
regroup_four a b c d = grind arith

pub regroup_average : (n c w d : ℕ) → 2 * (n * (n * (c * (w * (d * 1))))) ≡ 2 * n ^ 2 * c * w * d
regroup_average n c w d = plain n c w d ∙ ap (λ k. 2 * k * c * w * d) (sym (square n))
  where
    plain : (n c w d : ℕ) → 2 * (n * (n * (c * (w * (d * 1))))) ≡ 2 * (n * n) * c * w * d
    plain n c w d = grind arith

    square : (n : ℕ) → n ^ 2 ≡ n * n
    square n =
        let once : n ^ 1 ≡ n = omega (arith, pow-suc n 0, ap (λ k. k * n) (pow-zero n)) in
        pow-suc n 1 ∙ ap (λ k. k * n) once
