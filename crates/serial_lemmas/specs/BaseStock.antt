-- Base-stock policies are allowed.
use Rattle.std.proofs.Common.{◌≡◌, ℕ, suc, ◌+◌, ◌<◌, ℤ, ◌≤ℤ◌, IsTrue, ◌&&◌, List, [], ◌∷◌, length, refl, arith}
use Rattle.std.specs.Prelude.{int_le}
use Rattle.std.specs.Int.{int_max, int_min}
use Rattle.std.proofs.lemmas.Int.{ints, clamps}
use Rattle.decision_model.specs.PositionTests.{le_known, le_test}
use Rattle.decision_model.specs.SerialProblem.{are_allowed, are_ordered}
use Rattle.decision_model.specs.SerialStates.{ordered_low}
use Rattle.std.proofs.lemmas.Bool.{and_from, and_parts}
use Rattle.value_cert.specs.SerialValues.{base_stock}

-- the choices of the base-stock policy are allowed
pub base_stock_allowed : (low cap : ℤ) (S : ℕ → ℤ) (n i : ℕ) (xs : List ℤ) → ((j : ℕ) → j < n → S j ≤ℤ cap) → i + length xs ≡ n → IsTrue (are_ordered low cap xs) → IsTrue (are_allowed cap xs (base_stock S i xs))
base_stock_allowed low cap S n i [] within e on = refl
base_stock_allowed low cap S n i (x ∷ []) within e on =
    let here = and_parts (int_le low x) (int_le x cap) on in
    let y = int_max x (S i) in
    and_from (int_le x y) (int_le y cap && are_allowed cap [] []) (le_test x y (omega (arith, ints, clamps)))
    (and_from (int_le y cap) (are_allowed cap [] []) (le_test y cap (omega (arith, ints, clamps, le_known x cap here.1, within i (omega (arith, e))))) refl)
base_stock_allowed low cap S n i (x ∷ next ∷ xs) within e on =
    let here = and_parts (int_le low x) (are_ordered x cap (next ∷ xs)) on in
    let y = int_min (int_max x (S i)) next in
    let le = ordered_low x cap (next ∷ xs) here.1 in
    let others = are_allowed cap (next ∷ xs) (base_stock S (suc i) (next ∷ xs)) in
    and_from (int_le x y) (int_le y next && others) (le_test x y (omega (arith, ints, clamps, le)))
    (and_from (int_le y next) others (le_test y next (omega (arith, ints, clamps))) (base_stock_allowed x cap S n (suc i) (next ∷ xs) within (omega (arith, e)) here.1))
