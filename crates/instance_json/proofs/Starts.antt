-- Echelon stocks that never fall and are at most the cap.
use Rattle.std.proofs.Common.{◌≡◌, ℕ, zero, suc, ◌-◌, ◌<◌, ℤ, pos, ◌≤ℤ◌, List, [], ◌∷◌, length, get_or, Bool, true, false, ◌&&◌, refl, sym, subst, ◌∙◌, arith, add-one}
use Rattle.std.specs.Prelude.{int_le}
use Rattle.std.specs.List.{list_all, AllAdjacentBelow}
use lib.Signed.{le_z_yes}
use Rattle.std.proofs.lemmas.Float.{T_from_true}
use Rattle.instance_json.specs.Positions.{rises_from, is_start}

both : (a b : Bool) → (a && b) ≡ true → (a ≡ true) × (b ≡ true)
both true b e = (refl, e)
both false b e = cc

le_is : (a b : ℤ) → int_le a b ≡ true → a ≤ℤ b
le_is a b e = le_z_yes (T_from_true _ e)

rises_at : (low : ℤ) (xs : List ℤ) → rises_from low xs ≡ true → (k : ℕ) (d : ℤ) → suc k < length xs → get_or xs k d ≤ℤ get_or xs (suc k) d
rises_at low [] h k d lt = absurd (omega arith)
rises_at low (x ∷ []) h k d lt = absurd (omega arith)
rises_at low (x ∷ y ∷ zs) h zero d lt = le_is x y (both _ _ (both (int_le low x) (rises_from x (y ∷ zs)) h).1).0
rises_at low (x ∷ y ∷ zs) h (suc k) d lt = rises_at x (y ∷ zs) (both (int_le low x) (rises_from x (y ∷ zs)) h).1 k d (omega arith)

all_at : (p : ℤ → Bool) (xs : List ℤ) → list_all p xs ≡ true → (k : ℕ) (d : ℤ) → k < length xs → p (get_or xs k d) ≡ true
all_at p [] h k d lt = absurd (omega arith)
all_at p (x ∷ xs) h zero d lt = (both (p x) (list_all p xs) h).0
all_at p (x ∷ xs) h (suc k) d lt = all_at p xs (both (p x) (list_all p xs) h).1 k d (omega arith)

-- each is at least the one before it
pub is_start-rises : (passed : Bool) (cap : ℤ) (read xs : List ℤ) → passed ≡ is_start cap read → passed ≡ true → read ≡ xs → AllAdjacentBelow (λ x y. x ≤ℤ y) xs (length xs)
is_start-rises passed cap read xs tested holds same = subst (λ (ys : List ℤ). AllAdjacentBelow (λ x y. x ≤ℤ y) ys (length ys)) same (λ k d lt. rw add-one (rises_at _ read (both _ _ (sym tested ∙ holds)).0 k d (omega arith)))

last_at : (cap : ℤ) (xs : List ℤ) → pos 0 ≤ℤ cap → is_start cap xs ≡ true → get_or xs (length xs - 1) (pos 0) ≤ℤ cap
last_at cap [] some h = some
last_at cap (x ∷ xs) some h = le_is _ cap (all_at (λ y. int_le y cap) (x ∷ xs) (both _ _ h).1 (length (x ∷ xs) - 1) (pos 0) (omega arith))

-- the last is at most the cap
pub is_start-last : (passed : Bool) (cap : ℤ) (read xs : List ℤ) → pos 0 ≤ℤ cap → passed ≡ is_start cap read → passed ≡ true → read ≡ xs → get_or xs (length xs - 1) (pos 0) ≤ℤ cap
is_start-last passed cap read xs some tested holds same = subst (λ (ys : List ℤ). get_or ys (length ys - 1) (pos 0) ≤ℤ cap) same (last_at cap read some (sym tested ∙ holds))
