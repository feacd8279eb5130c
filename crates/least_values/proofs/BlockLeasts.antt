-- The slots of a block, turned from the last one down into the least pairs of what is left there.
use Rattle.std.proofs.Common.{◌≡◌, ◌≢◌, ℕ, ◌+◌, ◌-◌, ◌<◌, ◌≤◌, ℤ, pos, refl, sym, ◌∙◌, ap, subst, arith, List, [], ◌∷◌, length, drop, slice_index_or, ◌⊎◌, inl, inr}
use Rattle.std.proofs.Math.ListN.{drop_of_length-le}
use Rattle.std.proofs.lemmas.Bool.{cases_lt}
use Rattle.std.proofs.lemmas.List.{drop_more}
use Rattle.least_values.specs.Sweeps.{IsLeastPair, better}
use Rattle.least_values.specs.Rooms.{held, Holds, HoldsLeasts}
use Rattle.least_values.proofs.LeastPairs.{least_alone, least_of_both}

-- the slots from this one on are turned, and those below hold what they held
pub record AreTurned (old now : List ℤ) (width slot : ℕ) : Type 0 where
  pub inside : slot < width
  pub same_length : length now ≡ length old
  pub below : (k : ℕ) → k < slot → held now k ≡ held old k
  pub leasts : (block : List (ℤ × ℤ)) → length block ≡ width → Holds old block → HoldsLeasts now block slot

-- what is left of a block from a slot on begins with the slot's pair
pub left_from : (block : List (ℤ × ℤ)) (slot : ℕ) → slot < length block → drop slot block ≡ slice_index_or block slot (pos 0, pos 0) ∷ drop (slot + 1) block
left_from block slot lt = drop_more block slot (pos 0, pos 0) lt

-- the last slot holds the least of the last pair
pub last_turned : (room : List ℤ) (width : ℕ) → 1 ≤ width → AreTurned room room width (width - 1)
last_turned room width some = record { inside = omega arith; same_length = refl; below = λ k lt. refl; leasts = turned }
  where
    turned : (block : List (ℤ × ℤ)) → length block ≡ width → Holds room block → HoldsLeasts room block (width - 1)
    turned block len holds slot from lt =
        let ended : drop (slot + 1) block ≡ [] = drop_of_length-le block (omega arith) in
        let left : drop slot block ≡ held room slot ∷ [] = left_from block slot lt ∙ ap (λ p. p ∷ drop (slot + 1) block) (sym (holds slot lt)) ∙ ap (λ ps. held room slot ∷ ps) ended in
        rw left (least_alone (held room slot))

-- one slot more
pub one_turned : (old now next : List ℤ) (width slot turned_from : ℕ) → turned_from ≡ slot + 1 → AreTurned old now width turned_from → length next ≡ length now → held next slot ≡ better (held now slot) (held now (slot + 1)) → ((k : ℕ) → k ≢ slot → held next k ≡ held now k) → AreTurned old next width slot
one_turned old now next width slot turned_from above turned len here others =
    record {
      inside = omega (arith, turned.inside);
      same_length = len ∙ turned.same_length;
      below = λ k lt. others k (λ e. absurd (omega arith)) ∙ turned.below k (omega arith);
      leasts = λ block is_width holds k from lt. least_at block is_width holds k lt (cases_lt slot k) from;
    }
  where
    least_at : (block : List (ℤ × ℤ)) → length block ≡ width → Holds old block → (k : ℕ) → k < length block → (slot < k) ⊎ (k ≤ slot) → slot ≤ k → IsLeastPair (drop k block) (held next k)
    least_at block is_width holds k lt (inl past) from =
        subst (IsLeastPair (drop k block)) (sym (others k (λ e. absurd (omega arith)))) (turned.leasts block is_width holds k (omega arith) lt)
    least_at block is_width holds k lt (inr at_most) from =
        let e : k ≡ slot = omega arith in
        let in_block : slot < length block = omega arith in
        let first : held now slot ≡ slice_index_or block slot (pos 0, pos 0) = turned.below slot (omega arith) ∙ holds slot in_block in
        let later : IsLeastPair (drop (slot + 1) block) (held now (slot + 1)) = turned.leasts block is_width holds (slot + 1) (omega arith) (omega arith) in
        let both : IsLeastPair (held now slot ∷ drop (slot + 1) block) (better (held now slot) (held now (slot + 1))) = least_of_both (held now slot ∷ []) (drop (slot + 1) block) (held now slot) (held now (slot + 1)) (least_alone (held now slot)) later in
        let left : drop slot block ≡ held now slot ∷ drop (slot + 1) block = left_from block slot in_block ∙ ap (λ p. p ∷ drop (slot + 1) block) (sym first) in
        rw e (rw left (subst (IsLeastPair (held now slot ∷ drop (slot + 1) block)) (sym here) both))
