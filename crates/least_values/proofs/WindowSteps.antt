-- What a window has seen, step by step, and what it tells.
use Rattle.std.proofs.Common.{◌≡◌, ◌≢◌, ℕ, ◌+◌, ◌-◌, ◌*◌, ◌<◌, ◌≤◌, ℤ, pos, refl, sym, ◌∙◌, ap, subst, arith, Bool, true, false, List, [], ◌∷◌, ◌++◌, length, take, drop, slice_index_or, Option, Some, None, ◌⊎◌, inl, inr}
use Rattle.std.proofs.Math.Seq.{drop-append_seam, get_or-append_seam}
use Rattle.std.proofs.lemmas.Bool.{cases_lt}
use Rattle.std.proofs.lemmas.List.{append_assoc, append-nil, length-append, length-drop, take-append-drop, get_or_append_left}
use Rattle.least_values.specs.Sweeps.{IsLeastPair, IsLeastOf, better, better_of}
use Rattle.least_values.specs.Rooms.{held, Holds, HoldsLeasts}
use Rattle.least_values.specs.Windows.{HasSeen, last_of}
use Rattle.least_values.proofs.LeastPairs.{least_of_both, least_of_more}

-- nothing yet
pub seen_none : (width : ℕ) (room : List ℤ) → length room ≡ 2 * width → HasSeen width 0 false None room []
seen_none width room len =
    record {
      older = [];
      block = [];
      current = [];
      are = refl;
      is_room = len;
      is_filled = refl;
      is_whole = refl;
      is_first = λ e. refl;
      is_best = refl;
      holds = λ slot lt. absurd (omega arith);
      leasts = λ slot from lt. absurd (omega arith);
    }

-- one more pair in the block that is filled
pub seen_more : (width filled : ℕ) (whole : Bool) (best : Option (ℤ × ℤ)) (room next : List ℤ) (pairs : List (ℤ × ℤ)) (p : ℤ × ℤ) → HasSeen width filled whole best room pairs → length next ≡ length room → held next filled ≡ p → ((k : ℕ) → k ≢ filled → held next k ≡ held room k) → HasSeen width (filled + 1) whole (Some (better_of best p)) next (pairs ++ p ∷ [])
seen_more width filled whole best room next pairs p seen len here others =
    record {
      older = seen.older;
      block = seen.block;
      current = seen.current ++ p ∷ [];
      are = ap (λ xs. xs ++ p ∷ []) seen.are ∙ append_assoc seen.older (seen.block ++ seen.current) (p ∷ []) ∙ ap (λ xs. seen.older ++ xs) (append_assoc seen.block seen.current (p ∷ []));
      is_room = len ∙ seen.is_room;
      is_filled = omega (arith, seen.is_filled, length-append seen.current (p ∷ []));
      is_whole = seen.is_whole;
      is_first = seen.is_first;
      is_best = least_of_more seen.current best p seen.is_best;
      holds = λ slot lt. holds_at slot lt (cases_lt slot filled);
      leasts = λ slot from lt. subst (IsLeastPair (drop slot seen.block)) (sym (others slot (λ e. absurd (omega arith)))) (seen.leasts slot (omega arith) lt);
    }
  where
    holds_at : (slot : ℕ) → slot < length (seen.current ++ p ∷ []) → (slot < filled) ⊎ (filled ≤ slot) → held next slot ≡ slice_index_or (seen.current ++ p ∷ []) slot (pos 0, pos 0)
    holds_at slot lt (inl below) =
        let inside : slot < length seen.current = omega (arith, seen.is_filled) in
        others slot (λ e. absurd (omega arith)) ∙ seen.holds slot inside ∙ sym (get_or_append_left seen.current (p ∷ []) (pos 0, pos 0) slot inside)
    holds_at slot lt (inr ended) =
        let e : slot ≡ filled = omega (arith, seen.is_filled, length-append seen.current (p ∷ [])) in
        rw e (here ∙ sym (get_or-append_seam seen.current p [] (pos 0, pos 0)) ∙ ap (λ k. slice_index_or (seen.current ++ p ∷ []) k (pos 0, pos 0)) (sym seen.is_filled))

-- the next block, where one is whole
pub seen_block : (width filled : ℕ) (whole : Bool) (best : Option (ℤ × ℤ)) (room next : List ℤ) (pairs : List (ℤ × ℤ)) → HasSeen width filled whole best room pairs → filled ≡ width → length next ≡ length room → ((block : List (ℤ × ℤ)) → length block ≡ width → Holds room block → HoldsLeasts next block 0) → HasSeen width 0 true None next pairs
seen_block width filled whole best room next pairs seen full len turned =
    record {
      older = seen.older ++ seen.block;
      block = seen.current;
      current = [];
      are = seen.are ∙ sym (append_assoc seen.older seen.block seen.current) ∙ ap (λ xs. seen.older ++ seen.block ++ xs) (sym (append-nil seen.current));
      is_room = len ∙ seen.is_room;
      is_filled = refl;
      is_whole = sym seen.is_filled ∙ full;
      is_first = λ e. cc;
      is_best = refl;
      holds = λ slot lt. absurd (omega arith);
      leasts = turned seen.current (sym seen.is_filled ∙ full) seen.holds;
    }

-- the last elements are those of the second list, where it has as many
last_is : (count : ℕ) (xs ys : List (ℤ × ℤ)) → length ys ≡ count → last_of count (xs ++ ys) ≡ ys
last_is count xs ys len =
    let e : length (xs ++ ys) - count ≡ length xs = omega (arith, length-append xs ys) in
    ap (λ n. drop n (xs ++ ys)) e ∙ drop-append_seam xs ys

no_list : (xs : List (ℤ × ℤ)) → length xs ≡ 0 → xs ≡ []
no_list [] e = refl
no_list (x ∷ xs) e = absurd (omega arith)

-- while the first block is filled, its least is the least of all
pub first_least : (width filled : ℕ) (best : Option (ℤ × ℤ)) (room : List ℤ) (pairs : List (ℤ × ℤ)) → filled ≤ width → HasSeen width filled false best room pairs → IsLeastOf (last_of width pairs) best
first_least width filled best room pairs within seen =
    let all : pairs ≡ seen.current = seen.are ∙ ap (λ xs. xs ++ (seen.block ++ seen.current)) (seen.is_first refl) ∙ ap (λ xs. xs ++ seen.current) (no_list seen.block seen.is_whole) in
    let none_left : length seen.current - width ≡ 0 = omega (arith, seen.is_filled) in
    let last : last_of width pairs ≡ seen.current = ap (last_of width) all ∙ ap (λ n. drop n seen.current) none_left in
    subst (λ xs. IsLeastOf xs best) (sym last) seen.is_best

-- where a block is filled whole, its least is the least of the window
pub whole_least : (width : ℕ) (whole : Bool) (best : Option (ℤ × ℤ)) (room : List ℤ) (pairs : List (ℤ × ℤ)) → HasSeen width width whole best room pairs → IsLeastOf (last_of width pairs) best
whole_least width whole best room pairs seen =
    let last : last_of width pairs ≡ seen.current = ap (last_of width) (seen.are ∙ sym (append_assoc seen.older seen.block seen.current)) ∙ last_is width (seen.older ++ seen.block) seen.current (sym seen.is_filled) in
    subst (λ xs. IsLeastOf xs best) (sym last) seen.is_best

-- else the window is what is left of the block before, and the block that is filled
parted : (width filled : ℕ) (best : Option (ℤ × ℤ)) (room : List ℤ) (pairs : List (ℤ × ℤ)) → filled ≤ width → (seen : HasSeen width filled true best room pairs) → last_of width pairs ≡ drop filled seen.block ++ seen.current
parted width filled best room pairs within seen =
    let left = drop filled seen.block in
    let gone = take filled seen.block in
    let split : seen.block ++ seen.current ≡ gone ++ (left ++ seen.current) = ap (λ xs. xs ++ seen.current) (sym (take-append-drop filled seen.block)) ∙ append_assoc gone left seen.current in
    let all : pairs ≡ (seen.older ++ gone) ++ (left ++ seen.current) = seen.are ∙ ap (λ xs. seen.older ++ xs) split ∙ sym (append_assoc seen.older gone (left ++ seen.current)) in
    let len : length (left ++ seen.current) ≡ width = omega (arith, length-append left seen.current, length-drop filled seen.block, seen.is_filled, seen.is_whole) in
    ap (last_of width) all ∙ last_is width (seen.older ++ gone) (left ++ seen.current) len

pub both_least : (width filled : ℕ) (best : ℤ × ℤ) (room : List ℤ) (pairs : List (ℤ × ℤ)) → filled < width → HasSeen width filled true (Some best) room pairs → IsLeastPair (last_of width pairs) (better (held room filled) best)
both_least width filled best room pairs lt seen =
    let earlier : IsLeastPair (drop filled seen.block) (held room filled) = seen.leasts filled (omega arith) (omega (arith, seen.is_whole)) in
    subst (λ xs. IsLeastPair xs (better (held room filled) best)) (sym (parted width filled (Some best) room pairs (omega arith) seen)) (least_of_both (drop filled seen.block) seen.current (held room filled) best earlier seen.is_best)

pub earlier_least : (width filled : ℕ) (room : List ℤ) (pairs : List (ℤ × ℤ)) → filled < width → HasSeen width filled true None room pairs → IsLeastPair (last_of width pairs) (held room filled)
earlier_least width filled room pairs lt seen =
    let earlier : IsLeastPair (drop filled seen.block) (held room filled) = seen.leasts filled (omega arith) (omega (arith, seen.is_whole)) in
    let last : last_of width pairs ≡ drop filled seen.block = parted width filled None room pairs (omega arith) seen ∙ ap (λ xs. drop filled seen.block ++ xs) seen.is_best ∙ append-nil (drop filled seen.block) in
    subst (λ xs. IsLeastPair xs (held room filled)) (sym last) earlier
