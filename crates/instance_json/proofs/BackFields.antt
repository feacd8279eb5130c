-- A policy and echelon stocks that were written are read back.
use Rattle.std.proofs.Common.{◌≡◌, ℕ, suc, ◌+◌, ◌-◌, ◌<◌, ℤ, pos, negsuc, ◌≤ℤ◌, List, [], ◌∷◌, length, get_or, All, Bool, true, false, Ok, refl, subst, arith}
use Rattle.std.specs.Prelude.{int_le}
use Rattle.std.specs.List.{list_all, AllAdjacentBelow}
use Rattle.demand_law.specs.Integers.{le_trans}
use Rattle.serde_json.specs.Data.{string}
use Rattle.decision_model.specs.Positions.{IsPosition}
use Rattle.instance_json.specs.Fields.{policy_in}
use Rattle.instance_json.specs.Positions.{rises_from, is_start}
use Rattle.instance_json.specs.Average.{policy_text}
use Rattle.json_forms.proofs.BackNumbers.{int_le_is}

pub policy_back : (lots : Bool) → policy_in (string (policy_text lots)) ≡ Ok lots
policy_back true = refl
policy_back false = refl

-- ---- echelon stocks
abbrev NeverFalls : List ℤ → Type 0
NeverFalls xs = AllAdjacentBelow (λ x y. x ≤ℤ y) xs (length xs)

never_falls_later : (x : ℤ) (xs : List ℤ) → NeverFalls (x ∷ xs) → NeverFalls xs
never_falls_later x xs rises k d lt =
    let Next : ℕ → Type 0 = λ n. get_or xs k d ≤ℤ get_or (x ∷ xs) n d in
    let place : suc k + 1 ≡ suc (k + 1) = omega arith in
    subst Next place (rises (suc k) d (omega arith))

rises_again : (low : ℤ) (xs : List ℤ) → ((d : ℤ) → 0 < length xs → low ≤ℤ get_or xs 0 d) → NeverFalls xs → rises_from low xs ≡ true
rises_again low [] above rises = refl
rises_again low (x ∷ xs) above rises = rw (int_le_is low x (above x (omega arith))) (rises_again x xs (λ d lt. rises 0 d (omega arith)) (never_falls_later x xs rises))

-- the first stock is at most a cap that the last one is at most
first_below : (cap x : ℤ) (xs : List ℤ) → NeverFalls (x ∷ xs) → get_or (x ∷ xs) (length xs) (pos 0) ≤ℤ cap → x ≤ℤ cap
first_below cap x [] rises last = last
first_below cap x (y ∷ ys) rises last = le_trans x y cap (rises 0 x (omega arith)) (first_below cap y ys (never_falls_later x (y ∷ ys) rises) last)

all_below : (cap x : ℤ) (xs : List ℤ) → NeverFalls (x ∷ xs) → get_or (x ∷ xs) (length xs) (pos 0) ≤ℤ cap → list_all (λ z. int_le z cap) (x ∷ xs) ≡ true
all_below cap x [] rises last = rw (int_le_is x cap last) refl
all_below cap x (y ∷ ys) rises last = rw (int_le_is x cap (first_below cap x (y ∷ ys) rises last)) (all_below cap y ys (never_falls_later x (y ∷ ys) rises) last)

pub is_start_back : (cap : ℤ) (xs : List ℤ) → All IsPosition xs → NeverFalls xs → get_or xs (length xs - 1) (pos 0) ≤ℤ cap → is_start cap xs ≡ true
is_start_back cap [] in_range rises last = refl
is_start_back cap (x ∷ xs) in_range rises last =
    let Last : ℕ → Type 0 = λ n. get_or (x ∷ xs) n (pos 0) ≤ℤ cap in
    let place : length (x ∷ xs) - 1 ≡ length xs = omega arith in
    let first = (in_range 0 x (omega arith)).least in
    rw (rises_again (negsuc 999999) (x ∷ xs) (λ d lt. first) rises, all_below cap x xs rises (subst Last place last)) refl
