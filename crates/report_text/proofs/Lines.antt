-- Texts made of a piece for each number of a range, or of each place of a list from its end.
use Rattle.std.proofs.Common.{◌≡◌, ℕ, zero, suc, ◌+◌, ◌-◌, ◌<◌, ◌≤◌, List, [], ◌∷◌, ◌++◌, length, drop, reverse, slice_index_or, map, ap, arith, sym, zero-add, ◌∙◌, append_assoc}
use Rattle.std.specs.List.{flat_map, range_with_len}
use Rattle.std.proofs.lemmas.List.{append-nil}
use Rattle.std.proofs.lemmas.Grind.{reverse_onto}
use Rattle.std.proofs.lemmas.List.Concat.{flat_map-append}
use Rattle.std.proofs.lemmas.List.Folds.{flat_map-map}
use Rattle.std.proofs.lemmas.List.FromFn.{map-range_with_len_more}

-- a range that is longer by one number has that number's piece at its end
pub flat_map-range_more : (f : ℕ → List ℕ) (a n j : ℕ) → a + n ≡ j → flat_map f (range_with_len a (n + 1)) ≡ flat_map f (range_with_len a n) ++ f j
flat_map-range_more f a n j e =
    let same = λ (k : ℕ). k in
    sym (flat_map-map f same (range_with_len a (n + 1)))
    ∙ ap (flat_map f) (map-range_with_len_more same a n j e)
    ∙ flat_map-append f (map same (range_with_len a n)) (j ∷ [])
    ∙ ap (λ (xs : List ℕ). xs ++ (f j ++ [])) (flat_map-map f same (range_with_len a n))
    ∙ ap (λ (xs : List ℕ). flat_map f (range_with_len a n) ++ xs) (append-nil (f j))

-- a text with the pieces of a range behind a start, and then one piece more
pub more_lines : (f : ℕ → List ℕ) (n : ℕ) (start before after : List ℕ) → before ≡ start ++ flat_map f (range_with_len 0 n) → after ≡ before ++ f n → after ≡ start ++ flat_map f (range_with_len 0 (n + 1))
more_lines f n start before after earlier last =
    last
    ∙ ap (λ (xs : List ℕ). xs ++ f n) earlier
    ∙ append_assoc start (flat_map f (range_with_len 0 n)) (f n)
    ∙ ap (λ (xs : List ℕ). start ++ xs) (sym (flat_map-range_more f 0 n n (zero-add n)))

-- a list from one place on has the piece of that place at its end, where pieces go from the last to the first
pub flat_map-reverse_more : {X : Type 0} (f : X → List ℕ) (xs : List X) (i : ℕ) (d : X) → i < length xs → flat_map f (reverse (drop i xs)) ≡ flat_map f (reverse (drop (suc i) xs)) ++ f (slice_index_or xs i d)
flat_map-reverse_more f [] i d lt = absurd (omega arith)
flat_map-reverse_more f (x ∷ xs) zero d lt =
    ap (flat_map f) (reverse_onto xs x [])
    ∙ flat_map-append f (reverse xs) (x ∷ [])
    ∙ ap (λ (ys : List ℕ). flat_map f (reverse xs) ++ ys) (append-nil (f x))
flat_map-reverse_more f (x ∷ xs) (suc i) d lt = flat_map-reverse_more f xs i d (omega arith)

-- a text with the pieces of a list behind a start, from its last place down to one, and then the piece before
pub more_back : {X : Type 0} (f : X → List ℕ) (xs : List X) (place : ℕ) (x d : X) (start before after : List ℕ) → 0 < place → place ≤ length xs
    → before ≡ start ++ flat_map f (reverse (drop place xs)) → x ≡ slice_index_or xs (place - 1) d → after ≡ before ++ f x → after ≡ start ++ flat_map f (reverse (drop (place - 1) xs))
more_back f xs place x d start before after some within earlier is last =
    let next : place ≡ suc (place - 1) = omega (arith, some) in
    last
    ∙ ap (λ (ys : List ℕ). ys ++ f x) (earlier ∙ ap (λ k. start ++ flat_map f (reverse (drop k xs))) next)
    ∙ append_assoc start (flat_map f (reverse (drop (suc (place - 1)) xs))) (f x)
    ∙ ap (λ y. start ++ (flat_map f (reverse (drop (suc (place - 1)) xs)) ++ f y)) is
    ∙ ap (λ (ys : List ℕ). start ++ ys) (sym (flat_map-reverse_more f xs (place - 1) d (omega (arith, some, within))))
