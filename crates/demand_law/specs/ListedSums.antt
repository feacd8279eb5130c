-- A sum over sequences is the sum over the list of them.
use Rattle.std.proofs.Common.{subst, zero-add, ◌<◌, slice_index_or, inl, inr, ◌≡◌, ℕ, suc, ◌+◌, ◌*◌, ◌+ℤ◌, ◌*ℤ◌, List, [], ◌∷◌, ◌++◌, map, length, ℤ, pos, refl, sym, ◌∙◌, ap, arith, slice_index, flat_map, mul_comm, zero}
use Rattle.std.specs.List.{range_with_len, Contains}
use Rattle.std.proofs.lemmas.Int.{ints}
use Rattle.std.proofs.lemmas.List.Elements.{Contains-append_left, Contains-append_right, Contains-append_cases}
use Rattle.std.proofs.lemmas.List.FromFn.{length-range_with_len, get_or-range_with_len}
use Rattle.demand_law.specs.Law.{weighted}
use Rattle.demand_law.specs.Sequences.{over, IsSequence, sequences, sequence_weight, sum_ℤ}
use Rattle.demand_law.specs.Integers as Z
use Rattle.demand_law.specs.SequenceSums.{over-scale}

sum_ℤ-append : (xs ys : List ℤ) → sum_ℤ (xs ++ ys) ≡ sum_ℤ xs +ℤ sum_ℤ ys
sum_ℤ-append [] ys = omega (arith, ints)
sum_ℤ-append (x ∷ xs) ys = omega (arith, ints, sum_ℤ-append xs ys)

map-append : {X Y : Type 0} (g : X → Y) (xs ys : List X) → map g (xs ++ ys) ≡ map g xs ++ map g ys
map-append g [] ys = refl
map-append g (x ∷ xs) ys = ap (λ zs. g x ∷ zs) (map-append g xs ys)

map-map : {X Y W : Type 0} (g : Y → W) (h : X → Y) (xs : List X) → map g (map h xs) ≡ map (λ x. g (h x)) xs
map-map g h [] = refl
map-map g h (x ∷ xs) = ap (λ zs. g (h x) ∷ zs) (map-map g h xs)

range_with_len-suc : (a n : ℕ) → range_with_len (suc a) n ≡ map suc (range_with_len a n)
range_with_len-suc a zero = refl
range_with_len-suc a (suc n) = ap (λ r. suc a ∷ r) (ap (λ b. range_with_len b n) moved ∙ range_with_len-suc (a + 1) n)
  where
    moved : suc a + 1 ≡ suc (a + 1)
    moved = omega arith

-- a law, as the list of its demands
pub weighted-listed : (law : List ℕ) (f : ℕ → ℤ) → weighted law f ≡ sum_ℤ (map (λ d. pos (slice_index law d) *ℤ f d) (range_with_len 0 (length law)))
weighted-listed [] f = refl
weighted-listed (w ∷ ws) f =
    ap (λ z. pos w *ℤ f 0 +ℤ z)
    (weighted-listed ws (λ d. f (suc d))
    ∙ ap sum_ℤ (sym (map-map (λ d. pos (slice_index (w ∷ ws) d) *ℤ f d) suc (range_with_len 0 (length ws))) ∙ ap (map (λ d. pos (slice_index (w ∷ ws) d) *ℤ f d)) (sym (range_with_len-suc 0 (length ws)))))

sum_ℤ-flat_map : {X Y : Type 0} (g : Y → ℤ) (h : X → List Y) (xs : List X) → sum_ℤ (map g (flat_map h xs)) ≡ sum_ℤ (map (λ x. sum_ℤ (map g (h x))) xs)
sum_ℤ-flat_map g h [] = refl
sum_ℤ-flat_map g h (x ∷ xs) =
    ap sum_ℤ (map-append g (h x) (flat_map h xs))
    ∙ sum_ℤ-append (map g (h x)) (map g (flat_map h xs))
    ∙ ap (λ z. sum_ℤ (map g (h x)) +ℤ z) (sum_ℤ-flat_map g h xs)

-- a first demand, before the sequences of the other laws
first-listed : (law : List ℕ) (laws : List (List ℕ)) (f : List ℕ → ℤ) (d : ℕ) → over laws (λ ds. pos (slice_index law d) *ℤ f (d ∷ ds)) ≡ sum_ℤ (map (λ ds. pos (sequence_weight laws ds) *ℤ (pos (slice_index law d) *ℤ f (d ∷ ds))) (sequences laws)) → pos (slice_index law d) *ℤ over laws (λ ds. f (d ∷ ds)) ≡ sum_ℤ (map (λ ds. pos (sequence_weight (law ∷ laws) ds) *ℤ f ds) (map (λ ds. d ∷ ds) (sequences laws)))
first-listed law laws f d before =
    sym (over-scale (pos (slice_index law d)) laws (λ ds. f (d ∷ ds)))
    ∙ before
    ∙ ap sum_ℤ (λ i. map (λ ds. term ds i) (sequences laws))
    ∙ ap sum_ℤ (sym (map-map (λ ds. pos (sequence_weight (law ∷ laws) ds) *ℤ f ds) (λ ds. d ∷ ds) (sequences laws)))
  where
    term : (ds : List ℕ) → pos (sequence_weight laws ds) *ℤ (pos (slice_index law d) *ℤ f (d ∷ ds)) ≡ pos (slice_index law d * sequence_weight laws ds) *ℤ f (d ∷ ds)
    term ds =
        sym (Z.mul_assoc (pos (sequence_weight laws ds)) (pos (slice_index law d)) (f (d ∷ ds)))
        ∙ ap (λ k. pos k *ℤ f (d ∷ ds)) (mul_comm (sequence_weight laws ds) (slice_index law d))

-- the sum over all sequences, written out
pub over-listed : (laws : List (List ℕ)) (f : List ℕ → ℤ) → over laws f ≡ sum_ℤ (map (λ ds. pos (sequence_weight laws ds) *ℤ f ds) (sequences laws))
over-listed [] f = omega (arith, ints)
over-listed (law ∷ laws) f =
    weighted-listed law (λ d. over laws (λ ds. f (d ∷ ds)))
    ∙ ap sum_ℤ (λ i. map (λ d. first-listed law laws f d (over-listed laws (λ ds. pos (slice_index law d) *ℤ f (d ∷ ds))) i) (range_with_len 0 (length law)))
    ∙ sym (sum_ℤ-flat_map (λ ds. pos (sequence_weight (law ∷ laws) ds) *ℤ f ds) (λ d. map (λ ds. d ∷ ds) (sequences laws)) (range_with_len 0 (length law)))

-- ---- the list has the sequences, and nothing else
Contains-map : {X Y : Type 0} (g : X → Y) (xs : List X) (x : X) → Contains xs x → Contains (map g xs) (g x)
Contains-map g [] x (k, lt, e) = absurd (omega arith)
Contains-map g (y ∷ xs) x (zero, lt, e) = (0, omega arith, ap g e)
Contains-map g (y ∷ xs) x (suc k, lt, e) =
    let later = Contains-map g xs x (k, omega arith, e) in
    (suc later.0, omega (arith, later.1), later.2)

Contains-map_from : {X Y : Type 0} (g : X → Y) (xs : List X) (y : Y) → Contains (map g xs) y → (x : X) × Contains xs x × (g x ≡ y)
Contains-map_from g [] y (k, lt, e) = absurd (omega arith)
Contains-map_from g (x ∷ xs) y (zero, lt, e) = (x, (0, omega arith, refl), e)
Contains-map_from g (x ∷ xs) y (suc k, lt, e) =
    let later = Contains-map_from g xs y (k, omega arith, e) in
    (later.0, (suc later.1.0, omega (arith, later.1.1), later.1.2), later.2)

Contains-flat_map : {X Y : Type 0} (h : X → List Y) (xs : List X) (x : X) (y : Y) → Contains xs x → Contains (h x) y → Contains (flat_map h xs) y
Contains-flat_map h [] x y (k, lt, e) has = absurd (omega arith)
Contains-flat_map {X} {Y} h (z ∷ xs) x y (zero, lt, e) has =
    let P : X → Type 0 = λ v. Contains (h v) y in
    Contains-append_left (h z) (flat_map h xs) y (subst P (sym e) has)
Contains-flat_map h (z ∷ xs) x y (suc k, lt, e) has = Contains-append_right (h z) (flat_map h xs) y (Contains-flat_map h xs x y (k, omega arith, e) has)

Contains-flat_map_from : {X Y : Type 0} (h : X → List Y) (xs : List X) (y : Y) → Contains (flat_map h xs) y → (x : X) × Contains xs x × Contains (h x) y
Contains-flat_map_from h [] y (k, lt, e) = absurd (omega arith)
Contains-flat_map_from h (z ∷ xs) y has =
    elim (Contains-append_cases (h z) (flat_map h xs) y has) [
      | inl first ↦ (z, (0, omega arith, refl), first)
      | inr others ↦
          let later = Contains-flat_map_from h xs y others in
          (later.0, (suc later.1.0, omega (arith, later.1.1), later.1.2), later.2)
    ]

-- every sequence stands in the list
pub sequences_all : (laws : List (List ℕ)) (ds : List ℕ) → IsSequence laws ds → Contains (sequences laws) ds
sequences_all [] [] s = (0, omega arith, refl)
sequences_all [] (d ∷ ds) s = absurd s
sequences_all (law ∷ laws) [] s = absurd s
sequences_all (law ∷ laws) (d ∷ ds) s =
    let places = range_with_len 0 (length law) in
    let within : d < length places = omega (arith, length-range_with_len 0 (length law), s.0) in
    let place : slice_index_or places d d ≡ d = get_or-range_with_len 0 (length law) d d s.0 ∙ zero-add d in
    Contains-flat_map (λ k. map (λ es. k ∷ es) (sequences laws)) places d (d ∷ ds) (d, within, place) (Contains-map (λ es. d ∷ es) (sequences laws) ds (sequences_all laws ds s.1))

-- and nothing else does
pub sequences_only : (laws : List (List ℕ)) (ds : List ℕ) → Contains (sequences laws) ds → IsSequence laws ds
sequences_only [] ds (zero, lt, e) = subst (IsSequence []) e tt
sequences_only [] ds (suc k, lt, e) = absurd (omega arith)
sequences_only (law ∷ laws) ds has =
    let from = Contains-flat_map_from (λ d. map (λ es. d ∷ es) (sequences laws)) (range_with_len 0 (length law)) ds has in
    let later = Contains-map_from (λ es. from.0 ∷ es) (sequences laws) ds from.2 in
    subst (IsSequence (law ∷ laws)) later.2 (small from.0 from.1, sequences_only laws later.0 later.1)
  where
    small : (d : ℕ) → Contains (range_with_len 0 (length law)) d → d < length law
    small d (k, lt, e) =
        let within : k < length law = omega (arith, length-range_with_len 0 (length law)) in
        omega (arith, get_or-range_with_len 0 (length law) k d within, e)
