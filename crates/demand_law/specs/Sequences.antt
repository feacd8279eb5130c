-- Sequences of demands, one for each law, and sums over them by weight. A law is the list of its weights, from demand 0 up.
use Rattle.std.specs.Prelude.{◌≡◌, ◌⊎◌, ℕ, zero, suc, ◌+◌, ◌*◌, ◌<◌, ◌≤◌, max, ℤ, pos, ◌+ℤ◌, unsigned_abs, List, [], ◌∷◌, map, length, sum, slice_index, slice_index_or, ◌==◌, if◌then◌else◌}
use Rattle.std.specs.List.{flat_map, range_with_len}
use Rattle.demand_law.specs.Law.{weighted, greatest_of}

-- the sum over all sequences, one demand for each law, of f(sequence) times the product of the demands' weights
abbrev pub over : List (List ℕ) → (List ℕ → ℤ) → ℤ
over [] f = f []
over (law ∷ laws) f = weighted law (λ d. over laws (λ ds. f (d ∷ ds)))

-- one demand for each law, each at most the greatest of its law
abbrev pub IsSequence : List (List ℕ) → List ℕ → Type 0
IsSequence [] [] = Unit {0}
IsSequence [] (d ∷ ds) = ⊥
IsSequence (law ∷ laws) [] = ⊥
IsSequence (law ∷ laws) (d ∷ ds) = (d < length law) × IsSequence laws ds

-- the laws of n periods, the first of them period t
abbrev pub laws_from : (ℕ → List ℕ) → ℕ → ℕ → List (List ℕ)
laws_from law t zero = []
laws_from law t (suc n) = law t ∷ laws_from law (suc t) n

-- the product of the sums of weights
abbrev pub totals_of : List (List ℕ) → ℕ
totals_of [] = 1
totals_of (law ∷ laws) = sum law * totals_of laws

-- ---- lists of laws
-- the law of a place in a list, and past its end the first; so a list of one law has that law at every place
abbrev pub law_at : List (List ℕ) → ℕ → List ℕ
law_at laws place = slice_index_or laws place (slice_index_or laws 0 [])

-- a list has one law, which serves every place, or count laws from a place on
abbrev pub Serves : List (List ℕ) → ℕ → ℕ → Type 0
Serves laws from count = (length laws ≡ 1) ⊎ (from + count ≤ length laws)

-- the laws that serve count places, the first of them a place of the list
abbrev pub laws_at : List (List ℕ) → ℕ → ℕ → List (List ℕ)
laws_at laws from count = laws_from (law_at laws) from count

-- the greatest demand of all laws of a list
abbrev pub greatest_in : List (List ℕ) → ℕ
greatest_in [] = 0
greatest_in (law ∷ laws) = max (greatest_of law) (greatest_in laws)

-- ---- the law of a sum
-- 1 where two numbers are equal, else 0
abbrev pub one_at : ℕ → ℕ → ℤ
one_at s e = if s == e then pos 1 else pos 0

-- the weight of e in the sum of a demand k and a law
abbrev pub weight_beyond : ℕ → List ℕ → ℕ → ℤ
weight_beyond k law e = weighted law (λ d. one_at (k + d) e)

-- the weight of e in the sum of laws: that of all sequences that add up to e
abbrev pub weight_of_sum : List (List ℕ) → ℕ → ℤ
weight_of_sum laws e = over laws (λ ds. one_at (sum ds) e)

-- the sum of the greatest demands
abbrev pub greatest_sum : List (List ℕ) → ℕ
greatest_sum [] = 0
greatest_sum (law ∷ laws) = greatest_of law + greatest_sum laws

-- a law is that of the sum of laws
pub record IsSumOf (law : List ℕ) (laws : List (List ℕ)) : Type 0 where
  pub weights : (e : ℕ) → pos (slice_index law e) ≡ weight_of_sum laws e
  pub width : length law ≡ greatest_sum laws + 1

-- the law of the sum of laws
abbrev pub law_of_sum : List (List ℕ) → List ℕ
law_of_sum laws = map (λ e. unsigned_abs (weight_of_sum laws e)) (range_with_len 0 (greatest_sum laws + 1))

-- ---- the same sums, written out
-- all sequences
abbrev pub sequences : List (List ℕ) → List (List ℕ)
sequences [] = [] ∷ []
sequences (law ∷ laws) = flat_map (λ d. map (λ ds. d ∷ ds) (sequences laws)) (range_with_len 0 (length law))

-- the product of the weights of a sequence
abbrev pub sequence_weight : List (List ℕ) → List ℕ → ℕ
sequence_weight [] ds = 1
sequence_weight (law ∷ laws) [] = 1
sequence_weight (law ∷ laws) (d ∷ ds) = slice_index law d * sequence_weight laws ds

-- the sum of a list
abbrev pub sum_ℤ : List ℤ → ℤ
sum_ℤ [] = pos 0
sum_ℤ (x ∷ xs) = x +ℤ sum_ℤ xs
