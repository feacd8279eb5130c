-- The sum of demands that have one law.
use Rattle.std.proofs.Common.{◌≡◌, ℕ, zero, suc, ◌+◌, ◌*◌, ◌^◌, ◌<◌, ◌≤◌, List, [], ◌∷◌, length, sum, get_or, replicate, sym, ◌∙◌, ap, subst, refl, arith}
use Rattle.std.proofs.lemmas.List.{replicate-append-replicate}
use Rattle.std.proofs.lemmas.Nat.{pow-add}
use Rattle.std.proofs.Math.Nat.{mul-le-mul_right, pow-le-pow_right, pow-suc, pow-succ', pow-zero}
use Rattle.demand_law.specs.Law.{greatest_of}
use Rattle.demand_law.specs.Sequences.{laws_at, totals_of, greatest_sum, IsSumOf}
use Rattle.demand_law.specs.LawSums.{sum-IsSumOf, IsSumOf-append, IsSumOf-first}
use Rattle.demand_law.specs.ServedLaws.{law_at-one}

-- one law at every place
pub laws_at-one : (law : List ℕ) (from n : ℕ) → laws_at (law ∷ []) from n ≡ replicate n law
laws_at-one law from zero = refl
laws_at-one law from (suc n) = ap (λ l. l ∷ laws_at (law ∷ []) (suc from) n) (law_at-one law from) ∙ ap (λ ls. law ∷ ls) (laws_at-one law (suc from) n)

-- the sums of weights of n laws multiply to a power
pub totals_of-replicate : (law : List ℕ) (n : ℕ) → totals_of (replicate n law) ≡ sum law ^ n
totals_of-replicate law zero = sym (pow-zero (sum law))
totals_of-replicate law (suc n) = ap (λ k. sum law * k) (totals_of-replicate law n) ∙ sym (pow-succ' (sum law) n)

pub greatest_sum-replicate : (law : List ℕ) (n : ℕ) → greatest_sum (replicate n law) ≡ n * greatest_of law
greatest_sum-replicate law zero = omega arith
greatest_sum-replicate law (suc n) = omega (arith, greatest_sum-replicate law n)

module _ (law : List ℕ) (n : ℕ) (sums : List ℕ) (is : IsSumOf sums (replicate n law)) where
  -- the weights of n laws together
  pub copies_total : sum sums ≡ sum law ^ n
  copies_total = sum-IsSumOf sums (replicate n law) is ∙ totals_of-replicate law n

  pub copies_width : length sums ≡ n * greatest_of law + 1
  copies_width = omega (arith, is.width, greatest_sum-replicate law n)

  -- twice as many
  pub doubled : (double : List ℕ) → IsSumOf double (sums ∷ sums ∷ []) → IsSumOf double (replicate (n + n) law)
  doubled double pair =
      let P : List (List ℕ) → Type 0 = λ laws. IsSumOf double laws in
      subst P (replicate-append-replicate n n law) (IsSumOf-append double sums sums (replicate n law) (replicate n law) is is pair)

  -- one more
  pub one_more : (more : List ℕ) → 0 < length law → IsSumOf more (law ∷ sums ∷ []) → IsSumOf more (replicate (n + 1) law)
  one_more more some pair =
      let next : suc n ≡ n + 1 = omega arith in
      let P : ℕ → Type 0 = λ k. IsSumOf more (replicate k law) in
      subst P next (IsSumOf-first more law sums (replicate n law) some is pair)

-- fewer laws have no greater product
pub fewer_fit : (w k n : ℕ) → 0 < w → k ≤ n → w ^ n ≤ 2 ^ 120 → w ^ k ≤ 2 ^ 120
fewer_fit w k n some le fits = omega (arith, pow-le-pow_right some le, fits)

pub doubles_fit : (w k n : ℕ) → 0 < w → k + k ≤ n → w ^ n ≤ 2 ^ 120 → w ^ k * w ^ k ≤ 2 ^ 120
doubles_fit w k n some le fits = omega (arith, pow-add w k k, fewer_fit w (k + k) n some le fits)

-- ---- half of some copies, twice, and one more where their number is odd
module _ (g half count : ℕ) where
  pub even_width : (len double : ℕ) → half + half ≡ count → len ≡ half * g + 1 → double + 1 ≡ len + len → double ≡ count * g + 1
  even_width len double even is twice = omega (arith, ap (λ n. n * g) even)

  pub odd_width : (len double : ℕ) → (half + half) + 1 ≡ count → len ≡ half * g + 1 → double + 1 ≡ len + len → double + g ≡ count * g + 1
  odd_width len double odd is twice = omega (arith, ap (λ n. n * g) odd)

  pub half_room : (room : ℕ) → half + half ≤ count → count * g + 1 ≤ room → ((half * g + 1) + (half * g + 1) ≤ room + 1) × (half * g + 1 ≤ room)
  half_room room within fits =
      let both : (half + half) * g ≤ count * g = mul-le-mul_right g within in
      (omega (arith, both), omega (arith, both))

-- one factor more
pub last_power : (w n : ℕ) → w ^ n * w ≡ w ^ (n + 1)
last_power w n =
    let next : suc n ≡ n + 1 = omega arith in
    sym (pow-suc w n) ∙ ap (λ k. w ^ k) next

-- the one law of a list, at every place
pub laws_at-alone : (laws : List (List ℕ)) (law d : List ℕ) (from n : ℕ) → 1 ≤ length laws → length laws < 2 → law ≡ get_or laws 0 d → laws_at laws from n ≡ replicate n law
laws_at-alone [] law d from n some few is = absurd (omega arith)
laws_at-alone (only ∷ []) law d from n some few is = laws_at-one only from n ∙ ap (λ l. replicate n l) (sym is)
laws_at-alone (first ∷ second ∷ more) law d from n some few is = absurd (omega arith)
