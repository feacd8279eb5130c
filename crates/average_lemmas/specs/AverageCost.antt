-- Each valid instance has one average cost: the turns come to an end there, and it is the one that the definitions name.
use Rattle.std.proofs.Common.{◌≡◌, ℕ, zero, suc, ◌*◌, ◌/◌, ◌<◌, ◌≤◌, pos, ◌+ℤ◌, Bool, true, false, slice_index, refl, sym, ◌∙◌, ap, arith, ◌⊎◌, inl, inr, nat_lt, div-le_self}
use Rattle.std.proofs.lemmas.Bool.{cases_lt}
use Rattle.std.proofs.lemmas.Bool.Decides.{nat_tests}
use Rattle.fraction128.specs.Divisors.{AreCoprime}
use Rattle.fraction128.specs.Lowest.{IsGcd-gcd_of, same_ratio, no_common, quotient_pos}
use Rattle.fraction128.specs.Reduced.{gcd_of}
use Rattle.decision_model.specs.declared.average.Average.{Average}
use Rattle.decision_model.specs.Average.{HasDemand}
use Rattle.value_cert.specs.AverageValues.{Ratio}
use Rattle.average_lemmas.specs.ChosenLines.{are_chosen, chosen_are_least}
use Rattle.average_lemmas.specs.CostLines.{limit_constant, keep_constant, keep_slope, takes_limit, chosen_lines, table_of, IsTurn, measure}
use Rattle.average_lemmas.specs.Iteration.{next_g, solved_table}
use Rattle.average_lemmas.specs.LowerTerms.{lower_terms}
use Rattle.average_lemmas.specs.Sizes.{next_turn, next_falls, first_turn}
use Rattle.average_lemmas.specs.SolvedTables.{IsSolvedTable}

-- ---- a turn in lowest terms
-- g in lowest terms
abbrev pub reduced : Ratio → Ratio
reduced g = record { num = g.num / gcd_of g.num g.den; den = g.den / gcd_of g.num g.den }

-- a reduced turn serves as well, and is no further from the end
pub record IsReducedTurn (item : Average) (n : ℕ) (g h : Ratio) : Type 0 where
  pub turn : IsTurn item n h
  pub lowest : AreCoprime h.num h.den
  pub most : measure item n h ≤ measure item n g

pub reduced_turn : (item : Average) (n : ℕ) (g : Ratio) → IsTurn item n g → IsReducedTurn item n g (reduced g)
reduced_turn item n g turn =
    let greatest = IsGcd-gcd_of g.num g.den turn.some in
    let less = less_than g.den (gcd_of g.num g.den) in
    let serves = lower_terms item n g (reduced g) turn (same_ratio g.num g.den (gcd_of g.num g.den) greatest) (quotient_pos g.num g.den (gcd_of g.num g.den) turn.some greatest) less in
    record { turn = serves.0; lowest = no_common g.num g.den (gcd_of g.num g.den) turn.some greatest; most = serves.1 }
  where
    less_than : (a b : ℕ) → a / b ≤ a
    less_than a b = div-le_self a b

-- ---- the turns come to an end
-- a place of the first n that passes a test, or none does
search : (test : ℕ → Bool) (n : ℕ) → ((k : ℕ) × (k < n) × (test k ≡ true)) ⊎ ((k : ℕ) → k < n → test k ≡ false)
search test zero = inr (λ k lt. absurd (omega (arith, lt)))
search test (suc n) = by (test n) refl (search test n)
  where
    by : (b : Bool) → test n ≡ b → ((k : ℕ) × (k < n) × (test k ≡ true)) ⊎ ((k : ℕ) → k < n → test k ≡ false) → ((k : ℕ) × (k < suc n) × (test k ≡ true)) ⊎ ((k : ℕ) → k < suc n → test k ≡ false)
    by true e before = inl (n, omega arith, e)
    by false e (inl (k, lt, h)) = inl (k, omega (arith, lt), h)
    by false e (inr none) = inr (λ k lt. at k lt (cases_lt k n))
      where
        at : (k : ℕ) → k < suc n → (k < n) ⊎ (n ≤ k) → test k ≡ false
        at k lt (inl less) = none k less
        at k lt (inr from) = let same : n ≡ k = omega (arith, lt, from) in ap test (sym same) ∙ e

-- an average cost in lowest terms, whose lower table is solved
pub record IsAverageCost (item : Average) (n : ℕ) (g : Ratio) : Type 0 where
  pub turn : IsTurn item n g
  pub lowest : AreCoprime g.num g.den
  pub table : ℕ → ℕ
  pub solved : IsSolvedTable item g n table

module _ (item : Average) (some_demand : HasDemand item.law) (n : ℕ) (all : item.floor +ℤ pos n ≡ item.cap +ℤ pos 1) where
  -- so many turns are left at most
  ends : (left : ℕ) (g : Ratio) → IsTurn item n g → AreCoprime g.num g.den → measure item n g < left → (h : Ratio) × IsAverageCost item n h
  ends zero g turn lowest less = absurd (omega (arith, less))
  ends (suc left) g turn lowest less = by (search below n) (λ h turn_h lowest_h less_h. ends left h turn_h lowest_h less_h)
    where
      a : ℕ → ℕ
      a = slice_index (chosen_lines item g n).constants

      b : ℕ → ℕ
      b = slice_index (chosen_lines item g n).slopes

      -- whether X of a place is below 0
      below : ℕ → Bool
      below k = nat_lt (keep_constant item a k * g.den) (keep_slope item b k * g.num)

      below_known : (x y : ℕ) → nat_lt x y ≡ true → x < y
      below_known x y h = grind (arith, nat_tests)

      not_below : (x y : ℕ) → nat_lt x y ≡ false → y ≤ x
      not_below x y h = grind (arith, nat_tests)

      by : ((k : ℕ) × (k < n) × (below k ≡ true)) ⊎ ((k : ℕ) → k < n → below k ≡ false)
          → ((h : Ratio) → IsTurn item n h → AreCoprime h.num h.den → measure item n h < left → (f : Ratio) × IsAverageCost item n f)
          → (f : Ratio) × IsAverageCost item n f
      by (inr none) later =
          (g, record { turn = turn; lowest = lowest; table = table_of g a b; solved = solved_table item g n (takes_limit item g a b) a b (chosen_are_least item g n a b (are_chosen item g n)) (λ k lt. omega (arith, not_below _ _ (none k lt))) turn.reached })
      by (inl (k, lt, h)) later =
          let lines = are_chosen item g n in
          let falls = below_known (keep_constant item a k * g.den) (keep_slope item b k * g.num) h in
          let next = next_turn item some_demand n all (takes_limit item g a b) a b lines g turn k lt falls in
          let less_next = next_falls item some_demand n all (takes_limit item g a b) a b lines g turn k lt falls in
          let low = reduced_turn item n (next_g item a b k) next in
          later (reduced (next_g item a b k)) low.turn low.lowest (omega (arith, less_next, low.most, less))

  -- there is one
  pub average_cost_exists : 1 ≤ n → (h : Ratio) × IsAverageCost item n h
  average_cost_exists some =
      let first = next_g item (limit_constant item) (λ k. 0) 0 in
      let low = reduced_turn item n first (first_turn item some_demand n all some) in
      ends (suc (measure item n (reduced first))) (reduced first) low.turn low.lowest (omega arith)
