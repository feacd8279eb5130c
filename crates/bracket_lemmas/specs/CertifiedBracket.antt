-- Entries that pass the rules make a bracket, and the facts that fix the solver's leave no other one.
use Rattle.std.proofs.Common.{◌≡◌, ℕ, zero, suc, ◌<◌, ◌≤◌, max, ℤ, pos, ◌-ℤ◌, ◌≤ℤ◌, List, [], ◌∷◌, length, map, slice_index_or, refl, sym, ◌∙◌, ap, subst, arith, ◌⊎◌, inl, inr}
use Rattle.std.specs.List.{range_with_len}
use Rattle.std.proofs.lemmas.Int.{ints}
use Rattle.std.proofs.lemmas.Bool.{cases_lt}
use Rattle.std.proofs.lemmas.List.{length-map}
use Rattle.std.proofs.lemmas.List.FromFn.{length-map-range_with_len}
use Rattle.demand_law.specs.Integers as Z
use Rattle.decision_model.specs.declared.average.Average.{Average}
use Rattle.decision_model.specs.Average.{average_positions}
use Rattle.decision_model.specs.Positions.{above_zero}
use Rattle.value_cert.specs.AverageLeast.{IsPair}
use Rattle.value_cert.specs.AverageValues.{at_place}
use Rattle.average_lemmas.specs.Tables.{above_zero_is}
use Rattle.value_cert.specs.BracketLeast.{IsSpanOf}
use Rattle.bracket_lemmas.specs.BracketSound.{bracketed}
use Rattle.value_cert.specs.BracketValues.{setup_parts, most_bound, IsUnderTable, IsOverTable}
use Rattle.value_cert.specs.Bracket.{under_in, over_in, greatest_over, depth_over, span_in}
use Rattle.value_cert.specs.BracketRules.{IsBracket}
use Rattle.decision_model.specs.WideAverage.{IsWideAverage}
use Rattle.bracket_lemmas.specs.WideSizes.{some_weight, all_places}
use Rattle.value_cert.specs.declared.bracket.BracketCert.{BracketCert}
use Rattle.bracket_lemmas.specs.BracketFacts.{IsGreatestLower, IsLeastUpper, IsSolvedPair}

-- ---- the span
pub greatest_start : (most : ℕ) (xs : List ℤ) → most ≤ greatest_over most xs
unfolding greatest_over
greatest_start most [] = omega arith
greatest_start most (x ∷ xs) = omega (arith, greatest_start (max most (above_zero x)) xs)

pub greatest_each : (most : ℕ) (xs : List ℤ) (k : ℕ) → k < length xs → slice_index_or xs k (pos 0) ≤ℤ pos (greatest_over most xs)
unfolding greatest_over
greatest_each most [] k lt = absurd (omega (arith, lt))
greatest_each most (x ∷ xs) zero lt = omega (arith, ints, greatest_start (max most (above_zero x)) xs, above_zero_is x)
greatest_each most (x ∷ xs) (suc k) lt = greatest_each (max most (above_zero x)) xs k (omega (arith, lt))

pub depth_start : (depth : ℕ) (xs : List ℤ) → depth ≤ depth_over depth xs
unfolding depth_over
depth_start depth [] = omega arith
depth_start depth (x ∷ xs) = omega (arith, depth_start (max depth (above_zero (pos 0 -ℤ x))) xs)

pub depth_each : (depth : ℕ) (xs : List ℤ) (k : ℕ) → k < length xs → (pos 0 -ℤ pos (depth_over depth xs)) ≤ℤ slice_index_or xs k (pos 0)
unfolding depth_over
depth_each depth [] k lt = absurd (omega (arith, lt))
depth_each depth (x ∷ xs) zero lt = omega (arith, ints, depth_start (max depth (above_zero (pos 0 -ℤ x))) xs, above_zero_is (pos 0 -ℤ x))
depth_each depth (x ∷ xs) (suc k) lt = depth_each (max depth (above_zero (pos 0 -ℤ x))) xs k (omega (arith, lt))

module _ (item : Average) (wide : IsWideAverage item) (c : BracketCert) where
  abbrev n : ℕ
  n = average_positions item

  -- each place has a cell
  pub count_cells : map (λ cell. cell.at) c.cells ≡ map (at_place item) (range_with_len 0 n) → length c.cells ≡ n
  count_cells e = sym (length-map c.cells (λ cell. cell.at)) ∙ ap length e ∙ length-map-range_with_len (at_place item) 0 n

  pub span_is : length c.cells ≡ n → IsSpanOf n (setup_parts item) (over_in c) (span_in item c)
  span_is count =
      let overs = map (λ cell. cell.over) c.cells in
      let many : length overs ≡ n = length-map c.cells (λ cell. cell.over) ∙ count in
      record {
        most = greatest_over (setup_parts item) overs;
        depth = depth_over 0 overs;
        whole = refl;
        setup_within = greatest_start (setup_parts item) overs;
        most_within = λ k lt. greatest_each (setup_parts item) overs k (omega (arith, many, lt));
        depth_within = λ k lt. depth_each 0 overs k (omega (arith, many, lt));
      }

  -- what passes the rules is a bracket
  pub certified_bracket : map (λ cell. cell.at) c.cells ≡ map (at_place item) (range_with_len 0 n) → c.lower ≤ most_bound item → c.upper ≤ most_bound item → IsPair item c.low c.high → IsUnderTable item c.lower n (under_in c) → IsOverTable item c.upper n c.low c.high (over_in c) → IsBracket item c
  certified_bracket positions lower_small upper_small pair is_under is_over = record {
    positions = positions;
    lower_small = lower_small;
    upper_small = upper_small;
    pair = pair;
    is_under = is_under;
    is_over = is_over;
    least = bracketed item n (all_places item wide) (some_weight item wide) c.lower c.upper (span_in item c) c.low c.high pair (under_in c) (over_in c) is_under is_over (span_is (count_cells positions));
  }

-- ---- no other bracket meets the facts
module _ (item : Average) (n : ℕ) where
  pub one_lower : (g h : ℕ) (a b : ℕ → ℕ) → IsGreatestLower item n g a → IsGreatestLower item n h b → g ≡ h
  one_lower g h a b is also = omega (arith, also.bound g a is.table, is.bound h b also.table)

  pub one_under : (g h : ℕ) (a b : ℕ → ℕ) → IsGreatestLower item n g a → IsGreatestLower item n h b → (k : ℕ) → k < n → a k ≡ b k
  one_under g h a b is also k lt =
      let same = one_lower g h a b is also in
      omega (arith, also.entries a (subst (λ (x : ℕ). IsUnderTable item x n a) same is.table) k lt, is.entries b (subst (λ (x : ℕ). IsUnderTable item x n b) (sym same) also.table) k lt)

  pub one_upper : (g h : ℕ) (low high : ℤ) (a b : ℕ → ℤ) → IsLeastUpper item n g low high a → IsLeastUpper item n h low high b → g ≡ h
  one_upper g h low high a b is also = omega (arith, is.bound h b also.table, also.bound g a is.table)

  pub one_over : (g h : ℕ) (low high : ℤ) (a b : ℕ → ℤ) → IsLeastUpper item n g low high a → IsLeastUpper item n h low high b → (k : ℕ) → k < n → a k ≡ b k
  one_over g h low high a b is also k lt =
      let same = one_upper g h low high a b is also in
      Z.le_antisym (a k) (b k) (is.entries b (subst (λ (x : ℕ). IsOverTable item x n low high b) (sym same) also.table) k lt) (also.entries a (subst (λ (x : ℕ). IsOverTable item x n low high a) same is.table) k lt)

  -- the pair, with the same lower entries
  module _ (g : ℕ) (a : ℕ → ℕ) (low high other_low other_high : ℤ) (is : IsSolvedPair item n g a low high) (also : IsSolvedPair item n g a other_low other_high) where
    one_place : is.place ≡ also.place
    one_place = go (cases_lt is.place also.place) (cases_lt also.place is.place)
      where
        go : (is.place < also.place) ⊎ (also.place ≤ is.place) → (also.place < is.place) ⊎ (is.place ≤ also.place) → is.place ≡ also.place
        go (inl less) other = absurd (omega (arith, also.first is.place less, is.least also.place also.within))
        go (inr le) (inl less) = absurd (omega (arith, is.first also.place less, also.least is.place is.within))
        go (inr le) (inr ge) = omega (arith, le, ge)

    pub one_high : high ≡ other_high
    one_high = is.high_at ∙ ap (at_place item) one_place ∙ sym also.high_at

    one_orders : is.orders ≡ also.orders
    one_orders = go (cases_lt is.orders also.orders) (cases_lt also.orders is.orders)
      where
        go : (is.orders < also.orders) ⊎ (also.orders ≤ is.orders) → (also.orders < is.orders) ⊎ (is.orders ≤ also.orders) → is.orders ≡ also.orders
        go (inl less) other = absurd (is.no_more (omega (arith, less, also.orders_within, one_place)) (also.ordered is.orders less))
        go (inr le) (inl less) = absurd (also.no_more (omega (arith, less, is.orders_within, one_place)) (is.ordered also.orders less))
        go (inr le) (inr ge) = omega (arith, le, ge)

    pub one_low : low ≡ other_low
    one_low = omega (arith, ints, is.low_at, also.low_at, one_orders)
