-- Numbers of cells, as they are read back.
use Rattle.std.proofs.Common.{◌≡◌, ℕ, ◌^◌, ◌<◌, ◌≤◌, ℤ, pos, ◌-ℤ◌, List, length, map, slice_index, FitsSigned, to_z, of_z, rules, ◌∙◌, ap, arith}
use Rattle.std.specs.Prelude.{unsigned_abs}
use Rattle.std.specs.List.{range_with_len}
use Rattle.value_cert.specs.declared.bracket.BracketCell.{BracketCell}
use Rattle.std.proofs.lemmas.Int.{to_z-of_z}
use mir.Syntax.{w64, w128}
use Rattle.decision_model.specs.declared.average.Average.{Average}
use Rattle.decision_model.specs.Average.{average_positions}
use Rattle.value_cert.specs.AverageValues.{at_place}
use Rattle.average_lemmas.specs.PlaceSizes.{near_back}
use Rattle.bracket_lemmas.specs.BracketSolved.{high_place, under_step, under_entries, over_step, over_entries}
use Rattle.value_cert.specs.BracketValues.{most_over}
use Rattle.bracket_lemmas.specs.Listing.{length-listed}
use Rattle.bracket_lemmas.specs.SolvedCert.{cell_at, solved_bracket, solved_lower, solved_high, solved_orders, solved_upper}
use Rattle.bracket_lemmas.specs.SolvedFacts.{high_within, orders_most}
use Rattle.decision_model.specs.WideAverage.{IsWideAverage}
use Rattle.bracket_lemmas.specs.WideSizes.{some_moving, some_place, all_places, raise_small}
use Rattle.bracket_cost.proofs.UpperFacts.{entries_small}

pub entry_back : (z : ℤ) → unsigned_abs z ≤ 5316911983139663491615228241121378304 → to_z w128 (of_z w128 z) ≡ z
entry_back z small = let fits : FitsSigned w128 z = search rules in to_z-of_z w128 z fits

pub position_back : (z at : ℤ) → unsigned_abs z ≤ 2000000 → z ≡ at → to_z w64 (of_z w64 z) ≡ at
position_back z at small e = near_back z (omega (arith, small)) ∙ e

pub low_back : (z x at : ℤ) → unsigned_abs z ≤ 3000000 → unsigned_abs x ≤ 2000000 → z ≡ to_z w64 (of_z w64 x) -ℤ pos 1 → x ≡ at → to_z w64 (of_z w64 z) ≡ at -ℤ pos 1
low_back z x at small near e is = near_back z (omega (arith, small)) ∙ e ∙ ap (λ y. y -ℤ pos 1) (position_back x at near is)

module _ (item : Average) (wide : IsWideAverage item) where
  pub high_inside : solved_high item < average_positions item
  high_inside = high_within item (some_moving item wide) (average_positions item) (some_place item wide) (all_places item wide)

  pub orders_before : solved_orders item ≤ solved_high item
  orders_before = orders_most item (some_moving item wide) (average_positions item) (some_place item wide) (all_places item wide)

  pub count_under : (xs : List ℕ) → xs ≡ under_entries item (solved_lower item) (average_positions item) → length xs ≡ average_positions item
  count_under xs e = ap length e ∙ length-listed (under_step item (solved_lower item)) (average_positions item)

  pub count_over : (xs : List ℕ) → xs ≡ over_entries item (most_over item (average_positions item)) (solved_orders item) (solved_upper item) (average_positions item) → length xs ≡ average_positions item
  count_over xs e = ap length e ∙ length-listed (over_step item (most_over item (average_positions item)) (solved_orders item) (solved_upper item)) (average_positions item)

  pub small_over : (xs : List ℕ) → xs ≡ over_entries item (most_over item (average_positions item)) (solved_orders item) (solved_upper item) (average_positions item) → (k : ℕ) → k < length xs → slice_index xs k ≤ 2 ^ 122
  small_over xs e k lt = omega (arith, entries_small item wide (solved_orders item) (solved_upper item) (average_positions item) (omega arith) xs e k lt, raise_small item wide)

  high_from : (lower high : ℕ) → lower ≡ solved_lower item → high ≡ high_place item lower (slice_index (under_entries item lower (average_positions item))) (average_positions item) → high ≡ solved_high item
  high_from lower high e is = is ∙ ap (λ g. high_place item g (slice_index (under_entries item g (average_positions item))) (average_positions item)) e

  pub high_fits : (lower high : ℕ) (xs : List ℕ) → lower ≡ solved_lower item → high ≡ high_place item lower (slice_index (under_entries item lower (average_positions item))) (average_positions item) → xs ≡ under_entries item lower (average_positions item) → high ≤ length xs
  high_fits lower high xs e is are = omega (arith, high_inside, high_from lower high e is, ap length are, length-listed (under_step item lower) (average_positions item))

  -- ---- the whole certificate
  pub cert_told : (lower upper high orders : ℕ) (low_at high_at : ℤ) (under over : List ℕ) (cells : List BracketCell) → lower ≡ solved_lower item → upper ≡ solved_upper item → high ≡ solved_high item → orders ≡ solved_orders item
      → low_at ≡ at_place item orders -ℤ pos 1 → high_at ≡ at_place item high → under ≡ under_entries item (solved_lower item) (average_positions item)
      → over ≡ over_entries item (most_over item (average_positions item)) (solved_orders item) (solved_upper item) (average_positions item)
      → cells ≡ map (cell_at item (slice_index under) (slice_index over) (most_over item (average_positions item))) (range_with_len 0 (average_positions item))
      → record { lower = lower; upper = upper; low = low_at; high = high_at; cells = cells } ≡ solved_bracket item
  unfolding solved_bracket
  cert_told lower upper high orders low_at high_at under over cells l u h o la ha un ov cs = λ i. record {
    lower = l i;
    upper = u i;
    low = (la ∙ ap (λ k. at_place item k -ℤ pos 1) o) i;
    high = (ha ∙ ap (at_place item) h) i;
    cells = (cs ∙ (λ j. map (cell_at item (slice_index (un j)) (slice_index (ov j)) (most_over item (average_positions item))) (range_with_len 0 (average_positions item)))) i;
  }
