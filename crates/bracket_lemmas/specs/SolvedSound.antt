-- The solver's certificate is a bracket, and the one that the facts fix.
use Rattle.std.proofs.Common.{◌≡◌, ℕ, ◌+◌, ◌-◌, ◌*◌, ◌/◌, ◌<◌, ◌≤◌, ℤ, pos, ◌+ℤ◌, ◌-ℤ◌, List, [], ◌∷◌, map, slice_index, slice_index_or, sum, refl, sym, ◌∙◌, ap, arith, ◌⊎◌, inl, inr}
use Rattle.std.specs.List.{range_with_len}
use Rattle.std.proofs.lemmas.Int.{ints}
use Rattle.std.proofs.lemmas.Bool.{cases_lt}
use Rattle.demand_law.specs.CountedSums.{counted-ext}
use Rattle.bracket_lemmas.specs.BracketSolved.{under_worth}
use Rattle.bracket_lemmas.specs.EntryFacts.{from_place, from_below, past_same}
use Rattle.std.proofs.lemmas.List.{get_or-map}
use Rattle.std.proofs.lemmas.List.FromFn.{get_or-map-range_with_len, length-map-range_with_len}
use Rattle.decision_model.specs.declared.average.Average.{Average}
use Rattle.decision_model.specs.Average.{average_positions}
use Rattle.value_cert.specs.AverageValues.{at_place, moving}
use Rattle.value_cert.specs.BracketValues.{setup_parts, low_cost, entry_from, most_over, IsUnderTable}
use Rattle.value_cert.specs.Bracket.{under_in, over_in}
use Rattle.bracket_lemmas.specs.CertifiedBracket.{certified_bracket}
use Rattle.bracket_lemmas.specs.GreatestUnder.{lower_most}
use Rattle.bracket_lemmas.specs.SolvedCert.{cell_at, solved_lower, solved_under, solved_high, solved_orders, solved_over, solved_bracket}
use Rattle.bracket_lemmas.specs.SolvedFacts.{lower_facts, pair_facts, high_within, orders_most, pair_kept, upper_facts, upper_most}
use Rattle.decision_model.specs.WideAverage.{IsWideAverage}
use Rattle.bracket_lemmas.specs.WideSizes.{some_moving, some_place, all_places}
use Rattle.value_cert.specs.declared.bracket.BracketCell.{BracketCell}
use Rattle.bracket_lemmas.specs.BracketFacts.{IsGreatestLower, IsSolvedBracket, IsSolvedPair}

-- ---- tables that agree on the places
module _ (item : Average) (n : ℕ) (a b : ℕ → ℕ) (same : (k : ℕ) → k < n → a k ≡ b k) where
  entry_same : (k d : ℕ) → k < n → entry_from (setup_parts item) a k d ≡ entry_from (setup_parts item) b k d
  entry_same k d lt = go (cases_lt k d)
    where
      go : (k < d) ⊎ (d ≤ k) → entry_from (setup_parts item) a k d ≡ entry_from (setup_parts item) b k d
      go (inl less) = from_below (setup_parts item) a k d less ∙ sym (from_below (setup_parts item) b k d less)
      go (inr le) = from_place (setup_parts item) a k d le ∙ same (k - d) (omega (arith, lt)) ∙ sym (from_place (setup_parts item) b k d le)

  pub under_same : (g : ℕ) → IsUnderTable item g n b → IsUnderTable item g n a
  under_same g table = record {
    within = λ k lt. omega (arith, table.within k lt, same k lt);
    keep = λ k lt. omega (arith, table.keep k lt, ap (λ z. sum item.law * z) (same k lt), counted-ext item.law (entry_from (setup_parts item) a k) (entry_from (setup_parts item) b k) (λ d within. entry_same k d lt));
  }

  worth_same : (g k : ℕ) → k < n → under_worth item g a k ≡ under_worth item g b k
  worth_same g k lt = ap (λ p. (sum item.law * low_cost item k + p - sum item.law * g) / sum (moving item.law)) (past_same item (setup_parts item) a b k (λ j less. same j (omega (arith, less, lt))))

  pub lower_same : (g : ℕ) → IsGreatestLower item n g b → IsGreatestLower item n g a
  lower_same g is = record {
    table = under_same g is.table;
    bound = is.bound;
    entries = λ other table k lt. omega (arith, is.entries other table k lt, same k lt);
  }

  pub pair_same : (g : ℕ) (low high : ℤ) → IsSolvedPair item n g b low high → IsSolvedPair item n g a low high
  pair_same g low high is = record {
    place = is.place;
    within = is.within;
    high_at = is.high_at;
    least = λ k lt. omega (arith, is.least k lt, worth_same g is.place is.within, worth_same g k lt);
    first = λ k less. omega (arith, is.first k less, worth_same g is.place is.within, worth_same g k (omega (arith, less, is.within)));
    orders = is.orders;
    orders_within = is.orders_within;
    low_at = is.low_at;
    ordered = λ k less. same k (omega (arith, less, is.orders_within, is.within)) ∙ is.ordered k less;
    no_more = λ less e. is.no_more less (sym (same is.orders (omega (arith, less, is.within))) ∙ e);
  }

module _ (item : Average) (wide : IsWideAverage item) where
  abbrev n : ℕ
  n = average_positions item

  abbrev some : 1 ≤ sum (moving item.law)
  some = some_moving item wide

  abbrev cell_of : ℕ → BracketCell
  cell_of = cell_at item (solved_under item) (solved_over item) (most_over item n)

  -- the entries by place
  under_told : (k : ℕ) → k < n → slice_index (map (λ cell. cell.under) (map cell_of (range_with_len 0 n))) k ≡ solved_under item k
  under_told k lt =
      let none : BracketCell = record { at = pos 0; under = 0; over = pos 0 } in
      get_or-map (λ (cell : BracketCell). cell.under) (map cell_of (range_with_len 0 n)) k none 0 (omega (arith, lt, length-map-range_with_len cell_of 0 n))
      ∙ ap (λ (cell : BracketCell). cell.under) (get_or-map-range_with_len cell_of 0 n k k none lt (omega arith))

  over_told : (k : ℕ) → k < n → slice_index_or (map (λ cell. cell.over) (map cell_of (range_with_len 0 n))) k (pos 0) ≡ pos (solved_over item k) -ℤ pos (most_over item n)
  over_told k lt =
      let none : BracketCell = record { at = pos 0; under = 0; over = pos 0 } in
      get_or-map (λ (cell : BracketCell). cell.over) (map cell_of (range_with_len 0 n)) k none (pos 0) (omega (arith, lt, length-map-range_with_len cell_of 0 n))
      ∙ ap (λ (cell : BracketCell). cell.over) (get_or-map-range_with_len cell_of 0 n k k none lt (omega arith))

  pub solved_is : IsSolvedBracket item (solved_bracket item)
  unfolding solved_bracket
  solved_is =
      let lower = lower_same item n (under_in (solved_bracket item)) (solved_under item) under_told (solved_lower item) (lower_facts item some n (some_place item wide) (all_places item wide)) in
      let inside = high_within item some n (some_place item wide) (all_places item wide) in
      let before = orders_most item some n (some_place item wide) (all_places item wide) in
      let low_at : (at_place item (solved_orders item) -ℤ pos 1) +ℤ pos 1 ≡ at_place item (solved_orders item) = omega (arith, ints) in
      let pair_of = pair_facts item some n (some_place item wide) (all_places item wide) in
      let pair = pair_same item n (under_in (solved_bracket item)) (solved_under item) under_told (solved_lower item) (at_place item (solved_orders item) -ℤ pos 1) (at_place item (solved_high item)) pair_of in
      let upper = upper_facts item some n (some_place item wide) (all_places item wide) (solved_high item) (solved_orders item) inside before (at_place item (solved_orders item) -ℤ pos 1) low_at (over_in (solved_bracket item))
      (λ k lt. lowered_back (solved_over item k) (most_over item n) (over_in (solved_bracket item) k) (over_told k lt)) in
      record {
        accepted = certified_bracket item wide (solved_bracket item) positions
            (lower_most item some n (all_places item wide) (solved_lower item) (some_place item wide) (under_in (solved_bracket item)) lower.table)
            (upper_most item some n (some_place item wide) (all_places item wide) (solved_high item) (solved_orders item) inside before)
            (pair_kept item some n (some_place item wide) (all_places item wide) (at_place item (solved_orders item) -ℤ pos 1) (at_place item (solved_high item)) pair_of)
            lower.table upper.table;
        lower = lower;
        pair = pair;
        upper = upper;
      }
    where
      lowered_back : (t raise : ℕ) (z : ℤ) → z ≡ pos t -ℤ pos raise → pos t ≡ z +ℤ pos raise
      lowered_back t raise z e = omega (arith, ints, e)

      positions : map (λ cell. cell.at) (map cell_of (range_with_len 0 n)) ≡ map (at_place item) (range_with_len 0 n)
      positions = at_cells (range_with_len 0 n)
        where
          at_cells : (ks : List ℕ) → map (λ cell. cell.at) (map cell_of ks) ≡ map (at_place item) ks
          at_cells [] = refl
          at_cells (k ∷ ks) = ap (λ zs. at_place item k ∷ zs) (at_cells ks)
