-- Cells of whole tables break no rule, line by line; so a check accepts those of the solver.
use Rattle.std.proofs.Common.{◌≡◌, ℕ, zero, suc, ◌+◌, ◌*◌, ◌<◌, ◌≤◌, ℤ, pos, ◌+ℤ◌, ◌-ℤ◌, ◌*ℤ◌, ◌≤ℤ◌, ◌<ℤ◌, Bool, true, false, ◌&&◌, if◌then◌else◌, List, [], ◌∷◌, ◌++◌, length, map, slice_index, sum, Some, None, refl, sym, ◌∙◌, ap, subst, arith, nat_le, nat_lt, length-append, ◌⊎◌, inl, inr}
use Rattle.std.specs.Prelude.{int_le, unsigned_abs}
use Rattle.std.specs.List.{range_with_len}
use Rattle.std.proofs.lemmas.Int.{ints}
use Rattle.std.proofs.lemmas.Bool.{cases_lt}
use Rattle.std.proofs.lemmas.List.{get_or_append_left}
use Rattle.std.proofs.Math.Seq.{get_or-append_seam}
use Rattle.demand_law.specs.CountedSums.{counted, counted-ext}
use Rattle.demand_law.specs.Law.{weighted}
use Rattle.demand_law.specs.WeightedSums.{weighted-ext_within}
use Rattle.decision_model.specs.declared.average.Average.{Average}
use Rattle.decision_model.specs.Average.{average_positions}
use Rattle.decision_model.specs.PositionTests.{le_test}
use Rattle.value_cert.specs.AverageValues.{at_place}
use Rattle.value_cert.specs.Numbers.{is_number}
use Rattle.value_cert.specs.RuleTests.{same_number, number_at}
use Rattle.average_lemmas.specs.Orders.{by_order, no_le_test}
use Rattle.average_lemmas.specs.Tables.{lt_true}
use Rattle.value_cert.specs.BracketRules.{FirstCells, over_at, is_under_entry, is_over_entry, is_low_at_high, is_next_cell}
use Rattle.value_cert.specs.BracketValues.{setup_parts, low_cost, up_cost, entry_from, most_over, IsUnderTable, IsOverTable}
use Rattle.bracket_lemmas.specs.EntryFacts.{le_true}
use Rattle.bracket_lemmas.specs.KeptCells.{AreKept, same_from}
use Rattle.bracket_lemmas.specs.SolvedCert.{solved_lower, solved_under, solved_high, solved_orders, solved_upper, solved_over, solved_bracket}
use Rattle.bracket_lemmas.specs.SolvedFacts.{lower_facts, upper_facts, high_within, orders_most}
use Rattle.decision_model.specs.WideAverage.{IsWideAverage}
use Rattle.bracket_lemmas.specs.WideSizes.{some_moving, some_place, all_places}
use Rattle.value_cert.specs.declared.bracket.BracketCell.{BracketCell}

both : (x y : Bool) → x ≡ true → y ≡ true → (x && y) ≡ true
both x y e f = rw (e, f) refl

yes : (a b : ℤ) → a ≤ℤ b → int_le a b ≡ true
yes a b h = le_test a b h

module _ (item : Average) (lower upper : ℕ) (low high : ℤ) (a : ℕ → ℕ) (b : ℕ → ℤ) (is_under : IsUnderTable item lower (average_positions item) a) (is_over : IsOverTable item upper (average_positions item) low high b) where
  abbrev known : List ℕ → List ℤ → FirstCells
  known us os = record { rows = 2; lower = lower; upper = upper; low = low; high = high; under = us; over = os }

  abbrev cell : ℕ → BracketCell
  cell k = record { at = at_place item k; under = a k; over = b k }

  -- the entries so far are those of the tables
  record AreFirst (us : List ℕ) (os : List ℤ) (k : ℕ) : Type 0 where
    us_many : length us ≡ k
    os_many : length os ≡ k
    us_are : (j : ℕ) → j < k → slice_index us j ≡ a j
    os_are : (j : ℕ) → j < k → over_at os j ≡ b j

  -- one more of each
  more_us : (us : List ℕ) (os : List ℤ) (k : ℕ) → AreFirst us os k → (j : ℕ) → j ≤ k → slice_index (us ++ a k ∷ []) j ≡ a j
  more_us us os k first j le = go (cases_lt j k)
    where
      go : (j < k) ⊎ (k ≤ j) → slice_index (us ++ a k ∷ []) j ≡ a j
      go (inl lt) = get_or_append_left us (a k ∷ []) 0 j (omega (arith, lt, first.us_many)) ∙ first.us_are j lt
      go (inr ge) =
          let here : k ≡ j = omega (arith, le, ge) in
          subst (λ (i : ℕ). slice_index (us ++ a k ∷ []) i ≡ a i) here (ap (slice_index (us ++ a k ∷ [])) (sym first.us_many) ∙ get_or-append_seam us (a k) [] 0)

  more_os : (us : List ℕ) (os : List ℤ) (k : ℕ) → AreFirst us os k → (j : ℕ) → j ≤ k → over_at (os ++ b k ∷ []) j ≡ b j
  more_os us os k first j le = go (cases_lt j k)
    where
      go : (j < k) ⊎ (k ≤ j) → over_at (os ++ b k ∷ []) j ≡ b j
      go (inl lt) = get_or_append_left os (b k ∷ []) (pos 0) j (omega (arith, lt, first.os_many)) ∙ first.os_are j lt
      go (inr ge) =
          let here : k ≡ j = omega (arith, le, ge) in
          subst (λ (i : ℕ). over_at (os ++ b k ∷ []) i ≡ b i) here (ap (over_at (os ++ b k ∷ [])) (sym first.os_many) ∙ get_or-append_seam os (b k) [] (pos 0))

  -- ---- the rules of one place, told by its number
  under_passes : (us : List ℕ) (os : List ℤ) (k : ℕ) → k < average_positions item → AreFirst us os k → is_under_entry item lower us (pos (a k)) ≡ true
  under_passes us os k lt first =
      let e = first.us_many in
      let sums = counted-ext item.law (entry_from (setup_parts item) (slice_index (us ++ a k ∷ [])) k) (entry_from (setup_parts item) a k) (λ d within. same_from (setup_parts item) (slice_index (us ++ a k ∷ [])) a k (λ j le. more_us us os k first j le) d) in
      both (int_le (pos 0) (pos (a k))) _ (yes (pos 0) (pos (a k)) (omega (arith, ints)))
      (both (int_le (pos (a k)) (pos (setup_parts item))) _ (yes (pos (a k)) (pos (setup_parts item)) (omega (arith, ints, is_under.within k lt)))
      (subst (λ (i : ℕ). nat_le (sum item.law * a k + sum item.law * lower) (sum item.law * low_cost item i + counted item.law (entry_from (setup_parts item) (slice_index (us ++ a k ∷ [])) i)) ≡ true) (sym e)
      (le_true _ _ (omega (arith, is_under.keep k lt, sums)))))

  over_passes : (us : List ℕ) (os : List ℤ) (k : ℕ) → k < average_positions item → AreFirst us os k → is_over_entry item upper low os (at_place item k) (b k) ≡ true
  over_passes us os k lt first =
      let sums = weighted-ext_within item.law (entry_from (pos (setup_parts item)) (over_at (os ++ b k ∷ [])) k) (entry_from (pos (setup_parts item)) b k) (λ d within. same_from (pos (setup_parts item)) (over_at (os ++ b k ∷ [])) b k (λ j le. more_os us os k first j le) d) in
      both (nat_le (unsigned_abs (b k)) (most_over item (average_positions item))) _ (le_true _ _ (is_over.small k lt))
      (subst (λ (i : ℕ). (if int_le (at_place item k) low then is_number (pos (setup_parts item)) (b k) else int_le (pos (sum item.law * up_cost item i) +ℤ weighted item.law (entry_from (pos (setup_parts item)) (over_at (os ++ b k ∷ [])) i)) (pos (sum item.law) *ℤ b k +ℤ pos (sum item.law * upper))) ≡ true) (sym first.os_many)
      (by sums (by_order (at_place item k) low)))
    where
      by : weighted item.law (entry_from (pos (setup_parts item)) (over_at (os ++ b k ∷ [])) k) ≡ weighted item.law (entry_from (pos (setup_parts item)) b k) → (at_place item k ≤ℤ low) ⊎ (low <ℤ at_place item k)
          → (if int_le (at_place item k) low then is_number (pos (setup_parts item)) (b k) else int_le (pos (sum item.law * up_cost item k) +ℤ weighted item.law (entry_from (pos (setup_parts item)) (over_at (os ++ b k ∷ [])) k)) (pos (sum item.law) *ℤ b k +ℤ pos (sum item.law * upper))) ≡ true
      by sums (inl le) = ap (λ t. if t then is_number (pos (setup_parts item)) (b k) else int_le (pos (sum item.law * up_cost item k) +ℤ weighted item.law (entry_from (pos (setup_parts item)) (over_at (os ++ b k ∷ [])) k)) (pos (sum item.law) *ℤ b k +ℤ pos (sum item.law * upper))) (yes (at_place item k) low le) ∙ number_at (pos (setup_parts item)) (b k) (sym (is_over.order k lt le))
      by sums (inr above) =
          let rule : (pos (sum item.law * up_cost item k) +ℤ weighted item.law (entry_from (pos (setup_parts item)) (over_at (os ++ b k ∷ [])) k)) ≤ℤ (pos (sum item.law) *ℤ b k +ℤ pos (sum item.law * upper)) = omega (arith, ints, is_over.keep k lt above, sums) in
          ap (λ t. if t then is_number (pos (setup_parts item)) (b k) else int_le (pos (sum item.law * up_cost item k) +ℤ weighted item.law (entry_from (pos (setup_parts item)) (over_at (os ++ b k ∷ [])) k)) (pos (sum item.law) *ℤ b k +ℤ pos (sum item.law * upper))) (no_le_test (at_place item k) low above)
          ∙ yes (pos (sum item.law * up_cost item k) +ℤ weighted item.law (entry_from (pos (setup_parts item)) (over_at (os ++ b k ∷ [])) k)) (pos (sum item.law) *ℤ b k +ℤ pos (sum item.law * upper)) rule

  low_passes : (k : ℕ) → k < average_positions item → is_low_at_high high (at_place item k) (b k) ≡ true
  low_passes k lt = by (is_number high (at_place item k)) refl
    where
      by : (t : Bool) → is_number high (at_place item k) ≡ t → (if t then int_le (b k) (pos 0) else true) ≡ true
      by true e = yes (b k) (pos 0) (is_over.reached k lt (sym (same_number high (at_place item k) e)))
      by false e = refl

  -- ---- all cells from a place on
  rest_kept : (r k : ℕ) (us : List ℕ) (os : List ℤ) → k + r ≡ average_positions item → AreFirst us os k → AreKept item (known us os) (map cell (range_with_len k r))
  rest_kept zero k us os e first = omega (arith, e, first.us_many)
  rest_kept (suc r) k us os e first =
      let lt : k < average_positions item = omega (arith, e) in
      let next : is_next_cell item (known us os) (at_place item k) ≡ true = subst (λ (i : ℕ). (nat_lt i (average_positions item) && is_number (at_place item i) (at_place item k)) ≡ true) (sym first.us_many) (both (nat_lt k (average_positions item)) _ (lt_true k (average_positions item) lt) (number_at (at_place item k) (at_place item k) refl)) in
      let under = under_passes us os k lt first in
      let over = over_passes us os k lt first in
      let reached = low_passes k lt in (
        (λ i. if next i then (if under i then (if over i then (if reached i then None else Some 7) else Some 6) else Some 5) else Some 2),
        rest_kept r (k + 1) (us ++ a k ∷ []) (os ++ b k ∷ []) (omega (arith, e)) (record {
          us_many = omega (arith, first.us_many, length-append us (a k ∷ []));
          os_many = omega (arith, first.os_many, length-append os (b k ∷ []));
          us_are = λ j less. more_us us os k first j (omega (arith, less));
          os_are = λ j less. more_os us os k first j (omega (arith, less));
        }),
      )

  pub tables_kept : AreKept item (known [] []) (map cell (range_with_len 0 (average_positions item)))
  tables_kept = rest_kept (average_positions item) 0 [] [] (omega arith) (record { us_many = refl; os_many = refl; us_are = λ j lt. absurd (omega (arith, lt)); os_are = λ j lt. absurd (omega (arith, lt)) })

-- ---- the solver's cells
pub solved_kept : (item : Average) → IsWideAverage item → AreKept item (record { rows = 2; lower = (solved_bracket item).lower; upper = (solved_bracket item).upper; low = (solved_bracket item).low; high = (solved_bracket item).high; under = []; over = [] }) (solved_bracket item).cells
unfolding solved_bracket
solved_kept item wide =
    let n = average_positions item in
    let some = some_moving item wide in
    let from = some_place item wide in
    let all = all_places item wide in
    let low_at : (at_place item (solved_orders item) -ℤ pos 1) +ℤ pos 1 ≡ at_place item (solved_orders item) = omega (arith, ints) in
    let back : (k : ℕ) → k < n → pos (solved_over item k) ≡ (pos (solved_over item k) -ℤ pos (most_over item n)) +ℤ pos (most_over item n) = λ k lt. omega (arith, ints) in
    let over = upper_facts item some n from all (solved_high item) (solved_orders item) (high_within item some n from all) (orders_most item some n from all) (at_place item (solved_orders item) -ℤ pos 1) low_at (λ k. pos (solved_over item k) -ℤ pos (most_over item n)) back in
    tables_kept item (solved_lower item) (solved_upper item) (at_place item (solved_orders item) -ℤ pos 1) (at_place item (solved_high item)) (solved_under item) (λ k. pos (solved_over item k) -ℤ pos (most_over item n)) (lower_facts item some n from all).table over.table
