-- Lines of cells that break no rule hold the tables of a bracket.
use Rattle.std.proofs.Common.{◌≡◌, ℕ, ◌+◌, ◌-◌, ◌*◌, ◌<◌, ◌≤◌, ℤ, pos, ◌+ℤ◌, ◌*ℤ◌, ◌≤ℤ◌, ◌<ℤ◌, Bool, true, false, if◌then◌else◌, IsTrue, List, [], ◌∷◌, ◌++◌, length, map, slice_index, slice_index_or, sum, Option, Some, None, refl, sym, ◌∙◌, ap, subst, arith, nat_le, nat_lt, length-append, ◌⊎◌, inl, inr}
use Rattle.std.specs.Prelude.{int_le, unsigned_abs}
use Rattle.std.proofs.lemmas.Int.{ints}
use Rattle.std.proofs.lemmas.Bool.{and_parts, cases_lt}
use Rattle.std.proofs.lemmas.Bool.Decides.{nat_tests}
use Rattle.std.proofs.lemmas.List.{append_assoc, get_or_append_left}
use Rattle.std.proofs.Math.Seq.{get_or-append_seam}
use Rattle.demand_law.specs.CountedSums.{counted, counted-ext}
use Rattle.demand_law.specs.Law.{weighted}
use Rattle.demand_law.specs.WeightedSums.{weighted-ext_within}
use Rattle.decision_model.specs.declared.average.Average.{Average}
use Rattle.decision_model.specs.Average.{average_positions}
use Rattle.decision_model.specs.PositionTests.{le_known, le_test}
use Rattle.value_cert.specs.AverageValues.{at_place}
use Rattle.value_cert.specs.Numbers.{is_number}
use Rattle.average_lemmas.specs.Orders.{no_le_test}
use Rattle.value_cert.specs.RuleTests.{same_number, number_at}
use Rattle.value_cert.specs.BracketRules.{FirstCells, over_at, is_under_entry, is_over_entry, is_low_at_high, is_next_cell, cell_rule, named_cell}
use Rattle.value_cert.specs.BracketValues.{setup_parts, low_cost, up_cost, entry_from, most_bound, most_over, IsUnderTable, IsOverTable}
use Rattle.bracket_lemmas.specs.EntryFacts.{from_place, from_below}
use Rattle.std.specs.List.{range_with_len}
use Rattle.value_cert.specs.AverageLeast.{IsPair}
use Rattle.value_cert.specs.BracketRules.{IsBracket}
use Rattle.bracket_lemmas.specs.CertifiedBracket.{certified_bracket}
use Rattle.decision_model.specs.WideAverage.{IsWideAverage}
use Rattle.value_cert.specs.declared.bracket.BracketCell.{BracketCell}
use Rattle.value_cert.specs.declared.bracket.BracketCert.{BracketCert}

-- each cell breaks no rule behind those before it, and each position has one
abbrev pub AreKept : Average → FirstCells → List BracketCell → Type 0
AreKept item first [] = length first.under ≡ average_positions item
AreKept item first (cell ∷ cells) = (cell_rule item first cell.at (pos cell.under) cell.over ≡ None) × AreKept item (named_cell first (pos cell.under) cell.over) cells

-- ---- tests
passes : (b : Bool) (later : Option ℕ) (rule : ℕ) → (if b then later else Some rule) ≡ None → IsTrue b × (later ≡ None)
passes true later rule h = (refl, h)
passes false later rule h = cc

le_says : (a b : ℕ) → IsTrue (nat_le a b) → a ≤ b
le_says a b h = grind (arith, nat_tests)

lt_says : (a b : ℕ) → IsTrue (nat_lt a b) → a < b
lt_says a b h = grind (arith, nat_tests)

-- ---- entries up to a place
pub same_from : {X : Type 0} (below : X) (a b : ℕ → X) (k : ℕ) → ((j : ℕ) → j ≤ k → a j ≡ b j) → (d : ℕ) → entry_from below a k d ≡ entry_from below b k d
same_from below a b k same d = go (cases_lt k d)
  where
    go : (k < d) ⊎ (d ≤ k) → entry_from below a k d ≡ entry_from below b k d
    go (inl lt) = from_below below a k d lt ∙ sym (from_below below b k d lt)
    go (inr le) = from_place below a k d le ∙ same (k - d) (omega arith) ∙ sym (from_place below b k d le)

front_same : {X : Type 0} (xs : List X) (x : X) (later : List X) (none : X) (j : ℕ) → j ≤ length xs → slice_index_or (xs ++ x ∷ []) j none ≡ slice_index_or (xs ++ x ∷ later) j none
front_same xs x later none j le = go (cases_lt j (length xs))
  where
    go : (j < length xs) ⊎ (length xs ≤ j) → slice_index_or (xs ++ x ∷ []) j none ≡ slice_index_or (xs ++ x ∷ later) j none
    go (inl lt) = get_or_append_left xs (x ∷ []) none j lt ∙ sym (get_or_append_left xs (x ∷ later) none j lt)
    go (inr ge) =
        let end : length xs ≡ j = omega (arith, le, ge) in
        subst (λ (i : ℕ). slice_index_or (xs ++ x ∷ []) i none ≡ slice_index_or (xs ++ x ∷ later) i none) end (get_or-append_seam xs x [] none ∙ sym (get_or-append_seam xs x later none))

-- ---- one place of whole tables
pub record HoldsCell (item : Average) (lower upper : ℕ) (low high : ℤ) (a : ℕ → ℕ) (b : ℕ → ℤ) (k : ℕ) (at : ℤ) : Type 0 where
  pub inside : k < average_positions item
  pub position : at ≡ at_place item k
  pub within : a k ≤ setup_parts item
  pub under : sum item.law * a k + sum item.law * lower ≤ sum item.law * low_cost item k + counted item.law (entry_from (setup_parts item) a k)
  pub small : unsigned_abs (b k) ≤ most_over item (average_positions item)
  pub order : at_place item k ≤ℤ low → b k ≡ pos (setup_parts item)
  pub over : low <ℤ at_place item k → (pos (sum item.law * up_cost item k) +ℤ weighted item.law (entry_from (pos (setup_parts item)) b k)) ≤ℤ (pos (sum item.law) *ℤ b k +ℤ pos (sum item.law * upper))
  pub reached : at_place item k ≡ high → b k ≤ℤ pos 0

module _ (item : Average) (lower upper : ℕ) (low high : ℤ) where
  abbrev known : List ℕ → List ℤ → FirstCells
  known us os = record { rows = 2; lower = lower; upper = upper; low = low; high = high; under = us; over = os }

  cell_holds : (us later_us : List ℕ) (os later_os : List ℤ) (cell : BracketCell) → length os ≡ length us → cell_rule item (known us os) cell.at (pos cell.under) cell.over ≡ None
      → HoldsCell item lower upper low high (slice_index (us ++ cell.under ∷ later_us)) (over_at (os ++ cell.over ∷ later_os)) (length us) cell.at
  cell_holds us later_us os later_os cell same none =
      let k = length us in
      let u = cell.under in
      let o = cell.over in
      let next = passes (is_next_cell item (known us os) cell.at) _ 2 none in
      let under_entry = passes (is_under_entry item lower us (pos u)) _ 5 next.1 in
      let over_entry = passes (is_over_entry item upper low os cell.at o) _ 6 under_entry.1 in
      let high_entry = passes (is_low_at_high high cell.at o) _ 7 over_entry.1 in
      let place = and_parts (nat_lt k (average_positions item)) (is_number (at_place item k) cell.at) next.0 in
      let position = sym (same_number (at_place item k) cell.at place.1) in
      let a = slice_index (us ++ u ∷ later_us) in
      let b = over_at (os ++ o ∷ later_os) in
      let a_here : a k ≡ u = get_or-append_seam us u later_us 0 in
      let b_here : b k ≡ o = ap b (sym same) ∙ get_or-append_seam os o later_os (pos 0) in
      let lows = and_parts (int_le (pos 0) (pos u)) _ under_entry.0 in
      let tops = and_parts (int_le (pos u) (pos (setup_parts item))) _ lows.1 in
      let sums = counted-ext item.law (entry_from (setup_parts item) (slice_index (us ++ u ∷ [])) k) (entry_from (setup_parts item) a k) (λ d lt. same_from (setup_parts item) (slice_index (us ++ u ∷ [])) a k (λ j le. front_same us u later_us 0 j le) d) in
      let smalls = and_parts (nat_le (unsigned_abs o) (most_over item (average_positions item))) _ over_entry.0 in
      record {
        inside = lt_says k (average_positions item) place.0;
        position = position;
        within = omega (arith, ints, a_here, le_known (pos u) (pos (setup_parts item)) tops.0);
        under = omega (arith, le_says _ _ tops.1, sums, ap (λ z. sum item.law * z) a_here);
        small = omega (arith, ap unsigned_abs b_here, le_says _ _ smalls.0);
        order = λ le. b_here ∙ ordered (int_le cell.at low) _ smalls.1 (le_test cell.at low (subst (λ (z : ℤ). z ≤ℤ low) (sym position) le));
        over = λ above. over_there u o cell.at same position above smalls.1 b_here;
        reached = λ e. subst (λ (z : ℤ). z ≤ℤ pos 0) (sym b_here) (le_known o (pos 0) (low_there (is_number high cell.at) high_entry.0 (number_at high cell.at (sym (position ∙ e)))));
      }
    where
      ordered : (t y : Bool) → IsTrue (if t then is_number (pos (setup_parts item)) cell.over else y) → IsTrue t → cell.over ≡ pos (setup_parts item)
      ordered true y h is = sym (same_number (pos (setup_parts item)) cell.over h)
      ordered false y h is = cc

      low_there : (t : Bool) → IsTrue (if t then int_le cell.over (pos 0) else true) → t ≡ true → IsTrue (int_le cell.over (pos 0))
      low_there true h is = h
      low_there false h is = cc

      kept : (t x y : Bool) → IsTrue (if t then x else y) → t ≡ false → IsTrue y
      kept true x y h is = cc
      kept false x y h is = h

      over_there : (u : ℕ) (o at : ℤ) → length os ≡ length us → at ≡ at_place item (length us) → low <ℤ at_place item (length us)
          → IsTrue (if int_le at low then is_number (pos (setup_parts item)) o else int_le (pos (sum item.law * up_cost item (length os)) +ℤ weighted item.law (entry_from (pos (setup_parts item)) (over_at (os ++ o ∷ [])) (length os))) (pos (sum item.law) *ℤ o +ℤ pos (sum item.law * upper)))
          → over_at (os ++ o ∷ later_os) (length us) ≡ o
          → (pos (sum item.law * up_cost item (length us)) +ℤ weighted item.law (entry_from (pos (setup_parts item)) (over_at (os ++ o ∷ later_os)) (length us))) ≤ℤ (pos (sum item.law) *ℤ over_at (os ++ o ∷ later_os) (length us) +ℤ pos (sum item.law * upper))
      over_there u o at many position above h here =
          let not_low : int_le at low ≡ false = no_le_test at low (subst (λ (z : ℤ). low <ℤ z) (sym position) above) in
          let rule : (pos (sum item.law * up_cost item (length os)) +ℤ weighted item.law (entry_from (pos (setup_parts item)) (over_at (os ++ o ∷ [])) (length os))) ≤ℤ (pos (sum item.law) *ℤ o +ℤ pos (sum item.law * upper)) =
          le_known (pos (sum item.law * up_cost item (length os)) +ℤ weighted item.law (entry_from (pos (setup_parts item)) (over_at (os ++ o ∷ [])) (length os))) (pos (sum item.law) *ℤ o +ℤ pos (sum item.law * upper)) (kept (int_le at low) (is_number (pos (setup_parts item)) o) (int_le (pos (sum item.law * up_cost item (length os)) +ℤ weighted item.law (entry_from (pos (setup_parts item)) (over_at (os ++ o ∷ [])) (length os))) (pos (sum item.law) *ℤ o +ℤ pos (sum item.law * upper))) h not_low) in
          let sums = weighted-ext_within item.law (entry_from (pos (setup_parts item)) (over_at (os ++ o ∷ [])) (length os)) (entry_from (pos (setup_parts item)) (over_at (os ++ o ∷ later_os)) (length os)) (λ d lt. same_from (pos (setup_parts item)) (over_at (os ++ o ∷ [])) (over_at (os ++ o ∷ later_os)) (length os) (λ j le. front_same os o later_os (pos 0) j le) d) in
          let there : (pos (sum item.law * up_cost item (length os)) +ℤ weighted item.law (entry_from (pos (setup_parts item)) (over_at (os ++ o ∷ later_os)) (length os))) ≤ℤ (pos (sum item.law) *ℤ o +ℤ pos (sum item.law * upper)) = omega (arith, ints, rule, sums) in
          subst (λ (z : ℤ). (pos (sum item.law * up_cost item (length us)) +ℤ weighted item.law (entry_from (pos (setup_parts item)) (over_at (os ++ o ∷ later_os)) (length us))) ≤ℤ (pos (sum item.law) *ℤ z +ℤ pos (sum item.law * upper))) (sym here)
          (subst (λ (k : ℕ). (pos (sum item.law * up_cost item k) +ℤ weighted item.law (entry_from (pos (setup_parts item)) (over_at (os ++ o ∷ later_os)) k)) ≤ℤ (pos (sum item.law) *ℤ o +ℤ pos (sum item.law * upper))) many there)

  -- each place from the first of the cells on
  kept_from : (cells : List BracketCell) (us : List ℕ) (os : List ℤ) → length os ≡ length us → AreKept item (known us os) cells → (k : ℕ) → length us ≤ k → k < average_positions item
      → (at : ℤ) × HoldsCell item lower upper low high (slice_index (us ++ map (λ cell. cell.under) cells)) (over_at (os ++ map (λ cell. cell.over) cells)) k at
  kept_from [] us os same whole k le lt = absurd (omega (arith, le, lt, whole))
  kept_from (cell ∷ cells) us os same (none, later) k le lt =
      by (cases_lt (length us) k)
      (λ more. kept_from cells (us ++ cell.under ∷ []) (os ++ cell.over ∷ []) (omega (arith, same, length-append us (cell.under ∷ []), length-append os (cell.over ∷ []))) later k (omega (arith, more, length-append us (cell.under ∷ []))) lt)
    where
      by : (length us < k) ⊎ (k ≤ length us)
          → (length us < k → (at : ℤ) × HoldsCell item lower upper low high (slice_index ((us ++ cell.under ∷ []) ++ map (λ cell. cell.under) cells)) (over_at ((os ++ cell.over ∷ []) ++ map (λ cell. cell.over) cells)) k at)
          → (at : ℤ) × HoldsCell item lower upper low high (slice_index (us ++ cell.under ∷ map (λ cell. cell.under) cells)) (over_at (os ++ cell.over ∷ map (λ cell. cell.over) cells)) k at
      by (inl more) rest =
          subst (λ (xs : List ℕ). (at : ℤ) × HoldsCell item lower upper low high (slice_index xs) (over_at (os ++ cell.over ∷ map (λ cell. cell.over) cells)) k at) (append_assoc us (cell.under ∷ []) (map (λ cell. cell.under) cells))
          (subst (λ (ys : List ℤ). (at : ℤ) × HoldsCell item lower upper low high (slice_index ((us ++ cell.under ∷ []) ++ map (λ cell. cell.under) cells)) (over_at ys) k at) (append_assoc os (cell.over ∷ []) (map (λ cell. cell.over) cells)) (rest more))
      by (inr fewer) rest =
          let here : length us ≡ k = omega (arith, le, fewer) in (
            cell.at,
            subst (λ (j : ℕ). HoldsCell item lower upper low high (slice_index (us ++ cell.under ∷ map (λ cell. cell.under) cells)) (over_at (os ++ cell.over ∷ map (λ cell. cell.over) cells)) j cell.at) here
                (cell_holds us (map (λ cell. cell.under) cells) os (map (λ cell. cell.over) cells) cell same none),
          )

  -- so kept cells hold both tables
  pub kept_under : (cells : List BracketCell) → AreKept item (known [] []) cells → IsUnderTable item lower (average_positions item) (slice_index (map (λ cell. cell.under) cells))
  kept_under cells are = record {
    within = λ k lt. (kept_from cells [] [] refl are k (omega arith) lt).1.within;
    keep = λ k lt. (kept_from cells [] [] refl are k (omega arith) lt).1.under;
  }

  pub kept_over : (cells : List BracketCell) → AreKept item (known [] []) cells → IsOverTable item upper (average_positions item) low high (over_at (map (λ cell. cell.over) cells))
  kept_over cells are = record {
    small = λ k lt. (kept_from cells [] [] refl are k (omega arith) lt).1.small;
    order = λ k lt le. (kept_from cells [] [] refl are k (omega arith) lt).1.order le;
    keep = λ k lt above. (kept_from cells [] [] refl are k (omega arith) lt).1.over above;
    reached = λ k lt e. (kept_from cells [] [] refl are k (omega arith) lt).1.reached e;
  }

  -- the cells have the positions of the grid, each once and in order
  kept_places : (cells : List BracketCell) (us : List ℕ) (os : List ℤ) → length os ≡ length us → AreKept item (known us os) cells
      → (map (λ cell. cell.at) cells ≡ map (at_place item) (range_with_len (length us) (length cells))) × (length us + length cells ≡ average_positions item)
  kept_places [] us os same whole = (refl, omega (arith, whole))
  kept_places (cell ∷ cells) us os same (none, later) =
      let more : length (us ++ cell.under ∷ []) ≡ length us + 1 = length-append us (cell.under ∷ []) in
      let rest = kept_places cells (us ++ cell.under ∷ []) (os ++ cell.over ∷ []) (omega (arith, same, more, length-append os (cell.over ∷ []))) later in
      let position = (cell_holds us [] os [] cell same none).position in
      let others : map (λ cell. cell.at) cells ≡ map (at_place item) (range_with_len (length us + 1) (length cells)) = rest.0 ∙ ap (λ a. map (at_place item) (range_with_len a (length cells))) more in
      ((λ i. position i ∷ others i), omega (arith, rest.1, more))

  pub kept_positions : (cells : List BracketCell) → AreKept item (known [] []) cells → map (λ cell. cell.at) cells ≡ map (at_place item) (range_with_len 0 (average_positions item))
  kept_positions cells are =
      let is = kept_places cells [] [] refl are in
      let many : length cells ≡ average_positions item = omega (arith, is.1) in
      is.0 ∙ ap (λ m. map (at_place item) (range_with_len 0 m)) many

-- ---- what a check accepts bounds every number of periods
pub accepted_bracket : (item : Average) → IsWideAverage item → (c : BracketCert) → c.lower ≤ most_bound item → c.upper ≤ most_bound item → IsPair item c.low c.high
    → AreKept item (record { rows = 2; lower = c.lower; upper = c.upper; low = c.low; high = c.high; under = []; over = [] }) c.cells → IsBracket item c
accepted_bracket item wide c lower_small upper_small pair are =
    certified_bracket item wide c (kept_positions item c.lower c.upper c.low c.high c.cells are) lower_small upper_small pair (kept_under item c.lower c.upper c.low c.high c.cells are) (kept_over item c.lower c.upper c.low c.high c.cells are)
