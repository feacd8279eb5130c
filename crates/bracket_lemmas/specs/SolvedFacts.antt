-- The solver's bracket: the facts that fix it, and that it passes each rule.
use Rattle.std.proofs.Common.{◌≡◌, ℕ, suc, ◌+◌, ◌-◌, ◌*◌, ◌<◌, ◌≤◌, ℤ, pos, ◌+ℤ◌, ◌-ℤ◌, ◌≤ℤ◌, Bool, true, false, not, ◌==◌, slice_index, sum, refl, sym, ◌∙◌, ap, subst, arith, ◌⊎◌, inl, inr}
use Rattle.std.specs.Prelude.{unsigned_abs}
use Rattle.std.proofs.lemmas.Int.{ints}
use Rattle.std.proofs.lemmas.Nat.{mul-le}
use Rattle.std.proofs.lemmas.Bool.{cases_lt, false≢true, le-leb}
use Rattle.decision_model.specs.declared.average.Average.{Average}
use Rattle.decision_model.specs.Positions.{above_zero}
use Rattle.value_cert.specs.AverageLeast.{IsPair}
use Rattle.value_cert.specs.AverageValues.{at_place, moving, first_passing}
use Rattle.average_lemmas.specs.FirstPassing.{IsFirstPassing, first_passing_is}
use Rattle.average_lemmas.specs.Tables.{sum_first}
use Rattle.bracket_lemmas.specs.BracketSolved.{under_worth, under_entries, fits_under, passes_under, greatest_lower, high_place, order_count, over_step, over_entries, passes_over, least_upper}
use Rattle.value_cert.specs.BracketValues.{setup_parts, most_bound, most_over, IsUnderTable, IsOverTable}
use Rattle.bracket_lemmas.specs.GreatestUnder.{under_at, FitsUnder, under_table, under_greatest, under_fits, fits_falls, none_passes, lower_most}
use Rattle.bracket_lemmas.specs.LeastOver.{looks_over, lifted, from_lifted, over_at, over_lifted, over_least, over_falls, over_deep, over_high, over_none}
use Rattle.bracket_lemmas.specs.Listing.{listed_front}
use Rattle.bracket_lemmas.specs.RaisedTables.{IsRaisedTable, raised, lowered, raised_is, small_raised}
use Rattle.bracket_lemmas.specs.Searches.{le_known, same_known, other_known, all_known, all_from, first_least_is, front_is}
use Rattle.bracket_lemmas.specs.BracketFacts.{IsGreatestLower, IsLeastUpper, IsSolvedPair}

module _ (item : Average) (some : 1 ≤ sum (moving item.law)) (n : ℕ) (from : 1 ≤ n) (all : item.floor +ℤ pos n ≡ item.cap +ℤ pos 1) where
  -- ---- the lower bound
  pub passes_known : (g : ℕ) → passes_under item n g ≡ true → FitsUnder item some g n
  passes_known g h k lt = le_known _ _ (all_known (fits_under item g (under_at item some g n)) n h k lt)

  pub passes_from : (g : ℕ) → FitsUnder item some g n → passes_under item n g ≡ true
  passes_from g fits = all_from (fits_under item g (under_at item some g n)) n (λ k lt. le-leb _ _ (fits k lt))

  -- what some table passes with
  pub table_passes : (g : ℕ) (a : ℕ → ℕ) → IsUnderTable item g n a → passes_under item n g ≡ true
  table_passes g a table = passes_from g (under_fits item some g n a table)

  abbrev test_lower : ℕ → Bool
  test_lower h = passes_under item n (most_bound item - h)

  lower_found : IsFirstPassing test_lower 0 (first_passing test_lower 0 (suc (most_bound item))) × (first_passing test_lower 0 (suc (most_bound item)) ≤ most_bound item)
  lower_found =
      let none : most_bound item - most_bound item ≡ 0 = omega arith in
      first_passing_is test_lower 0 (suc (most_bound item)) (most_bound item) (omega arith) (omega arith) (ap (passes_under item n) none ∙ passes_from 0 (none_passes item some n))

  pub lower_passes : passes_under item n (greatest_lower item n) ≡ true
  lower_passes = lower_found.0.passes

  pub lower_bound : (g : ℕ) → g ≤ most_bound item → passes_under item n g ≡ true → g ≤ greatest_lower item n
  lower_bound g small h = go (cases_lt (greatest_lower item n) g)
    where
      go : (greatest_lower item n < g) ⊎ (g ≤ greatest_lower item n) → g ≤ greatest_lower item n
      go (inl more) =
          let back : most_bound item - (most_bound item - g) ≡ g = omega (arith, small) in
          absurd (false≢true (sym (lower_found.0.before (most_bound item - g) (omega arith) (omega (arith, more, small, lower_found.1))) ∙ ap (passes_under item n) back ∙ h))
      go (inr le) = le

  -- what passes, and not the next number, is the greatest
  pub lower_is : (g : ℕ) → g ≤ most_bound item → passes_under item n g ≡ true → (g < most_bound item → passes_under item n (suc g) ≡ false) → g ≡ greatest_lower item n
  lower_is g small h next = omega (arith, lower_bound g small h, no_more (cases_lt g (greatest_lower item n)))
    where
      no_more : (g < greatest_lower item n) ⊎ (greatest_lower item n ≤ g) → greatest_lower item n ≤ g
      no_more (inl less) =
          absurd (false≢true (sym (next (omega (arith, less))) ∙ passes_from (suc g) (fits_falls item some (suc g) (greatest_lower item n) n less (passes_known (greatest_lower item n) lower_passes))))
      no_more (inr le) = le

  abbrev lower : ℕ
  lower = greatest_lower item n

  abbrev under : ℕ → ℕ
  under = slice_index (under_entries item (greatest_lower item n) n)

  pub lower_facts : IsGreatestLower item n (greatest_lower item n) (slice_index (under_entries item (greatest_lower item n) n))
  lower_facts = record {
    table = under_table item some lower n (passes_known lower lower_passes);
    bound = λ g a table. lower_bound g (lower_most item some n all g from a table) (table_passes g a table);
    entries = λ a table k lt. under_greatest item some lower n a table n (omega arith) k lt;
  }

  -- ---- the pair
  abbrev place : ℕ
  place = high_place item lower under n

  abbrev orders : ℕ
  orders = order_count item under place

  pub high_within : place < n
  high_within = omega (arith, (first_least_is (under_worth item lower under) (n - 1)).within, from)

  pub orders_most : orders ≤ place
  orders_most = (front_is (λ j. not (under j == setup_parts item)) place).within

  pub pair_facts : IsSolvedPair item n lower under (at_place item orders -ℤ pos 1) (at_place item place)
  pair_facts =
      let is = first_least_is (under_worth item lower under) (n - 1) in
      let front = front_is (λ j. not (under j == setup_parts item)) place in
      record {
        place = place;
        within = omega (arith, is.within, from);
        high_at = refl;
        least = λ k lt. is.least k (omega (arith, lt));
        first = is.first;
        orders = orders;
        orders_within = front.within;
        low_at = omega (arith, ints);
        ordered = λ k lt. same_known (under k) (setup_parts item) (front.before k lt);
        no_more = λ less e. other_known (under orders) (setup_parts item) (front.at less) e;
      }

  -- its positions are in order on the grid
  pub pair_kept : (low high : ℤ) → IsSolvedPair item n lower under low high → IsPair item low high
  pair_kept low high is = record {
    above = omega (arith, ints, is.low_at);
    ordered = omega (arith, ints, is.low_at, is.high_at, is.orders_within);
    within = omega (arith, ints, is.high_at, is.within, all);
  }

  -- ---- the upper bound, with any pair
  module _ (high orders : ℕ) (inside : high < n) (before : orders ≤ high) where
    abbrev raise : ℕ
    raise = most_over item n

    abbrev test_upper : ℕ → Bool
    test_upper = passes_over item raise orders high

    -- the first entries of all are those of fewer places
    at_high : (g : ℕ) → over_at item some raise orders g n high ≡ slice_index (over_entries item raise orders g (suc high)) high
    at_high g = listed_front (over_step item raise orders g) (looks_over item some raise orders g) n (suc high) high inside (omega arith)

    pub upper_known : (g : ℕ) → test_upper g ≡ true → over_at item some raise orders g n high ≤ raise
    upper_known g h = omega (arith, le_known _ _ h, at_high g)

    pub upper_from : (g : ℕ) → over_at item some raise orders g n high ≤ raise → test_upper g ≡ true
    upper_from g h = le-leb _ _ (omega (arith, h, at_high g))

    -- what passes with a bound passes with each greater one
    pub upper_rises : (g more : ℕ) → g ≤ more → test_upper g ≡ true → test_upper more ≡ true
    upper_rises g more le h = upper_from more (omega (arith, upper_known g h, over_falls item some raise orders g more n le high inside))

    -- the greatest one passes
    pub most_passes : test_upper (most_bound item) ≡ true
    most_passes = upper_from (most_bound item) ((over_none item some n all orders n (omega arith) high inside).1 before)

    upper_found : IsFirstPassing test_upper 0 (least_upper item raise orders high) × (least_upper item raise orders high ≤ most_bound item)
    upper_found = first_passing_is test_upper 0 (suc (most_bound item)) (most_bound item) (omega arith) (omega arith) most_passes

    pub upper_most : least_upper item raise orders high ≤ most_bound item
    upper_most = upper_found.1

    pub upper_passes : test_upper (least_upper item raise orders high) ≡ true
    upper_passes = upper_found.0.passes

    pub upper_bound : (g : ℕ) → test_upper g ≡ true → least_upper item raise orders high ≤ g
    upper_bound g h = go (cases_lt g (least_upper item raise orders high))
      where
        go : (g < least_upper item raise orders high) ⊎ (least_upper item raise orders high ≤ g) → least_upper item raise orders high ≤ g
        go (inl less) = absurd (false≢true (sym (upper_found.0.before g (omega arith) less) ∙ h))
        go (inr le) = le

    -- what passes, and not the number before it, is the least
    pub upper_is : (g : ℕ) → test_upper g ≡ true → ((b : ℕ) → suc b ≡ g → test_upper b ≡ false) → g ≡ least_upper item raise orders high
    upper_is g h before_g = omega (arith, upper_bound g h, no_less (cases_lt (least_upper item raise orders high) g))
      where
        no_less : (least_upper item raise orders high < g) ⊎ (g ≤ least_upper item raise orders high) → g ≤ least_upper item raise orders high
        no_less (inl less) =
            let back : suc (g - 1) ≡ g = omega (arith, less) in
            absurd (false≢true (sym (before_g (g - 1) back) ∙ upper_rises (least_upper item raise orders high) (g - 1) (omega (arith, less)) upper_passes))
        no_less (inr le) = le

    -- ---- sizes
    small_entry : (t c sq bound : ℕ) → bound ≤ t + c → t ≤ sq + bound + c → sq + c ≤ bound → unsigned_abs (pos t -ℤ pos bound) ≤ bound
    small_entry t c sq bound deep high fits = omega (arith, ints, deep, high, fits)

    pub entry_small : (g : ℕ) → g ≤ most_bound item → (k : ℕ) → k < n → unsigned_abs (pos (over_at item some raise orders g n k) -ℤ pos raise) ≤ raise
    entry_small g small k lt =
        let one = sum item.law * most_bound item in
        let some_weight : 1 ≤ sum item.law = omega (arith, some, sum_first item.law) in
        let all_changes : suc k * one ≤ n * one = mul-le (suc k) one n one lt (omega arith) in
        let setup_fits : setup_parts item ≤ n * one = omega (arith, mul-le 1 (1 * most_bound item) n one from (mul-le 1 (most_bound item) (sum item.law) (most_bound item) some_weight (omega arith))) in
        small_entry (over_at item some raise orders g n k) (n * one) (setup_parts item) raise
        (omega (arith, over_deep item some n all orders g small n (omega arith) k lt, all_changes))
        (omega (arith, over_high item some n all orders g n (omega arith) k lt, all_changes))
        (omega (arith, setup_fits))

    -- ---- the table
    module _ (low : ℤ) (low_at : low +ℤ pos 1 ≡ at_place item orders) where
      -- any table has no lesser entries
      module _ (g : ℕ) (a : ℕ → ℤ) (table : IsOverTable item g n low (at_place item high) a) where
        abbrev raised_a : ℕ → ℕ
        raised_a k = above_zero (a k +ℤ pos raise)

        a_raised : (k : ℕ) → k < n → pos (raised_a k) ≡ a k +ℤ pos raise
        a_raised k lt = raised_is (a k) raise (small_raised (a k) raise (table.small k lt))

        table_raised : IsRaisedTable item g n raise low (at_place item high) raised_a
        table_raised = raised item g n raise low (at_place item high) a raised_a a_raised table

        pub table_least : (k : ℕ) → k < n → over_at item some raise orders g n k ≤ raised_a k
        table_least k lt = over_least item some raise orders g n raised_a (lifted item g n raise orders low (at_place item high) low_at raised_a table_raised) n (omega arith) k lt

        pub over_passes : test_upper g ≡ true
        over_passes = upper_from g (omega (arith, table_least high inside, table_raised.reached high inside refl))

      -- the swept entries, lowered
      module _ (g : ℕ) (a : ℕ → ℤ) (same : (k : ℕ) → k < n → pos (over_at item some raise orders g n k) ≡ a k +ℤ pos raise) where
        small_a : (k : ℕ) → k < n → g ≤ most_bound item → unsigned_abs (a k) ≤ raise
        small_a k lt small =
            let told : a k ≡ pos (over_at item some raise orders g n k) -ℤ pos raise = omega (arith, ints, same k lt) in
            subst (λ (z : ℤ). unsigned_abs z ≤ raise) (sym told) (entry_small g small k lt)

        pub upper_table : g ≤ most_bound item → test_upper g ≡ true → IsOverTable item g n low (at_place item high) a
        upper_table small h =
            lowered item g n raise low (at_place item high) a (over_at item some raise orders g n) same (λ k lt. small_a k lt small)
            (from_lifted item g n raise orders low (at_place item high) low_at (over_at item some raise orders g n) (over_lifted item some raise orders g n)
            (λ k lt e. (let here : k ≡ high = omega (arith, ints, e) in omega (arith, upper_known g h, ap (over_at item some raise orders g n) here))))

        pub over_entries_least : (b : ℕ → ℤ) → IsOverTable item g n low (at_place item high) b → (k : ℕ) → k < n → a k ≤ℤ b k
        over_entries_least b table k lt = omega (arith, ints, table_least g b table k lt, a_raised g b table k lt, same k lt)

      pub upper_facts : (a : ℕ → ℤ) → ((k : ℕ) → k < n → pos (over_at item some raise orders (least_upper item raise orders high) n k) ≡ a k +ℤ pos raise) → IsLeastUpper item n (least_upper item raise orders high) low (at_place item high) a
      upper_facts a same = record {
        table = upper_table (least_upper item raise orders high) a same upper_most upper_passes;
        bound = λ g b table. upper_bound g (over_passes g b table);
        entries = λ b table k lt. over_entries_least (least_upper item raise orders high) a same b table k lt;
      }
