-- The rules of a place, as code tests them: demand 0 on neither side, and upper entries raised.
use Rattle.std.proofs.Common.{◌≡◌, ℕ, ◌+◌, ◌*◌, ◌<◌, ◌≤◌, ℤ, pos, ◌+ℤ◌, ◌*ℤ◌, ◌≤ℤ◌, true, false, ◌&&◌, if◌then◌else◌, List, [], ◌∷◌, ◌++◌, length, slice_index, sum, refl, sym, ◌∙◌, ap, subst, arith, nat_le, ◌⊎◌, inl, inr}
use Rattle.std.specs.Prelude.{int_le, unsigned_abs}
use Rattle.std.proofs.lemmas.Int.{ints}
use Rattle.std.proofs.lemmas.Bool.Decides.{nat_tests}
use Rattle.std.proofs.lemmas.Bool.{cases_lt}
use Rattle.std.proofs.lemmas.List.{get_or_append_left}
use Rattle.std.proofs.Math.Seq.{get_or-append_seam}
use Rattle.demand_law.specs.CountedSums.{counted}
use Rattle.demand_law.specs.Integers as Z
use Rattle.demand_law.specs.Law.{weighted}
use Rattle.decision_model.specs.declared.average.Average.{Average}
use Rattle.value_cert.specs.AverageValues.{moving}
use Rattle.average_lemmas.specs.Entries.{entry_before, entry_last}
use Rattle.average_lemmas.specs.Tables.{sum_first}
use Rattle.decision_model.specs.Average.{average_positions}
use Rattle.value_cert.specs.Numbers.{is_number}
use Rattle.value_cert.specs.BracketRules.{over_at, is_under_entry, is_over_entry}
use Rattle.bracket_lemmas.specs.BracketSolved.{under_gain, over_gain}
use Rattle.value_cert.specs.BracketValues.{setup_parts, low_cost, up_cost, entry_from, most_over}
use Rattle.bracket_lemmas.specs.EntryFacts.{past_same, all_after}
use Rattle.bracket_lemmas.specs.RaisedTables.{raised_sum}

-- ---- plain tests
-- what stands on both sides may be left out
test_shift : (a b c x y : ℕ) → x ≡ a + c → y ≡ b + c → nat_le x y ≡ nat_le a b
test_shift a b c x y e f = go (cases_lt b a)
  where
    go : (b < a) ⊎ (a ≤ b) → nat_le x y ≡ nat_le a b
    go (inl lt) = no x y (omega (arith, lt, e, f)) ∙ sym (no a b lt)
      where
        no : (p q : ℕ) → q < p → nat_le p q ≡ false
        no p q h = grind (arith, nat_tests)
    go (inr le) = yes x y (omega (arith, le, e, f)) ∙ sym (yes a b le)
      where
        yes : (p q : ℕ) → p ≤ q → nat_le p q ≡ true
        yes p q h = grind (arith, nat_tests)

-- the same over whole numbers
test_lowered : (a b : ℕ) (x y z : ℤ) → pos a ≡ x +ℤ z → pos b ≡ y +ℤ z → int_le x y ≡ nat_le a b
test_lowered a b x y z e f = go (cases_lt b a)
  where
    go : (b < a) ⊎ (a ≤ b) → int_le x y ≡ nat_le a b
    go (inl lt) = no x y (omega (arith, ints, lt, e, f)) ∙ sym (nat_no a b lt)
      where
        no : (p q : ℤ) → (q +ℤ pos 1) ≤ℤ p → int_le p q ≡ false
        no p q h = grind (arith, ints)

        nat_no : (p q : ℕ) → q < p → nat_le p q ≡ false
        nat_no p q h = grind (arith, nat_tests)
    go (inr le) = yes x y (omega (arith, ints, le, e, f)) ∙ sym (nat_yes a b le)
      where
        yes : (p q : ℤ) → p ≤ℤ q → int_le p q ≡ true
        yes p q h = grind (arith, ints)

        nat_yes : (p q : ℕ) → p ≤ q → nat_le p q ≡ true
        nat_yes p q h = grind (arith, nat_tests)

-- ---- lower entries
pub under_test : (item : Average) (lower : ℕ) (under : List ℕ) (entry : ℕ)
    → nat_le (sum item.law * entry + sum item.law * lower) (sum item.law * low_cost item (length under) + counted item.law (entry_from (setup_parts item) (slice_index (under ++ entry ∷ [])) (length under)))
    ≡ nat_le (sum (moving item.law) * entry + sum item.law * lower) (under_gain item (slice_index under) (length under))
under_test item lower under entry =
    let k = length under in
    let a = slice_index (under ++ entry ∷ []) in
    let here : a k ≡ entry = entry_last under entry k refl in
    let before = past_same item (setup_parts item) a (slice_index under) k (λ j lt. entry_before under entry j lt) in
    let split = all_after item (setup_parts item) a k in
    test_shift (sum (moving item.law) * entry + sum item.law * lower) (under_gain item (slice_index under) k) (slice_index item.law 0 * entry) _ _
    (omega (arith, ap (λ z. z * entry) (sum_first item.law)))
    (omega (arith, split, before, ap (λ z. slice_index item.law 0 * z) here))

-- ---- upper entries
-- a list of raised entries
pub record AreRaised (raise : ℕ) (ts : List ℕ) (over : List ℤ) : Type 0 where
  pub many : length ts ≡ length over
  pub each : (k : ℕ) → k < length over → pos (slice_index ts k) ≡ over_at over k +ℤ pos raise

-- no entries
pub no_raised : (raise : ℕ) → AreRaised raise [] []
no_raised raise = record { many = refl; each = λ k lt. absurd (omega (arith, lt)) }

over_before : (over : List ℤ) (entry : ℤ) (k : ℕ) → k < length over → over_at (over ++ entry ∷ []) k ≡ over_at over k
over_before over entry k lt = get_or_append_left over (entry ∷ []) (pos 0) k lt

over_last : (over : List ℤ) (entry : ℤ) → over_at (over ++ entry ∷ []) (length over) ≡ entry
over_last over entry = get_or-append_seam over entry [] (pos 0)

pub over_test : (item : Average) (upper raise : ℕ) (ts : List ℕ) (over : List ℤ) (t : ℕ) (entry : ℤ) → AreRaised raise ts over → pos t ≡ entry +ℤ pos raise
    → int_le (pos (sum item.law * up_cost item (length over)) +ℤ weighted item.law (entry_from (pos (setup_parts item)) (over_at (over ++ entry ∷ [])) (length over))) (pos (sum item.law) *ℤ entry +ℤ pos (sum item.law * upper))
    ≡ nat_le (over_gain item raise (slice_index ts) (length ts)) (sum (moving item.law) * t + sum item.law * upper)
over_test item upper raise ts over t entry are same =
    let k = length over in
    let a = over_at (over ++ entry ∷ []) in
    let b = slice_index (ts ++ t ∷ []) in
    let here : b k ≡ t = entry_last ts t k are.many in
    let each : (j : ℕ) → j ≤ k → pos (b j) ≡ a j +ℤ pos raise = raised_more in
    let sums = raised_sum item.law (setup_parts item) raise a b k each in
    let before = past_same item (setup_parts item + raise) b (slice_index ts) k (λ j lt. entry_before ts t j (omega (arith, lt, are.many))) in
    let split = all_after item (setup_parts item + raise) b k in
    let product : pos (sum item.law * t) ≡ pos (sum item.law) *ℤ entry +ℤ pos (sum item.law * raise) = ap (λ z. pos (sum item.law) *ℤ z) same ∙ Z.mul_add (pos (sum item.law)) entry (pos raise) in
    let lowered = test_lowered (sum item.law * up_cost item k + counted item.law (entry_from (setup_parts item + raise) b k)) (sum item.law * t + sum item.law * upper)
    (pos (sum item.law * up_cost item k) +ℤ weighted item.law (entry_from (pos (setup_parts item)) a k)) (pos (sum item.law) *ℤ entry +ℤ pos (sum item.law * upper)) (pos (sum item.law * raise))
    (omega (arith, ints, sums)) (omega (arith, ints, product)) in
    lowered
    ∙ test_shift (over_gain item raise (slice_index ts) k) (sum (moving item.law) * t + sum item.law * upper) (slice_index item.law 0 * t) _ _
    (omega (arith, split, before, ap (λ z. slice_index item.law 0 * z) here))
    (omega (arith, ap (λ z. z * t) (sum_first item.law)))
    ∙ ap (λ j. nat_le (over_gain item raise (slice_index ts) j) (sum (moving item.law) * t + sum item.law * upper)) (sym are.many)
  where
    raised_more : (j : ℕ) → j ≤ length over → pos (slice_index (ts ++ t ∷ []) j) ≡ over_at (over ++ entry ∷ []) j +ℤ pos raise
    raised_more j le = go (cases_lt j (length over))
      where
        go : (j < length over) ⊎ (length over ≤ j) → pos (slice_index (ts ++ t ∷ []) j) ≡ over_at (over ++ entry ∷ []) j +ℤ pos raise
        go (inl lt) = ap pos (entry_before ts t j (omega (arith, lt, are.many))) ∙ are.each j lt ∙ ap (λ z. z +ℤ pos raise) (sym (over_before over entry j lt))
        go (inr ge) =
            let end : length over ≡ j = omega (arith, le, ge) in
            subst (λ (i : ℕ). pos (slice_index (ts ++ t ∷ []) i) ≡ over_at (over ++ entry ∷ []) i +ℤ pos raise) end
            (ap pos (entry_last ts t (length over) are.many) ∙ same ∙ ap (λ z. z +ℤ pos raise) (sym (over_last over entry)))

-- ---- the whole rules, behind the tests that come first
int_yes : (p q : ℤ) → p ≤ℤ q → int_le p q ≡ true
int_yes p q h = grind (arith, ints)

pub under_rule : (item : Average) (lower : ℕ) (under : List ℕ) (entry : ℤ) (e : ℕ) → e ≡ unsigned_abs entry → pos 0 ≤ℤ entry → e ≤ setup_parts item
    → nat_le (sum (moving item.law) * e + sum item.law * lower) (under_gain item (slice_index under) (length under)) ≡ is_under_entry item lower under entry
under_rule item lower under entry e same low within =
    ap (λ m. nat_le (sum (moving item.law) * m + sum item.law * lower) (under_gain item (slice_index under) (length under))) same
    ∙ sym (under_test item lower under (unsigned_abs entry))
    ∙ (λ i. sym (int_yes (pos 0) entry low) i && (sym (int_yes entry (pos (setup_parts item)) (omega (arith, ints, same, within, low))) i && nat_le (sum item.law * unsigned_abs entry + sum item.law * lower) (sum item.law * low_cost item (length under) + counted item.law (entry_from (setup_parts item) (slice_index (under ++ unsigned_abs entry ∷ [])) (length under)))))

pub over_rule : (item : Average) (upper : ℕ) (low : ℤ) (ts : List ℕ) (over : List ℤ) (t : ℕ) (at entry : ℤ) → AreRaised (most_over item (average_positions item)) ts over → pos t ≡ entry +ℤ pos (most_over item (average_positions item)) → int_le at low ≡ false → unsigned_abs entry ≤ most_over item (average_positions item)
    → nat_le (over_gain item (most_over item (average_positions item)) (slice_index ts) (length ts)) (sum (moving item.law) * t + sum item.law * upper) ≡ is_over_entry item upper low over at entry
over_rule item upper low ts over t at entry are same above small =
    sym (over_test item upper (most_over item (average_positions item)) ts over t entry are same)
    ∙ (λ i. sym (nat_yes (unsigned_abs entry) (most_over item (average_positions item)) small) i
    && (if sym above i then is_number (pos (setup_parts item)) entry
    else int_le (pos (sum item.law * up_cost item (length over)) +ℤ weighted item.law (entry_from (pos (setup_parts item)) (over_at (over ++ entry ∷ [])) (length over))) (pos (sum item.law) *ℤ entry +ℤ pos (sum item.law * upper))))
  where
    nat_yes : (p q : ℕ) → p ≤ q → nat_le p q ≡ true
    nat_yes p q h = grind (arith, nat_tests)
