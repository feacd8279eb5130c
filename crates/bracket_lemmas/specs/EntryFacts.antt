-- Entries of tables by place and by position.
use Rattle.std.proofs.Common.{◌≡◌, ℕ, suc, ◌+◌, ◌-◌, ◌*◌, ◌<◌, ◌≤◌, ℤ, pos, ◌-ℤ◌, ◌<ℤ◌, true, false, slice_index, sum, refl, sym, ◌∙◌, ap, subst, arith, ◌⊎◌, inl, inr, nat_le, nat_lt, if◌then◌else◌}
use Rattle.std.specs.Prelude.{int_lt}
use Rattle.std.proofs.lemmas.Int.{ints}
use Rattle.std.proofs.lemmas.Bool.{cases_lt}
use Rattle.std.proofs.lemmas.Bool.Decides.{nat_tests}
use Rattle.decision_model.specs.declared.average.Average.{Average}
use Rattle.decision_model.specs.Positions.{above_zero}
use Rattle.demand_law.specs.CountedSums.{counted, counted-ext, counted-mono, counted-const}
use Rattle.value_cert.specs.AverageValues.{at_place, moving}
use Rattle.average_lemmas.specs.Orders.{lt_test, no_lt_test}
use Rattle.average_lemmas.specs.Tables.{lt_true, lt_false, counted_first, place_of, above_zero_is}
use Rattle.value_cert.specs.BracketValues.{entry_from}

-- ---- tests
pub le_true : (a b : ℕ) → a ≤ b → nat_le a b ≡ true
le_true a b h = grind (arith, nat_tests)

pub le_false : (a b : ℕ) → b < a → nat_le a b ≡ false
le_false a b h = grind (arith, nat_tests)

-- ---- the entry after a demand
-- .. of d + 1
abbrev pub entry_after : {X : Type 0} → X → (ℕ → X) → ℕ → ℕ → X
entry_after below a k d = if nat_lt d k then a (k - suc d) else below

pub from_place : {X : Type 0} (below : X) (a : ℕ → X) (k d : ℕ) → d ≤ k → entry_from below a k d ≡ a (k - d)
from_place below a k d le = rw (le_true d k le) refl

pub from_below : {X : Type 0} (below : X) (a : ℕ → X) (k d : ℕ) → k < d → entry_from below a k d ≡ below
from_below below a k d lt = rw (le_false d k lt) refl

pub after_place : {X : Type 0} (below : X) (a : ℕ → X) (k d : ℕ) → d < k → entry_after below a k d ≡ a (k - suc d)
after_place below a k d lt = rw (lt_true d k lt) refl

pub after_below : {X : Type 0} (below : X) (a : ℕ → X) (k d : ℕ) → k ≤ d → entry_after below a k d ≡ below
after_below below a k d le = rw (lt_false d k le) refl

-- without a demand the entry stays
pub from_none : {X : Type 0} (below : X) (a : ℕ → X) (k : ℕ) → entry_from below a k 0 ≡ a k
from_none below a k = from_place below a k 0 (omega arith) ∙ ap a (omega arith)

-- with one it is that after it
pub from_some : {X : Type 0} (below : X) (a : ℕ → X) (k d : ℕ) → entry_from below a k (suc d) ≡ entry_after below a k d
from_some below a k d = go (cases_lt d k)
  where
    go : (d < k) ⊎ (k ≤ d) → entry_from below a k (suc d) ≡ entry_after below a k d
    go (inl lt) = from_place below a k (suc d) lt ∙ sym (after_place below a k d lt)
    go (inr le) = from_below below a k (suc d) (omega (arith, le)) ∙ sym (after_below below a k d le)

-- what holds of the entries of the places below and below the floor holds after each demand
pub after_each : {X : Type 0} (P : X → Type 0) (below : X) (a : ℕ → X) (k : ℕ) → P below → ((j : ℕ) → j < k → P (a j)) → (d : ℕ) → P (entry_after below a k d)
after_each P below a k floor each d = go (cases_lt d k)
  where
    go : (d < k) ⊎ (k ≤ d) → P (entry_after below a k d)
    go (inl lt) = subst P (sym (after_place below a k d lt)) (each (k - suc d) (omega (arith, lt)))
    go (inr le) = subst P (sym (after_below below a k d le)) floor

-- ---- sums over the demands above 0
-- by weight, the entries that they lead to
unfoldable pub past : Average → ℕ → (ℕ → ℕ) → ℕ → ℕ
past item below a k = counted (moving item.law) (entry_after below a k)

-- demand 0 and the others
pub all_after : (item : Average) (below : ℕ) (a : ℕ → ℕ) (k : ℕ) → counted item.law (entry_from below a k) ≡ slice_index item.law 0 * a k + past item below a k
unfolding past
all_after item below a k =
    counted_first item.law (entry_from below a k)
    ∙ ap (λ m. slice_index item.law 0 * m + counted (moving item.law) (λ d. entry_from below a k (suc d))) (from_none below a k)
    ∙ ap (λ m. slice_index item.law 0 * a k + m) (counted-ext (moving item.law) _ _ (λ d lt. from_some below a k d))

-- no less of greater entries
pub past_mono : (item : Average) (below other : ℕ) (a b : ℕ → ℕ) (k : ℕ) → below ≤ other → ((j : ℕ) → j < k → a j ≤ b j) → past item below a k ≤ past item other b k
unfolding past
past_mono item below other a b k floor each = counted-mono (moving item.law) (entry_after below a k) (entry_after other b k) (λ d lt. go d (cases_lt d k))
  where
    go : (d : ℕ) → (d < k) ⊎ (k ≤ d) → entry_after below a k d ≤ entry_after other b k d
    go d (inl lt) = omega (arith, after_place below a k d lt, after_place other b k d lt, each (k - suc d) (omega (arith, lt)))
    go d (inr le) = omega (arith, after_below below a k d le, after_below other b k d le, floor)

-- the same of the same
pub past_same : (item : Average) (below : ℕ) (a b : ℕ → ℕ) (k : ℕ) → ((j : ℕ) → j < k → a j ≡ b j) → past item below a k ≡ past item below b k
past_same item below a b k each =
    omega (arith, past_mono item below below a b k (omega arith) (λ j lt. omega (arith, each j lt)), past_mono item below below b a k (omega arith) (λ j lt. omega (arith, each j lt)))

-- at most the greatest entry, as often as there are weights
pub past_most : (item : Average) (below : ℕ) (a : ℕ → ℕ) (k m : ℕ) → below ≤ m → ((j : ℕ) → j < k → a j ≤ m) → past item below a k ≤ sum (moving item.law) * m
unfolding past
past_most item below a k m floor each =
    omega (arith, counted-mono (moving item.law) (entry_after below a k) (λ d. m) (λ d lt. after_each (λ e. e ≤ m) below a k floor each d), counted-const (moving item.law) m)

-- at least the least one
pub past_least : (item : Average) (below : ℕ) (a : ℕ → ℕ) (k m : ℕ) → m ≤ below → ((j : ℕ) → j < k → m ≤ a j) → sum (moving item.law) * m ≤ past item below a k
unfolding past
past_least item below a k m floor each =
    omega (arith, counted-mono (moving item.law) (λ d. m) (entry_after below a k) (λ d lt. after_each (λ e. m ≤ e) below a k floor each d), counted-const (moving item.law) m)

-- ---- by position
-- the value of a position by a table of n places: a given one below the floor, none past the grid
abbrev pub value_by : Average → ℕ → (ℕ → ℕ) → ℕ → ℤ → ℕ
value_by item below a n x =
    if int_lt x item.floor then below else if nat_lt (above_zero (x -ℤ item.floor)) n then a (above_zero (x -ℤ item.floor)) else 0

module _ (item : Average) (below : ℕ) (a : ℕ → ℕ) (n : ℕ) where
  pub value_below : (x : ℤ) → x <ℤ item.floor → value_by item below a n x ≡ below
  value_below x lt = rw (lt_test x item.floor lt) refl

  value_here : (k : ℕ) → value_by item below a n (at_place item k) ≡ (if nat_lt k n then a k else 0)
  value_here k =
      let here : int_lt (at_place item k) item.floor ≡ false = no_lt_test (at_place item k) item.floor (omega (arith, ints)) in
      let place : above_zero (at_place item k -ℤ item.floor) ≡ k = omega (arith, ints, above_zero_is (at_place item k -ℤ item.floor)) in
      rw (here, place) refl

  pub value_at : (k : ℕ) → k < n → value_by item below a n (at_place item k) ≡ a k
  value_at k lt = value_here k ∙ (rw (lt_true k n lt) refl)

  pub value_past : (k : ℕ) → n ≤ k → value_by item below a n (at_place item k) ≡ 0
  value_past k le = value_here k ∙ (rw (lt_false k n le) refl)

  -- what holds of each holds of the value of each position
  pub value_each : (P : ℕ → Type 0) → P below → ((k : ℕ) → k < n → P (a k)) → P 0 → (x : ℤ) → P (value_by item below a n x)
  value_each P floor each none x = by_place (place_of item x)
    where
      at : (k : ℕ) → (k < n) ⊎ (n ≤ k) → P (value_by item below a n (at_place item k))
      at k (inl lt) = subst P (sym (value_at k lt)) (each k lt)
      at k (inr le) = subst P (sym (value_past k le)) none

      by_place : (x <ℤ item.floor) ⊎ ((k : ℕ) × (x ≡ at_place item k)) → P (value_by item below a n x)
      by_place (inl lt) = subst P (sym (value_below x lt)) floor
      by_place (inr (k, same)) = subst (λ (z : ℤ). P (value_by item below a n z)) (sym same) (at k (cases_lt k n))

  -- a demand leads to the same entry
  pub entry_is : (k d : ℕ) → k < n → entry_from below a k d ≡ value_by item below a n (at_place item k -ℤ pos d)
  entry_is k d within = go (cases_lt k d)
    where
      go : (k < d) ⊎ (d ≤ k) → entry_from below a k d ≡ value_by item below a n (at_place item k -ℤ pos d)
      go (inl lt) = from_below below a k d lt ∙ sym (value_below (at_place item k -ℤ pos d) (omega (arith, ints, lt)))
      go (inr le) =
          let there : at_place item k -ℤ pos d ≡ at_place item (k - d) = omega (arith, ints, le) in
          from_place below a k d le ∙ sym (ap (value_by item below a n) there ∙ value_at (k - d) (omega (arith, within)))

  pub entries_are : (k : ℕ) → k < n → counted item.law (entry_from below a k) ≡ counted item.law (λ d. value_by item below a n (at_place item k -ℤ pos d))
  entries_are k within = counted-ext item.law _ _ (λ d lt. entry_is k d within)
