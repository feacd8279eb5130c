-- Of staying at a position and the best order, the choice is the first position of least value.
use Rattle.std.proofs.Common.{◌≡◌, ℕ, zero, suc, ◌+◌, ◌-◌, ◌<◌, ◌≤◌, min, ℤ, ◌≤ℤ◌, ◌<ℤ◌, Bool, true, false, if◌then◌else◌, Option, None, Some, IfSome, List, [], ◌∷◌, length, drop, refl, sym, ◌∙◌, ap, subst, arith, ◌⊎◌, inl, inr, length-append, length-drop}
use Rattle.std.specs.Prelude.{int_lt, slice_index_or}
use Rattle.std.specs.List.{Contains}
use Rattle.std.specs.Int.Signed.{≤ℤ_refl}
use Rattle.std.proofs.lemmas.Bool.{cases_lt}
use Rattle.std.proofs.lemmas.Int.{ints}
use Rattle.std.proofs.lemmas.List.{get_or-drop}
use Rattle.std.proofs.Math.ListN.{get_or-append}
use Rattle.std.proofs.Math.Seq.{get_or-append_seam}
use Rattle.decision_model.specs.Sweeps.{IsLeastPair, IsLeastOf}
use Rattle.finite_lemmas.specs.OrderForms.{IsFirstIn}
use Rattle.finite_recursion.specs.Choices.{order_value, chosen_to, chosen_value}
use Rattle.finite_recursion.specs.Rows.{row_pairs, reached}

-- ---- the pairs of a row
length-row_pairs : (f : ℕ → ℤ × ℤ) (count : ℕ) → length (row_pairs f count) ≡ count
length-row_pairs f zero = refl
length-row_pairs f (suc count) = omega (arith, length-append (row_pairs f count) (f count ∷ []), length-row_pairs f count)

-- the pair of each place
get_or-row_pairs : (f : ℕ → ℤ × ℤ) (count j : ℕ) (d : ℤ × ℤ) → j < count → slice_index_or (row_pairs f count) j d ≡ f j
get_or-row_pairs f zero j d lt = absurd (omega (arith, lt))
get_or-row_pairs f (suc count) j d lt = by (λ less. get_or-row_pairs f count j d less) (cases_lt j count)
  where
    by : (j < count → slice_index_or (row_pairs f count) j d ≡ f j) → (j < count) ⊎ (count ≤ j) → slice_index_or (row_pairs f (suc count)) j d ≡ f j
    by before (inl less) = get_or-append (row_pairs f count) (f count ∷ []) d j (omega (arith, less, length-row_pairs f count)) ∙ before less
    by before (inr more) =
        let same : j ≡ count = omega (arith, lt, more) in
        let last : slice_index_or (row_pairs f (suc count)) (length (row_pairs f count)) d ≡ f count = get_or-append_seam (row_pairs f count) (f count) [] d in
        ap (λ k. slice_index_or (row_pairs f (suc count)) k d) (same ∙ sym (length-row_pairs f count)) ∙ last ∙ ap f (sym same)

-- the first place that an order can lead to
abbrev pub first_reached : Option ℕ → ℕ → ℕ → ℕ
first_reached None positions count = 0
first_reached (Some most) positions count = count - min most positions

-- the pairs that an order can lead to are those from there on
reached_is : (most : Option ℕ) (positions : ℕ) (f : ℕ → ℤ × ℤ) (count : ℕ) → reached most positions (row_pairs f count) ≡ drop (first_reached most positions count) (row_pairs f count)
reached_is None positions f count = refl
reached_is (Some most) positions f count = ap (λ n. drop (n - min most positions) (row_pairs f count)) (length-row_pairs f count)

-- each of them is a place's
pub reached_in : (most : Option ℕ) (positions : ℕ) (f : ℕ → ℤ × ℤ) (count : ℕ) (p : ℤ × ℤ) → Contains (reached most positions (row_pairs f count)) p → (j : ℕ) × (first_reached most positions count ≤ j) × (j < count) × (f j ≡ p)
reached_in most positions f count p in_reached = of (subst (λ xs. Contains xs p) (reached_is most positions f count) in_reached)
  where
    of : Contains (drop (first_reached most positions count) (row_pairs f count)) p → (j : ℕ) × (first_reached most positions count ≤ j) × (j < count) × (f j ≡ p)
    of (k, lt, e) =
        let first = first_reached most positions count in
        let inside : first + k < count = omega (arith, lt, length-drop first (row_pairs f count), length-row_pairs f count) in
        (first + k, omega arith, inside, sym (get_or-row_pairs f count (first + k) p inside) ∙ sym (get_or-drop first (row_pairs f count) k p) ∙ e)

-- and each place from there on has one
pub reached_has : (most : Option ℕ) (positions : ℕ) (f : ℕ → ℤ × ℤ) (count j : ℕ) → first_reached most positions count ≤ j → j < count → Contains (reached most positions (row_pairs f count)) (f j)
reached_has most positions f count j from lt = subst (λ xs. Contains xs (f j)) (sym (reached_is most positions f count)) here
  where
    here : Contains (drop (first_reached most positions count) (row_pairs f count)) (f j)
    here =
        let first = first_reached most positions count in
        let at : first + (j - first) ≡ j = omega (arith, from) in
        (j - first, omega (arith, from, lt, length-drop first (row_pairs f count), length-row_pairs f count), get_or-drop first (row_pairs f count) (j - first) (f j) ∙ ap (λ k. slice_index_or (row_pairs f count) k (f j)) at ∙ get_or-row_pairs f count j (f j) lt)

-- the least pair has what each place's has
pub best_holds : (P : ℤ × ℤ → Type 0) (most : Option ℕ) (positions : ℕ) (f : ℕ → ℤ × ℤ) (count : ℕ) (best : Option (ℤ × ℤ)) → ((j : ℕ) → j < count → P (f j)) → IsLeastOf (reached most positions (row_pairs f count)) best → IfSome best P
best_holds P most positions f count None each least = tt
best_holds P most positions f count (Some best) each least =
    let of = reached_in most positions f count best least.listed in
    subst P of.3 (each of.0 of.2)

-- ---- the choice
-- listed orders lead to each position above x and to no other, with its value
pub record AreOrders (setup unit x high : ℤ) (g : ℤ → ℤ) (orders : List (ℤ × ℤ)) : Type 0 where
  pub all : (y : ℤ) → x <ℤ y → y ≤ℤ high → (p : ℤ × ℤ) × Contains orders p × (p.0 ≡ y)
  pub only : (p : ℤ × ℤ) → Contains orders p → (x <ℤ p.0) × (p.0 ≤ℤ high) × (order_value setup unit x p.1 ≡ g p.0)

-- above a position or at it
pub from_case : (x y : ℤ) → x ≤ℤ y → (x ≡ y) ⊎ (x <ℤ y)
from_case x y le = by (int_lt x y) refl
  where
    by : (b : Bool) → int_lt x y ≡ b → (x ≡ y) ⊎ (x <ℤ y)
    by true e = inr (grind (arith, ints))
    by false e = inl (grind (arith, ints))

module _ (setup unit x high : ℤ) (g : ℤ → ℤ) (orders : List (ℤ × ℤ)) (are : AreOrders setup unit x high g orders) (stay : ℤ) (is_stay : stay ≡ g x) (reaches : x ≤ℤ high) where
  -- no order is listed
  none_first : orders ≡ [] → IsFirstIn g x high x
  none_first none = record {
    from_low = ≤ℤ_refl x;
    to_cap = reaches;
    least = λ y from to. by y to (from_case x y from);
    first = λ y from lt. absurd (omega (arith, ints, from, lt));
  }
    where
      by : (y : ℤ) → y ≤ℤ high → (x ≡ y) ⊎ (x <ℤ y) → g x ≤ℤ g y
      by y to (inl same) = subst (λ (z : ℤ). g x ≤ℤ g z) same (≤ℤ_refl (g x))
      by y to (inr above) =
          let found = are.all y above to in
          let nothing = subst (λ xs. Contains xs found.0) none found.1 in
          absurd (omega (arith, nothing.1))

  module _ (best : ℤ × ℤ) (least : IsLeastPair orders best) where
    -- the value of the best order
    abbrev value : ℤ
    value = order_value setup unit x best.1

    -- no position above costs less than the best order
    above_least : (y : ℤ) → x <ℤ y → y ≤ℤ high → value ≤ℤ g y
    above_least y above to =
        let found = are.all y above to in
        let only = are.only found.0 found.1 in
        let le = least.least found.0 found.1 in
        omega (arith, ints, only.2, le, ap g found.2)

    -- a lower one costs more
    above_first : (y : ℤ) → x <ℤ y → y ≤ℤ high → y <ℤ best.0 → value <ℤ g y
    above_first y above to lower =
        let found = are.all y above to in
        let only = are.only found.0 found.1 in
        by found.0 found.2 found.1 (only.2 ∙ ap g found.2) (from_case best.1 (found.0).1 (least.least found.0 found.1))
      where
        by : (p : ℤ × ℤ) → p.0 ≡ y → Contains orders p → order_value setup unit x p.1 ≡ g y → (best.1 ≡ p.1) ⊎ (best.1 <ℤ p.1) → value <ℤ g y
        by p at in_orders is (inl same) = let first = least.first p in_orders (sym same) in absurd (omega (arith, ints, first, at, lower))
        by p at in_orders is (inr more) = omega (arith, ints, is, more)

    -- where the best order costs less, it is the first of least value
    order_first : value <ℤ stay → IsFirstIn g x high best.0
    order_first less =
        let only = are.only best least.listed in
        record {
          from_low = omega (arith, ints, only.0);
          to_cap = only.1;
          least = λ y from to. by_least y to (from_case x y from);
          first = λ y from lt. by_first y lt (from_case x y from);
        }
      where
        by_least : (y : ℤ) → y ≤ℤ high → (x ≡ y) ⊎ (x <ℤ y) → g best.0 ≤ℤ g y
        by_least y to (inl same) = let only = are.only best least.listed in omega (arith, ints, only.2, less, is_stay, ap g same)
        by_least y to (inr above) = let only = are.only best least.listed in omega (arith, ints, only.2, above_least y above to)

        by_first : (y : ℤ) → y <ℤ best.0 → (x ≡ y) ⊎ (x <ℤ y) → g best.0 <ℤ g y
        by_first y lt (inl same) = let only = are.only best least.listed in omega (arith, ints, only.2, less, is_stay, ap g same)
        by_first y lt (inr above) = let only = are.only best least.listed in omega (arith, ints, only.2, above_first y above (omega (arith, ints, lt, only.1)) lt)

    -- where it costs no less, staying is
    stay_first : stay ≤ℤ value → IsFirstIn g x high x
    stay_first le = record {
      from_low = ≤ℤ_refl x;
      to_cap = reaches;
      least = λ y from to. by y to (from_case x y from);
      first = λ y from lt. absurd (omega (arith, ints, from, lt));
    }
      where
        by : (y : ℤ) → y ≤ℤ high → (x ≡ y) ⊎ (x <ℤ y) → g x ≤ℤ g y
        by y to (inl same) = subst (λ (z : ℤ). g x ≤ℤ g z) same (≤ℤ_refl (g x))
        by y to (inr above) = omega (arith, ints, is_stay, le, above_least y above to)

  -- what is chosen is the first position of least value
  pub chosen_first : (best : Option (ℤ × ℤ)) → IsLeastOf orders best → IsFirstIn g x high (chosen_to setup unit stay x best)
  chosen_first None none = none_first none
  chosen_first (Some best) least = by (int_lt (order_value setup unit x best.1) stay) refl
    where
      by : (b : Bool) → int_lt (order_value setup unit x best.1) stay ≡ b → IsFirstIn g x high (if b then best.0 else x)
      by true e = order_first best least (grind (arith, ints))
      by false e = stay_first best least (grind (arith, ints))

  -- and it has its value
  pub chosen_is : (best : Option (ℤ × ℤ)) → IsLeastOf orders best → chosen_value setup unit stay x best ≡ g (chosen_to setup unit stay x best)
  chosen_is None none = is_stay
  chosen_is (Some best) least = by (int_lt (order_value setup unit x best.1) stay)
    where
      by : (b : Bool) → (if b then order_value setup unit x best.1 else stay) ≡ g (if b then best.0 else x)
      by true = (are.only best least.listed).2
      by false = is_stay

-- what is chosen is staying or the best order
pub chosen_case : (P : ℤ → Type 0) (setup unit stay x : ℤ) (best : Option (ℤ × ℤ)) → P stay → IfSome best (λ p. P (order_value setup unit x p.1)) → P (chosen_value setup unit stay x best)
chosen_case P setup unit stay x None staying order = staying
chosen_case P setup unit stay x (Some best) staying order = by (int_lt (order_value setup unit x best.1) stay)
  where
    by : (b : Bool) → P (if b then order_value setup unit x best.1 else stay)
    by true = order
    by false = staying
