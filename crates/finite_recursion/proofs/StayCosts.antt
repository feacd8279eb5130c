-- What staying at a place costs, by the values of the later row.
use Rattle.std.proofs.Common.{eqb-true, leb-true, ◌≡◌, ◌≢◌, ◌⊎◌, inl, inr, eqb, ℕ, suc, length-drop, leb-false, ◌+◌, ◌-◌, ◌^◌, ◌<◌, ◌≤◌, ℤ, pos, negsuc, ◌+ℤ◌, ◌-ℤ◌, ◌*ℤ◌, ◌≤ℤ◌, Bool, true, false, ◌==◌, ◌||◌, nat_le, List, length, take, drop, refl, sym, ◌∙◌, ap, subst, arith}
use Rattle.std.proofs.lemmas.Int.{ints}
use Rattle.std.proofs.lemmas.Bool.Decides.{eqb_tells}
use Rattle.std.proofs.lemmas.Nat.{mul-le}
use Rattle.std.proofs.lemmas.List.{get_or-drop, take_all}
use Rattle.demand_law.specs.Integers as Z
use Rattle.demand_law.specs.Law.{weighted}
use Rattle.demand_law.specs.WeightedSums.{weighted-ext, weighted-ext_within}
use Rattle.decision_model.specs.declared.finite.Finite.{Finite}
use Rattle.decision_model.specs.Finite.{IsValidFinite, finite_low}
use Rattle.decision_model.specs.FiniteCosts.{above_last}
use Rattle.decision_model.specs.FiniteProblem.{law_of_period}
use Rattle.decision_model.specs.FiniteSound.{IsSoundFinite, sound_readable, low_next}
use Rattle.decision_model.specs.Positions.{above_zero}
use Rattle.decision_model.specs.Stock.{stock_cost}
use Rattle.value_cert.specs.FiniteValues.{lead_law, stock_scale, cost_after, row_width}
use Rattle.value_cert.specs.FiniteRules.{FirstRows, last_period}
use Rattle.finite_lemmas.specs.Orders.{product_above}
use Rattle.finite_lemmas.specs.SolvedRows.{row_width_is}
use Rattle.finite_recursion.specs.Demands.{listed_sum, AreDemandsOf}
use Rattle.finite_recursion.specs.Recursions.{KnowsTables, next_at}
use Rattle.finite_recursion.specs.Rows.{row_period, later_width, value_at}
use Rattle.finite_recursion.specs.Sizes.{IsSmallStay, IsSmallValue}
use Rattle.finite_recursion.specs.ValueSizes.{stay_small, next_least, lead_cost_least}
use Rattle.finite_recursion.proofs.Bounds.{most_small, place_above}
use Rattle.finite_recursion.proofs.Factors.{rows_are}

-- ---- lists
-- the cells from a place on
pub from_place : (cells : List ℤ) (place k : ℕ) → value_at (take (length cells - place) (drop place cells)) k ≡ value_at cells (place + k)
from_place cells place k =
    ap (λ xs. value_at xs k) (take_all (length cells - place) (drop place cells) (omega (arith, length-drop place cells))) ∙ get_or-drop place cells k (pos 0)

-- a sum over listed demands is one over the law
pub listed_told : (weights sums : List ℕ) (cells : List ℤ) (half listed place : ℕ) → AreDemandsOf weights (take listed (drop half sums))
    → listed_sum weights (take (half + listed - half) (drop half sums)) (value_at (take (length cells - place) (drop place cells))) ≡ weighted weights (λ d. value_at cells (place + d))
listed_told weights sums cells half listed place are =
    let count : half + listed - half ≡ listed = omega arith in
    ap (λ n. listed_sum weights (take n (drop half sums)) (value_at (take (length cells - place) (drop place cells)))) count
    ∙ are.sums (value_at (take (length cells - place) (drop place cells)))
    ∙ weighted-ext weights _ _ (from_place cells place)

-- ---- costs by the next values
-- costs are equal where the values are that a position can lead to
pub after-ext : (finite : Finite) (F G : ℤ → ℤ) (n t : ℕ) (y : ℤ) → ((d : ℕ) → d < length (law_of_period finite t) → F (y -ℤ pos d) ≡ G (y -ℤ pos d)) → cost_after finite F n t y ≡ cost_after finite G n t y
unfolding cost_after
after-ext finite F G n t y same =
    ap (λ z. pos (stock_scale finite n) *ℤ stock_cost finite.holding finite.stockout (lead_law finite t) y +ℤ pos finite.discount_num *ℤ z) (weighted-ext_within (law_of_period finite t) (λ d. F (y -ℤ pos d)) (λ d. G (y -ℤ pos d)) same)

-- a row is begun and has a place left
pub place_left : (rows width place : ℕ) → ((rows == 0) || nat_le width place) ≡ false → (1 ≤ rows) × (place < width)
place_left rows width place left =
    let both = neither (rows == 0) (nat_le width place) left in
    (some (eqb_tells rows 0) both.0, omega (arith, leb-false width place both.1))
  where
    neither : (a b : Bool) → (a || b) ≡ false → (a ≡ false) × (b ≡ false)
    neither true b h = cc
    neither false b h = (refl, h)

    some : ((eqb rows 0 ≡ true) × (rows ≡ 0)) ⊎ ((eqb rows 0 ≡ false) × (rows ≢ 0)) → eqb rows 0 ≡ false → 1 ≤ rows
    some (inl is) none = absurd (cc (is.0, none))
    some (inr isnt) none = omega (arith, isnt.1)

-- a row that is begun and has a place left isn't whole
pub is_left : (rows width place : ℕ) → 1 ≤ rows → place < width → ((rows == 0) || nat_le width place) ≡ false
is_left rows width place some inside = by (rows == 0) (nat_le width place) refl refl
  where
    by : (a b : Bool) → (rows == 0) ≡ a → nat_le width place ≡ b → (a || b) ≡ false
    by true b e h = absurd (omega (arith, some, eqb-true rows 0 e))
    by false true e h = absurd (omega (arith, inside, leb-true width place h))
    by false false e h = refl

-- a number from 0 up is no more than a multiple of it
pub multiple_least : (times : ℕ) (x : ℤ) → 1 ≤ times → pos 0 ≤ℤ x → x ≤ℤ (pos times *ℤ x)
multiple_least times (pos n) some h = multiple times n some
  where
    multiple : (times n : ℕ) → 1 ≤ times → pos n ≤ℤ (pos times *ℤ pos n)
    multiple times n some = omega (arith, ints, mul-le 1 n times n some (omega arith))
multiple_least times (negsuc n) some h = absurd (omega (arith, ints))

module _ (finite : Finite) (valid : IsValidFinite finite) (rows place : ℕ) (values : List ℤ) (some : 1 ≤ rows) (within : rows ≤ finite.periods) (inside : place < row_width finite (row_period finite rows)) where
  -- a valid instance is sound
  abbrev sound : IsSoundFinite finite
  sound = sound_readable finite valid.regular.readable

  -- the period of the row
  abbrev pub period : ℕ
  period = row_period finite rows

  -- the position of the place
  abbrev pub at : ℤ
  at = finite.cap -ℤ pos place

  -- the values by position
  abbrev pub table : ℤ → ℤ
  table x = value_at values (above_zero (finite.cap -ℤ x))

  -- the period is from 1
  pub from_one : 1 ≤ period
  from_one = omega (arith, some, within)

  -- .. to the last
  pub to_last : period ≤ finite.periods
  to_last = omega (arith, some, within)

  -- the later row is of the next period
  later_period : suc finite.periods - (rows - 1) ≡ suc period
  later_period = omega (arith, some, within)

  -- the position is on the grid
  pub at_low : finite_low finite period ≤ℤ at
  at_low = place_above finite valid period place inside

  -- .. and on the last one
  pub at_last : finite_low finite (finite.periods + 1) ≤ℤ at
  at_last = Z.le_trans _ _ _ (above_last finite sound period (omega (arith, to_last))) at_low

  -- it is at most the cap
  pub at_cap : at ≤ℤ finite.cap
  at_cap = omega (arith, ints)

  -- a demand leads to a place of the later row
  pub later_inside : (d : ℕ) → d < length (law_of_period finite period) → place + d < later_width finite rows
  later_inside d lt =
      let step = low_next finite period d from_one (omega (arith, sound.within period, lt)) in
      let next = row_width_is finite valid.regular.readable (suc period) in
      let width = ap (row_width finite) later_period in
      omega (arith, ints, step, at_low, next, width)

  -- the position that a demand leads to is that of its place
  pub table_at : (d : ℕ) → table (at -ℤ pos d) ≡ value_at values (place + d)
  table_at d = ap (λ z. value_at values (above_zero z)) (gone finite.cap place d)
    where
      gone : (cap : ℤ) (p d : ℕ) → cap -ℤ (cap -ℤ pos p -ℤ pos d) ≡ pos (p + d)
      gone cap p d = omega (arith, ints)

  -- what comes later, by place
  pub later_sum : weighted (law_of_period finite period) (λ d. value_at values (place + d)) ≡ weighted (law_of_period finite period) (λ d. table (at -ℤ pos d))
  later_sum = weighted-ext (law_of_period finite period) _ _ (λ d. sym (table_at d))

  -- the cost of staying as it is computed
  pub stay_told : (stock_factor stock later : ℤ) → stock_factor ≡ pos (stock_scale finite (rows - 1)) → stock ≡ stock_cost finite.holding finite.stockout (lead_law finite period) at
      → later ≡ weighted (law_of_period finite period) (λ d. value_at values (place + d)) → stock_factor *ℤ stock +ℤ pos finite.discount_num *ℤ later ≡ cost_after finite table (rows - 1) period at
  unfolding cost_after
  stay_told stock_factor stock later is_factor is_stock is_later =
      ap (λ z. z *ℤ stock +ℤ pos finite.discount_num *ℤ later) is_factor
      ∙ ap (λ z. pos (stock_scale finite (rows - 1)) *ℤ z +ℤ pos finite.discount_num *ℤ later) is_stock
      ∙ ap (λ z. pos (stock_scale finite (rows - 1)) *ℤ stock_cost finite.holding finite.stockout (lead_law finite period) at +ℤ pos finite.discount_num *ℤ z) (is_later ∙ later_sum)

  -- it is what the equations say, with the values of the rows
  pub stay_known : (first : FirstRows) (costs : List ℤ) → KnowsTables finite rows place values costs first → cost_after finite table (rows - 1) period at ≡ cost_after finite first.later (first.rows - 1) (last_period finite first) (next_at finite first)
  stay_known first costs knows =
      after-ext finite table first.later (rows - 1) period at (λ d lt. table_at d ∙ knows.later (place + d) (omega arith) (later_inside d lt) ∙ ap first.later (gone finite.cap place d))
      ∙ ap (λ n. cost_after finite first.later (n - 1) (suc finite.periods - n) at) knows.rows_are
      ∙ ap (λ k. cost_after finite first.later (first.rows - 1) (last_period finite first) (finite.cap -ℤ pos k)) knows.place_is
    where
      gone : (cap : ℤ) (p d : ℕ) → cap -ℤ pos (p + d) ≡ cap -ℤ pos p -ℤ pos d
      gone cap p d = omega (arith, ints)

  -- ---- sizes
  module _ (small : (k : ℕ) → place ≤ k → k < later_width finite rows → IsSmallValue finite (rows - 1) (value_at values k)) where
    -- the values that a demand leads to are in range
    pub later_small : (d : ℕ) → d < length (law_of_period finite period) → IsSmallValue finite (rows - 1) (table (at -ℤ pos d))
    later_small d lt = subst (IsSmallValue finite (rows - 1)) (sym (table_at d)) (small (place + d) (omega arith) (later_inside d lt))

    -- so is the cost of staying
    pub stay_in_range : IsSmallStay finite rows (cost_after finite table (rows - 1) period at)
    stay_in_range = subst (λ (n : ℕ). IsSmallStay finite n (cost_after finite table (rows - 1) period at)) (sym (rows_are rows some)) (stay_small finite valid.regular.readable table (rows - 1) period from_one to_last at at_last at_cap later_small)

    -- it fits
    pub stay_most : cost_after finite table (rows - 1) period at ≤ℤ pos (2 ^ 120)
    stay_most = omega (arith, ints, stay_in_range.most, most_small finite valid rows within)

    -- what comes later
    abbrev later : ℤ
    later = weighted (law_of_period finite period) (λ d. value_at values (place + d))

    -- it isn't below 0
    pub later_least : pos 0 ≤ℤ later
    later_least = subst (λ (z : ℤ). pos 0 ≤ℤ z) (sym later_sum) (next_least finite valid.regular.readable table (rows - 1) period from_one to_last at at_last at_cap later_small)

    -- and fits
    pub later_most : later ≤ℤ pos (2 ^ 120)
    unfolding cost_after
    later_most =
        let stock = stock_cost finite.holding finite.stockout (lead_law finite period) at in
        let held = product_above (stock_scale finite (rows - 1)) stock (lead_cost_least finite valid.regular.readable period at) in
        let whole = stay_told (pos (stock_scale finite (rows - 1))) stock later refl refl refl in
        let multiple = multiple_least finite.discount_num later valid.regular.readable.discount.least later_least in
        omega (arith, ints, held, whole, multiple, stay_most)
