-- Steps of a row: it is begun, and it keeps one place more.
use Rattle.std.proofs.Common.{◌≡◌, length-append, eqb-true, eq-eqb, ◌⊎◌, inl, inr, ℕ, zero, suc, ◌+◌, ◌-◌, ◌<◌, ◌≤◌, ◌==◌, ◌||◌, nat_le, true, Bool, false, if◌then◌else◌, ℤ, pos, ◌+ℤ◌, ◌-ℤ◌, ◌*ℤ◌, Option, List, [], ◌∷◌, ◌++◌, length, set, refl, sym, ◌∙◌, ap, subst, arith, leb-true}
use mathlib.Core.Logic.{∥∥₁_elim}
use Rattle.std.proofs.lemmas.Int.{ints}
use Rattle.std.proofs.Math.ListN.{get_or-append}
use Rattle.std.proofs.Math.Seq.{get_or-append_seam}
use Rattle.std.proofs.Props.{props}
use Rattle.decision_model.specs.declared.finite.Finite.{Finite}
use Rattle.decision_model.specs.Finite.{IsValidFinite, finite_positions}
use Rattle.decision_model.specs.Positions.{above_zero}
use Rattle.decision_model.specs.Walks.{IsWalkOf, place_of}
use Rattle.value_cert.specs.FiniteRules.{FirstRows, last_period, last_values, no_rows, listed_value}
use Rattle.value_cert.specs.FiniteValues.{lead_law, row_width, cost_after, end_value}
use Rattle.finite_recursion.specs.Recursions.{KnowsTables, next_at}
use Rattle.finite_recursion.specs.Rows.{row_period, value_at, reach_room, IsReachOf, row_pairs, order_pair, AreScales, HoldsLaws, IsRow, AreSmall, IsFresh}
use Rattle.finite_recursion.specs.Sizes.{IsSmallStay, IsSmallValue}
use Rattle.finite_recursion.specs.ValueSizes.{end_small}
use Rattle.finite_recursion.proofs.Bounds.{place_last}
use Rattle.finite_recursion.specs.Tables.{capacity_cells}
use Rattle.finite_recursion.specs.declared.laws.HeldLaws.{HeldLaws}
use Rattle.finite_recursion.specs.declared.row.Row.{Row}
use Rattle.finite_recursion.proofs.Places.{put_here, put_other, one_more}

-- ---- the pairs of a row
-- equal pairs at all places make equal rows
row_pairs-ext : (f g : ℕ → ℤ × ℤ) (count : ℕ) → ((j : ℕ) → j < count → f j ≡ g j) → row_pairs f count ≡ row_pairs g count
row_pairs-ext f g zero same = refl
row_pairs-ext f g (suc count) same = ap (λ xs. xs ++ f count ∷ []) (row_pairs-ext f g count (λ j lt. same j (omega arith))) ∙ ap (λ p. row_pairs g count ++ p ∷ []) (same count (omega arith))

-- a row with one place more
pairs_more : (cap unit : ℤ) (costs : List ℤ) (place : ℕ) (stay : ℤ) → place < length costs → row_pairs (order_pair cap unit (set costs place stay)) (place + 1) ≡ row_pairs (order_pair cap unit costs) place ++ (cap -ℤ pos place, stay +ℤ unit *ℤ (cap -ℤ pos place)) ∷ []
pairs_more cap unit costs place stay inside =
    let after = order_pair cap unit (set costs place stay) in
    let one : place + 1 ≡ suc place = omega arith in
    ap (row_pairs after) one
    ∙ ap (λ xs. xs ++ after place ∷ []) (row_pairs-ext after (order_pair cap unit costs) place (λ j lt. ap (λ z. (cap -ℤ pos j, z +ℤ unit *ℤ (cap -ℤ pos j))) (put_other costs place j stay (λ e. absurd (omega (arith, lt, e))))))
    ∙ ap (λ z. row_pairs (order_pair cap unit costs) place ++ (cap -ℤ pos place, z +ℤ unit *ℤ (cap -ℤ pos place)) ∷ []) (put_here costs place stay inside)

-- ---- one place more is kept
module _ (finite : Finite) (rows place more : ℕ) (values costs after_values after_costs : List ℤ) (value stay : ℤ) (in_values : place < length values) (in_costs : place < length costs) (is_values : after_values ≡ set values place value) (is_costs : after_costs ≡ set costs place stay) (is_more : more ≡ place + 1) where
  -- the cells stay small
  pub keep_small : AreSmall finite rows place values costs → IsSmallValue finite rows value → IsSmallStay finite rows stay → AreSmall finite rows more after_values after_costs
  keep_small small small_value small_stay = record {
    kept = λ k lt. subst (λ cells. IsSmallValue finite rows (value_at cells k)) (sym is_values) (one_more (λ j z. IsSmallValue finite rows z) values place value in_values small_value small.kept k (omega (arith, lt, is_more)));
    later = λ k from lt. subst (λ cells. IsSmallValue finite (rows - 1) (value_at cells k)) (sym is_values)
        (subst (IsSmallValue finite (rows - 1)) (sym (put_other values place k value (λ e. absurd (omega (arith, from, is_more, e))))) (small.later k (omega (arith, from, is_more)) lt));
    small_costs = λ k lt. subst (λ cells. IsSmallStay finite rows (value_at cells k)) (sym is_costs) (one_more (λ j z. IsSmallStay finite rows z) costs place stay in_costs small_stay small.small_costs k (omega (arith, lt, is_more)));
  }

  -- the rows have one value more
  pub keep_knows : (first : FirstRows) → KnowsTables finite rows place values costs first → stay ≡ cost_after finite first.later (first.rows - 1) (last_period finite first) (next_at finite first)
      → KnowsTables finite rows more after_values after_costs (record { rows = first.rows; later = first.later; values = first.values ++ value ∷ [] })
  keep_knows first knows exact = record {
    rows_are = knows.rows_are;
    place_is = omega (arith, is_more, knows.place_is, length-append first.values (value ∷ []));
    kept = λ k lt. subst (λ cells. value_at cells k ≡ value_at (first.values ++ value ∷ []) k) (sym is_values)
        (one_more (λ j z. z ≡ value_at (first.values ++ value ∷ []) j) values place value in_values last (λ j less. knows.kept j less ∙ sym (get_or-append first.values (value ∷ []) (pos 0) j (omega (arith, less, knows.place_is)))) k (omega (arith, lt, is_more)));
    later = λ k from lt. subst (λ cells. value_at cells k ≡ first.later (finite.cap -ℤ pos k)) (sym is_values)
        (put_other values place k value (λ e. absurd (omega (arith, from, is_more, e))) ∙ knows.later k (omega (arith, from, is_more)) lt);
    kept_costs = λ k lt. subst (λ cells. value_at cells k ≡ cost_after finite first.later (first.rows - 1) (last_period finite first) (finite.cap -ℤ pos k)) (sym is_costs)
        (one_more (λ j z. z ≡ cost_after finite first.later (first.rows - 1) (last_period finite first) (finite.cap -ℤ pos j)) costs place stay in_costs
        (exact ∙ ap (λ j. cost_after finite first.later (first.rows - 1) (last_period finite first) (finite.cap -ℤ pos j)) (sym knows.place_is)) knows.kept_costs k (omega (arith, lt, is_more)));
  }
    where
      last : value ≡ value_at (first.values ++ value ∷ []) place
      last = sym (ap (value_at (first.values ++ value ∷ [])) knows.place_is ∙ get_or-append_seam first.values value [] (pos 0))

  -- the row goes on
  pub keep_row : (n period : ℕ) (laws : HeldLaws) (row after : Row) (room after_room : List ℤ) (sums : List ℕ) → IsRow finite n period laws row costs room sums → row.place ≡ place → place < row.width
      → after.width ≡ row.width → after.place ≡ more → after.scales ≡ row.scales → length after_room ≡ length room → reach_room after.reach ≡ reach_room row.reach
      → IsWalkOf after.walk finite.holding finite.stockout (lead_law finite period) → (place + 1 < row.width → place_of after.walk ≡ finite.cap -ℤ pos place -ℤ pos 1)
      → ((most : Option ℕ) (positions : ℕ) (pairs : List (ℤ × ℤ)) → IsReachOf most positions row.reach room pairs → IsReachOf most positions after.reach after_room (pairs ++ (finite.cap -ℤ pos place, stay +ℤ row.scales.unit *ℤ (finite.cap -ℤ pos place)) ∷ []))
      → IsRow finite n period laws after after_costs after_room sums
  keep_row n period laws row after room after_room sums is is_place inside same_width is_after same_scales same_room same_cells walk stands seen = record {
    is_width = same_width ∙ is.is_width;
    place_within = omega (arith, is_after, is_more, inside, same_width);
    are_scales = subst (AreScales finite n) (sym same_scales) is.are_scales;
    are_laws = is.are_laws;
    is_walk = walk;
    stands = λ lt. stands (omega (arith, lt, same_width, is_after, is_more)) ∙ down finite.cap place after.place (omega (arith, is_after, is_more));
    is_room = same_room ∙ is.is_room ∙ sym same_cells;
    is_reach = ∥∥₁_elim is.is_reach (Prim.hlevel props) (λ reach. ∣ subst (λ pairs. IsReachOf finite.most (finite_positions finite) after.reach after_room pairs) (sym pairs) (seen finite.most (finite_positions finite) (row_pairs (order_pair finite.cap row.scales.unit costs) place) (subst (λ k. IsReachOf finite.most (finite_positions finite) row.reach room (row_pairs (order_pair finite.cap row.scales.unit costs) k)) is_place reach)) ∣₁);
  }
    where
      down : (cap : ℤ) (p q : ℕ) → q ≡ p + 1 → cap -ℤ pos p -ℤ pos 1 ≡ cap -ℤ pos q
      down cap p q e = omega (arith, ints, e)

      pairs : row_pairs (order_pair finite.cap after.scales.unit after_costs) after.place ≡ row_pairs (order_pair finite.cap row.scales.unit costs) place ++ (finite.cap -ℤ pos place, stay +ℤ row.scales.unit *ℤ (finite.cap -ℤ pos place)) ∷ []
      pairs =
          ap (λ s. row_pairs (order_pair finite.cap s.unit after_costs) after.place) same_scales
          ∙ ap (λ cells. row_pairs (order_pair finite.cap row.scales.unit cells) after.place) is_costs
          ∙ ap (row_pairs (order_pair finite.cap row.scales.unit (set costs place stay))) (is_after ∙ is_more)
          ∙ pairs_more finite.cap row.scales.unit costs place stay in_costs

-- ---- a row is begun
-- the last row is whole, or there is none
whole_case : (rows width place : ℕ) → ((rows == 0) || nat_le width place) ≡ true → (rows ≡ 0) ⊎ (width ≤ place)
whole_case rows width place whole = by (rows == 0) (nat_le width place) refl refl whole
  where
    by : (a b : Bool) → (rows == 0) ≡ a → nat_le width place ≡ b → (a || b) ≡ true → (rows ≡ 0) ⊎ (width ≤ place)
    by true b e g h = inl (eqb-true rows 0 e)
    by false true e g h = inr (omega (arith, leb-true width place g))
    by false false e g h = cc

module _ (finite : Finite) (rows place : ℕ) (values costs : List ℤ) (whole : ((rows == 0) || nat_le (row_width finite (row_period finite rows)) place) ≡ true) (fresh : rows ≡ 0 → IsFresh finite place values) where
  -- its cells are small
  pub begin_small : AreSmall finite rows place values costs → (next after : ℕ) → next ≡ rows + 1 → after ≡ 0 → AreSmall finite next after values costs
  begin_small small next after is_next is_after = record {
    kept = λ k lt. absurd (omega (arith, lt, is_after));
    later = λ k from lt. by k (subst (λ m. k < row_width finite (suc finite.periods - m)) before lt) (whole_case rows (row_width finite (row_period finite rows)) place whole);
    small_costs = λ k lt. absurd (omega (arith, lt, is_after));
  }
    where
      before : next - 1 ≡ rows
      before = omega (arith, is_next)

      by : (k : ℕ) → k < row_width finite (suc finite.periods - rows) → (rows ≡ 0) ⊎ (row_width finite (row_period finite rows) ≤ place) → IsSmallValue finite (next - 1) (value_at values k)
      by k lt (inl none) =
          let first : rows - 1 ≡ rows = omega (arith, none) in
          subst (λ m. IsSmallValue finite m (value_at values k)) (first ∙ sym before) (small.later k (omega (arith, (fresh none).is_first)) (subst (λ m. k < row_width finite (suc finite.periods - m)) (sym first) lt))
      by k lt (inr le) = subst (λ m. IsSmallValue finite m (value_at values k)) (sym before) (small.kept k (omega (arith, lt, le)))

  -- the values of the last row are the next one's later values
  pub begin_knows : (first : FirstRows) → KnowsTables finite rows place values costs first → (next after : ℕ) → next ≡ rows + 1 → after ≡ 0
      → KnowsTables finite next after values costs (record { rows = suc first.rows; later = last_values finite first; values = [] })
  begin_knows first knows next after is_next is_after = record {
    rows_are = omega (arith, is_next, knows.rows_are);
    place_is = is_after;
    kept = λ k lt. absurd (omega (arith, lt, is_after));
    later = λ k from lt. by k (first.rows == 0) refl (subst (λ m. k < row_width finite (suc finite.periods - m)) before lt);
    kept_costs = λ k lt. absurd (omega (arith, lt, is_after));
  }
    where
      before : next - 1 ≡ rows
      before = omega (arith, is_next)

      gone : (cap : ℤ) (k : ℕ) → above_zero (cap -ℤ (cap -ℤ pos k)) ≡ k
      gone cap k = ap above_zero (back cap (pos k))
        where
          back : (a b : ℤ) → a -ℤ (a -ℤ b) ≡ b
          back a b = omega (arith, ints)

      kept_at : (k : ℕ) → k < row_width finite (suc finite.periods - rows) → (rows ≡ 0) ⊎ (row_width finite (row_period finite rows) ≤ place) → ((rows ≡ 0) → ⊥) → value_at values k ≡ value_at first.values k
      kept_at k lt (inl none) some = absurd (some none)
      kept_at k lt (inr le) some = knows.kept k (omega (arith, lt, le))

      by : (k : ℕ) (b : Bool) → (first.rows == 0) ≡ b → k < row_width finite (suc finite.periods - rows) → value_at values k ≡ (if b then end_value finite (finite.cap -ℤ pos k) else listed_value finite.cap first.values (finite.cap -ℤ pos k))
      by k true e lt =
          let none : rows ≡ 0 = knows.rows_are ∙ eqb-true first.rows 0 e in
          (fresh none).ends k (subst (λ m. k < row_width finite m) (omega (arith, none)) lt)
      by k false e lt =
          kept_at k lt (whole_case rows (row_width finite (row_period finite rows)) place whole) (λ none. absurd (cc (e, eq-eqb first.rows 0 (sym knows.rows_are ∙ none))))
          ∙ ap (value_at first.values) (sym (gone finite.cap k))

-- a row that is begun has no place yet
pub begin_row_is : (finite : Finite) (rows n : ℕ) (laws : HeldLaws) (row : Row) (costs room : List ℤ) (sums : List ℕ) → row.width ≡ row_width finite (row_period finite rows) → row.place ≡ 0 → AreScales finite n row.scales → HoldsLaws finite (row_period finite rows) laws sums
    → IsWalkOf row.walk finite.holding finite.stockout (lead_law finite (row_period finite rows)) → place_of row.walk ≡ finite.cap → reach_room row.reach ≡ capacity_cells finite.most (finite_positions finite) → length room ≡ capacity_cells finite.most (finite_positions finite)
    → ((room : List ℤ) → length room ≡ capacity_cells finite.most (finite_positions finite) → IsReachOf finite.most (finite_positions finite) row.reach room []) → IsRow finite n (row_period finite rows) laws row costs room sums
begin_row_is finite rows n laws row costs room sums is_width none scales holds walk stands cells is_room reach = record {
  is_width = is_width;
  place_within = omega (arith, none);
  are_scales = scales;
  are_laws = holds;
  is_walk = walk;
  stands = λ lt. stands ∙ at_first finite.cap row.place none;
  is_room = is_room ∙ sym cells;
  is_reach = ∣ subst (λ k. IsReachOf finite.most (finite_positions finite) row.reach room (row_pairs (order_pair finite.cap row.scales.unit costs) k)) (sym none) (reach room is_room) ∣₁;
}
  where
    at_first : (cap : ℤ) (place : ℕ) → place ≡ 0 → cap ≡ cap -ℤ pos place
    at_first cap place e = omega (arith, ints, e)

-- ---- no row yet
-- the grid after the last period has a place for each of its positions
end_places : (finite : Finite) (k : ℕ) → k < row_width finite (suc finite.periods) → k < finite_positions finite
unfolding finite_positions
end_places finite k lt = subst (λ m. k < row_width finite m) one lt
  where
    one : suc finite.periods ≡ finite.periods + 1
    one = omega arith

module _ (finite : Finite) (place : ℕ) (values : List ℤ) (none : place ≡ 0) (ends : (k : ℕ) → k < finite_positions finite → value_at values k ≡ end_value finite (finite.cap -ℤ pos k)) where
  -- the values are those of the end
  pub new_fresh : IsFresh finite place values
  new_fresh = record { is_first = none; ends = λ k lt. ends k (end_places finite k lt) }

  -- they are small
  pub new_small : IsValidFinite finite → (costs : List ℤ) → AreSmall finite 0 place values costs
  new_small valid costs = record {
    kept = λ k lt. absurd (omega (arith, lt, none));
    later = λ k from lt.
        let inside = end_places finite k (subst (λ m. k < row_width finite m) (omega arith) lt) in
        subst (IsSmallValue finite 0) (sym (ends k inside)) (end_small finite valid.regular.readable (finite.cap -ℤ pos k) (place_last finite valid k inside) (omega (arith, ints)));
    small_costs = λ k lt. absurd (omega (arith, lt, none));
  }

  -- no row is named
  pub new_knows : (costs : List ℤ) → KnowsTables finite 0 place values costs (no_rows finite)
  new_knows costs = record {
    rows_are = refl;
    place_is = none;
    kept = λ k lt. absurd (omega (arith, lt, none));
    later = λ k from lt. ends k (end_places finite k (subst (λ m. k < row_width finite m) (omega arith) lt));
    kept_costs = λ k lt. absurd (omega (arith, lt, none));
  }
