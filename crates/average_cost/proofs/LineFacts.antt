-- The lines of the code are those of the equations, and small.
use Rattle.std.proofs.Common.{◌≡◌, ℕ, ◌+◌, ◌-◌, ◌*◌, ◌^◌, ◌<◌, ◌≤◌, Bool, nat_le, if◌then◌else◌, min, List, [], ◌∷◌, ◌++◌, length, sum, slice_index, refl, sym, ◌∙◌, ap, subst, arith, mul-le-mul_left, pow-suc, add-one, ◌⊎◌, inl, inr, Option, Some, None, MatchOption}
use Rattle.std.proofs.lemmas.Bool.{cases_lt}
use Rattle.std.proofs.lemmas.Nat.{mul-le}
use Rattle.std.proofs.Math.Nat.{one-le-pow}
use Rattle.decision_model.specs.declared.average.Average.{Average}
use Rattle.decision_model.specs.Average.{HasDemand, IsValidAverage, average_positions, average_cost_bound}
use Rattle.demand_law.specs.CountedSums.{counted}
use Rattle.value_cert.specs.AverageValues.{Ratio, moving, at_place, stock_sum, carried, greatest_den}
use Rattle.average_lemmas.specs.Certified.{moving_some}
use Rattle.average_lemmas.specs.ChosenLines.{are_chosen, length-chosen, keep_constant-same, keep_slope-same}
use Rattle.average_lemmas.specs.CostLines.{keep_constant, keep_slope, limit_constant, takes_limit, chosen_lines, IsTurn}
use Rattle.average_lemmas.specs.Entries.{entry_before}
use Rattle.average_lemmas.specs.Iteration.{fewer_lines}
use Rattle.average_lemmas.specs.KeptSizes.{half_small}
use Rattle.average_lemmas.specs.RulesKept.{positions_count}
use Rattle.average_lemmas.specs.Sizes.{constant_small, slope_small, constant_fits, slope_fits, limit_fits, limit_small}
use Rattle.fraction128.specs.Divisors.{AreCoprime}
use Rattle.decision_model.specs.WidthFacts.{average_positions_some}
use Rattle.value_cert.specs.AverageValues.{average_cost_of}
use Rattle.average_lemmas.specs.AverageCost.{reduced, reduced_turn}
use Rattle.average_lemmas.specs.ChosenLines.{chosen_are_least}
use Rattle.average_lemmas.specs.CostLines.{table_of, measure}
use Rattle.average_lemmas.specs.Iteration.{next_g, solved_table}
use Rattle.average_lemmas.specs.OnlyAverage.{only_average}
use Rattle.average_lemmas.specs.Sizes.{first_turn, next_turn, next_falls}
use Rattle.average_cost.specs.Grids.{AreTerms, IsPlace}
use Rattle.average_cost.specs.Moves.{keep_of, moves_upto}
use Rattle.average_cost.specs.Turns.{ratio_of, constant_at, slope_at, IsNext, NoneBelow, NextOf, AreLines}
use Rattle.average_cost.specs.declared.gain.Gain.{Gain}
use Rattle.average_cost.specs.declared.gain.Lines.{Lines}
use Rattle.average_cost.specs.declared.grid.Place.{Place}
use Rattle.average_cost.specs.declared.grid.Terms.{Terms}
use Rattle.average_lemmas.specs.PlaceSizes.{line_fits, den_fits}
use Rattle.average_cost.proofs.KeepFacts.{keep_is}

module _ (item : Average) (terms : Terms) (are : AreTerms item terms) (place : Place) (k : ℕ) (lt : k < average_positions item) (is : IsPlace item place k) (entries : List ℕ) (many : length entries ≡ k) where
  -- what keeping a place comes to
  pub keep_place : (first below s : ℕ) → below ≡ place.rest * s → keep_of terms.moves.items first below place.power entries ≡ first * sum (moving item.law) ^ k + counted (moving item.law) (carried (sum (moving item.law)) s (slice_index entries) k)
  keep_place first below s e =
      ap (λ moves. keep_of moves first below place.power entries) are.moves
      ∙ ap (λ b. keep_of (moves_upto item.law (sum (moving item.law)) (min (average_positions item - 1) (length item.law - 1))) first b place.power entries) e
      ∙ keep_is item.law (sum (moving item.law)) s first k (average_positions item - 1) place.power place.rest entries many (omega (arith, lt)) is.power is.rest

  pub constant_is : (stock : ℕ) → stock ≡ stock_sum item (at_place item k) → keep_of terms.moves.items stock (place.rest * terms.below) place.power entries ≡ keep_constant item (slice_index entries) k
  constant_is stock e =
      keep_place stock (place.rest * terms.below) (item.setup * sum item.law ^ item.lead) (ap (λ z. place.rest * z) are.below)
      ∙ ap (λ z. z * sum (moving item.law) ^ k + counted (moving item.law) (carried (sum (moving item.law)) (item.setup * sum item.law ^ item.lead) (slice_index entries) k)) e

  pub slope_is : keep_of terms.moves.items terms.unit 0 place.power entries ≡ keep_slope item (slice_index entries) k
  slope_is =
      keep_place terms.unit 0 0 (omega arith)
      ∙ ap (λ z. z * sum (moving item.law) ^ k + counted (moving item.law) (carried (sum (moving item.law)) 0 (slice_index entries) k)) are.unit

  -- so what comes from below the floor is small
  pub rest_small : (bound : ℕ) → HasDemand item.law → keep_constant item (slice_index entries) k ≤ bound → place.rest * terms.below ≤ bound
  rest_small bound some le =
      let power = one-le-pow k (sum (moving item.law)) (omega (arith, moving_some item.law some)) in
      omega (arith, le, constant_is (stock_sum item (at_place item k)) refl, is.power, mul-le-mul_left (place.rest * terms.below) power, ap (λ z. place.rest * terms.below * z) is.power)

module _ (item : Average) (valid : IsValidAverage item) where
  abbrev n : ℕ
  n = average_positions item

  -- what ordering costs at a place
  pub limit_is : (terms : Terms) → AreTerms item terms → (place : Place) (k : ℕ) → IsPlace item place k → terms.below * place.power * terms.moving ≡ limit_constant item k
  limit_is terms are place k is =
      (λ i. are.below i * is.power i * are.all_moving i) ∙ omega (arith, ap (λ z. item.setup * sum item.law ^ item.lead * z) (pow-suc (sum (moving item.law)) k))

  pub limit_most : (k : ℕ) → k < n → limit_constant item k ≤ 2 ^ 119
  limit_most k lt = line_fits item valid (limit_constant item k) (limit_small item valid.regular.has_demand n (positions_count item valid.regular.readable) k lt)

  pub limit_front : (terms : Terms) → AreTerms item terms → (place : Place) (k : ℕ) → k < n → IsPlace item place k → terms.below * place.power ≤ 2 ^ 119
  limit_front terms are place k lt is =
      let some = moving_some item.law valid.regular.has_demand in
      let least : 1 ≤ terms.moving = omega (arith, some, are.all_moving) in
      omega (arith, limit_is terms are place k is, limit_most k lt, mul-le-mul_left (terms.below * place.power) least)

  -- the lines by their choices, at a turn's g
  module _ (g : Ratio) where
    abbrev pub chosen_limits : ℕ → ℕ → Bool
    chosen_limits k = takes_limit item g (constant_at item g k) (slope_at item g k)

    pub constant_most : (k : ℕ) → k < n → keep_constant item (constant_at item g k) k ≤ 2 ^ 119
    constant_most k lt = line_fits item valid _ (constant_small item valid.regular.has_demand n (positions_count item valid.regular.readable) k lt (chosen_limits k) (constant_at item g k) (slope_at item g k) (are_chosen item g k))

    pub slope_most : (k : ℕ) → k < n → keep_slope item (slope_at item g k) k ≤ 2 ^ 119
    slope_most k lt = den_fits item valid _ (slope_small item valid.regular.has_demand n (positions_count item valid.regular.readable) k lt (chosen_limits k) (constant_at item g k) (slope_at item g k) (are_chosen item g k))

    pub constant_by_g : IsTurn item n g → (k : ℕ) → k < n → keep_constant item (constant_at item g k) k * g.den ≤ 2 ^ 119
    constant_by_g turn k lt = omega (arith, half_small item valid, constant_fits item valid.regular.has_demand n (positions_count item valid.regular.readable) k lt (chosen_limits k) (constant_at item g k) (slope_at item g k) (are_chosen item g k) g turn)

    pub slope_by_g : IsTurn item n g → (k : ℕ) → k < n → keep_slope item (slope_at item g k) k * g.num ≤ 2 ^ 119
    slope_by_g turn k lt = omega (arith, half_small item valid, slope_fits item valid.regular.has_demand n (positions_count item valid.regular.readable) k lt (chosen_limits k) (constant_at item g k) (slope_at item g k) (are_chosen item g k) g turn)

    pub limit_by_g : IsTurn item n g → (k : ℕ) → k < n → limit_constant item k * g.den ≤ 2 ^ 119
    limit_by_g turn k lt = omega (arith, half_small item valid, limit_fits item valid.regular.has_demand n (positions_count item valid.regular.readable) g turn k lt)

    -- against the next g so far
    pub against_next : (k : ℕ) → k < n → (next : Option Gain) → NextOf item g k next
        → MatchOption next (Unit {0}) (λ best. (best.num * keep_slope item (slope_at item g k) k ≤ 2 ^ 120) × (keep_constant item (constant_at item g k) k * best.den ≤ 2 ^ 120))
    against_next k lt None is = tt
    against_next k lt (Some best) is =
        let top = (item.setup + average_cost_bound item) * greatest_den item n in
        let all = positions_count item valid.regular.readable in
        let a = constant_at item g k in
        let b = slope_at item g k in
        let fewer = fewer_lines item k is.place (chosen_limits k) a b (omega (arith, is.within)) (are_chosen item g k) in
        let num_small = constant_small item valid.regular.has_demand n all is.place (omega (arith, is.within, lt)) (chosen_limits k) a b fewer in
        let den_small = slope_small item valid.regular.has_demand n all is.place (omega (arith, is.within, lt)) (chosen_limits k) a b fewer in
        let constant = constant_small item valid.regular.has_demand n all k lt (chosen_limits k) a b (are_chosen item g k) in
        let slope = slope_small item valid.regular.has_demand n all k lt (chosen_limits k) a b (are_chosen item g k) in (
          omega (arith, half_small item valid, mul-le (keep_constant item a is.place) (keep_slope item b k) top (greatest_den item n) num_small slope, ap (λ z. z * keep_slope item b k) is.num),
          omega (arith, half_small item valid, mul-le (keep_constant item a k) (keep_slope item b is.place) top (greatest_den item n) constant den_small, ap (λ z. keep_constant item a k * z) is.den),
        )

-- ---- one more place
module _ (item : Average) (g : Ratio) (k : ℕ) where
  -- the lines of the earlier places stay
  constants_stay : (j : ℕ) → j ≤ k → keep_constant item (constant_at item g k) j ≡ keep_constant item (constant_at item g (k + 1)) j
  unfolding chosen_lines
  constants_stay j le = rw add-one (keep_constant-same item (constant_at item g k) (slice_index ((chosen_lines item g k).constants ++ _ ∷ [])) j (λ i lt. sym (entry_before (chosen_lines item g k).constants _ i (omega (arith, lt, le, (length-chosen item g k).0)))))

  slopes_stay : (j : ℕ) → j ≤ k → keep_slope item (slope_at item g k) j ≡ keep_slope item (slope_at item g (k + 1)) j
  unfolding chosen_lines
  slopes_stay j le = rw add-one (keep_slope-same item (slope_at item g k) (slice_index ((chosen_lines item g k).slopes ++ _ ∷ [])) j (λ i lt. sym (entry_before (chosen_lines item g k).slopes _ i (omega (arith, lt, le, (length-chosen item g k).1)))))

  -- the next g after one more place
  pub more_next : (next result : Option Gain) (line : Gain) → line.num ≡ keep_constant item (constant_at item g k) k → line.den ≡ keep_slope item (slope_at item g k) k → NextOf item g k next
      → MatchOption result (next ≡ None) (λ best. (next ≡ Some best) ⊎ ((best ≡ line) × (line.num * g.den < line.den * g.num)))
      → (result ≡ None → line.den * g.num ≤ line.num * g.den) → NextOf item g (k + 1) result
  more_next next None line num den is one none = all (subst (λ (z : Option Gain). NextOf item g k z) one is) (none refl)
    where
      all : NoneBelow item g k → line.den * g.num ≤ line.num * g.den → NoneBelow item g (k + 1)
      all earlier here j lt = at (cases_lt j k)
        where
          at : (j < k) ⊎ (k ≤ j) → keep_slope item (slope_at item g (k + 1)) j * g.num ≤ keep_constant item (constant_at item g (k + 1)) j * g.den
          at (inl less) = omega (arith, earlier j less, ap (λ z. z * g.num) (slopes_stay j (omega (arith, less))), ap (λ z. z * g.den) (constants_stay j (omega (arith, less))))
          at (inr from) =
              let e : k ≡ j = omega (arith, from, lt) in
              subst (λ (i : ℕ). keep_slope item (slope_at item g (k + 1)) i * g.num ≤ keep_constant item (constant_at item g (k + 1)) i * g.den) e
              (omega (arith, here, ap (λ z. z * g.num) den, ap (λ z. z * g.den) num, ap (λ z. z * g.num) (slopes_stay k (omega arith)), ap (λ z. z * g.den) (constants_stay k (omega arith))))
  more_next next (Some best) line num den is (inl same) none = kept (subst (λ (z : Option Gain). NextOf item g k z) same is)
    where
      kept : IsNext item g k best → IsNext item g (k + 1) best
      kept before = record {
        place = before.place;
        within = omega (arith, before.within);
        num = before.num ∙ constants_stay before.place (omega (arith, before.within));
        den = before.den ∙ slopes_stay before.place (omega (arith, before.within));
        less = omega (arith, before.less, ap (λ z. z * g.num) (slopes_stay before.place (omega (arith, before.within))), ap (λ z. z * g.den) (constants_stay before.place (omega (arith, before.within))));
      }
  more_next next (Some best) line num den is (inr new) none = subst (λ (z : Gain). IsNext item g (k + 1) z) (sym new.0) (record {
    place = k;
    within = omega arith;
    num = num ∙ constants_stay k (omega arith);
    den = den ∙ slopes_stay k (omega arith);
    less = omega (arith, new.1, ap (λ z. z * g.den) num, ap (λ z. z * g.num) den, ap (λ z. z * g.num) (slopes_stay k (omega arith)), ap (λ z. z * g.den) (constants_stay k (omega arith)));
  })

  -- the lines with one more place
  pub lines_more : (a b xs ys : List ℕ) (num den limit kept_num kept_den : ℕ) → a ≡ (chosen_lines item g k).constants → b ≡ (chosen_lines item g k).slopes
      → num ≡ keep_constant item (slice_index a) k → den ≡ keep_slope item (slice_index b) k → limit ≡ limit_constant item k
      → kept_num ≡ (if nat_le (limit * g.den + den * g.num) (num * g.den) then limit else num) → kept_den ≡ (if nat_le (limit * g.den + den * g.num) (num * g.den) then 0 else den)
      → xs ≡ a ++ kept_num ∷ [] → ys ≡ b ++ kept_den ∷ [] → (xs ≡ (chosen_lines item g (k + 1)).constants) × (ys ≡ (chosen_lines item g (k + 1)).slopes)
  unfolding chosen_lines
  lines_more a b xs ys num den limit kept_num kept_den is_a is_b is_num is_den is_limit is_kept is_slope is_xs is_ys =
      rw (add-one, sym is_a, sym is_b) (is_xs ∙ ap (λ z. a ++ z ∷ []) (is_kept ∙ constant), is_ys ∙ ap (λ z. b ++ z ∷ []) (is_slope ∙ slope))
    where
      constant : (if nat_le (limit * g.den + den * g.num) (num * g.den) then limit else num) ≡ (if takes_limit item g (slice_index a) (slice_index b) k then limit_constant item k else keep_constant item (slice_index a) k)
      constant = λ i. if nat_le (is_limit i * g.den + is_den i * g.num) (is_num i * g.den) then is_limit i else is_num i

      slope : (if nat_le (limit * g.den + den * g.num) (num * g.den) then 0 else den) ≡ (if takes_limit item g (slice_index a) (slice_index b) k then 0 else keep_slope item (slice_index b) k)
      slope = λ i. if nat_le (is_limit i * g.den + is_den i * g.num) (is_num i * g.den) then 0 else is_den i

  -- lines as they are told
  pub num_told : (result : ℕ) (seen held : List ℕ) → result ≡ keep_constant item (slice_index seen) k → seen ≡ held → held ≡ (chosen_lines item g k).constants → result ≡ keep_constant item (constant_at item g k) k
  num_told result seen held is e f = is ∙ ap (λ (xs : List ℕ). keep_constant item (slice_index xs) k) (e ∙ f)

  pub den_told : (result : ℕ) (seen held : List ℕ) → result ≡ keep_slope item (slice_index seen) k → seen ≡ held → held ≡ (chosen_lines item g k).slopes → result ≡ keep_slope item (slope_at item g k) k
  den_told result seen held is e f = is ∙ ap (λ (xs : List ℕ). keep_slope item (slice_index xs) k) (e ∙ f)

-- ---- before the first place
no_place : (P : ℕ → Type 0) (j : ℕ) → j < 0 → P j
no_place P j lt = absurd (omega (arith, lt))

pub first_constant : (item : Average) (a b : ℕ → ℕ) → keep_constant item a 0 ≡ keep_constant item b 0
first_constant item a b = keep_constant-same item a b 0 (no_place (λ j. a j ≡ b j))

pub first_slope : (item : Average) (a b : ℕ → ℕ) → keep_slope item a 0 ≡ keep_slope item b 0
first_slope item a b = keep_slope-same item a b 0 (no_place (λ j. a j ≡ b j))

pub no_lines : (item : Average) (g : Ratio) (lines : Lines) → lines.constants.items ≡ [] → lines.slopes.items ≡ [] → lines.next ≡ None → AreLines item g 0 lines
unfolding chosen_lines
no_lines item g lines e f none = record { constants = e; slopes = f; next = subst (λ (z : Option Gain). NextOf item g 0 z) (sym none) (λ j lt. absurd (omega (arith, lt))) }

module _ (item : Average) (valid : IsValidAverage item) where
  pub first_constant_small : (a : ℕ → ℕ) → keep_constant item a 0 ≤ 2 ^ 119
  first_constant_small a = let g : Ratio = record { num = 0; den = 1 } in omega (arith, first_constant item a (constant_at item g 0), constant_most item valid g 0 (average_positions_some item valid.regular.readable))

  pub first_slope_small : (a : ℕ → ℕ) → keep_slope item a 0 ≤ 2 ^ 119
  first_slope_small a = let g : Ratio = record { num = 0; den = 1 } in omega (arith, first_slope item a (slope_at item g 0), slope_most item valid g 0 (average_positions_some item valid.regular.readable))

  -- the first g is a turn's
  pub first_is_turn : (num den : ℕ) (a b : ℕ → ℕ) → num ≡ keep_constant item a 0 → den ≡ keep_slope item b 0 → IsTurn item (average_positions item) (record { num = num; den = den })
  first_is_turn num den a b is_num is_den =
      let first = first_turn item valid.regular.has_demand (average_positions item) (positions_count item valid.regular.readable) (average_positions_some item valid.regular.readable) in
      let top : keep_constant item (limit_constant item) 0 ≡ num = sym (is_num ∙ first_constant item a (limit_constant item)) in
      let bottom : keep_slope item (λ k. 0) 0 ≡ den = sym (is_den ∙ first_slope item b (λ k. 0)) in
      subst (λ (z : Ratio). IsTurn item (average_positions item) z) (λ i. record { num = top i; den = bottom i }) first

  -- the end of the turns
  pub end_is : (g : Ratio) → IsTurn item (average_positions item) g → AreCoprime g.num g.den → NoneBelow item g (average_positions item) → g ≡ average_cost_of item
  end_is g turn lowest none =
      let n = average_positions item in
      sym (only_average item g valid.regular.has_demand (record {
        turn = turn;
        lowest = lowest;
        table = table_of g (constant_at item g n) (slope_at item g n);
        solved = solved_table item g n (chosen_limits item valid g n) (constant_at item g n) (slope_at item g n) (chosen_are_least item g n (constant_at item g n) (slope_at item g n) (are_chosen item g n)) (λ k lt. omega (arith, none k lt)) turn.reached;
      }))

  -- a turn and the next one
  pub next_is : (g : Ratio) → IsTurn item (average_positions item) g → (next : Gain) → IsNext item g (average_positions item) next → (h : Ratio) → h ≡ reduced (ratio_of next)
      → IsTurn item (average_positions item) h × AreCoprime h.num h.den × (measure item (average_positions item) h < measure item (average_positions item) g) × (1 ≤ next.den)
  next_is g turn next is h e =
      let n = average_positions item in
      let all = positions_count item valid.regular.readable in
      let some = valid.regular.has_demand in
      let a = constant_at item g n in
      let b = slope_at item g n in
      let limits = chosen_limits item valid g n in
      let same : ratio_of next ≡ next_g item a b is.place = λ i. record { num = is.num i; den = is.den i } in
      let turn_next = subst (λ (z : Ratio). IsTurn item n z) (sym same) (next_turn item some n all limits a b (are_chosen item g n) g turn is.place is.within is.less) in
      let falls = subst (λ (z : Ratio). measure item n z < measure item n g) (sym same) (next_falls item some n all limits a b (are_chosen item g n) g turn is.place is.within is.less) in
      let low = reduced_turn item n (ratio_of next) turn_next in
      (subst (λ (z : Ratio). IsTurn item n z) (sym e) low.turn, subst (λ (z : Ratio). AreCoprime z.num z.den) (sym e) low.lowest, subst (λ (z : Ratio). measure item n z < measure item n g) (sym e) (less falls low.most), turn_next.some)
    where
      less : {x y z : ℕ} → y < z → x ≤ y → x < z
      less lt le = omega (arith, lt, le)
