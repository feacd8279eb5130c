-- A certificate of an average cost that breaks no rule meets the equations at each place, so its pair has least average
-- cost.
use Rattle.std.proofs.Common.{◌≡◌, ℕ, zero, suc, ◌+◌, ◌*◌, ◌^◌, ◌<◌, ◌≤◌, ℤ, pos, ◌+ℤ◌, ◌-ℤ◌, ◌≤ℤ◌, ◌<ℤ◌, IsTrue, Bool, true, false, if◌then◌else◌, ◌&&◌, nat_eq, nat_le, nat_lt, List, [], ◌∷◌, ◌++◌, length, map, slice_index, slice_index_or, sum, None, refl, sym, ◌∙◌, ap, subst, arith, ◌⊎◌, inl, inr}
use Rattle.std.specs.Prelude.{int_le, int_lt}
use Rattle.std.proofs.lemmas.Bool.{and_parts}
use Rattle.std.proofs.lemmas.Bool.Decides.{nat_tests}
use Rattle.std.proofs.lemmas.Int.{ints}
use Rattle.std.specs.List.{range_with_len}
use Rattle.std.proofs.Common.{length-append}
use Rattle.std.proofs.Math.Nat.{one-le-pow}
use Rattle.std.proofs.lemmas.Nat.{mul-le}
use Rattle.std.proofs.lemmas.List.{get_or_append_left, append_assoc, length-map}
use Rattle.std.proofs.Math.Seq.{get_or-append_seam}
use Rattle.decision_model.specs.declared.average.Average.{Average}
use Rattle.decision_model.specs.Average.{IsReadableAverage, IsValidAverage, average_positions}
use Rattle.decision_model.specs.Positions.{above_zero}
use Rattle.fraction128.specs.Reduced.{gcd_of}
use Rattle.decision_model.specs.PositionTests.{le_known, le_test, above_zero_is}
use Rattle.decision_model.specs.declared.instance.Instance.TheVariants as instance
use Rattle.value_cert.specs.Average.{point_line}
use Rattle.value_cert.specs.AverageLeast.{IsPair, MeetsEquations}
use Rattle.value_cert.specs.AverageRules.{FirstPoints, cost_in, lower_in, upper_in, span_den, span_of, IsLeastAverage, is_gain, is_pair, is_lower_entry, is_upper_entry, is_zero_at_high, is_next_point, average_rules}
use Rattle.value_cert.specs.AverageValues.{Ratio, moving, at_place, limit, gain, loss, greatest_den, greatest_num}
use Rattle.value_cert.specs.Kept.{Keeps, BreaksNoRule}
use Rattle.value_cert.specs.Numbers.{is_number}
use Rattle.value_cert.specs.RuleTests.{same_number, number_at, rule_passed}
use Rattle.value_cert.specs.Standards.{rules_of}
use Rattle.value_cert.specs.declared.average.AverageCell.{AverageCell}
use Rattle.value_cert.specs.declared.average.AverageCert.{AverageCert}
use Rattle.value_cert.specs.declared.cert.Cert.TheVariants as cert
use Rattle.value_cert.specs.declared.line.CertLine.TheVariants as line
use Rattle.average_lemmas.specs.Agreement.{gain_same}
use Rattle.average_lemmas.specs.Certified.{moving_some, certified}
use Rattle.average_lemmas.specs.SpanFacts.{span_is}
use Rattle.average_lemmas.specs.Tables.{sum_first}

-- ---- tests
nat_le_known : (a b : ℕ) → IsTrue (nat_le a b) → a ≤ b
nat_le_known a b h = grind (arith, nat_tests)

nat_lt_known : (a b : ℕ) → IsTrue (nat_lt a b) → a < b
nat_lt_known a b h = grind (arith, nat_tests)

nat_eq_known : (a b : ℕ) → IsTrue (nat_eq a b) → a ≡ b
nat_eq_known a b h = grind (arith, nat_tests)

int_lt_known : (a b : ℤ) → IsTrue (int_lt a b) → a <ℤ b
int_lt_known a b h = grind (arith, ints)

-- what the test of an upper entry says, by whether the position is at most low
chosen : (b : Bool) {x y : Bool} → IsTrue (if b then x else y) → ((b ≡ true) × IsTrue x) ⊎ ((b ≡ false) × IsTrue y)
chosen true h = inl (refl, h)
chosen false h = inr (refl, h)

-- ---- one place
-- its position and its entries meet the equations, with those of the places below
pub record HoldsAt (item : Average) (g : Ratio) (low high : ℤ) (lower upper : ℕ → ℕ) (k : ℕ) (at : ℤ) : Type 0 where
  pub inside : k < average_positions item
  pub position : at ≡ at_place item k
  pub keep : lower k + loss item g k ≤ gain item g lower k
  pub within : lower k ≤ limit item g k
  pub order : at_place item k ≤ℤ low → upper k ≡ limit item g k
  pub above : low <ℤ at_place item k → upper k + loss item g k ≡ gain item g upper k
  pub reached : at_place item k ≡ high → upper k ≡ 0

-- entries before and after one more
pub before_seam : (xs : List ℕ) (y : ℕ) (ys : List ℕ) (j : ℕ) → j < length xs → slice_index xs j ≡ slice_index (xs ++ y ∷ ys) j
before_seam xs y ys j lt = sym (get_or_append_left xs (y ∷ ys) 0 j lt)

pub at_seam : (xs : List ℕ) (y : ℕ) (ys : List ℕ) → slice_index (xs ++ y ∷ ys) (length xs) ≡ y
at_seam xs y ys = get_or-append_seam xs y ys 0

module _ (item : Average) (g : Ratio) (low high : ℤ) where
  -- what is known behind the lines of some places
  abbrev known : List ℕ → List ℕ → FirstPoints
  known lower upper = record { g = g; low = low; high = high; lower = lower; upper = upper }

  -- the next place
  place_holds : (lower upper later_lower later_upper : List ℕ) (cell : AverageCell) → length upper ≡ length lower
      → (average_rules item).broken (known lower upper) (point_line cell) ≡ None
      → HoldsAt item g low high (slice_index (lower ++ cell.lower ∷ later_lower)) (slice_index (upper ++ cell.upper ∷ later_upper)) (length lower) cell.at
  place_holds lower upper later_lower later_upper cell same none =
      let k = length lower in
      let next = rule_passed (is_next_point item (known lower upper) cell.at) _ 2 none in
      let low_entry = rule_passed (is_lower_entry item (known lower upper) cell.lower) _ 5 next.1 in
      let up_entry = rule_passed (is_upper_entry item (known lower upper) cell.at cell.upper) _ 6 low_entry.1 in
      let zero_entry = rule_passed (is_zero_at_high (known lower upper) cell.at cell.upper) _ 7 up_entry.1 in
      let place = and_parts (nat_lt k (average_positions item)) (is_number (at_place item k) cell.at) next.0 in
      let position = sym (same_number (at_place item k) cell.at place.1) in
      let within = and_parts (nat_le (cell.lower + loss item g k) (gain item g (slice_index lower) k)) (nat_le cell.lower (limit item g k)) low_entry.0 in
      let lower_gain = gain_same item g (slice_index lower) (slice_index (lower ++ cell.lower ∷ later_lower)) k (λ j lt. before_seam lower cell.lower later_lower j lt) in
      let upper_gain = gain_same item g (slice_index upper) (slice_index (upper ++ cell.upper ∷ later_upper)) k (λ j lt. before_seam upper cell.upper later_upper j (omega (arith, lt, same))) in
      let lower_here = at_seam lower cell.lower later_lower in
      let upper_here : slice_index (upper ++ cell.upper ∷ later_upper) k ≡ cell.upper = ap (slice_index (upper ++ cell.upper ∷ later_upper)) (sym same) ∙ at_seam upper cell.upper later_upper in
      let by_low = chosen (int_le cell.at low) up_entry.0 in
      record {
        inside = nat_lt_known k (average_positions item) place.0;
        position = position;
        keep = omega (arith, lower_here, lower_gain, nat_le_known _ _ within.0);
        within = omega (arith, lower_here, nat_le_known _ _ within.1);
        order = λ le. upper_here ∙ limit_there k cell.at cell.upper position le by_low;
        above = λ lt. ap (λ z. z + loss item g k) upper_here ∙ kept_there k cell.at cell.upper (slice_index upper) position lt by_low ∙ upper_gain;
        reached = λ e. upper_here ∙ zero_there cell.at cell.upper (position ∙ e) zero_entry.0;
      }
    where
      limit_there : (k : ℕ) (at : ℤ) (entry : ℕ) {y : Bool} → at ≡ at_place item k → at_place item k ≤ℤ low → ((int_le at low ≡ true) × IsTrue (nat_eq entry (limit item g k))) ⊎ ((int_le at low ≡ false) × IsTrue y) → entry ≡ limit item g k
      limit_there k at entry e le (inl (t, h)) = nat_eq_known entry (limit item g k) h
      limit_there k at entry e le (inr (f, h)) = absurd (cc (f, le_test at low (subst (λ (z : ℤ). z ≤ℤ low) (sym e) le)))

      kept_there : (k : ℕ) (at : ℤ) (entry : ℕ) (a : ℕ → ℕ) {x : Bool} → at ≡ at_place item k → low <ℤ at_place item k → ((int_le at low ≡ true) × IsTrue x) ⊎ ((int_le at low ≡ false) × IsTrue (nat_eq (entry + loss item g k) (gain item g a k))) → entry + loss item g k ≡ gain item g a k
      kept_there k at entry a e lt (inl (t, h)) = absurd (apart at (at_place item k) e lt (le_known at low t))
        where
          apart : (at there : ℤ) → at ≡ there → low <ℤ there → at ≤ℤ low → ⊥
          apart at there e lt le = omega (arith, ints, e, lt, le)
      kept_there k at entry a e lt (inr (f, h)) = nat_eq_known (entry + loss item g k) (gain item g a k) h

      zero_there : (at : ℤ) (entry : ℕ) → at ≡ high → IsTrue (if is_number high at then nat_eq entry 0 else true) → entry ≡ 0
      zero_there at entry e h = nat_eq_known entry 0 (subst (λ (b : Bool). IsTrue (if b then nat_eq entry 0 else true)) (number_at high at (sym e)) h)

  -- all places from the next one on, and there are no more of them than the grid has
  points_hold : (lower upper : List ℕ) (cells : List AverageCell) → length upper ≡ length lower
      → Keeps (rules_of (instance.Average item)) (known lower upper) (map point_line cells ++ line.End ∷ [])
      → (length lower + length cells ≡ average_positions item)
      × ((j : ℕ) (d : AverageCell) → j < length cells → HoldsAt item g low high (slice_index (lower ++ map (λ cell. cell.lower) cells)) (slice_index (upper ++ map (λ cell. cell.upper) cells)) (length lower + j) (slice_index_or cells j d).at)
  points_hold lower upper [] same kept =
      let whole = rule_passed (nat_eq (length lower) (average_positions item)) None 2 kept.0 in
      (omega (arith, nat_eq_known (length lower) (average_positions item) whole.0), λ j d lt. absurd (omega (arith, lt)))
  points_hold lower upper (cell ∷ cells) same kept =
      let more_lower = length-snoc lower cell.lower in
      let more_upper = length-snoc upper cell.upper in
      let rest = points_hold (lower ++ cell.lower ∷ []) (upper ++ cell.upper ∷ []) cells (omega (arith, same, more_lower, more_upper)) kept.1 in
      (omega (arith, rest.0, more_lower), each rest.1)
    where
      length-snoc : (xs : List ℕ) (x : ℕ) → length (xs ++ x ∷ []) ≡ suc (length xs)
      length-snoc xs x = omega (arith, length-append xs (x ∷ []))

      each : ((j : ℕ) (d : AverageCell) → j < length cells → HoldsAt item g low high (slice_index ((lower ++ cell.lower ∷ []) ++ map (λ c. c.lower) cells)) (slice_index ((upper ++ cell.upper ∷ []) ++ map (λ c. c.upper) cells)) (length (lower ++ cell.lower ∷ []) + j) (slice_index_or cells j d).at)
          → (j : ℕ) (d : AverageCell) → j < suc (length cells) → HoldsAt item g low high (slice_index (lower ++ cell.lower ∷ map (λ c. c.lower) cells)) (slice_index (upper ++ cell.upper ∷ map (λ c. c.upper) cells)) (length lower + j) (slice_index_or (cell ∷ cells) j d).at
      each rest zero d lt =
          subst (λ (k : ℕ). HoldsAt item g low high (slice_index (lower ++ cell.lower ∷ map (λ c. c.lower) cells)) (slice_index (upper ++ cell.upper ∷ map (λ c. c.upper) cells)) k cell.at) (omega arith)
          (place_holds lower upper (map (λ c. c.lower) cells) (map (λ c. c.upper) cells) cell same kept.0)
      each rest (suc j) d lt =
          let here = rest j d (omega (arith, lt)) in
          let e : length (lower ++ cell.lower ∷ []) + j ≡ length lower + suc j = omega (arith, length-snoc lower cell.lower) in
          subst (λ (a : List ℕ). HoldsAt item g low high (slice_index a) (slice_index (upper ++ cell.upper ∷ map (λ c. c.upper) cells)) (length lower + suc j) (slice_index_or cells j d).at) (append_assoc lower (cell.lower ∷ []) (map (λ c. c.lower) cells))
          (subst (λ (b : List ℕ). HoldsAt item g low high (slice_index ((lower ++ cell.lower ∷ []) ++ map (λ c. c.lower) cells)) (slice_index b) (length lower + suc j) (slice_index_or cells j d).at) (append_assoc upper (cell.upper ∷ []) (map (λ c. c.upper) cells))
          (subst (λ (k : ℕ). HoldsAt item g low high (slice_index ((lower ++ cell.lower ∷ []) ++ map (λ c. c.lower) cells)) (slice_index ((upper ++ cell.upper ∷ []) ++ map (λ c. c.upper) cells)) k (slice_index_or cells j d).at) e here))

-- ---- the whole certificate
-- what a certificate says that breaks no rule
pub record AreRulesKept (item : Average) (c : AverageCert) : Type 0 where
  pub den_some : 1 ≤ c.den
  pub den_small : c.den ≤ greatest_den item (average_positions item)
  pub num_small : c.num ≤ greatest_num item c.den
  pub lowest : gcd_of c.num c.den ≡ 1
  pub pair : IsPair item c.low c.high
  pub many : length c.cells ≡ average_positions item
  pub places : (k : ℕ) (d : AverageCell) → k < length c.cells → HoldsAt item (cost_in c) c.low c.high (slice_index (lower_in c)) (slice_index (upper_in c)) k (slice_index_or c.cells k d).at

pub rules_say : (item : Average) (c : AverageCert) → BreaksNoRule (instance.Average item) (cert.Average c) → AreRulesKept item c
rules_say item c kept =
    let cost = rule_passed (is_gain item c.num c.den) None 3 kept.1.0 in
    let order = rule_passed (is_pair item c.low c.high) None 4 kept.1.1.0 in
    let three = and_parts (nat_le 1 c.den && nat_le c.den (greatest_den item (average_positions item)) && nat_eq (gcd_of c.num c.den) 1) (nat_le c.num (greatest_num item c.den)) cost.0 in
    let two = and_parts (nat_le 1 c.den && nat_le c.den (greatest_den item (average_positions item))) (nat_eq (gcd_of c.num c.den) 1) three.0 in
    let one = and_parts (nat_le 1 c.den) (nat_le c.den (greatest_den item (average_positions item))) two.0 in
    let ends = and_parts (int_le (item.floor -ℤ pos 1) c.low && int_lt c.low c.high) (int_le c.high item.cap) order.0 in
    let front = and_parts (int_le (item.floor -ℤ pos 1) c.low) (int_lt c.low c.high) ends.0 in
    let points = points_hold item (cost_in c) c.low c.high [] [] c.cells refl kept.1.1.1 in
    record {
      den_some = nat_le_known 1 c.den one.0;
      den_small = nat_le_known c.den (greatest_den item (average_positions item)) one.1;
      num_small = nat_le_known c.num (greatest_num item c.den) three.1;
      lowest = nat_eq_known (gcd_of c.num c.den) 1 two.1;
      pair = record {
        above = up item.floor c.low (le_known (item.floor -ℤ pos 1) c.low front.0);
        ordered = int_lt_known c.low c.high front.1;
        within = le_known c.high item.cap ends.1;
      };
      many = omega (arith, points.0);
      places = λ k d lt. subst (λ (j : ℕ). HoldsAt item (cost_in c) c.low c.high (slice_index (lower_in c)) (slice_index (upper_in c)) j (slice_index_or c.cells k d).at) (omega arith) (points.1 k d lt);
    }
  where
    up : (floor low : ℤ) → (floor -ℤ pos 1) ≤ℤ low → floor ≤ℤ (low +ℤ pos 1)
    up floor low le = omega (arith, ints, le)

-- the equations at each place
pub equations_met : (item : Average) (c : AverageCert) → AreRulesKept item c → MeetsEquations item (cost_in c) c.low c.high (average_positions item) (slice_index (lower_in c)) (slice_index (upper_in c))
equations_met item c is = record {
  g_some = is.den_some;
  pair = is.pair;
  is_lower = record { keep = λ k lt. (at k lt).keep; within = λ k lt. (at k lt).within };
  is_upper = record { order = λ k lt. (at k lt).order; keep = λ k lt. (at k lt).above; reached = λ k lt. (at k lt).reached };
}
  where
    none : AverageCell
    none = record { at = pos 0; lower = 0; upper = 0 }

    at : (k : ℕ) → k < average_positions item → HoldsAt item (cost_in c) c.low c.high (slice_index (lower_in c)) (slice_index (upper_in c)) k (slice_index_or c.cells k none).at
    at k lt = is.places k none (omega (arith, lt, is.many))

-- the positions are those of the grid
pub positions_are : (item : Average) (c : AverageCert) → AreRulesKept item c → map (λ cell. cell.at) c.cells ≡ map (at_place item) (range_with_len 0 (average_positions item))
positions_are item c is = each c.cells (average_positions item) 0 (omega (arith, is.many)) (λ j d lt. (is.places j d lt).position ∙ ap (at_place item) (omega arith))
  where
    each : (cells : List AverageCell) (n from : ℕ) → length cells ≡ n → ((j : ℕ) (d : AverageCell) → j < length cells → (slice_index_or cells j d).at ≡ at_place item (from + j)) → map (λ cell. cell.at) cells ≡ map (at_place item) (range_with_len from n)
    each [] zero from many h = refl
    each [] (suc n) from many h = absurd (omega (arith, many))
    each (cell ∷ cells) zero from many h = absurd (omega (arith, many))
    each (cell ∷ cells) (suc n) from many h =
        let here : cell.at ≡ at_place item from = h 0 cell (omega arith) ∙ ap (at_place item) (omega arith) in
        let later = each cells n (from + 1) (omega (arith, many)) (λ j d lt. h (suc j) d (omega (arith, lt)) ∙ ap (at_place item) (omega arith)) in
        ap (λ (x : ℤ). x ∷ map (λ (c : AverageCell). c.at) cells) here ∙ ap (λ (xs : List ℤ). at_place item from ∷ xs) later

-- the grid has its positions
pub positions_count : (item : Average) → IsReadableAverage item → item.floor +ℤ pos (average_positions item) ≡ item.cap +ℤ pos 1
unfolding average_positions
positions_count item readable = count item.floor item.cap readable.floor_below
  where
    count : (floor cap : ℤ) → floor ≤ℤ cap → floor +ℤ pos (above_zero (cap -ℤ floor +ℤ pos 1)) ≡ cap +ℤ pos 1
    count floor cap le = omega (arith, ints, above_zero_is (cap -ℤ floor +ℤ pos 1) (omega (arith, ints, le)))

-- what the certificate claims holds
pub average_certifies : (item : Average) (c : AverageCert) → IsValidAverage item → BreaksNoRule (instance.Average item) (cert.Average c) → IsLeastAverage item c
average_certifies item c valid kept =
    let is = rules_say item c kept in
    let regular = valid.regular in
    let equations = equations_met item c is in
    let moving_least = moving_some item.law regular.has_demand in
    let weights = one-le-pow item.lead (sum item.law) (omega (arith, moving_least, sum_first item.law)) in
    let powers = one-le-pow (average_positions item) (sum (moving item.law)) (omega (arith, moving_least)) in
    let some : 1 ≤ span_den item c = omega (arith, mul-le 1 1 (c.den * sum item.law ^ item.lead) (sum (moving item.law) ^ average_positions item) (mul-le 1 1 c.den (sum item.law ^ item.lead) is.den_some weights) powers) in
    let span = span_is item c some (omega (arith, length-map c.cells (λ cell. cell.lower), is.many)) (omega (arith, length-map c.cells (λ cell. cell.upper), is.many)) in
    record {
      positions = positions_are item c is;
      den_small = is.den_small;
      num_small = is.num_small;
      equations = equations;
      least = certified item (cost_in c) (span_of item c) c.low c.high (average_positions item) (slice_index (lower_in c)) (slice_index (upper_in c)) regular.has_demand (positions_count item regular.readable) equations span;
    }
