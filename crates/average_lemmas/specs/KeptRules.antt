-- A certificate of an average cost that meets the equations at each place breaks no rule, and has a text.
use Rattle.std.proofs.Common.{◌≡◌, ℕ, suc, ◌+◌, ◌<◌, ◌≤◌, ℤ, pos, ◌+ℤ◌, ◌-ℤ◌, ◌≤ℤ◌, ◌<ℤ◌, IsTrue, Bool, true, false, if◌then◌else◌, ◌&&◌, nat_eq, nat_le, nat_lt, List, [], ◌∷◌, ◌++◌, length, map, slice_index, slice_index_or, None, refl, sym, ◌∙◌, ap, subst, arith, ◌⊎◌, inl, inr}
use Rattle.std.specs.Prelude.{int_le, int_lt}
use Rattle.std.proofs.lemmas.Bool.{and_from}
use Rattle.std.proofs.lemmas.Bool.Decides.{nat_tests}
use Rattle.std.proofs.lemmas.Int.{ints}
use Rattle.std.proofs.lemmas.List.{append_assoc}
use Rattle.decision_model.specs.declared.average.Average.{Average}
use Rattle.decision_model.specs.Average.{average_positions}
use Rattle.decision_model.specs.PositionTests.{le_test, le_known}
use Rattle.decision_model.specs.declared.instance.Instance.TheVariants as instance
use Rattle.value_cert.specs.Average.{point_line}
use Rattle.value_cert.specs.AverageRules.{FirstPoints, cost_in, lower_in, upper_in, is_gain, is_pair, is_lower_entry, is_upper_entry, is_zero_at_high, is_next_point, average_rules}
use Rattle.value_cert.specs.AverageValues.{Ratio, at_place, limit, gain, loss, greatest_den, greatest_num}
use Rattle.value_cert.specs.Headings.{heading_of}
use Rattle.value_cert.specs.Kept.{Keeps, BreaksNoRule, own_head}
use Rattle.value_cert.specs.Numbers.{is_number}
use Rattle.value_cert.specs.RuleTests.{same_number, number_at, passing_rule}
use Rattle.value_cert.specs.Standards.{rules_of}
use Rattle.value_cert.specs.declared.average.AverageCell.{AverageCell}
use Rattle.value_cert.specs.declared.average.AverageCert.{AverageCert}
use Rattle.value_cert.specs.declared.cert.Cert.TheVariants as cert
use Rattle.value_cert.specs.declared.line.CertLine.TheVariants as line
use Rattle.fraction128.specs.Reduced.{gcd_of}
use Rattle.average_lemmas.specs.Agreement.{gain_same}
use Rattle.average_lemmas.specs.Entries.{length-more}
use Rattle.average_lemmas.specs.Orders.{by_order, lt_test}
use Rattle.average_lemmas.specs.RulesKept.{HoldsAt, AreRulesKept, before_seam, at_seam}

nat_le_test : (a b : ℕ) → a ≤ b → IsTrue (nat_le a b)
nat_le_test a b h = grind (arith, nat_tests)

nat_lt_test : (a b : ℕ) → a < b → IsTrue (nat_lt a b)
nat_lt_test a b h = grind (arith, nat_tests)

nat_eq_test : (a b : ℕ) → a ≡ b → IsTrue (nat_eq a b)
nat_eq_test a b h = grind (arith, nat_tests)

-- a choice of two tests, by a third
choose : (b : Bool) {x y : Bool} → (b ≡ true → IsTrue x) → (b ≡ false → IsTrue y) → IsTrue (if b then x else y)
choose true first second = first refl
choose false first second = second refl

-- ---- one place
module _ (item : Average) (g : Ratio) (low high : ℤ) where
  -- what is known behind the lines of some places
  abbrev seen : List ℕ → List ℕ → FirstPoints
  seen lower upper = record { g = g; low = low; high = high; lower = lower; upper = upper }

  place_kept : (lower upper later_lower later_upper : List ℕ) (cell : AverageCell) → length upper ≡ length lower
      → HoldsAt item g low high (slice_index (lower ++ cell.lower ∷ later_lower)) (slice_index (upper ++ cell.upper ∷ later_upper)) (length lower) cell.at
      → (average_rules item).broken (seen lower upper) (point_line cell) ≡ None
  place_kept lower upper later_lower later_upper cell same holds =
      let k = length lower in
      let lower_gain = gain_same item g (slice_index lower) (slice_index (lower ++ cell.lower ∷ later_lower)) k (λ j lt. before_seam lower cell.lower later_lower j lt) in
      let upper_gain = gain_same item g (slice_index upper) (slice_index (upper ++ cell.upper ∷ later_upper)) k (λ j lt. before_seam upper cell.upper later_upper j (omega (arith, lt, same))) in
      let lower_here = at_seam lower cell.lower later_lower in
      let upper_here : slice_index (upper ++ cell.upper ∷ later_upper) k ≡ cell.upper = ap (slice_index (upper ++ cell.upper ∷ later_upper)) (sym same) ∙ at_seam upper cell.upper later_upper in
      passing_rule (is_next_point item (seen lower upper) cell.at) _ 2
      (and_from (nat_lt k (average_positions item)) (is_number (at_place item k) cell.at) (nat_lt_test k (average_positions item) holds.inside) (number_at (at_place item k) cell.at (sym holds.position)))
      (passing_rule (is_lower_entry item (seen lower upper) cell.lower) _ 5
      (and_from (nat_le (cell.lower + loss item g k) (gain item g (slice_index lower) k)) (nat_le cell.lower (limit item g k)) (nat_le_test _ _ (omega (arith, holds.keep, lower_here, lower_gain))) (nat_le_test _ _ (omega (arith, holds.within, lower_here))))
      (passing_rule (is_upper_entry item (seen lower upper) cell.at cell.upper) _ 6
      (choose (int_le cell.at low)
      (λ t. nat_eq_test cell.upper (limit item g k) (sym upper_here ∙ holds.order (at_most cell.at (at_place item k) holds.position t)))
      (λ f. nat_eq_test (cell.upper + loss item g k) (gain item g (slice_index upper) k) (ap (λ z. z + loss item g k) (sym upper_here) ∙ holds.above (is_above cell.at (at_place item k) holds.position f) ∙ sym upper_gain)))
      (passing_rule (is_zero_at_high (seen lower upper) cell.at cell.upper) None 7
      (choose (is_number high cell.at) (λ t. nat_eq_test cell.upper 0 (sym upper_here ∙ holds.reached (sym holds.position ∙ sym (same_number high cell.at t)))) (λ f. refl))
      refl)))
    where
      at_most : (at there : ℤ) → at ≡ there → int_le at low ≡ true → there ≤ℤ low
      at_most at there e t = subst (λ (z : ℤ). z ≤ℤ low) e (le_known at low t)

      is_above : (at there : ℤ) → at ≡ there → int_le at low ≡ false → low <ℤ there
      is_above at there e f = go (by_order there low)
        where
          go : (there ≤ℤ low) ⊎ (low <ℤ there) → low <ℤ there
          go (inr lt) = lt
          go (inl le) = absurd (cc (f, le_test at low (subst (λ (z : ℤ). z ≤ℤ low) (sym e) le)))

  -- all places from the next one on
  points_kept : (lower upper : List ℕ) (cells : List AverageCell) → length upper ≡ length lower → length lower + length cells ≡ average_positions item
      → ((j : ℕ) (d : AverageCell) → j < length cells → HoldsAt item g low high (slice_index (lower ++ map (λ cell. cell.lower) cells)) (slice_index (upper ++ map (λ cell. cell.upper) cells)) (length lower + j) (slice_index_or cells j d).at)
      → Keeps (rules_of (instance.Average item)) (seen lower upper) (map point_line cells ++ line.End ∷ [])
  points_kept lower upper [] same many hold = (passing_rule (nat_eq (length lower) (average_positions item)) None 2 (nat_eq_test (length lower) (average_positions item) (omega (arith, many))) refl, tt)
  points_kept lower upper (cell ∷ cells) same many hold =
      let more_lower = length-more lower cell.lower in
      let more_upper = length-more upper cell.upper in (
        place_kept lower upper (map (λ c. c.lower) cells) (map (λ c. c.upper) cells) cell same
            (subst (λ (k : ℕ). HoldsAt item g low high (slice_index (lower ++ cell.lower ∷ map (λ c. c.lower) cells)) (slice_index (upper ++ cell.upper ∷ map (λ c. c.upper) cells)) k cell.at) (omega arith) (hold 0 cell (omega arith))),
        points_kept (lower ++ cell.lower ∷ []) (upper ++ cell.upper ∷ []) cells (omega (arith, same, more_lower, more_upper)) (omega (arith, many, more_lower)) each,
      )
    where
      each : (j : ℕ) (d : AverageCell) → j < length cells → HoldsAt item g low high (slice_index ((lower ++ cell.lower ∷ []) ++ map (λ c. c.lower) cells)) (slice_index ((upper ++ cell.upper ∷ []) ++ map (λ c. c.upper) cells)) (length (lower ++ cell.lower ∷ []) + j) (slice_index_or cells j d).at
      each j d lt =
          let here = hold (suc j) d (omega (arith, lt)) in
          let e : length lower + suc j ≡ length (lower ++ cell.lower ∷ []) + j = omega (arith, length-more lower cell.lower) in
          subst (λ (a : List ℕ). HoldsAt item g low high (slice_index a) (slice_index ((upper ++ cell.upper ∷ []) ++ map (λ c. c.upper) cells)) (length (lower ++ cell.lower ∷ []) + j) (slice_index_or cells j d).at) (sym (append_assoc lower (cell.lower ∷ []) (map (λ c. c.lower) cells)))
          (subst (λ (b : List ℕ). HoldsAt item g low high (slice_index (lower ++ cell.lower ∷ map (λ c. c.lower) cells)) (slice_index b) (length (lower ++ cell.lower ∷ []) + j) (slice_index_or cells j d).at) (sym (append_assoc upper (cell.upper ∷ []) (map (λ c. c.upper) cells)))
          (subst (λ (k : ℕ). HoldsAt item g low high (slice_index (lower ++ cell.lower ∷ map (λ c. c.lower) cells)) (slice_index (upper ++ cell.upper ∷ map (λ c. c.upper) cells)) k (slice_index_or cells j d).at) e here))

-- ---- the whole certificate
pub rules_kept : (item : Average) (c : AverageCert) → AreRulesKept item c → BreaksNoRule (instance.Average item) (cert.Average c)
rules_kept item c is = (
  own_head (heading_of (instance.Average item)),
  (
    passing_rule (is_gain item c.num c.den) None 3
        (and_from (nat_le 1 c.den && nat_le c.den (greatest_den item (average_positions item)) && nat_eq (gcd_of c.num c.den) 1) (nat_le c.num (greatest_num item c.den))
        (and_from (nat_le 1 c.den && nat_le c.den (greatest_den item (average_positions item))) (nat_eq (gcd_of c.num c.den) 1)
        (and_from (nat_le 1 c.den) (nat_le c.den (greatest_den item (average_positions item))) (nat_le_test 1 c.den is.den_some) (nat_le_test c.den (greatest_den item (average_positions item)) is.den_small))
        (nat_eq_test (gcd_of c.num c.den) 1 is.lowest))
        (nat_le_test c.num (greatest_num item c.den) is.num_small))
        refl,
    (
      passing_rule (is_pair item c.low c.high) None 4
          (and_from (int_le (item.floor -ℤ pos 1) c.low && int_lt c.low c.high) (int_le c.high item.cap)
          (and_from (int_le (item.floor -ℤ pos 1) c.low) (int_lt c.low c.high) (le_test (item.floor -ℤ pos 1) c.low (down item.floor c.low is.pair.above)) (lt_test c.low c.high is.pair.ordered))
          (le_test c.high item.cap is.pair.within))
          refl,
      points_kept item (cost_in c) c.low c.high [] [] c.cells refl (omega (arith, is.many)) (λ j d lt. subst (λ (k : ℕ). HoldsAt item (cost_in c) c.low c.high (slice_index (lower_in c)) (slice_index (upper_in c)) k (slice_index_or c.cells j d).at) (omega arith) (is.places j d lt)),
    ),
  ),
)
  where
    down : (floor low : ℤ) → floor ≤ℤ (low +ℤ pos 1) → (floor -ℤ pos 1) ≤ℤ low
    down floor low le = omega (arith, ints, le)
