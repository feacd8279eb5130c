-- Tables of a bracket bound the cost of every number of periods.
use Rattle.std.proofs.Common.{◌≡◌, ℕ, suc, ◌+◌, ◌*◌, ◌^◌, ◌<◌, ◌≤◌, ℤ, pos, ◌+ℤ◌, ◌-ℤ◌, ◌*ℤ◌, ◌≤ℤ◌, ◌<ℤ◌, sum, sym, ◌∙◌, ap, subst, arith, pow-suc, mul-le-mul_left, ◌⊎◌, inl, inr}
use Rattle.std.proofs.lemmas.Int.{ints}
use Rattle.std.proofs.lemmas.Grind.{div_ceil_times}
use Rattle.std.proofs.Math.Nat.{mul-div-le, one-le-pow}
use Rattle.demand_law.specs.CountedSums.{counted, counted-scale}
use Rattle.demand_law.specs.Integers as Z
use Rattle.decision_model.specs.declared.average.Average.{Average}
use Rattle.decision_model.specs.AverageProblem.{average_problem}
use Rattle.decision_model.specs.Policies.{expected}
use Rattle.decision_model.specs.Positions.{above_zero}
use Rattle.value_cert.specs.AverageLeast.{pair_policy, IsPair}
use Rattle.value_cert.specs.AverageValues.{Ratio, at_place, stock_sum}
use Rattle.average_lemmas.specs.Orders.{cancel}
use Rattle.average_lemmas.specs.PositionValues.{setup_value, IsLower}
use Rattle.average_lemmas.specs.Tables.{place_of}
use Rattle.value_cert.specs.BracketLeast.{BracketLeast, IsSpanOf}
use Rattle.decision_model.specs.Limits.{parts}
use Rattle.value_cert.specs.BracketValues.{setup_parts, low_cost, up_cost, IsUnderTable, IsOverTable}
use Rattle.bracket_lemmas.specs.EntryFacts.{value_by, value_below, value_at, value_each, entries_are}
use Rattle.bracket_lemmas.specs.RaisedTables.{IsRaisedTable, raised, raised_is}
use Rattle.average_lemmas.specs.LeastAverage.{never_below, never_above, policy_allowed}
use Rattle.average_lemmas.specs.PositionValues.{IsReached}

-- a bound, as a fraction
abbrev pub in_parts : ℕ → Ratio
in_parts bound = record { num = bound; den = parts }

-- ---- rounding
pub low_within : (item : Average) (k : ℕ) → sum item.law ^ suc item.lead * low_cost item k ≤ parts * stock_sum item (at_place item k)
unfolding low_cost
low_within item k = mul-div-le (parts * stock_sum item (at_place item k)) (sum item.law ^ suc item.lead)

pub up_within : (item : Average) (k : ℕ) → 1 ≤ sum item.law → parts * stock_sum item (at_place item k) ≤ sum item.law ^ suc item.lead * up_cost item k
unfolding up_cost
up_within item k some =
    let unit = one-le-pow (suc item.lead) (sum item.law) some in
    let rounded = div_ceil_times (parts * stock_sum item (at_place item k)) (sum item.law ^ suc item.lead) (omega (arith, unit)) in
    omega (arith, rounded.0)

-- ---- plain numbers: w for W, p for W^lead, u for W^(lead + 1), q for the parts
below_numbers : (w p u q e g low cost after : ℕ) → u ≡ w * p → w * e + w * g ≤ w * low + after → u * low ≤ q * cost → g * 1 * u + w * (p * e) ≤ q * 1 * cost + p * after
below_numbers w p u q e g low cost after same h rounded = omega (arith, mul-le-mul_left p h, rounded, ap (λ z. z * low) same, ap (λ z. g * z) same)

above_numbers : (w p u q e g up cost after : ℕ) → u ≡ w * p → w * up + after ≤ w * e + w * g → q * cost ≤ u * up → q * 1 * cost + p * after ≤ g * 1 * u + w * (p * e)
above_numbers w p u q e g up cost after same h rounded = omega (arith, mul-le-mul_left p h, rounded, ap (λ z. z * up) same, ap (λ z. g * z) same)

module _ (item : Average) (n : ℕ) (all : item.floor +ℤ pos n ≡ item.cap +ℤ pos 1) where
  unit_is : sum item.law ^ suc item.lead ≡ sum item.law * sum item.law ^ item.lead
  unit_is = omega (arith, pow-suc (sum item.law) item.lead)

  inside : (k : ℕ) → at_place item k ≤ℤ item.cap → k < n
  inside k le = omega (arith, ints, all, le)

  -- the entries after a demand, over the common denominator
  after_is : (below : ℕ) (a : ℕ → ℕ) (k : ℕ) → k < n → counted item.law (λ d. sum item.law ^ item.lead * value_by item below a n (at_place item k -ℤ pos d)) ≡ sum item.law ^ item.lead * counted item.law (λ d. value_by item below a n (at_place item k -ℤ pos d))
  after_is below a k lt = counted-scale item.law (sum item.law ^ item.lead) (λ d. value_by item below a n (at_place item k -ℤ pos d))

  -- ---- from below
  module _ (lower : ℕ) (a : ℕ → ℕ) (table : IsUnderTable item lower n a) where
    abbrev under : ℤ → ℕ
    under x = sum item.law ^ item.lead * value_by item (setup_parts item) a n x

    under_limit : (x : ℤ) → value_by item (setup_parts item) a n x ≤ setup_parts item
    under_limit x = value_each item (setup_parts item) a n (λ m. m ≤ setup_parts item) (omega arith) table.within (omega arith) x

    pub is_lower : IsLower item (in_parts lower) 1 under
    is_lower = record { limit = limit; keep = keep }
      where
        limit : (x : ℤ) → under x ≤ setup_value item (in_parts lower) 1
        limit x = omega (arith, mul-le-mul_left (sum item.law ^ item.lead) (under_limit x))

        at_keep : (k : ℕ) → k < n → lower * 1 * sum item.law ^ suc item.lead + sum item.law * under (at_place item k) ≤ parts * 1 * stock_sum item (at_place item k) + counted item.law (λ d. under (at_place item k -ℤ pos d))
        at_keep k lt =
            let numbers = below_numbers (sum item.law) (sum item.law ^ item.lead) (sum item.law ^ suc item.lead) parts (a k) lower (low_cost item k) (stock_sum item (at_place item k)) _ unit_is (table.keep k lt) (low_within item k) in
            rw (value_at item (setup_parts item) a n k lt, after_is (setup_parts item) a k lt, ← entries_are item (setup_parts item) a n k lt) numbers

        keep : (y : ℤ) → item.floor ≤ℤ y → y ≤ℤ item.cap → lower * 1 * sum item.law ^ suc item.lead + sum item.law * under y ≤ parts * 1 * stock_sum item y + counted item.law (λ d. under (y -ℤ pos d))
        keep y floor cap = by_place (place_of item y)
          where
            by_place : (y <ℤ item.floor) ⊎ ((k : ℕ) × (y ≡ at_place item k)) → lower * 1 * sum item.law ^ suc item.lead + sum item.law * under y ≤ parts * 1 * stock_sum item y + counted item.law (λ d. under (y -ℤ pos d))
            by_place (inl lt) = absurd (omega (arith, ints, lt, floor))
            by_place (inr (k, same)) =
                subst (λ (z : ℤ). lower * 1 * sum item.law ^ suc item.lead + sum item.law * under z ≤ parts * 1 * stock_sum item z + counted item.law (λ d. under (z -ℤ pos d))) (sym same)
                (at_keep k (inside k (subst (λ (z : ℤ). z ≤ℤ item.cap) same cap)))

  -- ---- from above
  module _ (some : 1 ≤ sum item.law) (upper raise : ℕ) (low high : ℤ) (pair : IsPair item low high) (t : ℕ → ℕ) (table : IsRaisedTable item upper n raise low high t) where
    abbrev over : ℤ → ℕ
    over x = sum item.law ^ item.lead * value_by item (setup_parts item + raise) t n x

    order_value : (x : ℤ) → x ≤ℤ low → value_by item (setup_parts item + raise) t n x ≡ setup_parts item + raise
    order_value x le = by_place (place_of item x)
      where
        by_place : (x <ℤ item.floor) ⊎ ((k : ℕ) × (x ≡ at_place item k)) → value_by item (setup_parts item + raise) t n x ≡ setup_parts item + raise
        by_place (inl lt) = value_below item (setup_parts item + raise) t n x lt
        by_place (inr (k, same)) =
            let there : at_place item k ≤ℤ low = subst (λ (z : ℤ). z ≤ℤ low) same le in
            let lt = inside k (omega (arith, ints, there, pair.ordered, pair.within)) in
            ap (value_by item (setup_parts item + raise) t n) same ∙ value_at item (setup_parts item + raise) t n k lt ∙ table.order k lt there

    high_value : value_by item (setup_parts item + raise) t n high ≤ raise
    high_value = by_place (place_of item high)
      where
        by_place : (high <ℤ item.floor) ⊎ ((k : ℕ) × (high ≡ at_place item k)) → value_by item (setup_parts item + raise) t n high ≤ raise
        by_place (inl lt) = absurd (omega (arith, ints, lt, pair.above, pair.ordered))
        by_place (inr (k, same)) =
            let lt = inside k (subst (λ (z : ℤ). z ≤ℤ item.cap) same pair.within) in
            omega (arith, ap (value_by item (setup_parts item + raise) t n) same, value_at item (setup_parts item + raise) t n k lt, table.reached k lt (sym same))

    pub is_reached : IsReached item (in_parts upper) 1 low high over
    is_reached = record { order = order; keep = keep }
      where
        order : (x : ℤ) → x ≤ℤ low → over high + setup_value item (in_parts upper) 1 ≤ over x
        order x le = omega (arith, mul-le-mul_left (sum item.law ^ item.lead) high_value, ap (λ m. sum item.law ^ item.lead * m) (order_value x le))

        at_keep : (k : ℕ) → k < n → low <ℤ at_place item k → parts * 1 * stock_sum item (at_place item k) + counted item.law (λ d. over (at_place item k -ℤ pos d)) ≤ upper * 1 * sum item.law ^ suc item.lead + sum item.law * over (at_place item k)
        at_keep k lt above =
            let numbers = above_numbers (sum item.law) (sum item.law ^ item.lead) (sum item.law ^ suc item.lead) parts (t k) upper (up_cost item k) (stock_sum item (at_place item k)) _ unit_is (table.keep k lt above) (up_within item k some) in
            rw (value_at item (setup_parts item + raise) t n k lt, after_is (setup_parts item + raise) t k lt, ← entries_are item (setup_parts item + raise) t n k lt) numbers

        keep : (y : ℤ) → low <ℤ y → y ≤ℤ item.cap → parts * 1 * stock_sum item y + counted item.law (λ d. over (y -ℤ pos d)) ≤ upper * 1 * sum item.law ^ suc item.lead + sum item.law * over y
        keep y above cap = by_place (place_of item y)
          where
            by_place : (y <ℤ item.floor) ⊎ ((k : ℕ) × (y ≡ at_place item k)) → parts * 1 * stock_sum item y + counted item.law (λ d. over (y -ℤ pos d)) ≤ upper * 1 * sum item.law ^ suc item.lead + sum item.law * over y
            by_place (inl lt) = absurd (omega (arith, ints, lt, pair.above, above))
            by_place (inr (k, same)) =
                subst (λ (z : ℤ). parts * 1 * stock_sum item z + counted item.law (λ d. over (z -ℤ pos d)) ≤ upper * 1 * sum item.law ^ suc item.lead + sum item.law * over z) (sym same)
                (at_keep k (inside k (subst (λ (z : ℤ). z ≤ℤ item.cap) same cap)) (subst (λ (z : ℤ). low <ℤ z) same above))

-- ---- one factor of the parts goes from both sides
most_parts : (q n g span weight : ℕ) (cost : ℤ) → 1 ≤ q → (pos (q * q) *ℤ cost) ≤ℤ pos ((n * g * q + span * q) * weight) → (pos q *ℤ cost) ≤ℤ pos ((n * g + span) * weight)
most_parts q n g span weight cost some h =
    let right : (n * g * q + span * q) * weight ≡ q * ((n * g + span) * weight) = omega arith in
    cancel q _ _ some (subst (λ (m : ℕ). (pos q *ℤ (pos q *ℤ cost)) ≤ℤ pos m) right (subst (λ (z : ℤ). z ≤ℤ pos ((n * g * q + span * q) * weight)) (Z.mul_assoc (pos q) (pos q) cost) h))

least_parts : (q n g span weight : ℕ) (cost : ℤ) → 1 ≤ q → pos (n * g * q * weight) ≤ℤ (pos (q * q) *ℤ cost +ℤ pos (span * q * weight)) → pos (n * g * weight) ≤ℤ (pos q *ℤ cost +ℤ pos (span * weight))
least_parts q n g span weight cost some h =
    let left : n * g * q * weight ≡ q * (n * g * weight) = omega arith in
    let last : span * q * weight ≡ q * (span * weight) = omega arith in
    let whole : pos (q * q) *ℤ cost +ℤ pos (span * q * weight) ≡ pos q *ℤ (pos q *ℤ cost +ℤ pos (span * weight)) =
    ap (λ m. pos (q * q) *ℤ cost +ℤ pos m) last ∙ ap (λ z. z +ℤ pos (q * (span * weight))) (Z.mul_assoc (pos q) (pos q) cost) ∙ sym (Z.mul_add (pos q) (pos q *ℤ cost) (pos (span * weight))) in
    cancel q _ _ some (subst (λ (m : ℕ). pos m ≤ℤ (pos q *ℤ (pos q *ℤ cost +ℤ pos (span * weight)))) left (subst (λ (z : ℤ). pos (n * g * q * weight) ≤ℤ z) whole h))

-- ---- the theorem
pub bracketed : (item : Average) (n : ℕ) → item.floor +ℤ pos n ≡ item.cap +ℤ pos 1 → 1 ≤ sum item.law
    → (lower upper span : ℕ) (low high : ℤ) → IsPair item low high → (under : ℕ → ℕ) (over : ℕ → ℤ) → IsUnderTable item lower n under → IsOverTable item upper n low high over → IsSpanOf n (setup_parts item) over span
    → BracketLeast item (pair_policy low high) lower upper span
bracketed item n all some lower upper span low high pair under over is_under is_over is_span = record {
  allowed = λ m start from start_low. policy_allowed item (in_parts upper) 1 low high pair (raised_value) reached m start m 1 start start_low;
  most = λ m start from start_low. most_parts parts m upper span (sum item.law ^ (m + item.lead)) (expected (average_problem item m start) (pair_policy low high start)) (omega arith)
      (never_above item (in_parts upper) (in_parts span) 1 (omega arith) low high pair raised_value reached (λ x. omega (arith, mul-le-mul_left parts (over_small x))) (sum item.law ^ item.lead * span) over_small m start start_low);
  least = λ m start other from start_low ok. least_parts parts m lower span (sum item.law ^ (m + item.lead)) (expected (average_problem item m start) other) (omega arith)
      (never_below item (in_parts lower) (in_parts span) 1 (omega arith) under_value (is_lower item n all lower under is_under) (sum item.law ^ item.lead * span) under_small (omega arith) m start other start_low ok);
}
  where
    raise : ℕ
    raise = is_span.depth

    t : ℕ → ℕ
    t k = above_zero (over k +ℤ pos raise)

    same : (k : ℕ) → k < n → pos (t k) ≡ over k +ℤ pos raise
    same k lt = raised_is (over k) raise (is_span.depth_within k lt)

    table : IsRaisedTable item upper n raise low high t
    table = raised item upper n raise low high over t same is_over

    under_value : ℤ → ℕ
    under_value x = sum item.law ^ item.lead * value_by item (setup_parts item) under n x

    raised_value : ℤ → ℕ
    raised_value x = sum item.law ^ item.lead * value_by item (setup_parts item + raise) t n x

    reached : IsReached item (in_parts upper) 1 low high raised_value
    reached = is_reached item n all some upper raise low high pair t table

    under_small : (x : ℤ) → under_value x ≤ sum item.law ^ item.lead * span
    under_small x =
        mul-le-mul_left (sum item.law ^ item.lead)
        (value_each item (setup_parts item) under n (λ m. m ≤ span) (omega (arith, is_span.whole, is_span.setup_within)) (λ k lt. omega (arith, is_under.within k lt, is_span.whole, is_span.setup_within)) (omega arith) x)

    over_small : (x : ℤ) → raised_value x ≤ sum item.law ^ item.lead * span
    over_small x =
        mul-le-mul_left (sum item.law ^ item.lead)
        (value_each item (setup_parts item + raise) t n (λ m. m ≤ span) (omega (arith, is_span.whole, is_span.setup_within)) (λ k lt. omega (arith, ints, same k lt, is_span.most_within k lt, is_span.whole)) (omega arith) x)
