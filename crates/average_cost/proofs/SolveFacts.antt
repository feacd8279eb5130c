-- The solver's parts.
use Rattle.std.proofs.Common.{w64, to_z, of_z, ℤ, pos, ◌-ℤ◌, ◌≡◌, ℕ, ◌-◌, ◌*◌, ◌^◌, ◌≤◌, List, map, sum, slice_index, refl, ◌∙◌, ap, arith, mul-le-mul_left}
use Rattle.decision_model.specs.declared.average.Average.{Average}
use Rattle.std.proofs.Math.Nat.{one-le-pow}
use Rattle.decision_model.specs.Average.{IsValidAverage, average_positions}
use Rattle.decision_model.specs.WidthFacts.{average_positions_some}
use Rattle.value_cert.specs.AverageRules.{first_cheap, first_zero}
use Rattle.value_cert.specs.AverageRules.{certificate_with, solved_average}
use Rattle.value_cert.specs.AverageValues.{Ratio, at_place, moving, lower_entries, upper_entries, average_cost_of}
use Rattle.value_cert.specs.declared.average.AverageCell.{AverageCell}
use Rattle.std.proofs.lemmas.Int.{ints}
use Rattle.std.specs.Prelude.{unsigned_abs}
use Rattle.std.specs.List.{range_with_len}
use Rattle.average_cost.specs.Cells.{cell_at}
use Rattle.average_lemmas.specs.Certified.{moving_some}
use Rattle.average_lemmas.specs.SolvedAverage.{first_zero_is, first_cheap_is}
use Rattle.average_lemmas.specs.PlaceSizes.{power_fits, near_back}
use Rattle.average_cost.proofs.LineFacts.{limit_most}
use Rattle.average_cost.proofs.TableFacts.{cost_is, solved_is}

module _ (item : Average) (valid : IsValidAverage item) where
  abbrev n : ℕ
  n = average_positions item

  pub below_fits : item.setup * sum item.law ^ item.lead ≤ 2 ^ 119
  below_fits =
      let power = one-le-pow 1 (sum (moving item.law)) (omega (arith, moving_some item.law valid.regular.has_demand)) in
      omega (arith, limit_most item valid 0 (average_positions_some item valid.regular.readable), mul-le-mul_left (item.setup * sum item.law ^ item.lead) power)

  pub moving_fits : sum (moving item.law) ^ (n - 1) ≤ 2 ^ 119
  moving_fits = power_fits item valid (n - 1) (omega (arith, average_positions_some item valid.regular.readable))

  -- the pair of an average cost stands on the grid
  pub pair_within : (g : Ratio) → g ≡ average_cost_of item → (first_cheap item g ≤ 4000) × (first_zero item g ≤ 4000)
  pair_within g e =
      let some = (cost_is item valid g e).turn.some in
      let zero_place = (first_zero_is item valid g some (solved_is item valid g e)).within in
      let cheap = (first_cheap_is item valid g some (solved_is item valid g e)).1 in
      (omega (arith, zero_place, cheap, valid.regular.grid), omega (arith, zero_place, valid.regular.grid))

  -- positions as they are read back
  place_near : (z : ℤ) (k : ℕ) → z ≡ at_place item k → k ≤ 4000 → unsigned_abs z ≤ 100000000
  place_near z k e le = omega (arith, ints, e, le, valid.regular.readable.floor.least, valid.regular.readable.floor.most)

  pub place_back : (z : ℤ) (k : ℕ) → z ≡ at_place item k → k ≤ 4000 → to_z w64 (of_z w64 z) ≡ at_place item k
  place_back z k e le = near_back z (omega (arith, place_near z k e le)) ∙ e

  pub low_back : (z : ℤ) (k : ℕ) → z ≡ at_place item k → k ≤ 4000 → to_z w64 (of_z w64 (to_z w64 (of_z w64 z) -ℤ pos 1)) ≡ at_place item k -ℤ pos 1
  low_back z k e le =
      let first = place_back z k e le in
      ap (λ (y : ℤ). to_z w64 (of_z w64 (y -ℤ pos 1))) first ∙ near_back (at_place item k -ℤ pos 1) (omega (arith, ints, place_near (at_place item k) k refl le))

-- a certificate by its parts
pub whole : (item : Average) (g : Ratio) (num den : ℕ) (low high : ℤ) (cells : List AverageCell) → num ≡ g.num → den ≡ g.den → low ≡ at_place item (first_cheap item g) -ℤ pos 1 → high ≡ at_place item (first_zero item g)
    → cells ≡ map (cell_at item (slice_index (lower_entries item g (average_positions item))) (slice_index (upper_entries item g (at_place item (first_cheap item g) -ℤ pos 1) (average_positions item)))) (range_with_len 0 (average_positions item))
    → g ≡ average_cost_of item → record { num = num; den = den; low = low; high = high; cells = cells } ≡ solved_average item
whole item g num den low high cells a b c d e f = (λ i. record { num = a i; den = b i; low = c i; high = d i; cells = e i }) ∙ ap (certificate_with item) f
