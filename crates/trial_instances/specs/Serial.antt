-- The serial system of a trial: words 421 to 429.
use Rattle.std.proofs.Common.{◌≡◌, ℕ, zero, suc, ◌+◌, ◌*◌, ◌^◌, ◌<◌, ◌≤◌, [], ◌∷◌, length, sum, pos, ℤ, ◌≤ℤ◌, refl, ap, arith}
use Rattle.std.specs.Prelude.{slice_index_or}
use Rattle.std.specs.List.{All}
use Rattle.std.proofs.lemmas.Int.{ints}
use Rattle.std.proofs.lemmas.List.Elements.{All-weaker}
use Rattle.demand_law.specs.Named.{uniform_law}
use Rattle.decision_model.specs.declared.serial.Serial.{Serial}
use Rattle.decision_model.specs.declared.instance.Instance.TheVariants as instance
use Rattle.decision_model.specs.Valid.{IsValid}
use Rattle.decision_model.specs.Positions.{IsPosition}
use Rattle.decision_model.specs.Rates.{IsRate}
use Rattle.decision_model.specs.Serial.{serial_positions, serial_cost_bound, serial_width}
use Rattle.trial_instances.specs.Numbers.{number, numbers}
use Rattle.trial_instances.specs.NumberFacts.{digits_law, number_most, length_numbers, numbers_most, sum_numbers_most, one_law}

-- four echelons, with rates of their own
unfoldable pub trial_serial : ℕ → Serial
trial_serial trial = record {
  periods = 12;
  holding = numbers trial 421 4 1 3;
  unit = numbers trial 425 4 0 2;
  stockout = number trial 429 20 40;
  discount_num = 1;
  discount_den = 1;
  laws = uniform_law 0 9 ∷ [];
  cap = pos 291;
  start = pos 10 ∷ pos 20 ∷ pos 30 ∷ pos 40 ∷ [];
}

-- ---- the grid and the width number
positions_are : (trial : ℕ) → serial_positions (trial_serial trial) ≡ 400
unfolding trial_serial serial_positions uniform_law
positions_are trial = refl

cost_fits : (trial : ℕ) → serial_cost_bound (trial_serial trial) ≤ 25000
unfolding trial_serial serial_cost_bound uniform_law
cost_fits trial =
    let rates = number trial 429 20 40 + sum (numbers trial 421 4 1 3) + sum (numbers trial 425 4 0 2) in
    let of_rates = ap (λ n. rates * (n + 9)) (positions_are trial) in
    omega (arith, of_rates, number_most trial 429 20 40 (omega arith), sum_numbers_most trial 421 4 1 3 (omega arith), sum_numbers_most trial 425 4 0 2 (omega arith))

width_fits : (trial : ℕ) → serial_width (trial_serial trial) ≤ 2 ^ 120
unfolding trial_serial serial_width uniform_law
width_fits trial =
    let cost = serial_cost_bound (trial_serial trial) in
    let parts : 24 ^ length (numbers trial 421 4 1 3) * cost ≡ 24 ^ 4 * cost = ap (λ n. 24 ^ n * cost) (length_numbers trial 421 4 1 3) in
    omega (arith, parts, cost_fits trial)

all_rates : (trial place most : ℕ) → most ≤ 1000 → (least : ℕ) → least ≤ most → All IsRate (numbers trial place 4 least most)
all_rates trial place most small least ordered =
    All-weaker (λ x. x ≤ most) IsRate (λ x few. omega arith) (numbers trial place 4 least most) (numbers_most trial place 4 least most ordered)

position : (n : ℕ) → n ≤ 40 → IsPosition (pos n)
position n few = record { least = omega (arith, ints); most = omega (arith, ints) }

starts_are : All IsPosition (pos 10 ∷ pos 20 ∷ pos 30 ∷ pos 40 ∷ [])
starts_are zero d lt = position 10 (omega arith)
starts_are (suc zero) d lt = position 20 (omega arith)
starts_are (suc (suc zero)) d lt = position 30 (omega arith)
starts_are (suc (suc (suc zero))) d lt = position 40 (omega arith)
starts_are (suc (suc (suc (suc k)))) d lt = absurd (omega arith)

never_falling : (k : ℕ) (d : ℤ) → k + 1 < 4 → slice_index_or (pos 10 ∷ pos 20 ∷ pos 30 ∷ pos 40 ∷ []) k d ≤ℤ slice_index_or (pos 10 ∷ pos 20 ∷ pos 30 ∷ pos 40 ∷ []) (k + 1) d
never_falling zero d lt = omega (arith, ints)
never_falling (suc zero) d lt = omega (arith, ints)
never_falling (suc (suc zero)) d lt = omega (arith, ints)
never_falling (suc (suc (suc k))) d lt = absurd (omega arith)

pub trial_serial_valid : (trial : ℕ) → IsValid (instance.Serial (trial_serial trial))
unfolding trial_serial
trial_serial_valid trial =
    let holding_length = length_numbers trial 421 4 1 3 in
    let unit_length = length_numbers trial 425 4 0 2 in
    let positions = positions_are trial in
    record {
      regular = record {
        readable = record {
          periods = record { least = omega arith; most = omega arith };
          some_echelon = omega (arith, holding_length);
          most_echelons = omega (arith, holding_length);
          unit_each = omega (arith, holding_length, unit_length);
          start_each = omega (arith, holding_length);
          holding = all_rates trial 421 3 (omega arith) 1 (omega arith);
          unit = all_rates trial 425 2 (omega arith) 0 (omega arith);
          stockout = omega (arith, number_most trial 429 20 40 (omega arith));
          discount = record { least = omega arith; proper = omega arith; most = omega arith };
          laws = one_law (uniform_law 0 9) 12 digits_law;
          cap = record { least = omega (arith, ints); most = omega (arith, ints) };
          start = starts_are;
          never_falling = never_falling;
          last_below = omega (arith, ints);
        };
        grid = record {
          positions = omega (arith, positions);
          cells = omega (arith, ap (λ n. 12 * n * serial_positions (trial_serial trial)) holding_length, positions);
        };
      };
      width = width_fits trial;
    }
