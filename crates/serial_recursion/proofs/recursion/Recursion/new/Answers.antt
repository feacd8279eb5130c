use Rattle.std.proofs.Common.{◌≡◌, ◌+◌, ◌*◌, ℕ, length, refl, ◌∙◌, ap, arith}
use Rattle.decision_model.specs.Serial.{serial_positions}
use Rattle.serial_recursion.proofs.recursion.Recursion.new.Goals as goal

pub invariant_of-result : goal.invariant_of-result
invariant_of-result c =
    let serial = c.args.serial.now in
    let n = serial_positions serial in
    let N = length serial.holding in
    let here : c.positions-positions.result ≡ n = c.positions-positions.ensures.positions in
    let rows : length c.as_slice.result.now * c.positions-positions.result ≡ N * n = ap (λ xs. length xs * c.positions-positions.result) c.as_slice.ensures ∙ ap (λ k. N * k) here in
    let all : (N + 2) * n ≡ N * n + 2 * n = spread N n in
    record {
      valid = ∣ c.requires.valid ∣₁;
      tables = record {
        are_values = omega (arith, c.clear.ensures.same, c.split_at_mut-values.ensures.front_len, rows);
        are_costs = omega (arith, c.split_at_mut-costs.ensures.front_len, here);
        are_charges = omega (arith, c.split_at_mut-costs.ensures.back_len, c.split_at_mut-values.ensures.back_len, c.requires.cells, rows, all, here);
      };
      within = omega arith;
      echelons_within = omega arith;
      level_within = λ one. absurd (omega (arith, one));
      is_frame = c.end_frame.ensures;
      fresh = λ none. record { no_echelon = refl; no_cell = refl; zeros = λ k lt. c.clear.ensures.zeros k (omega (arith, lt, c.clear.ensures.same)) };
      bounded = λ one. absurd (omega (arith, one));
    }
  where
    spread : (a b : ℕ) → (a + 2) * b ≡ a * b + 2 * b
    spread a b = omega arith
