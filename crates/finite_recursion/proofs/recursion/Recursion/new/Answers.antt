use Rattle.std.proofs.Common.{◌≡◌, length, arith}
use Rattle.decision_model.specs.Finite.{finite_positions}
use Rattle.finite_recursion.proofs.RowSteps.{new_small, new_knows, new_fresh}
use Rattle.finite_recursion.proofs.recursion.Recursion.new.Goals as goal

-- the values have a cell for each position
count : (c : goal.After-no_row) → length c.end_row.new.values ≡ finite_positions c.args.finite.now
count c =
    omega (arith, c.end_row.ensures.same, c.split_at_mut-values.ensures.front_len, c.positions-positions.ensures.positions)

pub invariant_of-result : goal.invariant_of-result
invariant_of-result c =
    let finite = c.args.finite.now in
    record {
      valid = ∣ c.requires.valid ∣₁;
      tables = record {
        are_values = count c;
        are_costs = omega (arith, c.split_at_mut-costs.ensures.front_len, c.positions-positions.ensures.positions);
        is_room = omega (arith, c.requires.cells, c.split_at_mut-costs.ensures.back_len, c.split_at_mut-values.ensures.back_len, c.positions-positions.ensures.positions);
        are_sums = c.requires.sums;
      };
      within = omega arith;
      fresh = λ none. new_fresh finite c.no_row.result.place c.end_row.new.values c.no_row.ensures c.end_row.ensures.values;
      small = new_small finite c.no_row.result.place c.end_row.new.values c.no_row.ensures c.end_row.ensures.values c.requires.valid c.split_at_mut-costs.result.0.now;
      begun = λ some. absurd (omega (arith, some));
    }

pub returns-clause-rows : goal.returns-clause-rows
returns-clause-rows c = new_knows c.args.finite.now c.no_row.result.place c.end_row.new.values c.no_row.ensures c.end_row.ensures.values c.split_at_mut-costs.result.0.now
