-- What a recursion whose row has a place left knows of it.
use Rattle.std.proofs.Common.{◌≡◌, ◌-◌, ◌<◌, ◌≤◌, pos, ◌-ℤ◌, false, arith}
use Rattle.decision_model.specs.Finite.{IsValidFinite, finite_positions}
use Rattle.decision_model.specs.Walks.{place_of}
use Rattle.value_cert.specs.FiniteValues.{row_width}
use Rattle.finite_recursion.specs.Recursions.{is_whole}
use Rattle.finite_recursion.specs.Rows.{IsRow, row_period}
use Rattle.finite_recursion.specs.declared.recursion.Recursion.{Recursion}
use Rattle.finite_recursion.proofs.Bounds.{width_few, positions_few}
use Rattle.finite_recursion.proofs.Known.{valid_known}
use Rattle.finite_recursion.proofs.StayCosts.{place_left}

pub record RowFacts (recursion : Recursion) : Type 0 where
  pub valid : IsValidFinite recursion.finite.now
  pub some : 1 ≤ recursion.rows
  pub inside : recursion.row.place < row_width recursion.finite.now (row_period recursion.finite.now recursion.rows)
  pub row : IsRow recursion.finite.now (recursion.rows - 1) (row_period recursion.finite.now recursion.rows) recursion.laws recursion.row recursion.costs.now recursion.room.now recursion.sums.now
  pub within : recursion.row.place < finite_positions recursion.finite.now
  pub few : recursion.row.place ≤ 20000
  pub stands : place_of recursion.row.walk ≡ recursion.finite.now.cap -ℤ pos recursion.row.place

-- so much it knows
pub row_facts : (recursion : Recursion) → is_whole recursion ≡ false → RowFacts recursion
row_facts recursion left =
    let finite = recursion.finite.now in
    let valid = valid_known finite recursion.valid in
    let has = place_left recursion.rows (row_width finite (row_period finite recursion.rows)) recursion.row.place left in
    let row = recursion.begun has.0 in
    let few = width_few finite valid (row_period finite recursion.rows) (omega (arith, has.0)) in
    record {
      valid = valid;
      some = has.0;
      inside = has.1;
      row = row;
      within = omega (arith, has.1, few);
      few = omega (arith, has.1, few, positions_few finite valid);
      stands = row.stands (omega (arith, has.1, row.is_width));
    }
