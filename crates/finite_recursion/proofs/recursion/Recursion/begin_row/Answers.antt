use Rattle.std.proofs.Common.{◌-◌, ◌∙◌, arith}
use Rattle.value_cert.specs.FiniteValues.{row_width}
use Rattle.finite_recursion.specs.Rows.{row_period}
use Rattle.finite_recursion.proofs.Bounds.{width_some}
use Rattle.finite_recursion.proofs.StayCosts.{is_left}
use Rattle.finite_recursion.proofs.Known.{valid_known}
use Rattle.finite_recursion.proofs.RowSteps.{begin_small, begin_knows, begin_row_is}
use Rattle.finite_recursion.proofs.recursion.Recursion.begin_row.Goals as goal

pub next_row-requires-clause-valid : goal.next_row-requires-clause-valid
next_row-requires-clause-valid c = valid_known c.args.self.now.finite.now c.args.self.now.valid

pub invariant_of-self : goal.invariant_of-self
invariant_of-self c =
    let r = c.args.self.now in
    let e = c.next_row.ensures in
    record {
      valid = r.valid;
      tables = record { are_values = r.tables.are_values; are_costs = r.tables.are_costs; is_room = r.tables.is_room; are_sums = e.same ∙ r.tables.are_sums };
      within = omega (arith, e.rows, c.requires.left);
      fresh = λ none. absurd (omega (arith, e.rows, none));
      small = begin_small r.finite.now r.rows r.row.place r.values.now r.costs.now c.requires.whole r.fresh r.small c.next_row.new.rows c.next_row.new.row.place e.rows e.place;
      begun = λ some. begin_row_is r.finite.now c.next_row.new.rows (c.next_row.new.rows - 1) c.next_row.new.laws c.next_row.new.row r.costs.now r.room.now c.next_row.new.sums e.width e.place e.scales e.holds e.walk e.stands e.cells r.tables.is_room e.reach;
    }

pub returns-clause-knows : goal.returns-clause-knows
returns-clause-knows c = λ first period knows.
    let r = c.args.self.now in
    let e = c.next_row.ensures in
    begin_knows r.finite.now r.rows r.row.place r.values.now r.costs.now c.requires.whole r.fresh first knows c.next_row.new.rows c.next_row.new.row.place e.rows e.place

pub returns-clause-left : goal.returns-clause-left
returns-clause-left c =
    let r = c.args.self.now in
    let e = c.next_row.ensures in
    let valid = valid_known r.finite.now r.valid in
    is_left c.next_row.new.rows (row_width r.finite.now (row_period r.finite.now c.next_row.new.rows)) c.next_row.new.row.place (omega (arith, e.rows)) (omega (arith, e.place, width_some r.finite.now valid (row_period r.finite.now c.next_row.new.rows)))
