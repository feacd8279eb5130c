use Rattle.std.proofs.Common.{rules, ◌≡◌, ◌^◌, ◌≤◌, ℤ, List, subst, sym, ap, ◌∙◌}
use Rattle.std.proofs.lemmas.Int.{to_z-of_z}
use Rattle.std.specs.Int.{w128}
use Rattle.std.specs.Int.RustNames.{FitsSigned}
use Rattle.std.specs.Prelude.{unsigned_abs}
use Rattle.fraction128.specs.Reduced.{lowest_num}
use Rattle.decision_model.specs.SerialProblem.{over_echelons}
use Rattle.value_cert.specs.SerialRules.{rows_of, row_cells, cell_value, start_value}
use Rattle.value_cert.specs.declared.serial.SerialPeriod.{SerialPeriod}
use Rattle.value_cert.specs.declared.serial.SerialRow.{SerialRow}
use Rattle.value_cert.proofs.StartValues.{values_small}
use Rattle.value_cert.proofs.serial.policy_cost.Goals as goal

pub value_of_stocks-value-requires-clause-small : goal.value_of_stocks-value-requires-clause-small
value_of_stocks-value-requires-clause-small c = λ i x.
    let rows = c.first_rows-rows.ensures ∙ ap (λ (periods : List SerialPeriod). rows_of periods 1) c.as_slice.ensures in
    subst (λ (rows : List SerialRow). unsigned_abs (cell_value (row_cells rows i) x) ≤ 2 ^ 120) (sym rows) (values_small c.args.cert.now c.requires.numbers 1 i x)

pub returns-clause-num : goal.returns-clause-num
returns-clause-num c =
    let serial = c.args.serial.now in
    let start = start_value serial c.args.cert.now in
    let rows = c.first_rows-rows.ensures ∙ ap (λ (periods : List SerialPeriod). rows_of periods 1) c.as_slice.ensures in
    let value : c.value_of_stocks-value.result ≡ start =
    c.value_of_stocks-value.ensures
    ∙ ap (λ (rows : List SerialRow). over_echelons (λ i x. cell_value (row_cells rows i) x) 0 c.as_slice-2.result.now) rows
    ∙ ap (over_echelons (λ i x. cell_value (row_cells (rows_of c.args.cert.now.periods 1) i) x) 0) c.as_slice-2.ensures
    in
    let fits : FitsSigned w128 c.value_of_stocks-value.result = search rules in
    c.new.ensures.num
    ∙ ap (λ (z : ℤ). lowest_num z c.serial_scale_of.result) (to_z-of_z w128 c.value_of_stocks-value.result fits ∙ value)
    ∙ ap (lowest_num start) c.serial_scale_of.ensures.scale
