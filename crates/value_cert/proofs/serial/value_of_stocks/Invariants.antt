use Rattle.std.proofs.Common.{◌≡◌, ◌*◌, ◌^◌, ◌≤◌, drop}
use Rattle.std.specs.Prelude.{unsigned_abs, ◌+ℤ◌}
use Rattle.decision_model.specs.SerialProblem.{over_echelons}
use Rattle.value_cert.specs.SerialRules.{row_cells, cell_value}
use Rattle.value_cert.proofs.serial.value_of_stocks.Given as goal

abbrev pub invariant-loop-place : goal.invariant-loop-place
invariant-loop-place l =
    (l.total +ℤ over_echelons (λ i x. cell_value (row_cells l.rows i) x) l.place (drop l.place l.stocks) ≡ over_echelons (λ i x. cell_value (row_cells l.rows i) x) 0 l.stocks)
    × (unsigned_abs l.total ≤ l.place * 2 ^ 120)
