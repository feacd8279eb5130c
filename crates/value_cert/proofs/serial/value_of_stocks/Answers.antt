use Rattle.std.proofs.Common.{rules, ◌≡◌, ◌+ℤ◌, ℤ, pos, ap, ◌∙◌, arith, to_z, of_z}
use Rattle.std.proofs.lemmas.Int.{ints, to_z-of_z}
use Rattle.std.specs.Int.{w128}
use Rattle.std.specs.Int.RustNames.{FitsSigned}
use Rattle.std.specs.Prelude.{slice_index_or}
use Rattle.value_cert.specs.SerialRules.{row_cells, cell_value}
use Rattle.value_cert.proofs.StartValues.{one_more}
use Rattle.value_cert.proofs.serial.value_of_stocks.Goals as goal

pub loop-place-preserved : goal.loop-place-preserved
loop-place-preserved c =
    let place = c.loop-place.place in
    let value = c.value_of_echelon.result in
    let before = to_z w128 c.loop-place.total-bits in
    let value_fits : FitsSigned w128 value = search rules in
    let total_fits : FitsSigned w128 c.with_value-total.result = search rules in
    let next : to_z w128 (of_z w128 c.with_value-total.result) ≡ before +ℤ value =
    to_z-of_z w128 c.with_value-total.result total_fits ∙ c.with_value-total.ensures ∙ ap (λ (z : ℤ). before +ℤ z) (to_z-of_z w128 value value_fits) in
    let small = c.requires.small place (slice_index_or c.args.stocks.now place (pos 0)) in (
      one_more (λ i x. cell_value (row_cells c.args.rows.now i) x) c.args.stocks.now place before value (to_z w128 (of_z w128 c.with_value-total.result)) c.loop-place-test.true c.loop-place.invariant.0 c.value_of_echelon.ensures next,
      omega (arith, ints, next, c.value_of_echelon.ensures, small, c.loop-place.invariant.1),
    )
