use Rattle.std.proofs.Common.{◌+◌, ◌++◌, drop, take, map, ap, sym, subst, ◌∙◌, IsTrue}
use Rattle.std.proofs.lemmas.List.{take_all}
use Rattle.value_cert.specs.FlatLines.{has_numbers, line_text}
use Rattle.value_cert.specs.FlatWrites.{flat_text}
use Rattle.value_cert.specs.declared.flat_line.FlatLine.{FlatLine}
use Rattle.value_cert.proofs.FlatWriting.{now_took, now_stopped, all_took, row_more, rows_split, row_numbers}
use Rattle.value_cert.proofs.flat_writing.write_rows.Goals as goal

pub row-row-requires : goal.row-row-requires
row-row-requires g c = row_numbers g.P.FlatPart.line _ _ _ c.loop-part-test.true c.part-item.is c.requires

pub write_flat_line-requires : goal.write_flat_line-requires
write_flat_line-requires g c = subst (λ (l : FlatLine). IsTrue (has_numbers l)) (sym c.row-row.ensures) (row_numbers g.P.FlatPart.line _ _ _ c.loop-part-test.true c.part-item.is c.requires)

pub returns-in_err-write_flat_line : goal.returns-in_err-write_flat_line
returns-in_err-write_flat_line g c =
    let f = g.P.FlatPart.line in
    let parts = c.args.parts.now in
    let i = c.loop-part.part-index in
    let rest = flat_text c.args.name (map f (drop (i + 1) parts)) in
    let here = ap (λ l. flat_text c.args.name (map f (take i parts)) ++ line_text c.args.name l) c.row-row.ensures ∙ row_more c.args.name f parts i _ c.loop-part-test.true c.part-item.is in
    now_stopped rest c.loop-part.invariant c.in_err-write_flat_line.ensures c.from_residual.ensures.0 (ap (λ t. t ++ rest) here ∙ rows_split c.args.name f parts (i + 1))

pub loop-part-preserved : goal.loop-part-preserved
loop-part-preserved g c =
    let f = g.P.FlatPart.line in
    now_took c.loop-part.invariant c.in_ok-write_flat_line.ensures
    (ap (λ l. flat_text c.args.name (map f (take c.loop-part.part-index c.args.parts.now)) ++ line_text c.args.name l) c.row-row.ensures ∙ row_more c.args.name f c.args.parts.now c.loop-part.part-index _ c.loop-part-test.true c.part-item.is)

pub returns : goal.returns
returns g c = all_took c.loop-part.invariant (ap (λ xs. flat_text c.args.name (map g.P.FlatPart.line xs)) (take_all c.loop-part.part-index c.args.parts.now c.loop-part-test.false))
