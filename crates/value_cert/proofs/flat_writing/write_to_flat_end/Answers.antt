use Rattle.std.proofs.Common.{◌++◌, [], ◌∷◌, map, ap, sym, ◌∙◌}
use Rattle.std.proofs.lemmas.List.{append-nil}
use Rattle.value_cert.specs.FlatLines.{line_text}
use Rattle.value_cert.specs.FlatWrites.{flat_text}
use Rattle.value_cert.specs.declared.flat_line.FlatLine.TheVariants.{End}
use Rattle.value_cert.proofs.FlatWriting.{text_failed, text_then, text_append}
use Rattle.value_cert.proofs.flat_writing.write_to_flat_end.Goals as goal

pub returns-in_err-write_rows : goal.returns-in_err-write_rows
returns-in_err-write_rows g c =
    text_failed (flat_text c.args.name (End ∷ [])) c.in_err-write_rows.ensures c.from_residual.ensures.0 (text_append c.args.name (map g.P.FlatPart.line c.args.parts.now) (End ∷ []))

pub returns : goal.returns
returns g c =
    let rows = map g.P.FlatPart.line c.args.parts.now in
    text_then c.in_ok-write_rows.ensures c.write_flat_line.ensures
    (ap (λ t. flat_text c.args.name rows ++ t) (sym (append-nil (line_text c.args.name End))) ∙ text_append c.args.name rows (End ∷ []))
