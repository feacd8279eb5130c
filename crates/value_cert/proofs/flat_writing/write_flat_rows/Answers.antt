use Rattle.std.proofs.Common.{◌++◌, [], ◌∷◌, map, ap, sym, ◌∙◌, append_assoc}
use Rattle.value_cert.specs.FlatWrites.{flat_text}
use Rattle.value_cert.specs.declared.flat_line.FlatLine.TheVariants.{End}
use Rattle.value_cert.proofs.FlatWriting.{text_failed, text_then, text_append, no_change}
use Rattle.value_cert.proofs.flat_writing.write_flat_rows.Goals as goal

pub returns-in_err-write_rows : goal.returns-in_err-write_rows
returns-in_err-write_rows g c =
    let rest = map g.P.FlatPart.line c.args.parts.now ++ End ∷ [] in
    text_failed (flat_text c.args.name rest) c.in_err-write_rows.ensures c.from_residual.ensures.0
    (ap (λ ls. flat_text c.args.name ls ++ flat_text c.args.name rest) (no_change c.args.first.now) ∙ text_append c.args.name c.args.first.now rest ∙ ap (flat_text c.args.name) (sym (append_assoc c.args.first.now (map g.P.FlatPart.line c.args.parts.now) (End ∷ []))))

pub returns : goal.returns
returns g c =
    let rest = map g.P.FlatPart.line c.args.parts.now ++ End ∷ [] in
    text_then c.in_ok-write_rows.ensures c.write_to_flat_end.ensures
    (ap (λ ls. flat_text c.args.name ls ++ flat_text c.args.name rest) (no_change c.args.first.now) ∙ text_append c.args.name c.args.first.now rest ∙ ap (flat_text c.args.name) (sym (append_assoc c.args.first.now (map g.P.FlatPart.line c.args.parts.now) (End ∷ []))))
