use Rattle.std.proofs.Common.{◌+◌, ◌++◌, drop, ap, sym, ◌∙◌}
use Rattle.std.specs.List.{flat_map}
use Rattle.std.proofs.lemmas.List.{take_all}
use Rattle.value_cert.proofs.Writing.{wrote_none, now_wrote, now_failed, wrote_all, part_more, parts_split, part_numbers}
use Rattle.value_cert.proofs.part.write_each.Goals as goal

pub loop-part-init : goal.loop-part-init
loop-part-init g c = wrote_none _

pub write-requires : goal.write-requires
write-requires g c = part_numbers g.P.Part.lines _ _ _ c.loop-part-test.true c.part-item.is c.requires

pub returns-in_err-write : goal.returns-in_err-write
returns-in_err-write g c =
    let f = g.P.Part.lines in
    let parts = c.args.parts.now in
    let i = c.loop-part.part-index in
    let rest = flat_map f (drop (i + 1) parts) in
    let whole = ap (λ t. t ++ rest) (sym (part_more f parts i _ c.loop-part-test.true c.part-item.is)) ∙ parts_split f parts (i + 1) in
    now_failed rest c.loop-part.invariant c.in_err-write.ensures c.from_residual.ensures.0 whole

pub loop-part-preserved : goal.loop-part-preserved
loop-part-preserved g c =
    now_wrote c.loop-part.invariant c.in_ok-write.ensures
    (sym (part_more g.P.Part.lines c.args.parts.now c.loop-part.part-index _ c.loop-part-test.true c.part-item.is))

pub returns : goal.returns
returns g c = wrote_all c.loop-part.invariant (ap (flat_map g.P.Part.lines) (take_all c.loop-part.part-index c.args.parts.now c.loop-part-test.false))
