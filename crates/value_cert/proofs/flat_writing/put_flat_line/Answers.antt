use Rattle.std.proofs.Common.{◌∙◌, subst, IsTrue}
use Rattle.value_cert.specs.FlatLines.{has_numbers}
use Rattle.value_cert.specs.declared.flat_line.FlatLine.{FlatLine}
use Rattle.value_cert.proofs.FlatWriting.{three_read, four_read, last_count}
use Rattle.value_cert.proofs.flat_writing.put_flat_line.Goals as goal

pub returns-then-count-eq3 : goal.returns-then-count-eq3
returns-then-count-eq3 c = c.put_three.ensures ∙ three_read c.args.name c.args.piece.now.items c.in-Row.tag c.in-Row.count c.in-Row.a c.in-Row.b c.in-Row.c c.in-Row.e c.args.line.now c.in-Row.is c.if-count-eq3.true c.requires.numbers

pub returns-else-count-eq3 : goal.returns-else-count-eq3
returns-else-count-eq3 c =
    let last = last_count c.in-Row.tag c.in-Row.count c.in-Row.a c.in-Row.b c.in-Row.c c.in-Row.e (subst (λ (x : FlatLine). IsTrue (has_numbers x)) c.in-Row.is c.requires.numbers) c.if-count-eq1.false c.if-count-eq2.false c.if-count-eq3.false in
    c.put_four.ensures ∙ four_read c.args.name c.args.piece.now.items c.in-Row.tag c.in-Row.count c.in-Row.a c.in-Row.b c.in-Row.c c.in-Row.e c.args.line.now c.in-Row.is last c.requires.numbers
