use Rattle.std.proofs.Common.{subst}
use Rattle.line_text.specs.Reading.{ReaderOf, IsUnfinished}
use Rattle.line_text.specs.Pushes.{keeps_answers, finishes_answers, answer_reads, answer_refuses, answer_read, answer_lines}
use Rattle.line_text.proofs.reader.LineReader.push.Goals as goal

pub returns-in-None-clause-refuses : goal.returns-in-None-clause-refuses
returns-in-None-clause-refuses g c =
    let G = g.G.Grammar.grammar c.args.self.now.grammar in
    let P : ReaderOf g.row.G.Denot g.row.G-Place.Denot → Type 0 = λ s. IsUnfinished (g.G.Grammar.grammar s.grammar).limit s.lines.unfinished in
    let before = subst P c.self.view_is c.self.invariant.3 in
    answer_refuses G c.args.self.now.lines c.keep.new.self.lines c.args.piece.now c.keep.result
    (keeps_answers G c.args.self.now.lines c.keep.new.self.lines c.args.piece.now c.keep.result before.without_feed c.in-None.ensures c.keep.ensures.keeps)

pub returns-in-None-clause-read : goal.returns-in-None-clause-read
returns-in-None-clause-read g c =
    let G = g.G.Grammar.grammar c.args.self.now.grammar in
    let P : ReaderOf g.row.G.Denot g.row.G-Place.Denot → Type 0 = λ s. IsUnfinished (g.G.Grammar.grammar s.grammar).limit s.lines.unfinished in
    let before = subst P c.self.view_is c.self.invariant.3 in
    answer_read G c.args.self.now.lines c.keep.new.self.lines c.args.piece.now c.keep.result
    (keeps_answers G c.args.self.now.lines c.keep.new.self.lines c.args.piece.now c.keep.result before.without_feed c.in-None.ensures c.keep.ensures.keeps)

pub returns-in-None-clause-lines : goal.returns-in-None-clause-lines
returns-in-None-clause-lines g c =
    let G = g.G.Grammar.grammar c.args.self.now.grammar in
    let P : ReaderOf g.row.G.Denot g.row.G-Place.Denot → Type 0 = λ s. IsUnfinished (g.G.Grammar.grammar s.grammar).limit s.lines.unfinished in
    let before = subst P c.self.view_is c.self.invariant.3 in
    answer_lines G c.args.self.now.lines c.keep.new.self.lines c.args.piece.now c.keep.result
    (keeps_answers G c.args.self.now.lines c.keep.new.self.lines c.args.piece.now c.keep.result before.without_feed c.in-None.ensures c.keep.ensures.keeps)

pub returns-in-Some-clause-reads : goal.returns-in-Some-clause-reads
returns-in-Some-clause-reads g c =
    let G = g.G.Grammar.grammar c.args.self.now.grammar in
    let P : ReaderOf g.row.G.Denot g.row.G-Place.Denot → Type 0 = λ s. IsUnfinished (g.G.Grammar.grammar s.grammar).limit s.lines.unfinished in
    let before = subst P c.self.view_is c.self.invariant.3 in
    answer_reads G c.args.self.now.lines c.finish.new.self.lines c.args.piece.now c.finish.result
    (finishes_answers G c.args.self.now.lines c.finish.new.self.lines c.args.piece.now c.in-Some.end.now c.in-Some.field-0-1.now c.finish.result before.without_feed c.in-Some.ensures.0 c.in-Some.ensures.1 c.finish.ensures.finishes)

pub returns-in-Some-clause-refuses : goal.returns-in-Some-clause-refuses
returns-in-Some-clause-refuses g c =
    let G = g.G.Grammar.grammar c.args.self.now.grammar in
    let P : ReaderOf g.row.G.Denot g.row.G-Place.Denot → Type 0 = λ s. IsUnfinished (g.G.Grammar.grammar s.grammar).limit s.lines.unfinished in
    let before = subst P c.self.view_is c.self.invariant.3 in
    answer_refuses G c.args.self.now.lines c.finish.new.self.lines c.args.piece.now c.finish.result
    (finishes_answers G c.args.self.now.lines c.finish.new.self.lines c.args.piece.now c.in-Some.end.now c.in-Some.field-0-1.now c.finish.result before.without_feed c.in-Some.ensures.0 c.in-Some.ensures.1 c.finish.ensures.finishes)

pub returns-in-Some-clause-read : goal.returns-in-Some-clause-read
returns-in-Some-clause-read g c =
    let G = g.G.Grammar.grammar c.args.self.now.grammar in
    let P : ReaderOf g.row.G.Denot g.row.G-Place.Denot → Type 0 = λ s. IsUnfinished (g.G.Grammar.grammar s.grammar).limit s.lines.unfinished in
    let before = subst P c.self.view_is c.self.invariant.3 in
    answer_read G c.args.self.now.lines c.finish.new.self.lines c.args.piece.now c.finish.result
    (finishes_answers G c.args.self.now.lines c.finish.new.self.lines c.args.piece.now c.in-Some.end.now c.in-Some.field-0-1.now c.finish.result before.without_feed c.in-Some.ensures.0 c.in-Some.ensures.1 c.finish.ensures.finishes)

pub returns-in-Some-clause-lines : goal.returns-in-Some-clause-lines
returns-in-Some-clause-lines g c =
    let G = g.G.Grammar.grammar c.args.self.now.grammar in
    let P : ReaderOf g.row.G.Denot g.row.G-Place.Denot → Type 0 = λ s. IsUnfinished (g.G.Grammar.grammar s.grammar).limit s.lines.unfinished in
    let before = subst P c.self.view_is c.self.invariant.3 in
    answer_lines G c.args.self.now.lines c.finish.new.self.lines c.args.piece.now c.finish.result
    (finishes_answers G c.args.self.now.lines c.finish.new.self.lines c.args.piece.now c.in-Some.end.now c.in-Some.field-0-1.now c.finish.result before.without_feed c.in-Some.ensures.0 c.in-Some.ensures.1 c.finish.ensures.finishes)
