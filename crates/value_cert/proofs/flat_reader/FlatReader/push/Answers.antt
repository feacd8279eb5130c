use Rattle.std.proofs.Common.{◌++◌, take, ap, sym, subst}
use Rattle.std.specs.Prelude.{IfOk, MatchResult, option_to_list}
use Rattle.line_text.specs.Reading.{AreLinesOf, BeginsNoText, HasRead}
use Rattle.value_cert.specs.FlatGrammar.{flat_grammar}
use Rattle.value_cert.specs.FlatReading.{FlatState}
use Rattle.value_cert.proofs.flat_reader.FlatReader.push.Goals as goal
use Rattle.value_cert.proofs.flat_reader.FlatReader.push.Goals.{in-Ok, in-Err}

pub returns-clause-read : goal.returns-clause-read
returns-clause-read c = λ bytes lines read.
    let P : FlatState → Type 0 = λ s. HasRead (flat_grammar s.grammar.name) s.lines bytes lines in
    let before = subst P (sym c.self.view_is) read in
    let Q : FlatState → Type 0 = λ s. MatchResult c.match-push.result (λ progress. HasRead (flat_grammar s.grammar.name) c.push.new.self.lines (bytes ++ take progress.taken c.args.piece.now) (lines ++ option_to_list progress.line)) (λ _. BeginsNoText (flat_grammar s.grammar.name) (bytes ++ c.args.piece.now)) in
    subst Q c.self.view_is
    (elim c.match-push.branch [ in-Ok w ↦ rw w.result-is (w.in-Ok.ensures.read bytes lines before) | in-Err w ↦ rw w.result-is (w.in-Err.ensures.read bytes lines before) ])

pub returns-clause-lines : goal.returns-clause-lines
returns-clause-lines c = λ bytes lines read.
    let P : FlatState → Type 0 = λ s. HasRead (flat_grammar s.grammar.name) s.lines bytes lines in
    let before = subst P (sym c.self.view_is) read in
    let Q : FlatState → Type 0 = λ s. IfOk c.match-push.result (λ progress. AreLinesOf (flat_grammar s.grammar.name) (bytes ++ take progress.taken c.args.piece.now) (lines ++ option_to_list progress.line)) in
    subst Q c.self.view_is
    (elim c.match-push.branch [ in-Ok w ↦ rw w.result-is (w.in-Ok.ensures.lines bytes lines before) | in-Err w ↦ rw w.result-is tt ])
