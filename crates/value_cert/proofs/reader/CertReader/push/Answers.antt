use Rattle.std.proofs.Common.{sym, subst}
use Rattle.value_cert.specs.Reading.{ReaderState, HasRead}
use Rattle.value_cert.specs.ReadingFacts.{no_text, read_lines}
use Rattle.value_cert.proofs.reader.CertReader.push.Goals as goal
use Rattle.value_cert.proofs.reader.CertReader.push.Goals.{in-Ok, in-Err}

pub returns-clause-read : goal.returns-clause-read
returns-clause-read c = λ bytes lines read.
    let P : ReaderState → Type 0 = λ s. HasRead s bytes lines in
    let before = subst P (sym c.self.view_is) read in
    elim c.match-push.branch [ in-Ok w ↦ rw w.result-is (w.in-Ok.ensures.read bytes lines before) | in-Err w ↦ rw w.result-is (no_text _ (w.in-Err.ensures.read bytes lines before)) ]

pub returns-clause-lines : goal.returns-clause-lines
returns-clause-lines c = λ bytes lines read.
    let P : ReaderState → Type 0 = λ s. HasRead s bytes lines in
    let before = subst P (sym c.self.view_is) read in
    elim c.match-push.branch [ in-Ok w ↦ rw w.result-is (read_lines _ _ _ (w.in-Ok.ensures.read bytes lines before)) | in-Err w ↦ rw w.result-is tt ]
