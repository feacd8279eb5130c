use Rattle.std.proofs.Common.{◌++◌, take, ℕ, sym, ◌∙◌, refl, subst}
use Rattle.value_cert.specs.Grammar.{is_ended}
use Rattle.value_cert.specs.Breaches.{cert_rules}
use Rattle.cert_check.specs.Kinds.{KnowsKind}
use Rattle.line_check.specs.TextChecks.{FeedsLine, IsTextCheckOf}
use Rattle.line_check.specs.TextCheckFacts.{reads_piece, refuses}
use Rattle.cert_check.proofs.text_check.TextCheck.take_line.Goals as goal

pub returns-in-Ok-clause-stands : goal.returns-in-Ok-clause-stands
returns-in-Ok-clause-stands c = λ of bytes held.
    let stands = held.stands in
    let G = cert_rules of in
    let s = c.args.self.now in
    let live = sym c.is_rejected.ensures ∙ c.if-is_rejected.false in
    let fed = c.verdict_behind-self in
    let knew = KnowsKind s.kind of in
    let knows = KnowsKind fed.new.self.kind of in
    let taken = c.in-Ok.taken in
    let F : ℕ → Type 0 = λ n. FeedsLine G knew knows n (is_ended c.push.new.self.lines.place) taken.line fed.result in
    let P : _ → Type 0 = λ r. IsTextCheckOf G knows r.lines fed.result (bytes ++ take taken.count c.args.piece.now) in
    record {
      valid = held.valid;
      stands = subst P (sym fed.ensures.reader)
          (reads_piece G knew knows s.reader.lines c.push.new.self.lines fed.result bytes c.args.piece.now taken.count taken.line (stands.reading live) c.requires
          c.in-Ok.ensures.reads (λ lines read. c.in-Ok.ensures.read bytes lines read) c.in-Ok.ensures.unfinished (subst F c.number-number.ensures (fed.ensures.feeds of)));
    }

pub returns-in-Err-clause-stands : goal.returns-in-Err-clause-stands
returns-in-Err-clause-stands c = λ of bytes held.
    let stands = held.stands in
    let G = cert_rules of in
    let s = c.args.self.now in
    let live = sym c.is_rejected.ensures ∙ c.if-is_rejected.false in
    record { valid = held.valid; stands = refuses G (KnowsKind s.kind of) (KnowsKind s.kind of) s.reader.lines c.push.new.self.lines s.verdict _ bytes c.args.piece.now stands live c.in-Err.ensures.refuses (rw c.in-Err.ensures.fails.told refl) }
