-- What a check of a text knows when bytes have come.
use Rattle.std.proofs.Common.{◌≡◌, ℕ, ◌-◌, ◌<◌, Bool, true, false, cond, ◌&&◌, List, [], ◌∷◌, ◌++◌, length, take, drop, Option, Some, None, refl, sym, ap, ◌∙◌, subst, arith, append_assoc, append-nil}
use Rattle.std.specs.Prelude.{◌==◌, IfSome, option_to_list}
use Rattle.std.specs.Option.{option_or}
use Rattle.std.proofs.lemmas.Bool.{false≢true}
use Rattle.std.proofs.lemmas.List.{length-append, length-drop, take_all, take-append-drop}
use borrow.Author.Tests.{ne_eqb}
use Rattle.line_text.specs.Breaches.{RuledGrammar, Breach, breach_behind, lines_breach, next_line}
use Rattle.line_text.specs.Grammar.{GrammarOf, has_ended, place_after}
use Rattle.line_text.specs.Reading.{ReaderState, IsUnfinished, HasRead, Reads, Refuses, lines_text}
use Rattle.line_text.specs.TextBreaches.{end_breach, pieces_breach, text_breach}
use Rattle.line_text.specs.TextBreachFacts.{pieces_of, text_breach-read, text_breach-ended, refused_breach}
use Rattle.line_check.specs.Checks.{IsPassing}
use Rattle.line_check.specs.Rules.{MayStand, AnswersLine}
use Rattle.line_check.specs.TextChecks.{IsOpen, Tells, IsReading, IsTextCheckOf, IsWholeText, IsJudged, FeedsLine, verdict_after}
use Rattle.line_check.specs.Verdicts.{verdict_or, verdict_of, passing_verdict, fed_verdict, is_rejection}
use Rattle.line_check.specs.declared.verdict.Verdict.{Verdict}
use Rattle.line_check.specs.declared.verdict.Verdict.TheVariants.{Going, Accepted, Rejected}
use Rattle.line_check.specs.BreachFacts.{unbroken_by}
use Rattle.line_check.specs.CheckFacts.{broken_later, passes_verdict}

none_first : (first further : Option Breach) → first ≡ None → option_or first further ≡ further
none_first first further none = rw none refl

some_first : (first further : Option Breach) (b : Breach) → first ≡ Some b → option_or first further ≡ Some b
some_first first further b some = rw some refl

-- ---- bytes that were read
read_text : (G : RuledGrammar) (reader : ReaderState G.Place) (bytes : List ℕ) (lines : List G.Line) (more : List ℕ) → HasRead G.grammar reader bytes lines → lines_breach G lines ≡ None
    → text_breach G (bytes ++ more) ≡ pieces_breach G lines (pieces_of (reader.unfinished ++ more))
read_text G reader bytes lines more read none =
    text_breach-read G reader bytes more lines read ∙ none_first (lines_breach G lines) (pieces_breach G lines (pieces_of (reader.unfinished ++ more))) none

read_broken : (G : RuledGrammar) (reader : ReaderState G.Place) (bytes : List ℕ) (lines : List G.Line) (more : List ℕ) (b : Breach) → HasRead G.grammar reader bytes lines → lines_breach G lines ≡ Some b
    → text_breach G (bytes ++ more) ≡ Some b
read_broken G reader bytes lines more b read some =
    text_breach-read G reader bytes more lines read ∙ some_first (lines_breach G lines) (pieces_breach G lines (pieces_of (reader.unfinished ++ more))) b some

read_end : (G : RuledGrammar) (reader : ReaderState G.Place) (bytes : List ℕ) (lines : List G.Line) → HasRead G.grammar reader bytes lines → IsUnfinished G.grammar.limit reader.unfinished → lines_breach G lines ≡ None
    → text_breach G bytes ≡ end_breach G lines reader.unfinished
read_end G reader bytes lines read short none =
    text_breach-ended G reader bytes lines read short ∙ none_first (lines_breach G lines) (end_breach G lines reader.unfinished) none

-- ---- what a verdict tells
some_none : {A : Type 0} (x : A) → Some x ≡ None → ⊥
some_none x h = cc

unended_by : (ended : Bool) (breach : Breach) → ended ≡ false → cond ended None (Some breach) ≡ Some breach
unended_by ended breach h = rw h refl

ended_by : (ended : Bool) (breach : Breach) → ended ≡ true → cond ended None (Some breach) ≡ None
ended_by ended breach h = rw h refl

-- a text of these lines and unfinished bytes may end there
abbrev is_whole : (G : RuledGrammar) → List G.Line → List ℕ → Bool
is_whole G lines unfinished = has_ended G.grammar (place_after G.grammar lines) && (length unfinished == 0)

going_tells : (G : RuledGrammar) (reader : ReaderState G.Place) (bytes : List ℕ) (lines : List G.Line) → HasRead G.grammar reader bytes lines → IsUnfinished G.grammar.limit reader.unfinished → lines_breach G lines ≡ None
    → is_whole G lines reader.unfinished ≡ false → Tells G bytes Going
going_tells G reader bytes lines read short none open_ended = record {
  lines = lines;
  unfinished = reader.unfinished;
  text_is = read.text;
  unbroken = none;
  short = short;
  unended = λ whole. some_none (breach_behind lines 1) (sym (unended_by (is_whole G lines reader.unfinished) (breach_behind lines 1) open_ended) ∙ sym (read_end G reader bytes lines read short none) ∙ whole);
}

accepted_tells : (G : RuledGrammar) (reader : ReaderState G.Place) (bytes : List ℕ) (lines : List G.Line) → HasRead G.grammar reader bytes lines → IsUnfinished G.grammar.limit reader.unfinished → lines_breach G lines ≡ None
    → is_whole G lines reader.unfinished ≡ true → Tells G bytes Accepted
accepted_tells G reader bytes lines read short none whole =
    read_end G reader bytes lines read short none ∙ ended_by (is_whole G lines reader.unfinished) (breach_behind lines 1) whole

-- behind a line that ended
line_tells : (G : RuledGrammar) (reader : ReaderState G.Place) (bytes : List ℕ) (lines : List G.Line) → HasRead G.grammar reader bytes lines → IsUnfinished G.grammar.limit reader.unfinished → reader.unfinished ≡ []
    → Tells G bytes (fed_verdict G lines)
line_tells G reader bytes lines read short empty = by_breach (lines_breach G lines) refl
  where
    none_left : (b : Bool) → (b && (length reader.unfinished == 0)) ≡ b
    none_left true = rw empty refl
    none_left false = refl

    by_end : (ended : Bool) → has_ended G.grammar (place_after G.grammar lines) ≡ ended → lines_breach G lines ≡ None → Tells G bytes (cond ended Accepted Going)
    by_end true e none = accepted_tells G reader bytes lines read short none (none_left (has_ended G.grammar (place_after G.grammar lines)) ∙ e)
    by_end false e none = going_tells G reader bytes lines read short none (none_left (has_ended G.grammar (place_after G.grammar lines)) ∙ e)

    by_breach : (breach : Option Breach) → lines_breach G lines ≡ breach → Tells G bytes (verdict_or breach (passing_verdict G (place_after G.grammar lines)))
    by_breach None none = by_end (has_ended G.grammar (place_after G.grammar lines)) refl none
    by_breach (Some b) some = λ more. read_broken G reader bytes lines more b read some

tells_same : (G : RuledGrammar) (text : List ℕ) (answer verdict : Verdict) → answer ≡ verdict → Tells G text verdict → Tells G text answer
tells_same G text answer verdict same told = let P : Verdict → Type 0 = λ v. Tells G text v in subst P (sym same) told

-- ---- the check behind more bytes
-- a line ended
module _ (G : RuledGrammar) (knew knows : List G.Line → Type 0) (old new : ReaderState G.Place) (v : Verdict) (bytes : List ℕ) (line : G.Line) (reading : IsReading G knew old bytes)
    (step : G.grammar.step old.place line ≡ Some new.place) (judged : IsJudged G.rules knows reading.lines line old.number (G.grammar.ends new.place) v) where
  passing : IsPassing G knew old.place old.number reading.lines
  passing = record { unbroken = reading.unbroken; place = reading.read.place; count = reading.read.number; known = reading.known }

  judged_verdict : v ≡ fed_verdict G (reading.lines ++ line ∷ [])
  judged_verdict = by_rule judged.rule judged.answers judged.said
    where
      by_rule : (rule : Option ℕ) → AnswersLine G.rules knows reading.lines line rule → v ≡ verdict_after rule old.number (G.grammar.ends new.place) → v ≡ fed_verdict G (reading.lines ++ line ∷ [])
      by_rule None answers said = said ∙ passes_verdict G knew old.place old.number reading.lines line new.place knows None passing step answers refl
      by_rule (Some rule) answers said = said ∙ broken_later G knew old.place old.number reading.lines line new.place knows (Some rule) rule passing step answers refl

  judged_known : is_rejection v ≡ false → knows (reading.lines ++ line ∷ [])
  judged_known live = by_rule judged.rule judged.answers judged.said
    where
      by_rule : (rule : Option ℕ) → AnswersLine G.rules knows reading.lines line rule → v ≡ verdict_after rule old.number (G.grammar.ends new.place) → knows (reading.lines ++ line ∷ [])
      by_rule None answers said = answers.known refl
      by_rule (Some rule) answers said = absurd (false≢true (sym live ∙ ap is_rejection said))

  ends_line : (all : List ℕ) → HasRead G.grammar new all (reading.lines ++ line ∷ []) → IsUnfinished G.grammar.limit new.unfinished → new.unfinished ≡ [] → IsTextCheckOf G knows new v all
  ends_line all read short empty = record {
    said = tells_same G all v (fed_verdict G (reading.lines ++ line ∷ [])) judged_verdict (line_tells G new all (reading.lines ++ line ∷ []) read short empty);
    reading = λ live. record {
      lines = reading.lines ++ line ∷ [];
      read = read;
      short = short;
      unbroken = unbroken_by G (reading.lines ++ line ∷ []) (ap is_rejection (sym judged_verdict) ∙ live);
      known = judged_known live;
    };
  }

both_false : (b c : Bool) → c ≡ false → (b && c) ≡ false
both_false true c h = h
both_false false c h = refl

-- the line under way goes on
goes_on : (G : RuledGrammar) (knows : List G.Line → Type 0) (new : ReaderState G.Place) (v : Verdict) (all : List ℕ) (lines : List G.Line) → HasRead G.grammar new all lines → IsUnfinished G.grammar.limit new.unfinished
    → 0 < length new.unfinished → lines_breach G lines ≡ None → knows lines → v ≡ Going → IsTextCheckOf G knows new v all
goes_on G knows new v all lines read short some none known answer = record {
  said = tells_same G all v Going answer (going_tells G new all lines read short none
      (both_false (has_ended G.grammar (place_after G.grammar lines)) (length new.unfinished == 0) (ne_eqb (length new.unfinished) 0 (λ zero_long. absurd (omega (arith, some, zero_long))))));
  reading = λ live. record { lines = lines; read = read; short = short; unbroken = none; known = known };
}

-- a part of a piece was read
pub reads_piece : (G : RuledGrammar) (knew knows : List G.Line → Type 0) (old new : ReaderState G.Place) (v : Verdict) (bytes piece : List ℕ) (count : ℕ) (line : Option G.Line)
    → IsReading G knew old bytes → 0 < length piece → Reads G.grammar old new piece count line
    → ((lines : List G.Line) → HasRead G.grammar old bytes lines → HasRead G.grammar new (bytes ++ take count piece) (lines ++ option_to_list line))
    → IsUnfinished G.grammar.limit new.unfinished → FeedsLine G knew knows old.number (G.grammar.ends new.place) line v
    → IsTextCheckOf G knows new v (bytes ++ take count piece)
reads_piece G knew knows old new v bytes piece count None reading some kept read short feeds =
    let P : List G.Line → Type 0 = λ all. HasRead G.grammar new (bytes ++ take count piece) all in
    goes_on G knows new v (bytes ++ take count piece) reading.lines (subst P (append-nil reading.lines) (read reading.lines reading.read)) short
    (omega (arith, ap length kept.unfinished, length-append old.unfinished piece, some)) reading.unbroken (feeds.0 reading.lines reading.known) feeds.1
reads_piece G knew knows old new v bytes piece count (Some line) reading some ended read short feeds =
    ends_line G knew knows old new v bytes line reading ended.place (feeds reading.lines reading.known) (bytes ++ take count piece) (read reading.lines reading.read) short ended.unfinished

-- a line that ended may stand where it does
pub may_stand : {L P : Type 0} (grammar : GrammarOf L P) (old new : ReaderState P) (piece : List ℕ) (count : ℕ) (line : Option L) → Reads grammar old new piece count line → IfSome line (MayStand grammar)
may_stand grammar old new piece count None reads = tt
may_stand grammar old new piece count (Some line) reads = record { at = old.place; next = new.place; step = reads.place }

-- the reader refused the line under way
pub refuses : (G : RuledGrammar) (knew knows : List G.Line → Type 0) (old new : ReaderState G.Place) (was now : Verdict) (bytes piece : List ℕ) → IsTextCheckOf G knew old was bytes → is_rejection was ≡ false
    → (old.failed ≡ false → Refuses G.grammar old piece) → now ≡ Rejected old.number 1 → IsTextCheckOf G knows new now (bytes ++ take (length piece) piece)
refuses G knew knows old new was now bytes piece stands live refused answer = record {
  said = tells_same G (bytes ++ take (length piece) piece) now (Rejected old.number 1) answer (λ more. broken more);
  reading = λ still. absurd (false≢true (sym still ∙ ap is_rejection answer));
}
  where
    broken : (more : List ℕ) → text_breach G ((bytes ++ take (length piece) piece) ++ more) ≡ Some (record { line = old.number; rule = 1 })
    broken more =
        let reading = stands.reading live in
        ap (λ (part : List ℕ). text_breach G ((bytes ++ part) ++ more)) (take_all (length piece) piece (omega arith))
        ∙ ap (text_breach G) (append_assoc bytes piece more)
        ∙ read_text G old bytes reading.lines (piece ++ more) reading.read reading.unbroken
        ∙ ap (λ (text : List ℕ). pieces_breach G reading.lines (pieces_of text)) (sym (append_assoc old.unfinished piece more))
        ∙ refused_breach G reading.lines old piece more reading.read.place (refused reading.read.live)
        ∙ ap (λ (n : ℕ). Some (record { line = n; rule = 1 })) (sym reading.read.number)

-- a rejection stays
stays_told : (G : RuledGrammar) (text more : List ℕ) (verdict : Verdict) → is_rejection verdict ≡ true → Tells G text verdict → Tells G (text ++ more) verdict
stays_told G text more Going h told = absurd (false≢true h)
stays_told G text more Accepted h told = absurd (false≢true h)
stays_told G text more (Rejected line rule) h told = λ rest. ap (text_breach G) (append_assoc text more rest) ∙ told (more ++ rest)

pub stays_rejected : (G : RuledGrammar) (knows : List G.Line → Type 0) (reader : ReaderState G.Place) (v : Verdict) (bytes more : List ℕ) → IsTextCheckOf G knows reader v bytes → is_rejection v ≡ true → IsTextCheckOf G knows reader v (bytes ++ more)
stays_rejected G knows reader v bytes more stands rejected = record {
  said = stays_told G bytes more v rejected stands.said;
  reading = λ live. absurd (false≢true (sym live ∙ rejected));
}

-- ---- the end
pub going_ends : (G : RuledGrammar) (knows : List G.Line → Type 0) (reader : ReaderState G.Place) (v : Verdict) (bytes : List ℕ) → IsTextCheckOf G knows reader v bytes → v ≡ Going → Rejected reader.number 1 ≡ verdict_of (text_breach G bytes)
going_ends G knows reader v bytes stands going =
    let reading = stands.reading (ap is_rejection going) in
    let told : IsOpen G bytes = (let P : Verdict → Type 0 = λ v. Tells G bytes v in subst P going stands.said) in
    let is = read_end G reader bytes reading.lines reading.read reading.short reading.unbroken in
    by_end reading.lines (is_whole G reading.lines reader.unfinished) (λ none. told.unended none) is reading.read.number
  where
    by_end : (lines : List G.Line) (ended : Bool) → (text_breach G bytes ≡ None → ⊥) → text_breach G bytes ≡ cond ended None (Some (breach_behind lines 1)) → reader.number ≡ next_line lines
        → Rejected reader.number 1 ≡ verdict_of (text_breach G bytes)
    by_end lines true unended is number = absurd (unended is)
    by_end lines false unended is number = ap (λ (n : ℕ). Rejected n 1) number ∙ sym (ap verdict_of is)

other_told : (G : RuledGrammar) (bytes : List ℕ) (verdict : Verdict) → (verdict ≡ Going → ⊥) → Tells G bytes verdict → verdict ≡ verdict_of (text_breach G bytes)
other_told G bytes Going not_going told = absurd (not_going refl)
other_told G bytes Accepted not_going told = sym (ap verdict_of told)
other_told G bytes (Rejected line rule) not_going told = sym (ap verdict_of (ap (text_breach G) (sym (append-nil bytes)) ∙ told []))

pub others_end : (G : RuledGrammar) (knows : List G.Line → Type 0) (reader : ReaderState G.Place) (v : Verdict) (bytes : List ℕ) → IsTextCheckOf G knows reader v bytes → (v ≡ Going → ⊥) → v ≡ verdict_of (text_breach G bytes)
others_end G knows reader v bytes stands not_going = other_told G bytes v not_going stands.said

-- ---- the pieces of a piece
-- the bytes that were taken, those that are taken now, and the rest
pub taken_on : (piece front rest : List ℕ) (count whole : ℕ) → piece ≡ front ++ rest → whole ≡ length rest → piece ≡ (front ++ take count rest) ++ take (whole - count) (drop count rest)
taken_on piece front rest count whole split all =
    split
    ∙ ap (λ (r : List ℕ). front ++ r) (sym (take-append-drop count rest) ∙ ap (λ (r : List ℕ). take count rest ++ r) (sym (take_all (whole - count) (drop count rest) (omega (arith, length-drop count rest)))))
    ∙ sym (append_assoc front (take count rest) (take (whole - count) (drop count rest)))

-- ---- what is accepted
whole_by : (ended : Bool) (breach : Breach) → cond ended None (Some breach) ≡ None → ended ≡ true
whole_by true breach h = refl
whole_by false breach h = cc

no_bytes : (bytes : List ℕ) → (length bytes == 0) ≡ true → bytes ≡ []
no_bytes [] h = refl
no_bytes (byte ∷ bytes) h = absurd (false≢true (sym (ne_eqb (length (byte ∷ bytes)) 0 (λ e. absurd (omega (arith, e)))) ∙ h))

both : (a b : Bool) → (a && b) ≡ true → (a ≡ true) × (b ≡ true)
both true b h = (refl, h)
both false b h = absurd (false≢true h)

pub accepted_whole : (G : RuledGrammar) (knows : List G.Line → Type 0) (reader : ReaderState G.Place) (v : Verdict) (bytes : List ℕ) → IsTextCheckOf G knows reader v bytes → v ≡ Accepted → IsWholeText G bytes
accepted_whole G knows reader v bytes stands accepted =
    let reading = stands.reading (ap is_rejection accepted) in
    let P : Verdict → Type 0 = λ v. Tells G bytes v in
    let whole : text_breach G bytes ≡ None = subst P accepted stands.said in
    let ended = both (has_ended G.grammar (place_after G.grammar reading.lines)) (length reader.unfinished == 0)
    (whole_by (is_whole G reading.lines reader.unfinished) (breach_behind reading.lines 1) (sym (read_end G reader bytes reading.lines reading.read reading.short reading.unbroken) ∙ whole)) in
    record {
      lines = reading.lines;
      text_is = reading.read.text ∙ ap (λ (rest : List ℕ). lines_text G.grammar reading.lines ++ rest) (no_bytes reader.unfinished ended.1) ∙ append-nil (lines_text G.grammar reading.lines);
      whole = record { ended = ended.0; unbroken = reading.unbroken };
    }
