-- The verdict on the certificate of an input that is read piece by piece.
use Rattle.std.proofs.Common.{◌≡◌, ℕ, ◌+◌, ◌≤◌, ◌<◌, List, [], ◌++◌, length, take, drop, Option, Some, None, IsSomeAnd, Ok, Err, IfSome, true, false, refl, sym, subst, arith, ◌∙◌, ap, append_assoc}
use Rattle.std.specs.Io.KnownBytes.{Consumes, IsAtEnd, Keeps}
use Rattle.std.specs.Io.{StartsWith}
use Rattle.std.proofs.lemmas.List.{append-nil, length-append, length-take-le, take-append-drop}
use Rattle.line_text.specs.Breaches.{RuledGrammar, Breach}
use Rattle.line_text.specs.Reading.{lines_text}
use Rattle.line_text.specs.TextBreaches.{text_breach}
use Rattle.line_check.specs.TextChecks.{Tells}
use Rattle.line_check.specs.Verdicts.{verdict_of, is_rejection}
use Rattle.line_check.specs.declared.verdict.Verdict.{Verdict}
use Rattle.line_check.specs.declared.verdict.Verdict.TheVariants.{Going, Accepted, Rejected}
use Rattle.report_text.specs.declared.faults.Fault.TheVariants as fault
use Rattle.stock_edge.specs.HeldFiles.{Held, GivesHeld}
use Rattle.stock_edge.specs.Known.{consumes_kept, consumes_more, consumes_none}
use Rattle.stock_edge.specs.KnownFiles.{BeginsFile, begins_empty, begins_more, whole_at_end}
use Rattle.stock_edge.specs.WholeFile.{IsWholeFile}
use Rattle.stock_cli.specs.Causes.{IsMissing, NoPiece, NotChecked}
use Rattle.stock_cli.specs.declared.certificates.Unchecked.{Unchecked}
use Rattle.stock_cli.specs.declared.certificates.Unchecked.TheVariants as unchecked
use Rattle.stock_cli.specs.Checks.{IsFinal, IsVerdictOf, IsVerdictOn, PassesUpTo, Reaches, TextCheckOf, GivesNext, HasTaken, HasRead, HasCome}
use Rattle.stock_cli.specs.Inputs.{Origin, content_of, file_content, input_name, standard_content, named_content}

-- ---- lines that all pass
nothing_passes : (G : RuledGrammar) (most : ℕ) → PassesUpTo G [] most
nothing_passes G most = record { lines = []; pass = refl; behind = []; text_is = refl; within = omega arith }

passes_longer : (G : RuledGrammar) (bytes piece : List ℕ) (most more : ℕ) → PassesUpTo G bytes most → most + length piece ≤ more → PassesUpTo G (bytes ++ piece) more
passes_longer G bytes piece most more p le =
    record {
      lines = p.lines;
      pass = p.pass;
      behind = p.behind ++ piece;
      text_is = ap (λ t. t ++ piece) p.text_is ∙ append_assoc (lines_text G.grammar p.lines) p.behind piece;
      within = omega (arith, length-append p.behind piece, p.within, le);
    }

pub takes_none : (G : RuledGrammar) (left : Option (List ℕ)) → Reaches G left left
takes_none G left =
    record { bytes = []; taken = consumes_none left; passes = nothing_passes G (G.grammar.limit + 4096) }

-- ---- standard input
nothing_taken : {Check : Type 0} (C : TextCheckOf Check) (of : C.Of) (check : Check) (left : Option (List ℕ)) → C.StandsFor of check [] → HasTaken C of check left left
nothing_taken C of check left h = record { bytes = []; stands = h; taken = consumes_none left; passes = nothing_passes (C.rules of) (C.rules of).grammar.limit }

more_taken : {Check : Type 0} (C : TextCheckOf Check) (of : C.Of) (old new : Check) (a b c : Option (List ℕ)) (piece : List ℕ) → HasTaken C of old a b → Consumes b c piece
    → ((bytes : List ℕ) → C.StandsFor of old bytes → C.StandsFor of new (bytes ++ piece)) → is_rejection (C.last new) ≡ false → HasTaken C of new a c
more_taken C of old new a b c piece t more stands going =
    record {
      bytes = t.bytes ++ piece;
      stands = stands t.bytes t.stands;
      taken = consumes_more a b c t.bytes piece t.taken more;
      passes = C.reading of new (t.bytes ++ piece) (stands t.bytes t.stands) going;
    }

-- nothing more was taken
taken_still : {Check : Type 0} (C : TextCheckOf Check) (of : C.Of) (check : Check) (a b c : Option (List ℕ)) → HasTaken C of check a b → Consumes b c [] → HasTaken C of check a c
taken_still C of check a b c t none =
    let P : List ℕ → Type 0 = Consumes a c in
    record { bytes = t.bytes; stands = t.stands; taken = subst P (append-nil t.bytes) (consumes_more a b c t.bytes [] t.taken none); passes = t.passes }

-- a verdict at the end of the text
verdict_final : (o : Option Breach) → IsFinal (verdict_of o)
verdict_final None = tt
verdict_final (Some breach) = tt

-- a verdict on bytes that are all there were
at_end : (G : RuledGrammar) (claim : List ℕ → Type 0) (verdict : Verdict) (bytes : List ℕ) (a b : Option (List ℕ)) → Consumes a b bytes → IsAtEnd b
    → verdict ≡ verdict_of (text_breach G bytes) → (verdict ≡ Accepted → claim bytes) → IfSome (standard_content a) (IsVerdictOf G claim verdict)
at_end G claim verdict bytes None b taken end is accepted = tt
at_end G claim verdict bytes (Some xs) None taken end is accepted = absurd taken
at_end G claim verdict bytes (Some xs) (Some ys) taken end is accepted =
    let all : xs ≡ bytes = taken ∙ ap (λ t. bytes ++ t) end ∙ append-nil bytes in
    record { text = bytes; told = ap (λ t. Ok t) all; verdict_is = is; accepted = accepted }

standard_end : {Check : Type 0} (C : TextCheckOf Check) (of : C.Of) (check : Check) (verdict : Verdict) (a b : Option (List ℕ)) → HasTaken C of check a b → IsAtEnd b
    → ((bytes : List ℕ) → C.StandsFor of check bytes → verdict ≡ verdict_of (text_breach (C.rules of) bytes))
    → ((bytes : List ℕ) → C.StandsFor of check bytes → verdict ≡ Accepted → C.Claims of bytes)
    → IsVerdictOn (C.rules of) (C.Claims of) (standard_content a) verdict
standard_end C of check verdict a b t end is accepted =
    record {
      final = subst IsFinal (sym (is t.bytes t.stands)) (verdict_final (text_breach (C.rules of) t.bytes));
      exact = at_end (C.rules of) (C.Claims of) verdict t.bytes a b t.taken end (is t.bytes t.stands) (accepted t.bytes t.stands);
    }

-- a rejection of bytes that others may follow
rejected_early : (G : RuledGrammar) (claim : List ℕ → Type 0) (line rule : ℕ) (bytes : List ℕ) (a c : Option (List ℕ)) → Consumes a c bytes → Tells G bytes (Rejected line rule) → IfSome (standard_content a) (IsVerdictOf G claim (Rejected line rule))
rejected_early G claim line rule bytes None c taken tells = tt
rejected_early G claim line rule bytes (Some xs) None taken tells = absurd taken
rejected_early G claim line rule bytes (Some xs) (Some ys) taken tells =
    record { text = bytes ++ ys; told = ap (λ t. Ok t) taken; verdict_is = ap verdict_of (sym (tells ys)); accepted = λ e. absurd (cc e) }

standard_rejected : {Check : Type 0} (C : TextCheckOf Check) (of : C.Of) (old : Check) (verdict : Verdict) (a b c : Option (List ℕ)) (piece : List ℕ) → HasTaken C of old a b → Consumes b c piece
    → ((bytes : List ℕ) → C.StandsFor of old bytes → Tells (C.rules of) (bytes ++ piece) verdict) → is_rejection verdict ≡ true → IsVerdictOn (C.rules of) (C.Claims of) (standard_content a) verdict
standard_rejected C of old Going a b c piece t more tells is = absurd (cc is)
standard_rejected C of old Accepted a b c piece t more tells is = absurd (cc is)
standard_rejected C of old (Rejected line rule) a b c piece t more tells is =
    record { final = tt; exact = rejected_early (C.rules of) (C.Claims of) line rule (t.bytes ++ piece) a c (consumes_more a b c t.bytes piece t.taken more) (tells t.bytes t.stands) }

-- ---- a file
nothing_read : {Check : Type 0} (C : TextCheckOf Check) (of : C.Of) (check : Check) (held : Option Held) (name : List ℕ) → C.StandsFor of check [] → HasRead C of check held name 0
nothing_read C of check held name h = record { bytes = []; stands = h; begins = begins_empty held name; counted = refl }

more_read : {Check : Type 0} (C : TextCheckOf Check) (of : C.Of) (old new : Check) (held : Option Held) (name buf : List ℕ) (place count : ℕ) → HasRead C of old held name place → count ≤ length buf → GivesHeld held name place buf count
    → ((bytes : List ℕ) → C.StandsFor of old bytes → C.StandsFor of new (bytes ++ take count buf)) → HasRead C of new held name (place + count)
more_read C of old new held name buf place count r within gives stands =
    let given : GivesHeld held name (length r.bytes) buf count = rw r.counted gives in
    record {
      bytes = r.bytes ++ take count buf;
      stands = stands r.bytes r.stands;
      begins = begins_more held name r.bytes buf count r.begins within given;
      counted = length-append r.bytes (take count buf) ∙ omega (arith, r.counted, length-take-le count buf within);
    }

-- a verdict on the whole file
whole_file : (G : RuledGrammar) (claim : List ℕ → Type 0) (verdict : Verdict) (held : Option Held) (name bytes : List ℕ) → IsWholeFile held name bytes
    → verdict ≡ verdict_of (text_breach G bytes) → (verdict ≡ Accepted → claim bytes) → IfSome (named_content held name) (IsVerdictOf G claim verdict)
whole_file G claim verdict None name bytes whole is accepted = tt
whole_file G claim verdict (Some files) name bytes whole is accepted =
    record { text = bytes; told = ap (file_content name) whole; verdict_is = is; accepted = accepted }

file_end : {Check : Type 0} (C : TextCheckOf Check) (of : C.Of) (check : Check) (verdict : Verdict) (held : Option Held) (name buf : List ℕ) (place : ℕ) → HasRead C of check held name place → 0 < length buf → GivesHeld held name place buf 0
    → ((bytes : List ℕ) → C.StandsFor of check bytes → verdict ≡ verdict_of (text_breach (C.rules of) bytes))
    → ((bytes : List ℕ) → C.StandsFor of check bytes → verdict ≡ Accepted → C.Claims of bytes)
    → IsVerdictOn (C.rules of) (C.Claims of) (named_content held name) verdict
file_end C of check verdict held name buf place r some gives is accepted =
    let given : GivesHeld held name (length r.bytes) buf 0 = rw r.counted gives in
    record {
      final = subst IsFinal (sym (is r.bytes r.stands)) (verdict_final (text_breach (C.rules of) r.bytes));
      exact = whole_file (C.rules of) (C.Claims of) verdict held name r.bytes (whole_at_end held name r.bytes buf r.begins some given) (is r.bytes r.stands) (accepted r.bytes r.stands);
    }

-- a rejection of the front of a file
file_rejected_at : (G : RuledGrammar) (claim : List ℕ → Type 0) (line rule : ℕ) (bytes : List ℕ) (o : Option (List ℕ)) (name : List ℕ) → IsSomeAnd o (λ file. StartsWith file bytes) → Tells G bytes (Rejected line rule) → IsVerdictOf G claim (Rejected line rule) (file_content name o)
file_rejected_at G claim line rule bytes None name begins tells = absurd begins
file_rejected_at G claim line rule bytes (Some file) name begins tells =
    let rest = drop (length bytes) file in
    let whole : file ≡ bytes ++ rest = sym (take-append-drop (length bytes) file) ∙ ap (λ t. t ++ rest) begins in
    record { text = bytes ++ rest; told = ap (λ t. Ok t) whole; verdict_is = ap verdict_of (sym (tells rest)); accepted = λ e. absurd (cc e) }

-- the same where the files tell what they hold
file_rejected_early : (G : RuledGrammar) (claim : List ℕ → Type 0) (line rule : ℕ) (bytes : List ℕ) (held : Option Held) (name : List ℕ) → BeginsFile held name bytes → 0 < length bytes → Tells G bytes (Rejected line rule) → IfSome (named_content held name) (IsVerdictOf G claim (Rejected line rule))
file_rejected_early G claim line rule bytes None name begins some tells = tt
file_rejected_early G claim line rule bytes (Some files) name begins some tells = file_rejected_at G claim line rule bytes (files name) name (begins some) tells

file_rejected : {Check : Type 0} (C : TextCheckOf Check) (of : C.Of) (old : Check) (verdict : Verdict) (held : Option Held) (name buf : List ℕ) (place count : ℕ) → HasRead C of old held name place → count ≤ length buf → 0 < count → GivesHeld held name place buf count
    → ((bytes : List ℕ) → C.StandsFor of old bytes → Tells (C.rules of) (bytes ++ take count buf) verdict) → is_rejection verdict ≡ true → IsVerdictOn (C.rules of) (C.Claims of) (named_content held name) verdict
file_rejected C of old Going held name buf place count r within some gives tells is = absurd (cc is)
file_rejected C of old Accepted held name buf place count r within some gives tells is = absurd (cc is)
file_rejected C of old (Rejected line rule) held name buf place count r within some gives tells is =
    let given : GivesHeld held name (length r.bytes) buf count = rw r.counted gives in
    let read = r.bytes ++ take count buf in
    let long : 0 < length read = omega (arith, length-append r.bytes (take count buf), length-take-le count buf within) in
    record { final = tt; exact = file_rejected_early (C.rules of) (C.Claims of) line rule read held name (begins_more held name r.bytes buf count r.begins within given) long (tells r.bytes r.stands) }

-- ---- either of them
pub nothing_come : {Check : Type 0} (C : TextCheckOf Check) (of : C.Of) (check : Check) (input : Origin) (left : Option (List ℕ)) (held : Option Held) → C.StandsFor of check [] → HasCome C of check input left left held 0
nothing_come C of check None left held h = nothing_taken C of check left h
nothing_come C of check (Some name) left held h = nothing_read C of check held name h

pub more_come : {Check : Type 0} (C : TextCheckOf Check) (of : C.Of) (old new : Check) (input : Origin) (a b c : Option (List ℕ)) (held : Option Held) (buf : List ℕ) (before count : ℕ) → HasCome C of old input a b held before → count ≤ length buf → GivesNext input b c held before buf count
    → ((bytes : List ℕ) → C.StandsFor of old bytes → C.StandsFor of new (bytes ++ take count buf)) → is_rejection (C.last new) ≡ false → HasCome C of new input a c held (before + count)
more_come C of old new None a b c held buf before count h within gives stands going = more_taken C of old new a b c (take count buf) h gives.0 stands going
more_come C of old new (Some name) a b c held buf before count h within gives stands going = more_read C of old new held name buf before count h within gives stands

pub end_come : {Check : Type 0} (C : TextCheckOf Check) (of : C.Of) (check : Check) (verdict : Verdict) (input : Origin) (a b c : Option (List ℕ)) (held : Option Held) (buf : List ℕ) (before : ℕ) → HasCome C of check input a b held before → 0 < length buf → GivesNext input b c held before buf 0
    → ((bytes : List ℕ) → C.StandsFor of check bytes → verdict ≡ verdict_of (text_breach (C.rules of) bytes))
    → ((bytes : List ℕ) → C.StandsFor of check bytes → verdict ≡ Accepted → C.Claims of bytes)
    → IsVerdictOn (C.rules of) (C.Claims of) (content_of a held input) verdict
end_come C of check verdict None a b c held buf before h some gives is accepted = standard_end C of check verdict a c (taken_still C of check a b c h gives.0) (gives.1 refl some) is accepted
end_come C of check verdict (Some name) a b c held buf before h some gives is accepted = file_end C of check verdict held name buf before h some gives is accepted

pub rejected_come : {Check : Type 0} (C : TextCheckOf Check) (of : C.Of) (old : Check) (verdict : Verdict) (input : Origin) (a b c : Option (List ℕ)) (held : Option Held) (buf : List ℕ) (before count : ℕ) → HasCome C of old input a b held before → count ≤ length buf → 0 < count → GivesNext input b c held before buf count
    → ((bytes : List ℕ) → C.StandsFor of old bytes → Tells (C.rules of) (bytes ++ take count buf) verdict) → is_rejection verdict ≡ true → IsVerdictOn (C.rules of) (C.Claims of) (content_of a held input) verdict
rejected_come C of old verdict None a b c held buf before count h within some gives tells is = standard_rejected C of old verdict a b c (take count buf) h gives.0 tells is
rejected_come C of old verdict (Some name) a b c held buf before count h within some gives tells is = file_rejected C of old verdict held name buf before count h within some gives tells is

-- a piece that gives none shows the end of standard input
pub ends_come : (input : Origin) (b c : Option (List ℕ)) (held : Option Held) (buf : List ℕ) (before : ℕ) → 0 < length buf → GivesNext input b c held before buf 0 → input ≡ None → IsAtEnd c
ends_come None b c held buf before some gives e = gives.1 refl some
ends_come (Some name) b c held buf before some gives e = absurd (cc e)

-- ---- how far standard input is read
pub reaches_piece : {Check : Type 0} (C : TextCheckOf Check) (of : C.Of) (check : Check) (input : Origin) (a b c : Option (List ℕ)) (held : Option Held) (buf : List ℕ) (before count : ℕ) → HasCome C of check input a b held before → count ≤ length buf → length buf ≤ 4096 → GivesNext input b c held before buf count → input ≡ None → Reaches (C.rules of) a c
reaches_piece C of check None a b c held buf before count h within small gives e =
    record {
      bytes = h.bytes ++ take count buf;
      taken = consumes_more a b c h.bytes (take count buf) h.taken gives.0;
      passes = passes_longer (C.rules of) h.bytes (take count buf) (C.rules of).grammar.limit ((C.rules of).grammar.limit + 4096) h.passes (omega (arith, length-take-le count buf within));
    }
reaches_piece C of check (Some name) a b c held buf before count h within small gives e = absurd (cc e)

pub reaches_kept : {Check : Type 0} (C : TextCheckOf Check) (of : C.Of) (check : Check) (input : Origin) (a b c : Option (List ℕ)) (held : Option Held) (before : ℕ) → HasCome C of check input a b held before → Keeps b c → input ≡ None → Reaches (C.rules of) a c
reaches_kept C of check None a b c held before h kept e =
    record {
      bytes = h.bytes ++ [];
      taken = consumes_more a b c h.bytes [] h.taken (consumes_kept b c kept);
      passes = passes_longer (C.rules of) h.bytes [] (C.rules of).grammar.limit ((C.rules of).grammar.limit + 4096) h.passes (omega arith);
    }
reaches_kept C of check (Some name) a b c held before h kept e = absurd (cc e)

same_kept : (a : Option (List ℕ)) → Keeps a a
same_kept None = tt
same_kept (Some xs) = refl

pub reaches_now : {Check : Type 0} (C : TextCheckOf Check) (of : C.Of) (check : Check) (input : Origin) (a b : Option (List ℕ)) (held : Option Held) (before : ℕ) → HasCome C of check input a b held before → input ≡ None → Reaches (C.rules of) a b
reaches_now C of check input a b held before h e = reaches_kept C of check input a b b held before h (same_kept b) e

-- ---- no verdict
-- there is no such file
missing_content : (left : Option (List ℕ)) (held : Option Held) (input : Origin) → IsMissing held input → IfSome (content_of left held input) (λ found. found ≡ Err (fault.MissingFile (input_name input)))
missing_content left held None h = absurd h
missing_content left None (Some name) h = tt
missing_content left (Some files) (Some name) h = ap (file_content name) h

pub no_piece : (rose later : Type 0) (left : Option (List ℕ)) (held now : Option Held) (input : Origin) (wrong : Unchecked) → now ≡ held → (rose → later) → NoPiece rose (IsMissing now input) wrong → NotChecked later (input_name input) (content_of left held input) wrong
no_piece rose later left held now input unchecked.Missing same wider h =
    let P : Option Held → Type 0 = λ files. IsMissing files input in
    missing_content left held input (subst P same h)
no_piece rose later left held now input unchecked.Failed same wider h = wider h
no_piece rose later left held now input unchecked.Endless same wider h = tt
