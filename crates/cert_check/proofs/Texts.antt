-- What is accepted names a policy than which none costs less, and what the solver writes is accepted.
use Rattle.std.proofs.Common.{◌≡◌, ℕ, List, [], Option, Some, None, true, refl, sym, ap, ◌∙◌, append-nil}
use Rattle.std.specs.Option.{option_or}
use Rattle.decision_model.specs.Valid.{IsValid}
use Rattle.decision_model.specs.declared.instance.Instance.{Instance}
use Rattle.line_check.specs.Checks.{AreWhole}
use Rattle.line_check.specs.TextChecks.{IsWholeText}
use Rattle.line_text.specs.TextBreaches.{end_breach, pieces_breach}
use Rattle.line_text.specs.TextBreachFacts.{pieces_of, lines_then_pieces}
use Rattle.value_cert.specs.Breaches.{Breach, cert_rules, lines_breach, text_breach}
use Rattle.value_cert.specs.CertFacts.{ended_is_whole, whole_ends}
use Rattle.value_cert.specs.Grammar.{has_ended, place_after}
use Rattle.value_cert.specs.GrammarFacts.{ended_at}
use Rattle.value_cert.specs.Texts.{IsWhole, lines_text, cert_lines}
use Rattle.value_cert.specs.declared.line.CertLine.{CertLine}
use Rattle.value_cert.specs.declared.place.Place.TheVariants as place
use Rattle.cert_check.specs.Meaning.{AreCertified, IsCertified, IsWhollyValid, IsOwnText}
use Rattle.cert_check.proofs.Kept.{kept_by, passing_by}
use Rattle.cert_check.proofs.ProvenKinds.{certifies_by, solved_is_kept}

-- ---- what is accepted
pub certified_lines : (item : Instance) (lines : List CertLine) → IsValid item → AreWhole (cert_rules item) lines → AreCertified item lines
certified_lines item lines valid all =
    let whole : IsWhole lines = ended_is_whole lines all.ended in
    record {
      cert = whole.0;
      readable = whole.1;
      lines_are = sym whole.2;
      certifies = certifies_by item whole.0 valid whole.1 (kept_by item (cert_lines whole.0) (ap (lines_breach item) whole.2 ∙ all.unbroken));
    }

pub certified_text : (item : Instance) (text : List ℕ) → IsValid item → IsWholeText (cert_rules item) text → IsCertified item text
certified_text item text valid all =
    let told = certified_lines item all.lines valid all.whole in
    record { cert = told.cert; readable = told.readable; text_is = all.text_is ∙ ap lines_text told.lines_are; certifies = told.certifies }

-- ---- what the solver writes
none_first : (first further : Option Breach) → first ≡ None → option_or first further ≡ further
none_first first further none = rw none refl

ended_breach : (item : Instance) (lines : List CertLine) → has_ended (place_after lines) ≡ true → end_breach (cert_rules item) lines [] ≡ None
ended_breach item lines h = rw h refl

whole_text : (item : Instance) (lines : List CertLine) → IsWhole lines → lines_breach item lines ≡ None → text_breach item (lines_text lines) ≡ None
whole_text item lines whole none =
    let ended = whole_ends lines whole in
    let last = ended_at (place_after lines) ended in
    ap (text_breach item) (sym (append-nil (lines_text lines)))
    ∙ lines_then_pieces (cert_rules item) [] lines (Some place.Start) last.0 [] last.1
    ∙ none_first (lines_breach item lines) (pieces_breach (cert_rules item) lines (pieces_of [])) none
    ∙ ended_breach item lines ended

-- the text that the solver writes has no breach
pub own_passes : (item : Instance) (text : List ℕ) → IsWhollyValid item → IsOwnText item text → text_breach item text ≡ None
own_passes item text valid own =
    let kept = solved_is_kept item own.cert valid own.solved in
    let lines = cert_lines own.cert in
    let whole : IsWhole lines = (own.cert, kept.has, refl) in
    ap (text_breach item) own.text_is ∙ whole_text item lines whole (passing_by item lines whole kept.keeps)
