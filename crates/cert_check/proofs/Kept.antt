-- Lines that break no rule of a kind, and lines that have no breach.
use Rattle.std.proofs.Common.{◌≡◌, ℕ, true, false, cond, Bool, List, [], ◌∷◌, ◌++◌, Option, Some, None, refl, sym, ◌∙◌, subst, append_assoc, IsSome}
use Rattle.std.specs.Prelude.{is_none}
use Rattle.std.proofs.lemmas.Bool.{false≢true}
use Rattle.decision_model.specs.declared.instance.Instance.{Instance}
use Rattle.line_text.specs.Breaches.{broken_rule, lines_breach_from}
use Rattle.value_cert.specs.Breaches.{cert_rules, lines_breach}
use Rattle.value_cert.specs.Grammar.{place_after}
use Rattle.value_cert.specs.Texts.{IsWhole}
use Rattle.value_cert.specs.CertFacts.{place_from_front}
use Rattle.value_cert.specs.Kept.{Keeps, known_of-more}
use Rattle.value_cert.specs.Rules.{known_of, later_rule}
use Rattle.value_cert.specs.Standards.{rules_of}
use Rattle.value_cert.specs.declared.line.CertLine.{CertLine}
use Rattle.value_cert.specs.declared.place.Place.{Place}
use Rattle.line_text.specs.BreachSteps.{none_here, none_further, or_none}

-- ---- the breach of lines
later_none : (nowhere : Bool) (rule : Option ℕ) → cond nowhere (Some 1) rule ≡ None → rule ≡ None
later_none false rule h = h
later_none true rule h = cc

kept_from : (item : Instance) (before lines : List CertLine) → lines_breach_from (cert_rules item) before lines ≡ None → Keeps (rules_of item) (known_of (rules_of item) before) lines
kept_from item before [] none = tt
kept_from item before (line ∷ lines) none =
    let further = lines_breach_from (cert_rules item) (before ++ line ∷ []) lines in
    let P : (rules_of item).Known → Type 0 = λ known. Keeps (rules_of item) known lines in (
      later_none (is_none (place_after (before ++ line ∷ []))) (later_rule (rules_of item) before line) (none_here before (broken_rule (cert_rules item) before line) further none),
      subst P (known_of-more (rules_of item) before line) (kept_from item (before ++ line ∷ []) lines (none_further before (broken_rule (cert_rules item) before line) further none)),
    )

-- lines without a breach break no rule
pub kept_by : (item : Instance) (lines : List CertLine) → lines_breach item lines ≡ None → Keeps (rules_of item) (rules_of item).nothing lines
kept_by item lines none = kept_from item [] lines none

somewhere : (at : Option Place) → IsSome at → is_none at ≡ false
somewhere None h = absurd (false≢true h)
somewhere (Some at) h = refl

unbroken : (nowhere : Bool) (rule : Option ℕ) → nowhere ≡ false → rule ≡ None → cond nowhere (Some 1) rule ≡ None
unbroken nowhere rule e f = rw (e, f) refl

passing_from : (item : Instance) (before lines : List CertLine) → IsWhole (before ++ lines) → Keeps (rules_of item) (known_of (rules_of item) before) lines → lines_breach_from (cert_rules item) before lines ≡ None
passing_from item before [] whole kept = refl
passing_from item before (line ∷ lines) whole kept =
    let W : List CertLine → Type 0 = IsWhole in
    let P : (rules_of item).Known → Type 0 = λ known. Keeps (rules_of item) known lines in
    let front : IsWhole ((before ++ line ∷ []) ++ lines) = subst W (sym (append_assoc before (line ∷ []) lines)) whole in
    or_none before (broken_rule (cert_rules item) before line) (lines_breach_from (cert_rules item) (before ++ line ∷ []) lines)
    (unbroken (is_none (place_after (before ++ line ∷ []))) (later_rule (rules_of item) before line) (somewhere (place_after (before ++ line ∷ [])) (place_from_front (before ++ line ∷ []) (lines, front))) kept.0)
    ∙ passing_from item (before ++ line ∷ []) lines front (subst P (sym (known_of-more (rules_of item) before line)) kept.1)

-- whole lines that break no rule have no breach
pub passing_by : (item : Instance) (lines : List CertLine) → IsWhole lines → Keeps (rules_of item) (rules_of item).nothing lines → lines_breach item lines ≡ None
passing_by item lines whole kept = passing_from item [] lines whole kept
