-- What a check knows when a line has come.
use Rattle.std.proofs.Common.{◌≡◌, ℕ, ◌+◌, ◌-◌, ◌^◌, min, Bool, true, false, cond, List, [], ◌∷◌, ◌++◌, Option, Some, None, refl, sym, ap, ◌∙◌, arith}
use Rattle.std.proofs.lemmas.List.{length-append}
use Rattle.line_text.specs.Breaches.{RuledGrammar, Breach, breach_behind, broken_rule, lines_breach, next_line}
use Rattle.line_text.specs.Grammar.{has_ended, place_after}
use Rattle.line_check.specs.Rules.{AnswersLine}
use Rattle.line_check.specs.Checks.{AreWhole, IsPassing, IsCheckOf}
use Rattle.line_check.specs.Verdicts.{rejected_by, verdict_or, passing_verdict, fed_verdict, end_verdict, is_rejection}
use Rattle.line_check.specs.declared.verdict.Verdict.{Verdict}
use Rattle.line_check.specs.declared.verdict.Verdict.TheVariants.{Going, Accepted, Rejected}
use Rattle.line_text.specs.BreachSteps.{or_none, or_some}
use Rattle.line_check.specs.BreachFacts.{passing_more, place_more, broken_place, later_broken, verdict_some, verdict_none, unbroken_by, rejected_more, rejected_fails}

-- the number of the line behind a further one
pub next_line-more : {L : Type 0} (lines : List L) (line : L) → next_line (lines ++ line ∷ []) ≡ min (next_line lines + 1) (2 ^ 64 - 1)
next_line-more lines line = omega (arith, length-append lines (line ∷ []))

-- a line that breaks a rule
broken_by : (G : RuledGrammar) (k : List G.Line → Type 0) (at : G.Place) (n : ℕ) (lines : List G.Line) (line : G.Line) (rule : ℕ) → IsPassing G k at n lines → broken_rule G lines line ≡ Some rule
    → lines_breach G (lines ++ line ∷ []) ≡ Some (breach_behind lines rule)
broken_by G k at n lines line rule known broken =
    passing_more G lines line known.unbroken ∙ or_some lines (broken_rule G lines line) None rule broken

rejected_at : (G : RuledGrammar) (k : List G.Line → Type 0) (at : G.Place) (n : ℕ) (lines : List G.Line) (line : G.Line) (rule : ℕ) → IsPassing G k at n lines → broken_rule G lines line ≡ Some rule
    → Rejected n rule ≡ fed_verdict G (lines ++ line ∷ [])
rejected_at G k at n lines line rule known broken =
    ap (λ (n : ℕ). Rejected n rule) known.count
    ∙ sym (verdict_some (lines_breach G (lines ++ line ∷ [])) (passing_verdict G (place_after G.grammar (lines ++ line ∷ []))) (breach_behind lines rule) (broken_by G k at n lines line rule known broken))

fails_at : (G : RuledGrammar) (k : List G.Line → Type 0) (at : G.Place) (n : ℕ) (lines : List G.Line) (line : G.Line) (rule : ℕ) → IsPassing G k at n lines → broken_rule G lines line ≡ Some rule
    → lines_breach G (lines ++ line ∷ []) ≡ None → ⊥
fails_at G k at n lines line rule known broken none =
    let e : Some (breach_behind lines rule) ≡ None = sym (broken_by G k at n lines line rule known broken) ∙ none in cc

-- it may not stand there
pub misplaced : (G : RuledGrammar) (k : List G.Line → Type 0) (at : G.Place) (n : ℕ) (lines : List G.Line) (line : G.Line) → IsPassing G k at n lines → G.grammar.step at line ≡ None
    → Rejected n 1 ≡ fed_verdict G (lines ++ line ∷ [])
misplaced G k at n lines line known none = rejected_at G k at n lines line 1 known (broken_place G lines line at known.place none)

pub misplaced_fails : (G : RuledGrammar) (k : List G.Line → Type 0) (at : G.Place) (n : ℕ) (lines : List G.Line) (line : G.Line) → IsPassing G k at n lines → G.grammar.step at line ≡ None
    → lines_breach G (lines ++ line ∷ []) ≡ None → ⊥
misplaced_fails G k at n lines line known none = fails_at G k at n lines line 1 known (broken_place G lines line at known.place none)

-- it breaks a later rule
later_at : (G : RuledGrammar) (k : List G.Line → Type 0) (at : G.Place) (n : ℕ) (lines : List G.Line) (line : G.Line) (next : G.Place) (known : List G.Line → Type 0) (answer : Option ℕ)
    → IsPassing G k at n lines → G.grammar.step at line ≡ Some next → AnswersLine G.rules known lines line answer → broken_rule G lines line ≡ answer
later_at G k at n lines line next known answer passing step answers = later_broken G lines line at next passing.place step ∙ sym answers.rule

pub broken_later : (G : RuledGrammar) (k : List G.Line → Type 0) (at : G.Place) (n : ℕ) (lines : List G.Line) (line : G.Line) (next : G.Place) (known : List G.Line → Type 0) (answer : Option ℕ) (rule : ℕ)
    → IsPassing G k at n lines → G.grammar.step at line ≡ Some next → AnswersLine G.rules known lines line answer → answer ≡ Some rule
    → Rejected n rule ≡ fed_verdict G (lines ++ line ∷ [])
broken_later G k at n lines line next known answer rule passing step answers some =
    rejected_at G k at n lines line rule passing (later_at G k at n lines line next known answer passing step answers ∙ some)

pub broken_later_fails : (G : RuledGrammar) (k : List G.Line → Type 0) (at : G.Place) (n : ℕ) (lines : List G.Line) (line : G.Line) (next : G.Place) (known : List G.Line → Type 0) (answer : Option ℕ) (rule : ℕ)
    → IsPassing G k at n lines → G.grammar.step at line ≡ Some next → AnswersLine G.rules known lines line answer → answer ≡ Some rule
    → lines_breach G (lines ++ line ∷ []) ≡ None → ⊥
broken_later_fails G k at n lines line next known answer rule passing step answers some =
    fails_at G k at n lines line rule passing (later_at G k at n lines line next known answer passing step answers ∙ some)

-- it breaks none
still_unbroken : (G : RuledGrammar) (k : List G.Line → Type 0) (at : G.Place) (n : ℕ) (lines : List G.Line) (line : G.Line) (next : G.Place) (known : List G.Line → Type 0) (answer : Option ℕ)
    → IsPassing G k at n lines → G.grammar.step at line ≡ Some next → AnswersLine G.rules known lines line answer → answer ≡ None
    → lines_breach G (lines ++ line ∷ []) ≡ None
still_unbroken G k at n lines line next known answer passing step answers none =
    passing_more G lines line passing.unbroken
    ∙ or_none lines (broken_rule G lines line) None (later_at G k at n lines line next known answer passing step answers ∙ none)

pub passes_verdict : (G : RuledGrammar) (k : List G.Line → Type 0) (at : G.Place) (n : ℕ) (lines : List G.Line) (line : G.Line) (next : G.Place) (known : List G.Line → Type 0) (answer : Option ℕ)
    → IsPassing G k at n lines → G.grammar.step at line ≡ Some next → AnswersLine G.rules known lines line answer → answer ≡ None
    → passing_verdict G (Some next) ≡ fed_verdict G (lines ++ line ∷ [])
passes_verdict G k at n lines line next known answer passing step answers none =
    ap (passing_verdict G) (sym (place_more G lines line at passing.place ∙ step))
    ∙ sym (verdict_none (lines_breach G (lines ++ line ∷ [])) (passing_verdict G (place_after G.grammar (lines ++ line ∷ []))) (still_unbroken G k at n lines line next known answer passing step answers none))

pub passes : (G : RuledGrammar) (k m : List G.Line → Type 0) (at to : G.Place) (n number : ℕ) (lines : List G.Line) (line : G.Line) (answer : Option ℕ)
    → IsPassing G k at n lines → G.grammar.step at line ≡ Some to → AnswersLine G.rules m lines line answer → answer ≡ None
    → number ≡ min (n + 1) (2 ^ 64 - 1) → IsPassing G m to number (lines ++ line ∷ [])
passes G k m at to n number lines line answer passing step answers none count = record {
  unbroken = still_unbroken G k at n lines line to m answer passing step answers none;
  place = place_more G lines line at passing.place ∙ step;
  count = count ∙ ap (λ (n : ℕ). min (n + 1) (2 ^ 64 - 1)) passing.count ∙ sym (next_line-more lines line);
  known = answers.known none;
}

-- ---- a check that stands for lines
-- it goes on where it has rejected none
pub unrejected : (G : RuledGrammar) (k : List G.Line → Type 0) (at : G.Place) (n : ℕ) (v : Verdict) (lines : List G.Line) → IsCheckOf G k at n v lines → is_rejection v ≡ false → IsPassing G k at n lines
unrejected G k at n v lines stands h = stands.passing (unbroken_by G lines (ap is_rejection (sym stands.said) ∙ h))

-- and stays as it is where it has
pub rejected_keeps : (G : RuledGrammar) (k : List G.Line → Type 0) (at : G.Place) (n : ℕ) (v : Verdict) (lines : List G.Line) (line : G.Line) → IsCheckOf G k at n v lines → is_rejection v ≡ true → v ≡ fed_verdict G (lines ++ line ∷ [])
rejected_keeps G k at n v lines line stands h = stands.said ∙ sym (rejected_more G lines (line ∷ []) (ap is_rejection (sym stands.said) ∙ h))

pub rejected_stands : (G : RuledGrammar) (k : List G.Line → Type 0) (at : G.Place) (n : ℕ) (v : Verdict) (lines : List G.Line) (line : G.Line) → IsCheckOf G k at n v lines → is_rejection v ≡ true → IsCheckOf G k at n v (lines ++ line ∷ [])
rejected_stands G k at n v lines line stands h = record {
  said = rejected_keeps G k at n v lines line stands h;
  passing = λ none. absurd (rejected_fails G lines (line ∷ []) (ap is_rejection (sym stands.said) ∙ h) none);
}

-- ---- the end
ended_or : (ended : Bool) (line : ℕ) → cond ended Accepted Going ≡ Going → cond ended Accepted (Rejected line 1) ≡ Rejected line 1
ended_or true line h = cc
ended_or false line h = refl

pub going_ends : (G : RuledGrammar) (k : List G.Line → Type 0) (at : G.Place) (n : ℕ) (v : Verdict) (lines : List G.Line) → IsCheckOf G k at n v lines → v ≡ Going → Rejected n 1 ≡ end_verdict G lines
going_ends G k at n v lines stands going =
    let passing = unrejected G k at n v lines stands (ap is_rejection going) in
    let fed : fed_verdict G lines ≡ passing_verdict G (place_after G.grammar lines) = verdict_none (lines_breach G lines) _ passing.unbroken in
    let open_ended = ended_or (has_ended G.grammar (place_after G.grammar lines)) (next_line lines) (sym fed ∙ sym stands.said ∙ going) in
    ap (λ (n : ℕ). Rejected n 1) passing.count ∙ sym open_ended ∙ sym (verdict_none (lines_breach G lines) _ passing.unbroken)

ended_same : (ended : Bool) (line : ℕ) (verdict : Verdict) → verdict ≡ cond ended Accepted Going → (verdict ≡ Going → ⊥) → verdict ≡ cond ended Accepted (Rejected line 1)
ended_same true line verdict h not_going = h
ended_same false line verdict h not_going = absurd (not_going h)

pub others_end : (G : RuledGrammar) (k : List G.Line → Type 0) (at : G.Place) (n : ℕ) (v : Verdict) (lines : List G.Line) → IsCheckOf G k at n v lines → (v ≡ Going → ⊥) → v ≡ end_verdict G lines
others_end G k at n v lines stands not_going = by_breach (lines_breach G lines) stands.said
  where
    by_breach : (breach : Option Breach) → v ≡ verdict_or breach (passing_verdict G (place_after G.grammar lines))
        → v ≡ verdict_or breach (cond (has_ended G.grammar (place_after G.grammar lines)) Accepted (rejected_by (breach_behind lines 1)))
    by_breach None h = ended_same (has_ended G.grammar (place_after G.grammar lines)) (next_line lines) v h not_going
    by_breach (Some b) h = h

-- ---- what is accepted
whole_by : (ended : Bool) (breach : Breach) → cond ended Accepted (rejected_by breach) ≡ Accepted → ended ≡ true
whole_by true breach h = refl
whole_by false breach h = cc

pub accepted_whole : (G : RuledGrammar) (k : List G.Line → Type 0) (at : G.Place) (n : ℕ) (v : Verdict) (lines : List G.Line) → IsCheckOf G k at n v lines → end_verdict G lines ≡ Accepted → AreWhole G lines
accepted_whole G k at n v lines stands accepted = by_breach (lines_breach G lines) refl accepted
  where
    by_breach : (breach : Option Breach) → lines_breach G lines ≡ breach
        → verdict_or breach (cond (has_ended G.grammar (place_after G.grammar lines)) Accepted (rejected_by (breach_behind lines 1))) ≡ Accepted → AreWhole G lines
    by_breach None is h = record { ended = whole_by (has_ended G.grammar (place_after G.grammar lines)) (breach_behind lines 1) h; unbroken = is }
    by_breach (Some b) is h = absurd (let e : Rejected b.line b.rule ≡ Accepted = h in cc)
