-- Lines of flat texts that break no rule, and lines that have no breach.
use Rattle.std.proofs.Common.{◌≡◌, ℕ, true, false, cond, Bool, List, [], ◌∷◌, ◌++◌, Option, Some, None, refl, sym, ◌∙◌, subst, append_assoc, IsSome}
use Rattle.std.specs.Prelude.{is_none}
use Rattle.line_text.specs.Breaches.{RuledGrammar, ruled, broken_rule, lines_breach_from, lines_breach}
use Rattle.line_text.specs.BreachSteps.{none_here, none_further, or_none}
use Rattle.line_text.specs.Rules.{RulesOf, known_from, known_of, later_rule}
use Rattle.value_cert.specs.FlatFacts.{place_from_front}
use Rattle.value_cert.specs.FlatGrammar.{flat_grammar}
use Rattle.value_cert.specs.FlatLines.{IsWhole, place_after}
use Rattle.value_cert.specs.declared.flat_line.FlatLine.{FlatLine}
use Rattle.value_cert.specs.declared.flat_line.FlatName.{FlatName}
use Rattle.value_cert.specs.declared.flat_line.FlatPlace.{FlatPlace}

-- no line breaks a rule from 2 on
abbrev pub KeepsFlat : (rules : RulesOf FlatLine) → rules.Known → List FlatLine → Type 0
KeepsFlat rules known [] = Unit {0}
KeepsFlat rules known (line ∷ lines) = (rules.broken known line ≡ None) × KeepsFlat rules (rules.further known line) lines

-- what is known of a further line
known_more_from : (rules : RulesOf FlatLine) (known : rules.Known) (before : List FlatLine) (line : FlatLine) → known_from rules known (before ++ line ∷ []) ≡ rules.further (known_from rules known before) line
known_more_from rules known [] line = refl
known_more_from rules known (next ∷ before) line = known_more_from rules (rules.further known next) before line

pub known_more : (rules : RulesOf FlatLine) (before : List FlatLine) (line : FlatLine) → known_of rules (before ++ line ∷ []) ≡ rules.further (known_of rules before) line
known_more rules before line = known_more_from rules rules.nothing before line

later_none : (nowhere : Bool) (rule : Option ℕ) → cond nowhere (Some 1) rule ≡ None → rule ≡ None
later_none false rule h = h
later_none true rule h = cc

unbroken : (nowhere : Bool) (rule : Option ℕ) → nowhere ≡ false → rule ≡ None → cond nowhere (Some 1) rule ≡ None
unbroken nowhere rule e f = rw (e, f) refl

somewhere : (at : Option FlatPlace) (place : FlatPlace) → at ≡ Some place → is_none at ≡ false
somewhere at place h = rw h refl

module _ (name : FlatName) (rules : RulesOf FlatLine) where
  abbrev G : RuledGrammar
  G = ruled (flat_grammar name) rules

  kept_from : (before lines : List FlatLine) → lines_breach_from G before lines ≡ None → KeepsFlat rules (known_of rules before) lines
  kept_from before [] none = tt
  kept_from before (line ∷ lines) none =
      let further = lines_breach_from G (before ++ line ∷ []) lines in
      let P : rules.Known → Type 0 = λ known. KeepsFlat rules known lines in (
        later_none (is_none (place_after (before ++ line ∷ []))) (later_rule rules before line) (none_here before (broken_rule G before line) further none),
        subst P (known_more rules before line) (kept_from (before ++ line ∷ []) lines (none_further before (broken_rule G before line) further none)),
      )

  -- lines without a breach break no rule
  pub kept_by : (lines : List FlatLine) → lines_breach G lines ≡ None → KeepsFlat rules rules.nothing lines
  kept_by lines none = kept_from [] lines none

  passing_from : (before lines : List FlatLine) → IsWhole (before ++ lines) → KeepsFlat rules (known_of rules before) lines → lines_breach_from G before lines ≡ None
  passing_from before [] whole kept = refl
  passing_from before (line ∷ lines) whole kept =
      let W : List FlatLine → Type 0 = IsWhole in
      let P : rules.Known → Type 0 = λ known. KeepsFlat rules known lines in
      let front : IsWhole ((before ++ line ∷ []) ++ lines) = subst W (sym (append_assoc before (line ∷ []) lines)) whole in
      let place = place_from_front (before ++ line ∷ []) (lines, front) in
      or_none before (broken_rule G before line) (lines_breach_from G (before ++ line ∷ []) lines)
      (unbroken (is_none (place_after (before ++ line ∷ []))) (later_rule rules before line) (somewhere (place_after (before ++ line ∷ [])) place.0 place.1) kept.0)
      ∙ passing_from (before ++ line ∷ []) lines front (subst P (sym (known_more rules before line)) kept.1)

  -- whole lines that break no rule have no breach
  pub passing_by : (lines : List FlatLine) → IsWhole lines → KeepsFlat rules rules.nothing lines → lines_breach G lines ≡ None
  passing_by lines whole kept = passing_from [] lines whole kept
