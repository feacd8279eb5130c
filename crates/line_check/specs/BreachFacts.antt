-- The first breach of more lines.
use Rattle.std.proofs.Common.{◌≡◌, ℕ, Bool, true, false, cond, List, [], ◌∷◌, ◌++◌, Option, Some, None, refl, sym, ap, ◌∙◌, append_assoc, append-nil}
use Rattle.std.specs.Prelude.{is_none}
use Rattle.line_text.specs.BreachSteps.{none_here, none_further, or_none, or_more}
use Rattle.line_text.specs.Breaches.{RuledGrammar, Breach, breach_or, broken_rule, lines_breach_from, lines_breach}
use Rattle.line_text.specs.Grammar.{has_ended, place_from, place_after}
use Rattle.line_text.specs.Rules.{later_rule}
use Rattle.line_check.specs.Verdicts.{rejected_by, verdict_or, passing_verdict, fed_verdict, is_rejection}
use Rattle.line_check.specs.declared.verdict.Verdict.{Verdict}
use Rattle.line_check.specs.declared.verdict.Verdict.TheVariants.{Going, Accepted}

place_from-append : (G : RuledGrammar) (at : Option G.Place) (xs ys : List G.Line) → place_from G.grammar at (xs ++ ys) ≡ place_from G.grammar (place_from G.grammar at xs) ys
place_from-append G None xs ys = refl
place_from-append G (Some at) [] ys = refl
place_from-append G (Some at) (x ∷ xs) ys = place_from-append G (G.grammar.step at x) xs ys

-- ---- lines behind lines
passing_more_from : (G : RuledGrammar) (before lines : List G.Line) (line : G.Line) → lines_breach_from G before lines ≡ None
    → lines_breach_from G before (lines ++ line ∷ []) ≡ breach_or (before ++ lines) (broken_rule G (before ++ lines) line) None
passing_more_from G before [] line h = ap (λ (all : List G.Line). breach_or all (broken_rule G all line) None) (sym (append-nil before))
passing_more_from G before (next ∷ lines) line h =
    let rule = broken_rule G before next in
    let further = lines_breach_from G (before ++ next ∷ []) lines in
    or_none before rule (lines_breach_from G (before ++ next ∷ []) (lines ++ line ∷ [])) (none_here before rule further h)
    ∙ passing_more_from G (before ++ next ∷ []) lines line (none_further before rule further h)
    ∙ ap (λ (all : List G.Line). breach_or all (broken_rule G all line) None) (append_assoc before (next ∷ []) lines)

-- the breach of lines that break no rule, and a further one
pub passing_more : (G : RuledGrammar) (lines : List G.Line) (line : G.Line) → lines_breach G lines ≡ None
    → lines_breach G (lines ++ line ∷ []) ≡ breach_or lines (broken_rule G lines line) None
passing_more G lines line h = passing_more_from G [] lines line h

-- a breach stays the first one
pub broken_more : (G : RuledGrammar) (before lines more : List G.Line) (b : Breach) → lines_breach_from G before lines ≡ Some b → lines_breach_from G before (lines ++ more) ≡ Some b
broken_more G before [] more b h = cc
broken_more G before (next ∷ lines) more b h =
    or_more before (broken_rule G before next) (lines_breach_from G (before ++ next ∷ []) lines) (lines_breach_from G (before ++ next ∷ []) (lines ++ more)) b
    (λ found. broken_more G (before ++ next ∷ []) lines more b found) h

-- ---- the place behind a further line
pub place_more : (G : RuledGrammar) (lines : List G.Line) (line : G.Line) (at : G.Place) → place_after G.grammar lines ≡ Some at → place_after G.grammar (lines ++ line ∷ []) ≡ G.grammar.step at line
place_more G lines line at h =
    place_from-append G (Some G.grammar.start) lines (line ∷ [])
    ∙ ap (λ (from : Option G.Place). place_from G.grammar from (line ∷ [])) h
    ∙ one_step (G.grammar.step at line)
  where
    one_step : (next : Option G.Place) → place_from G.grammar next [] ≡ next
    one_step None = refl
    one_step (Some at) = refl

-- ---- a line behind lines that break no rule
rule_at_none : {P : Type 0} (next : Option P) (rule : Option ℕ) → next ≡ None → cond (is_none next) (Some 1) rule ≡ Some 1
rule_at_none next rule h = rw h refl

rule_at_some : {P : Type 0} (next : Option P) (rule : Option ℕ) (at : P) → next ≡ Some at → cond (is_none next) (Some 1) rule ≡ rule
rule_at_some next rule at h = rw h refl

-- it may not stand there
pub broken_place : (G : RuledGrammar) (lines : List G.Line) (line : G.Line) (at : G.Place) → place_after G.grammar lines ≡ Some at → G.grammar.step at line ≡ None → broken_rule G lines line ≡ Some 1
broken_place G lines line at h none = rule_at_none (place_after G.grammar (lines ++ line ∷ [])) (later_rule G.rules lines line) (place_more G lines line at h ∙ none)

-- it may
pub later_broken : (G : RuledGrammar) (lines : List G.Line) (line : G.Line) (at next : G.Place) → place_after G.grammar lines ≡ Some at → G.grammar.step at line ≡ Some next → broken_rule G lines line ≡ later_rule G.rules lines line
later_broken G lines line at next h some = rule_at_some (place_after G.grammar (lines ++ line ∷ [])) (later_rule G.rules lines line) next (place_more G lines line at h ∙ some)

-- ---- verdicts
pub verdict_some : (breach : Option Breach) (other : Verdict) (b : Breach) → breach ≡ Some b → verdict_or breach other ≡ rejected_by b
verdict_some breach other b h = rw h refl

pub verdict_none : (breach : Option Breach) (other : Verdict) → breach ≡ None → verdict_or breach other ≡ other
verdict_none breach other h = rw h refl

not_rejected : (G : RuledGrammar) (at : Option G.Place) → is_rejection (passing_verdict G at) ≡ false
not_rejected G at = either (has_ended G.grammar at)
  where
    either : (b : Bool) → is_rejection (cond b Accepted Going) ≡ false
    either true = refl
    either false = refl

-- lines whose verdict is no rejection break no rule
pub unbroken_by : (G : RuledGrammar) (lines : List G.Line) → is_rejection (fed_verdict G lines) ≡ false → lines_breach G lines ≡ None
unbroken_by G lines h = by_breach (lines_breach G lines) h
  where
    by_breach : (breach : Option Breach) → is_rejection (verdict_or breach (passing_verdict G (place_after G.grammar lines))) ≡ false → breach ≡ None
    by_breach None h = refl
    by_breach (Some b) h = cc

-- lines whose verdict is a rejection have a breach, which gives it
pub breach_by : (G : RuledGrammar) (lines : List G.Line) → is_rejection (fed_verdict G lines) ≡ true → (b : Breach) × (lines_breach G lines ≡ Some b) × (fed_verdict G lines ≡ rejected_by b)
breach_by G lines h = by_breach (lines_breach G lines) h
  where
    by_breach : (breach : Option Breach) → is_rejection (verdict_or breach (passing_verdict G (place_after G.grammar lines))) ≡ true → (b : Breach) × (breach ≡ Some b) × (verdict_or breach (passing_verdict G (place_after G.grammar lines)) ≡ rejected_by b)
    by_breach None h = absurd (let e : true ≡ false = sym h ∙ not_rejected G (place_after G.grammar lines) in cc)
    by_breach (Some b) h = (b, refl, refl)

-- such a verdict stays
pub rejected_more : (G : RuledGrammar) (lines more : List G.Line) → is_rejection (fed_verdict G lines) ≡ true → fed_verdict G (lines ++ more) ≡ fed_verdict G lines
rejected_more G lines more h =
    let found = breach_by G lines h in
    verdict_some (lines_breach G (lines ++ more)) _ found.0 (broken_more G [] lines more found.0 found.1) ∙ sym found.2

-- and no more lines pass
pub rejected_fails : (G : RuledGrammar) (lines more : List G.Line) → is_rejection (fed_verdict G lines) ≡ true → lines_breach G (lines ++ more) ≡ None → ⊥
rejected_fails G lines more h none =
    let found = breach_by G lines h in
    let e : Some found.0 ≡ None = sym (broken_more G [] lines more found.0 found.1) ∙ none in cc
