-- What a check of a text stands for.
use Rattle.std.specs.Prelude.{◌≡◌, ℕ, List, ◌++◌, Bool, false, Option, None, Some}
use Rattle.line_text.specs.Breaches.{RuledGrammar, lines_breach}
use Rattle.line_text.specs.Reading.{ReaderState, IsUnfinished, HasRead, lines_text}
use Rattle.line_text.specs.TextBreaches.{text_breach}
use Rattle.line_text.specs.Rules.{RulesOf}
use Rattle.line_check.specs.Checks.{AreWhole}
use Rattle.line_check.specs.Rules.{AnswersLine}
use Rattle.line_check.specs.Verdicts.{is_rejection, ended_verdict}
use Rattle.line_check.specs.declared.verdict.Verdict.{Verdict}
use Rattle.line_check.specs.declared.verdict.Verdict.TheVariants.{Going, Accepted, Rejected}

-- the text is lines that break no rule and an unfinished one, and no whole text
pub record IsOpen (G : RuledGrammar) (text : List ℕ) : Type 0 where
  pub lines : List G.Line
  pub unfinished : List ℕ
  pub text_is : text ≡ lines_text G.grammar lines ++ unfinished
  pub unbroken : lines_breach G lines ≡ None
  pub short : IsUnfinished G.grammar.limit unfinished
  pub unended : text_breach G text ≡ None → ⊥

-- the text is whole lines that break no rule
pub record IsWholeText (G : RuledGrammar) (text : List ℕ) : Type 0 where
  pub lines : List G.Line
  pub text_is : text ≡ lines_text G.grammar lines
  pub whole : AreWhole G lines

-- what a verdict tells of a text of which more may come: a rejection stays, however it goes on
abbrev pub Tells : (G : RuledGrammar) → List ℕ → Verdict → Type 0
Tells G text Going = IsOpen G text
Tells G text Accepted = text_breach G text ≡ None
Tells G text (Rejected line rule) = (more : List ℕ) → text_breach G (text ++ more) ≡ Some (record { line = line; rule = rule })

-- the bytes are lines that break no rule, which the rules know, and an unfinished one
pub record IsReading (G : RuledGrammar) (knows : List G.Line → Type 0) (reader : ReaderState G.Place) (bytes : List ℕ) : Type 0 where
  pub lines : List G.Line
  pub read : HasRead G.grammar reader bytes lines
  pub short : IsUnfinished G.grammar.limit reader.unfinished
  pub unbroken : lines_breach G lines ≡ None
  pub known : knows lines

-- the check stands for these bytes: it holds the verdict on them, and where it rejects none of them it reads on
pub record IsTextCheckOf (G : RuledGrammar) (knows : List G.Line → Type 0) (reader : ReaderState G.Place) (verdict : Verdict) (bytes : List ℕ) : Type 0 where
  pub said : Tells G bytes verdict
  pub reading : is_rejection verdict ≡ false → IsReading G knows reader bytes

-- the verdict behind a line, by the rule that it breaks, its number, and whether the text may end behind it
abbrev pub verdict_after : Option ℕ → ℕ → Bool → Verdict
verdict_after None number ended = ended_verdict ended
verdict_after (Some rule) number ended = Rejected number rule

-- the verdict behind a line of this number is that of the rules
pub record IsJudged {Line : Type 0} (rules : RulesOf Line) (knows : List Line → Type 0) (before : List Line) (line : Line) (number : ℕ) (ended : Bool) (verdict : Verdict) : Type 0 where
  pub rule : Option ℕ
  pub answers : AnswersLine rules knows before line rule
  pub said : verdict ≡ verdict_after rule number ended

-- a line that ended goes to the rules; without one they know what they knew
abbrev pub FeedsLine : (G : RuledGrammar) → (List G.Line → Type 0) → (List G.Line → Type 0) → ℕ → Bool → Option G.Line → Verdict → Type 0
FeedsLine G knew knows number ended None verdict = ((lines : List G.Line) → knew lines → knows lines) × (verdict ≡ Going)
FeedsLine G knew knows number ended (Some line) verdict = (before : List G.Line) → knew before → IsJudged G.rules knows before line number ended verdict
