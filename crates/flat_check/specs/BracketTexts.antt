-- What a check of a bracket's text stands for.
use Rattle.std.specs.Prelude.{◌≡◌, ℕ, List}
use Rattle.decision_model.specs.declared.average.Average.{Average}
use Rattle.decision_model.specs.WideAverage.{IsWideAverage}
use Rattle.line_check.specs.TextChecks.{IsTextCheckOf}
use Rattle.line_check.specs.declared.verdict.Verdict.{Verdict}
use Rattle.value_cert.specs.declared.flat_line.FlatName.TheVariants.{Bracket}
use Rattle.flat_check.specs.BracketMeaning.{bracket_ruled}
use Rattle.flat_check.specs.BracketRows.{KnowsBracket}
use Rattle.flat_check.specs.declared.bracket_text.BracketTextCheck.{BracketTextCheck}

-- the last answer of a check
abbrev pub last_verdict : BracketTextCheck → Verdict
last_verdict check = check.check.verdict

-- the check stands for these bytes of a text for an instance whose cost may be bounded
pub record IsBracketTextOf (average : Average) (check : BracketTextCheck) (bytes : List ℕ) : Type 0 where
  pub wide : IsWideAverage average
  pub named : check.check.reader.grammar.name ≡ Bracket
  pub stands : IsTextCheckOf (bracket_ruled average) (KnowsBracket check.check.rules average) check.check.reader.lines check.check.verdict bytes
