-- What a check of a bracket's lines stands for.
use Rattle.std.specs.Prelude.{◌≡◌, List}
use Rattle.decision_model.specs.declared.average.Average.{Average}
use Rattle.decision_model.specs.WideAverage.{IsWideAverage}
use Rattle.line_check.specs.Checks.{IsCheckOf}
use Rattle.value_cert.specs.declared.flat_line.FlatLine.{FlatLine}
use Rattle.value_cert.specs.declared.flat_line.FlatName.TheVariants.{Bracket}
use Rattle.flat_check.specs.BracketMeaning.{bracket_ruled}
use Rattle.flat_check.specs.BracketRows.{KnowsBracket}
use Rattle.flat_check.specs.declared.bracket_check.BracketCheck.{BracketCheck}

-- the check stands for these lines of a certificate for an instance whose cost may be bounded
pub record IsBracketCheckOf (average : Average) (check : BracketCheck) (told : List FlatLine) : Type 0 where
  pub wide : IsWideAverage average
  pub named : check.check.grammar.name ≡ Bracket
  pub stands : IsCheckOf (bracket_ruled average) (KnowsBracket check.check.rules average) check.check.place check.check.number check.check.verdict told
