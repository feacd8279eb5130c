-- Brackets of average costs as what a command is about.
use Rattle.std.proofs.Common.{◌≡◌, ℕ, List, Result, Ok, false, arith}
use Rattle.bracket_lemmas.specs.SolvedCert.{solved_bracket}
use Rattle.decision_model.specs.WideAverage.{IsWideAverage}
use Rattle.decision_model.specs.declared.average.Average.{Average}
use Rattle.flat_check.specs.BracketMeaning.{bracket_ruled}
use Rattle.flat_check.specs.BracketTexts.{IsBracketTextOf, last_verdict}
use Rattle.flat_check.specs.declared.bracket_text.BracketTextCheck.{BracketTextCheck}
use Rattle.instance_json.specs.Wide.{reads_wide}
use Rattle.line_check.specs.Verdicts.{is_rejection}
use Rattle.report_text.specs.Bracket.{bracket_report_of}
use Rattle.value_cert.specs.Bracket.{HasBracketText}
use Rattle.value_cert.specs.BracketRules.{IsBracket}
use Rattle.value_cert.specs.declared.bracket.BracketCert.{BracketCert}
use Rattle.stock_cli.specs.AnyCerts.{bracket_text}
use Rattle.stock_cli.specs.Checks.{TextCheckOf, PassesUpTo}
use Rattle.stock_cli.specs.Subjects.{SubjectOf, IsCertificate}

-- each average cost that is read is bracketed
abbrev pub bracket_subject : SubjectOf Average BracketCert
bracket_subject = record {
  reads = reads_wide;
  IsValid = IsWideAverage;
  solved = λ average. Ok (solved_bracket average);
  report = bracket_report_of;
  text = bracket_text;
  HasText = HasBracketText;
  rules = bracket_ruled;
  Certifies = IsBracket;
}

-- a check that reads on stands for lines that all pass, and for less than a line behind them
pub bracket_reading : (average : Average) (check : BracketTextCheck) (bytes : List ℕ) → IsBracketTextOf average check bytes → is_rejection (last_verdict check) ≡ false → PassesUpTo (bracket_ruled average) bytes 256
bracket_reading average check bytes h going =
    let reading = h.stands.reading going in
    record { lines = reading.lines; pass = reading.unbroken; behind = _; text_is = reading.read.text; within = omega (arith, reading.short.short) }

-- the check of a bracket's text
abbrev pub bracket_check : TextCheckOf BracketTextCheck
bracket_check = record {
  Of = Average;
  rules = bracket_ruled;
  Claims = IsCertificate bracket_subject;
  StandsFor = IsBracketTextOf;
  last = last_verdict;
  reading = bracket_reading;
}
