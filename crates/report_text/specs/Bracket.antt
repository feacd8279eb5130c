-- What is printed of a bracket of an average cost.
use Rattle.std.specs.Prelude.{ℕ, pos, List, ◌++◌, codes}
use Rattle.fraction128.specs.Printed.{frac_text}
use Rattle.fraction128.specs.Reduced.{lowest_num, lowest_den}
use Rattle.decision_model.specs.Limits.{parts}
use Rattle.decision_model.specs.declared.average.Average.{Average}
use Rattle.value_cert.specs.Bracket.{span_in}
use Rattle.value_cert.specs.declared.bracket.BracketCert.{BracketCert}
use Rattle.report_text.specs.Average.{pair_line}

-- the line of whole parts, as a fraction in lowest terms
abbrev pub parts_line : List ℕ → ℕ → List ℕ
parts_line name n = name ++ frac_text (lowest_num (pos n) parts) (lowest_den (pos n) parts) ++ codes "\n"

abbrev pub bracket_span_line : Average → BracketCert → List ℕ
bracket_span_line average c = parts_line (codes "span ") (span_in average c)

-- the report of an instance and a bracket of its cost
abbrev pub bracket_report_of : Average → BracketCert → List ℕ
bracket_report_of average c =
    codes "kind average\n" ++ pair_line average.lots c.low c.high ++ parts_line (codes "lower ") c.lower ++ parts_line (codes "upper ") c.upper ++ bracket_span_line average c ++ codes "bracketed\n"
