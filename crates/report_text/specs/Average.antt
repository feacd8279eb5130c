-- What `solve` prints of average costs.
use Rattle.std.specs.Prelude.{ℤ, pos, ◌-ℤ◌, Bool, if◌then◌else◌, List, ◌++◌, codes, ℕ}
use Rattle.std.specs.Fmt.{signed_decimal}
use Rattle.fraction128.specs.Printed.{frac_text}
use Rattle.fraction128.specs.Reduced.{lowest_num, lowest_den}
use Rattle.decision_model.specs.declared.average.Average.{Average}
use Rattle.value_cert.specs.AverageRules.{span_num, span_den}
use Rattle.value_cert.specs.declared.average.AverageCert.{AverageCert}

-- the line of a pair of positions: of its reorder point and its lot where orders come in lots, else of its two positions
abbrev pub pair_line : Bool → ℤ → ℤ → List ℕ
pair_line lots low high =
    if lots
    then codes "r " ++ signed_decimal low ++ codes " Q " ++ signed_decimal (high -ℤ low) ++ codes "\n"
    else codes "s " ++ signed_decimal low ++ codes " S " ++ signed_decimal high ++ codes "\n"

-- the pair of a certificate
abbrev pub pair_lines : Average → AverageCert → List ℕ
pair_lines item c = codes "kind average\n" ++ pair_line item.lots c.low c.high

-- the line of its span
abbrev pub span_line : Average → AverageCert → List ℕ
span_line item c =
    codes "span " ++ frac_text (lowest_num (pos (span_num item c)) (span_den item c)) (lowest_den (pos (span_num item c)) (span_den item c)) ++ codes "\n"
