-- The lines of a trial.
use Rattle.std.specs.Prelude.{ℕ, List, [], ◌++◌, codes, decimal}
use Rattle.decision_model.specs.Kind.{kind_of, kind_word}
use Rattle.decision_model.specs.declared.instance.Instance.{Instance}
use Rattle.decision_model.specs.declared.instance.Instance.TheVariants as instance
use Rattle.value_cert.specs.PrintedCost.{printed_cost_text}
use Rattle.value_cert.specs.declared.cert.Cert.{Cert}
use Rattle.value_cert.specs.declared.cert.Cert.TheVariants as cert
use Rattle.report_text.specs.Average.{span_line}

-- the first line
abbrev pub number_line : ℕ → List ℕ
number_line number = codes "trial " ++ decimal number ++ codes "\n"

-- the level of a newsvendor
abbrev pub level_part : Cert → List ℕ
level_part (cert.News c) = codes " " ++ decimal c.q
level_part _ = []

-- the span of an average cost, and the line's end
abbrev pub line_end : Instance → Cert → List ℕ
line_end (instance.Average average) (cert.Average c) = codes " " ++ span_line average c
line_end _ _ = codes "\n"

-- the line of an instance that is solved, and of its certificate
abbrev pub certified_line : Instance → Cert → List ℕ
certified_line i c = kind_word (kind_of i) ++ level_part c ++ codes " " ++ printed_cost_text i c ++ line_end i c

-- the line of a network that ran, by the sum of its costs
abbrev pub run_line : ℕ → List ℕ
run_line total = codes "network " ++ decimal total ++ codes "\n"

-- the last line
abbrev pub last_line : List ℕ
last_line = codes "all accepted\n"
