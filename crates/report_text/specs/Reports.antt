-- What `solve` prints, and the text of `help`.
use Rattle.std.specs.Prelude.{ℕ, List, [], ◌++◌, codes}
use Rattle.decision_model.specs.declared.instance.Instance.{Instance}
use Rattle.decision_model.specs.declared.instance.Instance.TheVariants as instance
use Rattle.value_cert.specs.PrintedCost.{printed_cost_text}
use Rattle.value_cert.specs.declared.cert.Cert.{Cert}
use Rattle.value_cert.specs.declared.cert.Cert.TheVariants as cert
use Rattle.report_text.specs.Average.{pair_lines, span_line}
use Rattle.report_text.specs.Finite.{shapes_lines}
use Rattle.report_text.specs.Lots.{plan_lines}
use Rattle.report_text.specs.News.{level_lines}
use Rattle.report_text.specs.Serial.{levels_lines}

-- the line of a cost
abbrev pub cost_line : List ℕ → List ℕ
cost_line cost = codes "cost " ++ cost ++ codes "\n"

-- the policy of a certificate
abbrev pub policy_lines : Instance → Cert → List ℕ
policy_lines _ (cert.News c) = level_lines c.q
policy_lines _ (cert.Lots c) = plan_lines c.orders
policy_lines _ (cert.Finite c) = shapes_lines c.rows
policy_lines (instance.Average average) (cert.Average c) = pair_lines average c
policy_lines _ (cert.Average c) = []
policy_lines _ (cert.Serial c) = levels_lines c.periods

-- what bounds the cost of some periods, where the cost is an average
abbrev pub span_lines : Instance → Cert → List ℕ
span_lines (instance.Average average) (cert.Average c) = span_line average c
span_lines _ _ = []

-- the report of an instance and a certificate for it
abbrev pub report_of : Instance → Cert → List ℕ
report_of instance c =
    policy_lines instance c ++ cost_line (printed_cost_text instance c) ++ span_lines instance c ++ codes "optimal\n"

-- the text of `help`
abbrev pub help_words : List ℕ
help_words = codes "usage: stock COMMAND\n  solve [F]             print an optimal policy\n  certify [F]           print its certificate\n  check INSTANCE CERT   check a certificate\n  demand [F]            print demand laws\n  simulate [F]          run a network\n  trial N               make, solve and check large instances\n  bracket ACTION        bound the average cost on a wide range\n  help                  print this text\nF, INSTANCE and CERT are file names; - is standard input.\nACTION is solve, certify or check with its files.\n"
