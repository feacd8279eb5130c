-- The cost that is printed of an instance and a certificate for it, in lowest terms.
use Rattle.std.specs.Prelude.{ℕ, List, ℤ}
use Rattle.fraction128.specs.Printed.{frac_text}
use Rattle.decision_model.specs.declared.instance.Instance.{Instance}
use Rattle.value_cert.specs.Standards.{standard_of}
use Rattle.value_cert.specs.declared.cert.Cert.{Cert}

abbrev pub printed_num : Instance → Cert → ℤ
printed_num instance c = (standard_of instance).printed_num c

abbrev pub printed_den : Instance → Cert → ℕ
printed_den instance c = (standard_of instance).printed_den c

-- the printed cost
abbrev pub printed_cost_text : Instance → Cert → List ℕ
printed_cost_text instance c = frac_text (printed_num instance c) (printed_den instance c)
