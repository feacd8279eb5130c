-- Networks, for which there is no certificate.
use Rattle.std.specs.Prelude.{◌≡◌, List, None}
use Rattle.decision_model.specs.declared.instance.Instance.{Instance}
use Rattle.value_cert.specs.Meaning.{solved_cert}
use Rattle.value_cert.specs.declared.line.CertLine.{CertLine}
use Rattle.cert_check.specs.declared.network.NetworkCheck.{NetworkCheck}

-- the instance is of a kind that isn't solved
abbrev pub KnowsNetwork : NetworkCheck → Instance → List CertLine → Type 0
KnowsNetwork check instance lines = solved_cert instance ≡ None
