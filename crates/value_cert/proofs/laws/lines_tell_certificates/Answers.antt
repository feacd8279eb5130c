use Rattle.value_cert.specs.CertFacts.{same_cert}
use Rattle.value_cert.proofs.laws.lines_tell_certificates.Goals as goal

pub returns : goal.returns
returns c = same_cert
