use Rattle.value_cert.specs.TextFacts.{texts_apart, certs_apart}
use Rattle.value_cert.proofs.laws.texts_are_apart.Goals as goal

pub returns-clause-certs : goal.returns-clause-certs
returns-clause-certs c = certs_apart

pub returns-clause-lines : goal.returns-clause-lines
returns-clause-lines c = texts_apart
