-- What a certificate says of an instance, and the one that the solver writes.
use Rattle.std.specs.Prelude.{Option}
use Rattle.decision_model.specs.declared.instance.Instance.{Instance}
use Rattle.value_cert.specs.Standards.{standard_of}
use Rattle.value_cert.specs.declared.cert.Cert.{Cert}

-- the certificate names a policy than which none costs less, and its cost
abbrev pub Certifies : Instance → Cert → Type 0
Certifies instance c = (standard_of instance).Certifies c

-- the certificate that the solver writes, for the kinds that are solved
abbrev pub solved_cert : Instance → Option Cert
solved_cert instance = (standard_of instance).solved
