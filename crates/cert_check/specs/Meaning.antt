-- What acceptance says, and what is sure to be accepted.
use Rattle.std.specs.Prelude.{◌≡◌, ℕ, List, Some}
use Rattle.newsvendor.specs.Item.{IsNewsvendor}
use Rattle.decision_model.specs.declared.instance.Instance.{Instance}
use Rattle.decision_model.specs.declared.instance.Instance.TheVariants.{News}
use Rattle.decision_model.specs.Valid.{IsValid}
use Rattle.value_cert.specs.Meaning.{Certifies, solved_cert}
use Rattle.value_cert.specs.Texts.{HasText, cert_lines, cert_text}
use Rattle.value_cert.specs.declared.cert.Cert.{Cert}
use Rattle.value_cert.specs.declared.line.CertLine.{CertLine}

-- the lines are those of a certificate that names a policy than which none costs less, and its cost
pub record AreCertified (item : Instance) (told : List CertLine) : Type 0 where
  pub cert : Cert
  pub readable : HasText cert
  pub lines_are : told ≡ cert_lines cert
  pub certifies : Certifies item cert

-- the text is that of a certificate that names a policy than which none costs less, and its cost
pub record IsCertified (item : Instance) (text : List ℕ) : Type 0 where
  pub cert : Cert
  pub readable : HasText cert
  pub text_is : text ≡ cert_text cert
  pub certifies : Certifies item cert

-- beyond being valid, what the type of a newsvendor ensures of each value
abbrev pub IsTyped : Instance → Type 0
IsTyped (News item) = IsNewsvendor item
IsTyped _ = Unit {0}

-- each rule of an instance, and what its type ensures
pub record IsWhollyValid (item : Instance) : Type 0 where
  pub rules : IsValid item
  pub typed : IsTyped item

-- the text is that of the certificate which the solver makes of the instance
pub record IsOwnText (item : Instance) (text : List ℕ) : Type 0 where
  pub cert : Cert
  pub solved : solved_cert item ≡ Some cert
  pub text_is : text ≡ cert_text cert
