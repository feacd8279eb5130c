-- What acceptance means, and what is sure to be accepted: the one dispatch over kinds.
use Rattle.std.proofs.Common.{◌≡◌, Some, subst}
use Rattle.average_lemmas.specs.KeptSizes.{kept_text}
use Rattle.average_lemmas.specs.SolvedAverage.{solved_rules, solved_kept}
use Rattle.decision_model.specs.Valid.{IsValid}
use Rattle.decision_model.specs.declared.instance.Instance.{Instance}
use Rattle.decision_model.specs.declared.instance.Instance.TheVariants as instance
use Rattle.finite_lemmas.specs.SolvedKept.{solved_breaks_nothing}
use Rattle.finite_recursion.specs.SolvedSizes.{solved_has_text}
use Rattle.lot_lemmas.specs.LotSolved.{has_text}
use Rattle.serial_lemmas.specs.SolvedKept.{solved_breaks_nothing as serial_breaks_nothing}
use Rattle.serial_lemmas.specs.SolvedTexts.{solved_serial_text}
use Rattle.value_cert.specs.AverageRules.{solved_average}
use Rattle.value_cert.specs.FiniteRules.{solved_finite}
use Rattle.value_cert.specs.LotRecursion.{solved_lots}
use Rattle.value_cert.specs.Meaning.{Certifies, solved_cert}
use Rattle.value_cert.specs.NewsRules.{solved_news}
use Rattle.value_cert.specs.SerialRules.{solved_serial}
use Rattle.value_cert.specs.Texts.{HasText}
use Rattle.value_cert.specs.declared.cert.Cert.{Cert}
use Rattle.value_cert.specs.declared.cert.Cert.TheVariants as cert
use Rattle.cert_check.specs.Meaning.{IsWhollyValid}
use Rattle.value_cert.specs.Kept.{BreaksNoRule}
use Rattle.cert_check.proofs.ProvenAverage.{average_cert_certifies}
use Rattle.cert_check.proofs.ProvenFinite.{finite_certifies}
use Rattle.cert_check.proofs.ProvenLots.{lots_certifies, solved_lots_keeps}
use Rattle.cert_check.proofs.ProvenNetwork.{none_kept}
use Rattle.cert_check.proofs.ProvenNews.{news_certifies, solved_news_keeps, solved_news_text}
use Rattle.cert_check.proofs.ProvenSerial.{serial_cert_certifies}

-- a certificate whose lines break no rule names a policy than which none costs less, and its cost
pub certifies_by : (item : Instance) (c : Cert) → IsValid item → HasText c → BreaksNoRule item c → Certifies item c
certifies_by (instance.News item) c valid has kept = news_certifies item c kept
certifies_by (instance.Lots item) c valid has kept = lots_certifies item c valid.readable has kept
certifies_by (instance.Finite item) c valid has kept = finite_certifies item c valid kept
certifies_by (instance.Average item) c valid has kept = average_cert_certifies item c valid kept
certifies_by (instance.Serial item) c valid has kept = serial_cert_certifies item c valid kept
certifies_by (instance.Network item) c valid has kept = absurd (none_kept item c kept)

-- the solver's certificate has a text, and its lines break no rule
pub record IsKept (item : Instance) (c : Cert) : Type 0 where
  pub has : HasText c
  pub keeps : BreaksNoRule item c

pub solved_is_kept : (item : Instance) (c : Cert) → IsWhollyValid item → solved_cert item ≡ Some c → IsKept item c
solved_is_kept (instance.News item) c valid solved =
    let same : cert.News (solved_news item) ≡ c = cc in
    let P : Cert → Type 0 = λ own. IsKept (instance.News item) own in
    subst P same (record { has = solved_news_text item valid.typed; keeps = solved_news_keeps item })
solved_is_kept (instance.Lots item) c valid solved =
    let same : cert.Lots (solved_lots item) ≡ c = cc in
    let P : Cert → Type 0 = λ own. IsKept (instance.Lots item) own in
    subst P same (record { has = has_text item valid.rules; keeps = solved_lots_keeps item valid.rules })
solved_is_kept (instance.Finite item) c valid solved =
    let same : cert.Finite (solved_finite item) ≡ c = cc in
    let P : Cert → Type 0 = λ own. IsKept (instance.Finite item) own in
    subst P same (record { has = solved_has_text item valid.rules; keeps = solved_breaks_nothing item valid.rules.regular.readable })
solved_is_kept (instance.Average item) c valid solved =
    let same : cert.Average (solved_average item) ≡ c = cc in
    let P : Cert → Type 0 = λ own. IsKept (instance.Average item) own in
    subst P same (record { has = kept_text item valid.rules (solved_average item) (solved_rules item valid.rules); keeps = solved_kept item valid.rules })
solved_is_kept (instance.Serial item) c valid solved =
    let same : cert.Serial (solved_serial item) ≡ c = cc in
    let P : Cert → Type 0 = λ own. IsKept (instance.Serial item) own in
    subst P same (record { has = solved_serial_text item valid.rules; keeps = serial_breaks_nothing item valid.rules.regular.readable })
solved_is_kept (instance.Network item) c valid solved = cc
