-- A lot plan's check answers as the rules say, a certificate that breaks none names a least plan and its cost, and the solver's breaks none.
use Rattle.std.proofs.Common.{◌≡◌, ℕ, List, Option, None}
use Rattle.decision_model.specs.Lots.{IsReadableLots, IsValidLots}
use Rattle.decision_model.specs.declared.instance.Instance.{Instance}
use Rattle.decision_model.specs.declared.instance.Instance.TheVariants as instance
use Rattle.decision_model.specs.declared.lots.LotSize.{LotSize}
use Rattle.lot_lemmas.specs.LotDuality.{least_by_rules}
use Rattle.lot_lemmas.specs.LotSolved.{breaks_no_rule}
use Rattle.value_cert.specs.LotRecursion.{solved_lots}
use Rattle.value_cert.specs.LotsRules.{FirstOrders, no_orders, named_orders, lots_rule, CertifiesPlan}
use Rattle.value_cert.specs.Texts.{HasText}
use Rattle.value_cert.specs.declared.cert.Cert.{Cert}
use Rattle.value_cert.specs.declared.cert.Cert.TheVariants as cert
use Rattle.value_cert.specs.declared.line.CertLine.{CertLine}
use Rattle.cert_check.specs.Answers.{AnswersBehindHead}
use Rattle.cert_check.specs.LotsChecks.{KnowsPlan, KnowsLots}
use Rattle.cert_check.proofs.KnownLines.{answers_line}
use Rattle.cert_check.specs.declared.lots.LotsCheck.{LotsCheck}
use Rattle.value_cert.specs.Kept.{BreaksNoRule}
use Rattle.cert_check.proofs.LotLines.{rules_by_lines, lines_by_rules}

pub lots_answers : (item : Instance) (before : List CertLine) (line : CertLine) (old new : LotsCheck) (answer : Option ℕ)
    → KnowsLots old item before → new.lots.now ≡ old.lots.now
    → ((first : FirstOrders) → KnowsPlan old first → answer ≡ lots_rule old.lots.now first line)
    → ((first : FirstOrders) → KnowsPlan old first → answer ≡ None → KnowsPlan new (named_orders first line))
    → AnswersBehindHead (KnowsLots new) item before line answer
lots_answers (instance.Lots lots) before line old new answer of same rule plan =
    answers_line (λ lots. no_orders) (λ lots. named_orders) lots_rule lots old.lots.now new.lots.now (KnowsPlan old) (KnowsPlan new) before line answer of same rule plan
lots_answers _ before line old new answer of same rule plan = absurd of

-- a certificate whose lines break no rule
pub lots_certifies : (item : LotSize) (c : Cert) → IsReadableLots item → HasText c → BreaksNoRule (instance.Lots item) c → CertifiesPlan item c
lots_certifies item (cert.Lots c) readable has kept = least_by_rules item c readable (rules_by_lines item c has.complete.each kept)
lots_certifies item _ readable has kept = let foreign_head = kept.0 in cc

-- the solver's certificate
pub solved_lots_keeps : (item : LotSize) → IsValidLots item → BreaksNoRule (instance.Lots item) (cert.Lots (solved_lots item))
solved_lots_keeps item valid = lines_by_rules item (solved_lots item) (breaks_no_rule item valid)
