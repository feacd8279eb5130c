use Rattle.std.proofs.Common.{◌≤◌, ◌^◌, [], ◌∷◌, ◌++◌, pos, IsTrue, subst}
use Rattle.std.specs.List.{list_all}
use Rattle.decision_model.specs.declared.kinds.Kind.TheVariants as kind
use Rattle.value_cert.proofs.Writing.{numbers_front, numbers_rest}
use Rattle.value_cert.specs.Grammar.{has_numbers}
use Rattle.value_cert.specs.NumberFacts.{both, small_from_natural}
use Rattle.value_cert.specs.Texts.{cert_lines}
use Rattle.value_cert.specs.Lots.{order_lines}
use Rattle.value_cert.specs.declared.lots.LotCert.{LotCert}
use Rattle.value_cert.specs.declared.cert.Cert.{Cert}
use Rattle.value_cert.specs.declared.cert.Cert.TheVariants as cert
use Rattle.value_cert.specs.declared.line.CertLine.TheVariants.{Head, Cost, End}
use Rattle.value_cert.proofs.cost.cost_of.Goals as goal

-- the cost of a plan's certificate that has a text is small
small_cost : (c : LotCert) → IsTrue (list_all has_numbers (cert_lines (cert.Lots c))) → c.cost ≤ 2 ^ 120
small_cost c h =
    let orders = order_lines c.orders c.duals in
    let cost = Cost (pos c.cost) in
    let behind = numbers_rest (Head kind.Lots (pos 1) (pos 1) ∷ []) (orders ++ cost ∷ [] ++ End ∷ []) h in
    let body = numbers_front (orders ++ cost ∷ []) (End ∷ []) behind in
    let last : IsTrue (list_all has_numbers (cost ∷ [])) = numbers_rest orders (cost ∷ []) body in
    small_from_natural (pos c.cost) (both (has_numbers cost) (list_all has_numbers []) last).0

pub plan_cost-requires : goal.plan_cost-requires
plan_cost-requires c =
    let P : Cert → Type 0 = λ told. IsTrue (list_all has_numbers (cert_lines told)) in
    small_cost c.in-Lots-Lots.cert (subst P c.in-Lots-Lots.is-1 c.requires.text.numbers)
