-- The rules on the lines of a lot plan's certificate, and those on its orders and duals.
use Rattle.std.proofs.Common.{◌≡◌, ℕ, zero, suc, ◌+◌, ◌<◌, eqb, List, [], ◌∷◌, ◌++◌, length, take, pos, None, refl, sym, ap, ◌∙◌, subst, arith, append_assoc, append-nil, zero-add, add-zero}
use Rattle.std.specs.Prelude.{nat_lt}
use Rattle.std.proofs.lemmas.Bool.{ltb-true, lt-ltb, eqb-true, eq-eqb}
use Rattle.decision_model.specs.declared.instance.Instance.TheVariants as instance
use Rattle.decision_model.specs.declared.lots.LotSize.{LotSize}
use Rattle.value_cert.specs.Headings.{heading_of}
use Rattle.value_cert.specs.LotsRules.{order_rule, plan_cost_rule, BreaksNoLotRule}
use Rattle.value_cert.specs.Lots.{order_lines}
use Rattle.value_cert.specs.RuleTests.{rule_passed, passing_rule}
use Rattle.value_cert.specs.Standards.{rules_of}
use Rattle.value_cert.specs.declared.cert.Cert.TheVariants as cert
use Rattle.value_cert.specs.declared.lots.LotCert.{LotCert}
use Rattle.value_cert.specs.declared.line.CertLine.{CertLine}
use Rattle.value_cert.specs.declared.line.CertLine.TheVariants.{Cost, End}
use Rattle.value_cert.specs.Kept.{Keeps, BreaksNoRule, own_head}
use Rattle.cert_check.proofs.LotChecks.{firsts}
use Rattle.cert_check.proofs.LotOrders.{length_more}

-- ---- the orders
-- these orders and duals break no rule behind others
abbrev pub AreKept : LotSize → List ℕ → List ℕ → List ℕ → List ℕ → Type 0
AreKept item qs vs orders duals =
    (k : ℕ) → k < length orders → (length qs + k < length item.demand) × (order_rule item (qs ++ take (suc k) orders) (vs ++ take (suc k) duals) (length qs + k) ≡ None)

first_kept : (item : LotSize) (qs vs : List ℕ) (order dual : ℕ) (orders duals : List ℕ) → AreKept item qs vs (order ∷ orders) (dual ∷ duals)
    → (length qs < length item.demand) × (order_rule item (qs ++ order ∷ []) (vs ++ dual ∷ []) (length qs) ≡ None)
first_kept item qs vs order dual orders duals kept =
    let first = kept 0 (omega arith) in
    let P : ℕ → Type 0 = λ n. (n < length item.demand) × (order_rule item (qs ++ order ∷ []) (vs ++ dual ∷ []) n ≡ None) in
    subst P (add-zero (length qs)) first

-- the same rule, counted from the first of them and from the next one
next_rule : (item : LotSize) (qs vs : List ℕ) (order dual : ℕ) (orders duals : List ℕ) (k : ℕ)
    → order_rule item ((qs ++ order ∷ []) ++ take (suc k) orders) ((vs ++ dual ∷ []) ++ take (suc k) duals) (length (qs ++ order ∷ []) + k)
    ≡ order_rule item (qs ++ take (suc (suc k)) (order ∷ orders)) (vs ++ take (suc (suc k)) (dual ∷ duals)) (length qs + suc k)
next_rule item qs vs order dual orders duals k =
    let count : length (qs ++ order ∷ []) + k ≡ length qs + suc k = omega (arith, length_more qs order) in
    ap (λ (os : List ℕ). order_rule item os ((vs ++ dual ∷ []) ++ take (suc k) duals) (length (qs ++ order ∷ []) + k)) (append_assoc qs (order ∷ []) (take (suc k) orders))
    ∙ ap (λ (ws : List ℕ). order_rule item (qs ++ take (suc (suc k)) (order ∷ orders)) ws (length (qs ++ order ∷ []) + k)) (append_assoc vs (dual ∷ []) (take (suc k) duals))
    ∙ ap (order_rule item (qs ++ take (suc (suc k)) (order ∷ orders)) (vs ++ take (suc (suc k)) (dual ∷ duals))) count

rest_kept : (item : LotSize) (qs vs : List ℕ) (order dual : ℕ) (orders duals : List ℕ) → AreKept item qs vs (order ∷ orders) (dual ∷ duals) → AreKept item (qs ++ order ∷ []) (vs ++ dual ∷ []) orders duals
rest_kept item qs vs order dual orders duals kept = λ k lt.
    let next = kept (suc k) (omega arith) in
    (omega (arith, length_more qs order, next.0), next_rule item qs vs order dual orders duals k ∙ next.1)

all_kept : (item : LotSize) (qs vs : List ℕ) (order dual : ℕ) (orders duals : List ℕ) → length qs < length item.demand → order_rule item (qs ++ order ∷ []) (vs ++ dual ∷ []) (length qs) ≡ None
    → AreKept item (qs ++ order ∷ []) (vs ++ dual ∷ []) orders duals → AreKept item qs vs (order ∷ orders) (dual ∷ duals)
all_kept item qs vs order dual orders duals inside rule kept zero lt =
    let P : ℕ → Type 0 = λ n. (n < length item.demand) × (order_rule item (qs ++ order ∷ []) (vs ++ dual ∷ []) n ≡ None) in
    subst P (sym (add-zero (length qs))) (inside, rule)
all_kept item qs vs order dual orders duals inside rule kept (suc k) lt =
    let next = kept k (omega arith) in
    (omega (arith, length_more qs order, next.0), sym (next_rule item qs vs order dual orders duals k) ∙ next.1)

-- ---- the lines of orders
kept_orders : (item : LotSize) (qs vs orders duals : List ℕ) (rest : List CertLine) → length duals ≡ length orders → Keeps (rules_of (instance.Lots item)) (firsts qs vs) (order_lines orders duals ++ rest)
    → AreKept item qs vs orders duals × Keeps (rules_of (instance.Lots item)) (firsts (qs ++ orders) (vs ++ duals)) rest
kept_orders item qs vs [] [] rest each kept =
    let P : List ℕ → Type 0 = λ q. Keeps (rules_of (instance.Lots item)) (firsts q (vs ++ [])) rest in
    let Q : List ℕ → Type 0 = λ v. Keeps (rules_of (instance.Lots item)) (firsts qs v) rest in
    ((λ k lt. absurd (omega arith)), subst P (sym (append-nil qs)) (subst Q (sym (append-nil vs)) kept))
kept_orders item qs vs [] (dual ∷ duals) rest each kept = absurd (omega (arith, each))
kept_orders item qs vs (order ∷ orders) [] rest each kept = absurd (omega (arith, each))
kept_orders item qs vs (order ∷ orders) (dual ∷ duals) rest each kept =
    let here = rule_passed (nat_lt (length qs) (length item.demand)) (order_rule item (qs ++ order ∷ []) (vs ++ dual ∷ []) (length qs)) 2 kept.0 in
    let behind = kept_orders item (qs ++ order ∷ []) (vs ++ dual ∷ []) orders duals rest (omega (arith, each)) kept.1 in
    let P : List ℕ → Type 0 = λ q. Keeps (rules_of (instance.Lots item)) (firsts q (vs ++ dual ∷ duals)) rest in
    let Q : List ℕ → Type 0 = λ v. Keeps (rules_of (instance.Lots item)) (firsts ((qs ++ order ∷ []) ++ orders) v) rest in (
      all_kept item qs vs order dual orders duals (ltb-true (length qs) (length item.demand) here.0) here.1 behind.0,
      subst P (append_assoc qs (order ∷ []) orders) (subst Q (append_assoc vs (dual ∷ []) duals) behind.1),
    )

keeps_orders : (item : LotSize) (qs vs orders duals : List ℕ) (rest : List CertLine) → length duals ≡ length orders → AreKept item qs vs orders duals
    → Keeps (rules_of (instance.Lots item)) (firsts (qs ++ orders) (vs ++ duals)) rest → Keeps (rules_of (instance.Lots item)) (firsts qs vs) (order_lines orders duals ++ rest)
keeps_orders item qs vs [] [] rest each kept behind =
    let P : List ℕ → Type 0 = λ q. Keeps (rules_of (instance.Lots item)) (firsts q vs) rest in
    let Q : List ℕ → Type 0 = λ v. Keeps (rules_of (instance.Lots item)) (firsts (qs ++ []) v) rest in
    subst P (append-nil qs) (subst Q (append-nil vs) behind)
keeps_orders item qs vs [] (dual ∷ duals) rest each kept behind = absurd (omega (arith, each))
keeps_orders item qs vs (order ∷ orders) [] rest each kept behind = absurd (omega (arith, each))
keeps_orders item qs vs (order ∷ orders) (dual ∷ duals) rest each kept behind =
    let first = first_kept item qs vs order dual orders duals kept in
    let P : List ℕ → Type 0 = λ q. Keeps (rules_of (instance.Lots item)) (firsts q ((vs ++ dual ∷ []) ++ duals)) rest in
    let Q : List ℕ → Type 0 = λ v. Keeps (rules_of (instance.Lots item)) (firsts (qs ++ order ∷ orders) v) rest in (
      passing_rule (nat_lt (length qs) (length item.demand)) (order_rule item (qs ++ order ∷ []) (vs ++ dual ∷ []) (length qs)) 2 (lt-ltb (length qs) (length item.demand) first.0) first.1,
      keeps_orders item (qs ++ order ∷ []) (vs ++ dual ∷ []) orders duals rest (omega (arith, each)) (rest_kept item qs vs order dual orders duals kept)
          (subst P (sym (append_assoc qs (order ∷ []) orders)) (subst Q (sym (append_assoc vs (dual ∷ []) duals)) behind)),
    )

-- ---- all lines
-- the lines behind the head
behind_head : (c : LotCert) → (order_lines c.orders c.duals ++ Cost (pos c.cost) ∷ []) ++ End ∷ [] ≡ order_lines c.orders c.duals ++ Cost (pos c.cost) ∷ End ∷ []
behind_head c = append_assoc (order_lines c.orders c.duals) (Cost (pos c.cost) ∷ []) (End ∷ [])

-- a certificate whose lines break no rule
pub rules_by_lines : (item : LotSize) (c : LotCert) → length c.duals ≡ length c.orders → BreaksNoRule (instance.Lots item) (cert.Lots c) → BreaksNoLotRule item c
rules_by_lines item c each kept =
    let P : List CertLine → Type 0 = λ lines. Keeps (rules_of (instance.Lots item)) (firsts [] []) lines in
    let orders = kept_orders item [] [] c.orders c.duals (Cost (pos c.cost) ∷ End ∷ []) each (subst P (behind_head c) kept.1) in
    let last = rule_passed (eqb (length c.orders) (length item.demand)) (plan_cost_rule item c.orders c.duals (pos c.cost)) 2 orders.1.0 in
    let whole = eqb-true (length c.orders) (length item.demand) last.0 in
    record {
      orders_each = whole;
      duals_each = each ∙ whole;
      orders = λ s lt. by_place s (orders.0 s (omega (arith, whole)));
      cost = last.1;
    }
  where
    by_place : (s : ℕ) → (0 + s < length item.demand) × (order_rule item (take (suc s) c.orders) (take (suc s) c.duals) (0 + s) ≡ None)
        → order_rule item (take (s + 1) c.orders) (take (s + 1) c.duals) s ≡ None
    by_place s kept =
        let next : s + 1 ≡ suc s = omega arith in
        ap (λ n. order_rule item (take n c.orders) (take n c.duals) s) next ∙ ap (order_rule item (take (suc s) c.orders) (take (suc s) c.duals)) (sym (zero-add s)) ∙ kept.1

-- and the lines of a certificate that breaks none
pub lines_by_rules : (item : LotSize) (c : LotCert) → BreaksNoLotRule item c → BreaksNoRule (instance.Lots item) (cert.Lots c)
lines_by_rules item c rules =
    let each : length c.duals ≡ length c.orders = rules.duals_each ∙ sym rules.orders_each in
    let P : List CertLine → Type 0 = λ lines. Keeps (rules_of (instance.Lots item)) (firsts [] []) lines in
    let last = passing_rule (eqb (length c.orders) (length item.demand)) (plan_cost_rule item c.orders c.duals (pos c.cost)) 2 (eq-eqb (length c.orders) (length item.demand) rules.orders_each) rules.cost in
    (own_head (heading_of (instance.Lots item)), subst P (sym (behind_head c)) (keeps_orders item [] [] c.orders c.duals (Cost (pos c.cost) ∷ End ∷ []) each (λ k lt. by_place k (omega (arith, rules.orders_each))) (last, (refl, tt))))
  where
    by_place : (k : ℕ) → k < length item.demand → (0 + k < length item.demand) × (order_rule item (take (suc k) c.orders) (take (suc k) c.duals) (0 + k) ≡ None)
    by_place k lt =
        let next : suc k ≡ k + 1 = omega arith in
        (omega (arith, lt), ap (order_rule item (take (suc k) c.orders) (take (suc k) c.duals)) (zero-add k) ∙ ap (λ n. order_rule item (take n c.orders) (take n c.duals) k) next ∙ rules.orders k lt)
