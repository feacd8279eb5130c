-- When the certificate of a lot plan has a text.
use Rattle.std.proofs.Common.{◌≡◌, ℕ, ◌≤◌, ◌^◌, List, [], ◌∷◌, ◌++◌, length, pos, true, ◌&&◌, nat_le, All, ◌∙◌, ap, refl, arith}
use Rattle.std.specs.List.{list_all}
use Rattle.std.proofs.lemmas.Bool.{le-leb, and_from}
use Rattle.std.proofs.lemmas.List.Elements.{All-head, All-tail}
use Rattle.std.proofs.lemmas.List.Folds.{list_all-append}
use Rattle.value_cert.specs.Grammar.{has_numbers}
use Rattle.value_cert.specs.Lots.{order_lines}
use Rattle.value_cert.specs.Numbers.{is_natural}
use Rattle.value_cert.specs.Texts.{HasText}
use Rattle.value_cert.specs.declared.cert.Cert.TheVariants as cert
use Rattle.value_cert.specs.declared.line.CertLine.TheVariants.{Cost, End}
use Rattle.value_cert.specs.declared.lots.LotCert.{LotCert}

-- a natural number that a certificate may have
abbrev pub IsSmall : ℕ → Type 0
IsSmall n = n ≤ 2 ^ 120

is_natural-small : (n : ℕ) → IsSmall n → is_natural (pos n) ≡ true
is_natural-small n small = and_from (nat_le 0 n) (nat_le n (2 ^ 120)) (le-leb 0 n (omega arith)) (le-leb n (2 ^ 120) small)

order_numbers : (orders duals : List ℕ) → All IsSmall orders → All IsSmall duals → list_all has_numbers (order_lines orders duals) ≡ true
order_numbers [] duals small short = refl
order_numbers (order ∷ orders) [] small short = refl
order_numbers (order ∷ orders) (dual ∷ duals) small short =
    let first = is_natural-small order (All-head IsSmall order orders small) in
    let second = is_natural-small dual (All-head IsSmall dual duals short) in
    rw (first, second, order_numbers orders duals (All-tail IsSmall order orders small) (All-tail IsSmall dual duals short)) refl

-- some periods, as many duals as orders, and small numbers
pub HasText-lots : (c : LotCert) → 1 ≤ length c.orders → length c.duals ≡ length c.orders → All IsSmall c.orders → All IsSmall c.duals → IsSmall c.cost → HasText (cert.Lots c)
HasText-lots c some same small short cost =
    let lines = order_lines c.orders c.duals in
    let last = Cost (pos c.cost) ∷ [] in
    let end : list_all has_numbers last ≡ true = rw (is_natural-small c.cost cost) refl in
    let front : list_all has_numbers (lines ++ last) ≡ true =
    list_all-append has_numbers lines last ∙ ap (λ b. b && list_all has_numbers last) (order_numbers c.orders c.duals small short) ∙ end in
    record {
      numbers = list_all-append has_numbers (lines ++ last) (End ∷ []) ∙ ap (λ b. b && list_all has_numbers (End ∷ [])) front;
      complete = record { some = omega (arith, some); each = same };
    }
