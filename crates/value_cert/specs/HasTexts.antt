-- Certificates that have a text.
use Rattle.demand_law.specs.WeightedSums.{sum-cons, weighted_most}
use Rattle.newsvendor.specs.Cost.{mismatch_cost}
use Rattle.newsvendor.specs.Item.{NewsvendorItem, IsNewsvendor}
use Rattle.newsvendor.specs.Level.{cost_of}
use Rattle.newsvendor.specs.declared.solve.NewsCert.{NewsCert}
use Rattle.std.proofs.Common.{◌≡◌, ℕ, ◌+◌, ◌-◌, ◌*◌, ◌^◌, ◌<◌, ◌≤◌, List, [], ◌∷◌, ◌++◌, length, sum, true, ◌&&◌, ℤ, pos, ◌≤ℤ◌, ◌*ℤ◌, refl, ap, ◌∙◌, sym, subst, arith}
use Rattle.std.proofs.Math.Nat.{mul-le-mul}
use Rattle.std.proofs.lemmas.Bool.{le-leb}
use Rattle.std.proofs.lemmas.Int.{ints}
use Rattle.std.proofs.lemmas.List.Folds.{list_all-append}
use Rattle.std.specs.List.{list_all}
use Rattle.std.specs.Prelude.{nat_le}
use Rattle.value_cert.specs.Grammar.{has_numbers}
use Rattle.value_cert.specs.Lots.{order_lines}
use Rattle.value_cert.specs.NewsRules.{IsLeastLevelAt}
use Rattle.value_cert.specs.Numbers.{is_natural}
use Rattle.value_cert.specs.Texts.{HasText}
use Rattle.value_cert.specs.declared.cert.Cert.TheVariants as cert
use Rattle.value_cert.specs.declared.line.CertLine.TheVariants as line
use Rattle.value_cert.specs.declared.lots.LotCert.{LotCert}

-- a number of ℕ that is small may stand where a natural number may
natural : (n : ℕ) → n ≤ 2 ^ 120 → is_natural (pos n) ≡ true
natural n small =
    let low : nat_le 0 n ≡ true = le-leb 0 n (omega arith) in
    let high : nat_le n (2 ^ 120) ≡ true = le-leb n (2 ^ 120) small in
    rw (low, high) refl

-- a level with a small cost has a text
pub news_text : (c : NewsCert) → c.q ≤ 2 ^ 120 → c.cost ≤ 2 ^ 120 → HasText (cert.News c)
news_text c q cost = record { numbers = rw (natural c.q q, natural c.cost cost) refl; complete = tt }

-- what a level of 0 costs at a demand
none_cost : (item : NewsvendorItem) → IsNewsvendor item → (d : ℕ) → d < length item.law → pos (mismatch_cost item.holding item.stockout 0 d) ≤ℤ pos 10000000000
none_cost item valid d within =
    let left : 0 - d ≡ 0 = omega arith in
    let lacking : d - 0 ≡ d = omega arith in
    let short : d ≤ 10000 = omega (arith, valid.greatest_in_range, within) in
    let most : item.stockout * d ≤ 1000000 * 10000 = mul-le-mul valid.stockout_in_range short in
    let cost : mismatch_cost item.holding item.stockout 0 d ≡ item.stockout * d =
    ap (λ k. item.holding * k + item.stockout * (d - 0)) left ∙ ap (λ k. item.holding * 0 + item.stockout * k) lacking ∙ omega arith in
    omega (arith, ints, most, cost)

-- the least cost of a newsvendor is small
least_cost_small : (item : NewsvendorItem) → IsNewsvendor item → (c : NewsCert) → IsLeastLevelAt item c → c.cost ≤ 2 ^ 120
least_cost_small item valid c least =
    let most : cost_of item 0 ≤ℤ (pos (sum item.law) *ℤ pos 10000000000) = weighted_most item.law (λ d. pos (mismatch_cost item.holding item.stockout 0 d)) (pos 10000000000) (none_cost item valid) in
    let below : cost_of item c.q ≤ℤ cost_of item 0 = least.level.least 0 in
    let P : ℤ → Type 0 = λ z. z ≤ℤ cost_of item 0 in
    let cost : pos c.cost ≤ℤ cost_of item 0 = subst P (sym least.cost) below in
    omega (arith, ints, most, cost, valid.total_in_range)

-- the certificate of a newsvendor has a text
pub least_level_text : (item : NewsvendorItem) → IsNewsvendor item → (c : NewsCert) → IsLeastLevelAt item c → c.q ≤ 2 ^ 120 → HasText (cert.News c)
least_level_text item valid c least q = news_text c q (least_cost_small item valid c least)

-- the numbers of orders and duals with small sums
order_numbers : (orders duals : List ℕ) → sum orders ≤ 2 ^ 120 → sum duals ≤ 2 ^ 120 → list_all has_numbers (order_lines orders duals) ≡ true
order_numbers [] duals small short = refl
order_numbers (order ∷ orders) [] small short = refl
order_numbers (order ∷ orders) (dual ∷ duals) small short =
    let first = natural order (omega (arith, sum-cons order orders, small)) in
    let second = natural dual (omega (arith, sum-cons dual duals, short)) in
    let rest = order_numbers orders duals (omega (arith, sum-cons order orders, small)) (omega (arith, sum-cons dual duals, short)) in
    rw (first, second, rest) refl

-- a plan of some orders with one dual an order, and small sums, has a text
pub lots_text : (c : LotCert) → 0 < length c.orders → length c.duals ≡ length c.orders → sum c.orders ≤ 2 ^ 120 → sum c.duals ≤ 2 ^ 120 → c.cost ≤ 2 ^ 120 → HasText (cert.Lots c)
lots_text c some each orders duals cost =
    let lines = order_lines c.orders c.duals in
    let last = line.Cost (pos c.cost) ∷ [] in
    let end : list_all has_numbers last ≡ true = rw (natural c.cost cost) refl in
    let front : list_all has_numbers (lines ++ last) ≡ true =
    list_all-append has_numbers lines last ∙ ap (λ b. b && list_all has_numbers last) (order_numbers c.orders c.duals orders duals) ∙ end in
    record {
      numbers = list_all-append has_numbers (lines ++ last) (line.End ∷ []) ∙ ap (λ b. b && list_all has_numbers (line.End ∷ [])) front;
      complete = record { some = some; each = each };
    }
