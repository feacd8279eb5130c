-- The first level that reaches the ratio lies within the law.
use Rattle.std.proofs.Common.{◌≡◌, ℕ, zero, suc, ◌+◌, ◌-◌, ◌*◌, ◌<◌, ◌≤◌, Bool, true, false, ◌||◌, not, leb, ℤ, pos, negsuc, ◌-ℤ◌, ◌≤ℤ◌, length, sum, refl, sym, ◌∙◌, arith, ⊎_elim}
use Rattle.std.proofs.lemmas.Int.{ints}
use Rattle.std.proofs.lemmas.Bool.{cases_lt, false≢true}
use Rattle.newsvendor.specs.Item.{NewsvendorItem}
use Rattle.newsvendor.specs.Solved.{upto_all}
use Rattle.value_cert.specs.NewsRules.{reaches_ratio, is_first_level}
use Rattle.value_cert.specs.Numbers.{is_natural, is_number}
use Rattle.std.proofs.lemmas.Bool.Decides.{nat_tests}

-- all levels from the last of the law on reach the ratio
past_reaches : (item : NewsvendorItem) (k : ℕ) → length item.law ≤ k + 1 → reaches_ratio item (pos k) ≡ true
past_reaches item k h =
    let e = upto_all item.law k h in
    rw e (at_all (item.stockout * sum item.law) ((item.holding + item.stockout) * sum item.law) (omega (arith)))
  where
    at_all : (a b : ℕ) → a ≤ b → leb a b ≡ true
    at_all a b le = grind (arith, nat_tests)

neither : (a b : Bool) → a ≡ false → b ≡ true → (a || not b) ≡ false
neither a b e f = rw (e, f) refl

pub above_none : (k : ℕ) → is_number (pos 0) (pos (suc k)) ≡ false
above_none k = grind (arith, nat_tests)

-- a level that is the first to reach it is one of the law
pub first_within : (item : NewsvendorItem) (level : ℤ) → length item.law ≤ 10001 → is_natural level ≡ true → is_first_level item level ≡ true → level ≤ℤ pos 10000
first_within item (negsuc k) short natural first = omega (arith, ints)
first_within item (pos zero) short natural first = omega (arith, ints)
first_within item (pos (suc k)) short natural first = ⊎_elim (λ lt. inside lt) (λ le. absurd (outside le)) (cases_lt k (length item.law - 1))
  where
    inside : k < length item.law - 1 → pos (suc k) ≤ℤ pos 10000
    inside lt = omega (arith, ints)

    outside : length item.law - 1 ≤ k → ⊥
    outside le =
        let below : pos (suc k) -ℤ pos 1 ≡ pos k = omega (arith, ints) in
        let past : reaches_ratio item (pos (suc k) -ℤ pos 1) ≡ true = rw below (past_reaches item k (omega arith)) in
        let none : is_first_level item (pos (suc k)) ≡ false = neither (is_number (pos 0) (pos (suc k))) (reaches_ratio item (pos (suc k) -ℤ pos 1)) (above_none k) past in
        false≢true (sym none ∙ first)
