-- Differences that are divided by what both parts are taken times.
use Rattle.std.proofs.Common.{◌≡◌, ℕ, ◌+◌, ◌-◌, ◌*◌, ◌/◌, ◌<◌, ◌≤◌, true, false, nat_le, nat_eq, ◌∙◌, ap, arith, mul-le-mul_left, ◌⊎◌, inl, inr}
use Rattle.std.proofs.Math.Nat.{mul-div_cancel, div-mul-le_self}
use Rattle.std.proofs.lemmas.Bool.{cases_lt}
use Rattle.std.proofs.lemmas.Bool.Decides.{nat_tests}

-- the difference without the factor
pub less_factor : (gain loss power x y : ℕ) → 1 ≤ power → gain ≡ x * power → loss ≡ y * power → (gain - loss) / power ≡ x - y
less_factor gain loss power x y some e f =
    let same : gain - loss ≡ (x - y) * power = go (cases_lt x y) in
    ap (λ z. z / power) same ∙ mul-div_cancel (x - y) {n = power} some
  where
    go : (x < y) ⊎ (y ≤ x) → gain - loss ≡ (x - y) * power
    go (inl lt) = let none : x - y ≡ 0 = omega (arith, lt) in rw none (omega (arith, e, f, mul-le-mul_left power lt))
    go (inr le) = omega (arith, e, f, times x y le)
      where
        times : (x y : ℕ) → y ≤ x → x * power ≡ (x - y) * power + y * power
        times x y le = let parts : x ≡ (x - y) + y = omega (arith, le) in ap (λ z. z * power) parts ∙ omega arith

-- no gain after a loss that is greater
short : (gain loss power x y : ℕ) → gain ≡ x * power → loss ≡ y * power → gain < loss → x < y
short gain loss power x y e f lt = go (cases_lt x y)
  where
    go : (x < y) ⊎ (y ≤ x) → x < y
    go (inl less) = less
    go (inr le) = absurd (omega (arith, e, f, lt, mul-le-mul_left power le))

enough : (gain loss power x y : ℕ) → 1 ≤ power → gain ≡ x * power → loss ≡ y * power → loss ≤ gain → y ≤ x
enough gain loss power x y some e f le = go (cases_lt x y)
  where
    go : (x < y) ⊎ (y ≤ x) → y ≤ x
    go (inl less) = absurd (omega (arith, e, f, le, some, mul-le-mul_left power less))
    go (inr holds) = holds

-- ---- the tests
pub most_short : (entry gain loss power x y : ℕ) → gain ≡ x * power → loss ≡ y * power → gain < loss → false ≡ nat_le (entry + y) x
most_short entry gain loss power x y e f lt = let less = short gain loss power x y e f lt in grind (arith, nat_tests)

pub most_told : (entry gain loss power x y : ℕ) → 1 ≤ power → gain ≡ x * power → loss ≡ y * power → loss ≤ gain → nat_le entry ((gain - loss) / power) ≡ nat_le (entry + y) x
most_told entry gain loss power x y some e f le =
    let holds = enough gain loss power x y some e f le in
    ap (nat_le entry) (less_factor gain loss power x y some e f) ∙ moved entry x y holds
  where
    moved : (entry x y : ℕ) → y ≤ x → nat_le entry (x - y) ≡ nat_le (entry + y) x
    moved entry x y le = go (cases_lt x (entry + y))
      where
        go : (x < entry + y) ⊎ (entry + y ≤ x) → nat_le entry (x - y) ≡ nat_le (entry + y) x
        go (inl lt) = let less : x - y < entry = omega (arith, lt, le) in grind (arith, nat_tests)
        go (inr more) = let less : entry ≤ x - y = omega (arith, more) in grind (arith, nat_tests)

pub worth_short : (entry gain loss power x y : ℕ) → gain ≡ x * power → loss ≡ y * power → gain < loss → false ≡ nat_eq (entry + y) x
worth_short entry gain loss power x y e f lt = let less = short gain loss power x y e f lt in let apart : x < entry + y = omega (arith, less) in grind (arith, nat_tests)

pub worth_told : (entry gain loss power x y : ℕ) → 1 ≤ power → gain ≡ x * power → loss ≡ y * power → loss ≤ gain → nat_eq entry ((gain - loss) / power) ≡ nat_eq (entry + y) x
worth_told entry gain loss power x y some e f le =
    let holds = enough gain loss power x y some e f le in
    ap (nat_eq entry) (less_factor gain loss power x y some e f) ∙ moved entry x y holds
  where
    moved : (entry x y : ℕ) → y ≤ x → nat_eq entry (x - y) ≡ nat_eq (entry + y) x
    moved entry x y le = go (cases_lt x (entry + y)) (cases_lt (entry + y) x)
      where
        go : (x < entry + y) ⊎ (entry + y ≤ x) → (entry + y < x) ⊎ (x ≤ entry + y) → nat_eq entry (x - y) ≡ nat_eq (entry + y) x
        go (inl lt) other = let less : x - y < entry = omega (arith, lt, le) in grind (arith, nat_tests)
        go (inr more) (inl lt) = let less : entry < x - y = omega (arith, lt) in grind (arith, nat_tests)
        go (inr more) (inr few) = let same : entry ≡ x - y = omega (arith, more, few) in let all : entry + y ≡ x = omega (arith, more, few) in grind (arith, nat_tests)

-- what is left, with the factor, is at most the gain
pub worth_small : (entry gain loss power : ℕ) → nat_eq entry ((gain - loss) / power) ≡ true → entry * power ≤ gain
worth_small entry gain loss power same =
    let is = known entry ((gain - loss) / power) same in
    omega (arith, div-mul-le_self (gain - loss) power, ap (λ z. z * power) is)
  where
    known : (a b : ℕ) → nat_eq a b ≡ true → a ≡ b
    known a b h = grind (arith, nat_tests)
