-- Numbers that have to be others, and rules behind tests.
use Rattle.std.proofs.Common.{◌≡◌, ◌≢◌, ℕ, ℤ, Bool, true, false, cond, Option, None, Some, refl, arith}
use Rattle.std.specs.Prelude.{int_le}
use Rattle.std.proofs.lemmas.Bool.{and_parts, and_from, false_from_ne_true}
use Rattle.std.proofs.lemmas.Int.{ints}
use Rattle.decision_model.specs.PositionTests.{le_test, le_known}
use Rattle.value_cert.specs.Numbers.{is_number}

-- a number is this one
pub same_number : (a b : ℤ) → is_number a b ≡ true → a ≡ b
same_number a b h =
    let tests = and_parts (int_le a b) (int_le b a) h in
    omega (arith, ints, le_known a b tests.0, le_known b a tests.1)

-- and this number is one
pub number_at : (a b : ℤ) → a ≡ b → is_number a b ≡ true
number_at a b e = and_from (int_le a b) (int_le b a) (le_test a b (omega (arith, ints, e))) (le_test b a (omega (arith, ints, e)))

-- two numbers that differ
pub number_other : (a b : ℤ) → a ≢ b → is_number a b ≡ false
number_other a b differ = false_from_ne_true (is_number a b) (λ same. differ (same_number a b same))

-- a rule that isn't broken, and what comes behind it
pub rule_passed : (test : Bool) (rest : Option ℕ) (rule : ℕ) → cond test rest (Some rule) ≡ None → (test ≡ true) × (rest ≡ None)
rule_passed true rest rule h = (refl, h)
rule_passed false rest rule h = cc

-- a test that is passed breaks no rule, if none behind it does
pub passing_rule : (test : Bool) (rest : Option ℕ) (rule : ℕ) → test ≡ true → rest ≡ None → cond test rest (Some rule) ≡ None
passing_rule test rest rule e f = rw (e, f) refl
