-- Tests of the order of positions.
use Rattle.std.proofs.Common.{◌≡◌, ◌≤◌, ℤ, pos, negsuc, ◌≤ℤ◌, IsTrue, sym, refl, arith}
use Rattle.std.specs.Prelude.{int_le}
use Rattle.std.proofs.lemmas.Int.{ints}
use Rattle.decision_model.specs.Positions.{above_zero}
use borrow.Author.Differences.{true_is_le, le_out}

-- a position is at most another one where the test says so
pub le_test : (a b : ℤ) → a ≤ℤ b → IsTrue (int_le a b)
le_test a b h = sym (true_is_le a b (le_out a b h))

-- and the test says so only there
pub le_known : (a b : ℤ) → IsTrue (int_le a b) → a ≤ℤ b
le_known a b h = omega (arith, ints)

-- what is above 0 is as it was
pub above_zero_is : (z : ℤ) → pos 0 ≤ℤ z → pos (above_zero z) ≡ z
above_zero_is (pos n) h = refl
above_zero_is (negsuc n) h = absurd (omega (arith, ints))

-- a number is at most what is above 0 of it
pub above_zero_least : (z : ℤ) → z ≤ℤ pos (above_zero z)
above_zero_least (pos n) = omega (arith, ints)
above_zero_least (negsuc n) = omega (arith, ints)

-- a greater number has no less above 0
pub above_zero_mono : (x y : ℤ) → x ≤ℤ y → above_zero x ≤ above_zero y
above_zero_mono (pos n) (pos k) h = omega (arith, ints)
above_zero_mono (pos n) (negsuc k) h = absurd (omega (arith, ints))
above_zero_mono (negsuc n) y h = omega arith
