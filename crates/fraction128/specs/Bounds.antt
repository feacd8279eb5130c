-- Bounds under which results fit, for callers that know how large the numbers are.
use Rattle.std.specs.Prelude.{ℕ, ◌+◌, ◌*◌, ◌/◌, ◌^◌, ◌<◌, ◌≤◌, ℤ, pos, ◌+ℤ◌, ◌-ℤ◌, unsigned_abs}
use Rattle.std.specs.Int.{w128}
use Rattle.std.proofs.Common.{arith}
use Rattle.std.proofs.Math.Nat.{mul-le-mul_left, div-le_self}
use Rattle.std.proofs.lemmas.Int.{ints, unsigned_abs-mul, fits_signed_from_abs}
use Rattle.fraction128.specs.Arithmetic.{cross, raised_num, common_den, TotalFits, SumFits, DifferenceFits, QuotientFits}
use Rattle.fraction128.specs.Lowest.{abs-lowest_num}
use Rattle.fraction128.specs.Reduced.{gcd_of, lowest_num}
use Rattle.fraction128.specs.declared.frac.Frac.{Frac}

raised_le_cross : (x y : Frac) → unsigned_abs (raised_num x y) ≤ unsigned_abs (cross x y)
raised_le_cross x y =
    let size : ℕ = unsigned_abs x.num in
    let part : ℕ = y.den / gcd_of x.den y.den in
    omega (arith, unsigned_abs-mul x.num (pos part), unsigned_abs-mul x.num (pos y.den), mul-le-mul_left size (div-le_self y.den (gcd_of x.den y.den)))

common_den_le : (x y : Frac) → common_den x y ≤ x.den * y.den
common_den_le x y = mul-le-mul_left x.den (div-le_self y.den (gcd_of x.den y.den))

TotalFits-from_bounds : (x y : Frac) (total : ℤ) → unsigned_abs total ≤ unsigned_abs (raised_num x y) + unsigned_abs (raised_num y x) → unsigned_abs (cross x y) + unsigned_abs (cross y x) < 2 ^ 127 → x.den * y.den < 2 ^ 128 → TotalFits x y total
TotalFits-from_bounds x y total small nums den =
    let first = raised_le_cross x y in
    let second = raised_le_cross y x in
    record {
      nums = record { first = fits_signed_from_abs w128 (raised_num x y) (omega arith); second = fits_signed_from_abs w128 (raised_num y x) (omega arith) };
      num = fits_signed_from_abs w128 total (omega arith);
      den = omega (arith, common_den_le x y, div-le_self (common_den x y) (gcd_of (unsigned_abs total) (common_den x y)));
    }

pub SumFits-from_bounds : (x y : Frac) → unsigned_abs (cross x y) + unsigned_abs (cross y x) < 2 ^ 127 → x.den * y.den < 2 ^ 128 → SumFits x y
SumFits-from_bounds x y nums den = TotalFits-from_bounds x y (raised_num x y +ℤ raised_num y x) (abs-add_le (raised_num x y) (raised_num y x)) nums den
  where
    abs-add_le : (a b : ℤ) → unsigned_abs (a +ℤ b) ≤ unsigned_abs a + unsigned_abs b
    abs-add_le a b = omega (arith, ints)

pub DifferenceFits-from_bounds : (x y : Frac) → unsigned_abs (cross x y) + unsigned_abs (cross y x) < 2 ^ 127 → x.den * y.den < 2 ^ 128 → DifferenceFits x y
DifferenceFits-from_bounds x y nums den = TotalFits-from_bounds x y (raised_num x y -ℤ raised_num y x) (abs-sub_le (raised_num x y) (raised_num y x)) nums den
  where
    abs-sub_le : (a b : ℤ) → unsigned_abs (a -ℤ b) ≤ unsigned_abs a + unsigned_abs b
    abs-sub_le a b = omega (arith, ints)

pub QuotientFits-from_bounds : (num : ℤ) (den : ℕ) → unsigned_abs num < 2 ^ 127 → den < 2 ^ 128 → QuotientFits num den
QuotientFits-from_bounds num den small_num small_den =
    let g : ℕ = gcd_of (unsigned_abs num) den in
    record {
      reduced_num = fits_signed_from_abs w128 (lowest_num num den) (omega (arith, abs-lowest_num num den, div-le_self (unsigned_abs num) g));
      reduced_den = omega (arith, div-le_self den g);
    }
