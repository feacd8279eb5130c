-- Numbers that are small enough stay what they are when they are stored.
use Rattle.std.proofs.Common.{rules, ◌≡◌, ◌^◌, ◌≤◌, ℤ, pos, ◌-ℤ◌, ◌≤ℤ◌, w64, FitsSigned, to_z, of_z}
use mir.Syntax.{w128}
use Rattle.std.specs.Prelude.{unsigned_abs}
use Rattle.std.proofs.lemmas.Int.{to_z-of_z}

-- a number of 128 bits
pub wide : (x : ℤ) → (pos 0 -ℤ pos (2 ^ 126)) ≤ℤ x → x ≤ℤ pos (2 ^ 126) → to_z w128 (of_z w128 x) ≡ x
wide x low high = let fits : FitsSigned w128 x = search rules in to_z-of_z w128 x fits

-- a number of 64 bits
pub near : (x : ℤ) → unsigned_abs x ≤ 4000000000 → to_z w64 (of_z w64 x) ≡ x
near x small = let fits : FitsSigned w64 x = search rules in to_z-of_z w64 x fits
