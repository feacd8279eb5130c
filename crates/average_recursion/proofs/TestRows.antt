-- Rows of tests, by those that are decided.
use Rattle.std.proofs.Common.{◌≡◌, Bool, true, false, ◌&&◌, refl}

-- the third one fails
pub third_fails : (a b c d : Bool) → c ≡ false → false ≡ (a && b && c && d)
third_fails a b c d e = rw e (by a b)
  where
    by : (a b : Bool) → false ≡ (a && b && false && d)
    by true true = refl
    by true false = refl
    by false b = refl

-- the last one decides
pub last_decides : (a b c d : Bool) → a ≡ true → b ≡ true → c ≡ true → d ≡ (a && b && c && d)
last_decides a b c d e f g = rw (e, f, g) refl

-- a test beside one that passes
pub beside : (a b : Bool) → b ≡ true → a ≡ (a && b)
beside true b e = rw e refl
beside false b e = refl
