-- What each kind of certificates states of itself.
use Rattle.std.specs.Prelude.{List, [], ◌∷◌, Bool, ℤ, pos}
use Rattle.value_cert.specs.declared.heading.Heading.{Heading}
use Rattle.value_cert.specs.declared.line.CertLine.{CertLine}
use Rattle.value_cert.specs.declared.line.CertLine.TheVariants.{Head}
use Rattle.value_cert.specs.declared.line.Tag.{Tag}

-- which discounts the head may have, and which lines may stand behind one another
pub record Table : Type 0 where
  pub discount : ℤ → ℤ → Bool
  pub follows : Tag → Tag → Bool

-- what a certificate holds: what its head says, the lines between the head and the end, and whether each list of it has
-- as many entries as it must
pub record Contents : Type 1 where
  pub head : Heading
  pub lines : List CertLine
  pub complete : Type 0

abbrev pub head_line : Heading → CertLine
head_line heading = Head heading.kind (pos heading.num) (pos heading.den)

-- each of them is so
abbrev pub EachIs : {X : Type 0} → (X → Type 0) → List X → Type 0
EachIs P [] = Unit {0}
EachIs P (x ∷ xs) = P x × EachIs P xs
