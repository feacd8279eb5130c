-- What is proved of each kind of certificates.
use Rattle.std.proofs.Common.{◌≡◌, List, [], ◌∷◌, ◌++◌, true, false, ℤ, pos, negsuc, Some, refl, sym}
use Rattle.std.specs.Prelude.{◌&&◌, int_le, unsigned_abs}
use Rattle.std.proofs.lemmas.Bool.{false≢true}
use Rattle.decision_model.specs.declared.kinds.Kind.{Kind}
use Rattle.value_cert.specs.Grammar.{takes_discount, place_from, has_ended}
use Rattle.value_cert.specs.GrammarFacts.{walk_from}
use Rattle.value_cert.specs.Kinds.{contents_of, table_of, has_certificates}
use Rattle.value_cert.specs.NumberFacts.{both}
use Rattle.value_cert.specs.Numbers.{is_natural, is_discount, is_one, is_no_discount, is_number}
use Rattle.value_cert.specs.RuleTests.{same_number}
use Rattle.value_cert.specs.Texts.{cert_lines, IsComplete}
use Rattle.value_cert.specs.declared.cert.Cert.{Cert}
use Rattle.value_cert.specs.declared.line.CertLine.{CertLine}
use Rattle.value_cert.specs.declared.line.CertLine.TheVariants.{Head, End}
use Rattle.value_cert.specs.declared.line.Tag.{Tag}
use Rattle.value_cert.specs.declared.line.Tag.TheVariants as tag
use Rattle.value_cert.specs.declared.place.Place.{Place}
use Rattle.value_cert.specs.declared.place.Place.TheVariants as place

-- lines go on from a place to the end of a certificate
pub record HasRest (at : Place) : Type 0 where
  pub rest : List CertLine
  pub ends : has_ended (place_from (Some at) rest) ≡ true

-- a certificate that is complete has these lines
pub record Tells (c : Cert) (lines : List CertLine) : Type 0 where
  pub complete : IsComplete c
  pub is : cert_lines c ≡ lines

-- of a kind, and of the certificate that lines behind its head tell
pub record KindFacts (kind : Kind) (cert_in : ℤ → ℤ → List CertLine → Cert) : Type 0 where
  pub discount : (num den : ℤ) → takes_discount kind num den ≡ true → is_discount num den ≡ true
  pub plain : (num den : ℤ) → takes_discount kind num den ≡ true → has_certificates kind ≡ true
  pub last : (next : Tag) → (table_of kind).follows tag.End next ≡ false
  pub first : (num den : ℤ) → takes_discount kind num den ≡ true → HasRest (place.Behind kind tag.Head)
  pub further : (last next : Tag) → (table_of kind).follows last next ≡ true → HasRest (place.Behind kind next)
  pub tells : (num den : ℤ) (lines : List CertLine) → takes_discount kind num den ≡ true
      → has_ended (place_from (Some (place.Behind kind tag.Head)) lines) ≡ true → Tells (cert_in num den lines) (Head kind num den ∷ lines)

-- a certificate is what its lines tell, and behind them it has ended
pub record IsTold (c : Cert) (cert_in : ℤ → ℤ → List CertLine → Cert) : Type 0 where
  pub is : IsComplete c → cert_in (pos (contents_of c).head.num) (pos (contents_of c).head.den) ((contents_of c).lines ++ End ∷ []) ≡ c
  pub ends : IsComplete c → has_ended (walk_from (Some (place.Behind (contents_of c).head.kind tag.Head)) ((contents_of c).lines ++ End ∷ [])) ≡ true

-- a natural number is one of ℕ
pub natural_is : (z : ℤ) → is_natural z ≡ true → pos (unsigned_abs z) ≡ z
natural_is (pos n) h = refl
natural_is (negsuc n) h = absurd (false≢true h)

-- the numbers of a discount
pub discount_is : (num den : ℤ) → is_discount num den ≡ true → (pos (unsigned_abs num) ≡ num) × (pos (unsigned_abs den) ≡ den)
discount_is (pos num) (pos den) h = (refl, refl)
discount_is (pos num) (negsuc den) h = absurd (false≢true (both (int_le (pos 1) (pos num)) false (both (int_le (pos 1) (pos num) && false) (int_le (negsuc den) (pos 1000)) h).0).1)
discount_is (negsuc num) den h = cc

-- 1/1
pub one_is : (num den : ℤ) → is_one num den ≡ true → (num ≡ pos 1) × (den ≡ pos 1)
one_is num den h =
    let one = both (is_number (pos 1) num) (is_number (pos 1) den) h in
    (sym (same_number (pos 1) num one.0), sym (same_number (pos 1) den one.1))

-- no discount is the discount 1/1
pub no_discount_small : (num den : ℤ) → is_no_discount num den ≡ true → is_discount num den ≡ true
no_discount_small num den h = (both (is_discount num den) (is_one num den) h).0

pub no_discount_is : (num den : ℤ) → is_no_discount num den ≡ true → (num ≡ pos 1) × (den ≡ pos 1)
no_discount_is num den h = one_is num den (both (is_discount num den) (is_one num den) h).1
