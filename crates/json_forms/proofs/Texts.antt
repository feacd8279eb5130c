-- Names of nodes are texts.
use Rattle.std.proofs.Common.{◌≡◌, ℕ, ◌<◌, ◌≤◌, List, [], ◌∷◌, All, length, Bool, true, false, cond, ◌&&◌, refl, ap, arith}
use Rattle.std.specs.Prelude.{◌||◌, not, nat_le}
use Rattle.std.specs.List.{list_all}
use Rattle.std.specs.Str.{IsUtf8, is_utf8, bytes_eq}
use Rattle.std.proofs.lemmas.Bool.{leb-true, eqb-true}
use Rattle.std.proofs.lemmas.List.Elements.{All-cons, All-nil}
use Rattle.std.proofs.lemmas.Str.{IsUtf8-from_ascii, is_utf8-from_IsUtf8, IsUtf8-from_is_utf8}
use Rattle.std.proofs.lemmas.Str.Ascii.{IsAscii-from_all}
use Rattle.model_terms.specs.Limits.{most_name}
use Rattle.model_terms.specs.Names.{is_from_to, is_name_byte, is_node_name, outside}
use Rattle.json_forms.specs.NodeNames.{Name, name_text}

pub text_of_valid : (name : Name) → IsUtf8 name → name_text name ≡ name
text_of_valid name valid = ap (λ (b : Bool). cond b name []) (is_utf8-from_IsUtf8 name valid)

none_of : (name : Name) (b : Bool) → (b ≡ true → ⊥) → cond b name [] ≡ []
none_of name true invalid = absurd (invalid refl)
none_of name false invalid = refl

pub text_of_invalid : (name : Name) → (IsUtf8 name → ⊥) → name_text name ≡ []
text_of_invalid name invalid = none_of name (is_utf8 name) (λ e. invalid (IsUtf8-from_is_utf8 name e))

-- ---- tests
pub both : (a b : Bool) → (a && b) ≡ true → (a ≡ true) × (b ≡ true)
both true true e = (refl, refl)
both true false e = cc
both false b e = cc

pub is_false : (b : Bool) → not b ≡ true → b ≡ false
is_false true e = cc
is_false false e = refl

all_four : (a b c d : Bool) → (a && b && c && d) ≡ true → (a ≡ true) × (b ≡ true) × (c ≡ true) × (d ≡ true)
all_four true true true true e = (refl, refl, refl, refl)
all_four true true true false e = cc
all_four true true false d e = cc
all_four true false c d e = cc
all_four false b c d e = cc

one_of : {P : Type 0} (a b c d e : Bool) → (a || b || c || d || e) ≡ true → (a ≡ true → P) → (b ≡ true → P) → (c ≡ true → P) → (d ≡ true → P) → (e ≡ true → P) → P
one_of true b c d e h f g i j k = f refl
one_of false true c d e h f g i j k = g refl
one_of false false true d e h f g i j k = i refl
one_of false false false true e h f g i j k = j refl
one_of false false false false true h f g i j k = k refl
one_of false false false false false h f g i j k = cc

-- ---- a name is a text
from_to_most : (least most c : ℕ) → is_from_to least most c ≡ true → c ≤ most
from_to_most least most c e = leb-true c most (both (nat_le least c) (nat_le c most) e).1

byte_small : (c : ℕ) → is_name_byte c ≡ true → c < 128
byte_small c e =
    one_of _ _ _ _ _ e
    (λ h. omega (arith, from_to_most 97 122 c h))
    (λ h. omega (arith, from_to_most 65 90 c h))
    (λ h. omega (arith, from_to_most 48 57 c h))
    (λ h. omega (arith, eqb-true c 95 h))
    (λ h. omega (arith, eqb-true c 45 h))

bytes_small : (bs : List ℕ) → list_all is_name_byte bs ≡ true → All (λ b. b < 128) bs
bytes_small [] e = All-nil (λ b. b < 128)
bytes_small (b ∷ bs) e =
    let parts = both (is_name_byte b) (list_all is_name_byte bs) e in
    All-cons (λ c. c < 128) b bs (byte_small b parts.0) (bytes_small bs parts.1)

text_of_bytes : (name : Name) → list_all is_name_byte name ≡ true → name_text name ≡ name
text_of_bytes name small = text_of_valid name (IsUtf8-from_ascii name (IsAscii-from_all name (bytes_small name small)))

pub outside_text : name_text outside ≡ outside
outside_text = text_of_bytes outside refl

-- what makes the name of a node
record IsName (name : Name) : Type 0 where
  bytes : list_all is_name_byte name ≡ true
  node : bytes_eq name outside ≡ false

is_name : (name : Name) → is_node_name name ≡ true → IsName name
is_name name is =
    let parts = all_four (nat_le 1 (length name)) (nat_le (length name) most_name) (list_all is_name_byte name) (not (bytes_eq name outside)) is in
    record { bytes = parts.2; node = is_false (bytes_eq name outside) parts.3 }

pub not_outside : (name : Name) → is_node_name name ≡ true → bytes_eq name outside ≡ false
not_outside name is = (is_name name is).node

pub name_text_is : (name : Name) → is_node_name name ≡ true → name_text name ≡ name
name_text_is name is = text_of_bytes name (is_name name is).bytes
