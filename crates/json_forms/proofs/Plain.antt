-- The data that are written have no float, and nest six levels at most.
use Rattle.std.proofs.Common.{◌≡◌, ℕ, suc, ◌≤◌, min, ℤ, pos, negsuc, List, [], ◌∷◌, map, false, refl, arith}
use Rattle.std.specs.Prelude.{⊤}
use Rattle.serde_json.specs.Data.{Data, string, object, depth, items_depth, members_depth}
use Rattle.serde_json.specs.View.{items_of}
use Rattle.serde_json.specs.Written.{has_float, items_have_float, members_have_float}
use Rattle.json_forms.specs.WrittenValues.{amount_data, position_data, pair_data, point_data, points_from, list_data, amounts_data, positions_data, law_data, laws_data}
use Rattle.json_forms.specs.Members.{Named, listed}

-- no float, and at most n levels
abbrev pub IsPlain : ℕ → Data → Type 0
IsPlain n d = (has_float d ≡ false) × (depth d ≤ n)

abbrev pub ArePlain : ℕ → List Named → Type 0
ArePlain n [] = ⊤
ArePlain n (m ∷ ms) = IsPlain n m.1 × ArePlain n ms

pub deeper : (n m : ℕ) (d : Data) → n ≤ m → IsPlain n d → IsPlain m d
deeper n m d le plain = (plain.0, omega arith)

pub one_deeper : (n : ℕ) (d : Data) → IsPlain n d → IsPlain (suc n) d
one_deeper n d plain = (plain.0, omega arith)

items_plain : {A : Type 0} (n : ℕ) (f : A → Data) (xs : List A) → ((x : A) → IsPlain n (f x)) → (items_have_float (items_of (map f xs)) ≡ false) × (items_depth (items_of (map f xs)) ≤ n)
items_plain n f [] each = (refl, omega arith)
items_plain n f (x ∷ xs) each =
    let here = each x in
    let rest = items_plain n f xs each in
    (rw here.0 rest.0, omega arith)

pub list_plain : {A : Type 0} (n : ℕ) (f : A → Data) (xs : List A) → ((x : A) → IsPlain n (f x)) → IsPlain (suc n) (list_data (map f xs))
list_plain n f xs each = let items = items_plain n f xs each in (items.0, omega arith)

members_plain : (n : ℕ) (ms : List Named) → ArePlain n ms → (members_have_float (listed ms) ≡ false) × (members_depth (listed ms) ≤ n)
members_plain n [] plain = (refl, omega arith)
members_plain n (m ∷ ms) plain =
    let here = plain.0 in
    let rest = members_plain n ms plain.1 in
    (rw here.0 rest.0, omega arith)

pub object_plain : (n : ℕ) (ms : List Named) → ArePlain n ms → IsPlain (suc n) (object (listed ms))
object_plain n ms plain = let members = members_plain n ms plain in (members.0, omega arith)

-- ---- the values
pub amount_plain : (n a : ℕ) → IsPlain n (amount_data a)
amount_plain n a = (refl, omega arith)

pub text_plain : (n : ℕ) (s : List ℕ) → IsPlain n (string s)
text_plain n s = (refl, omega arith)

pub position_plain : (n : ℕ) (z : ℤ) → IsPlain n (position_data z)
position_plain n (pos k) = (refl, omega arith)
position_plain n (negsuc k) = (refl, omega arith)

pub pair_plain : (n a b : ℕ) → IsPlain (suc n) (pair_data a b)
pair_plain n a b = (refl, omega arith)

pub amounts_plain : (n : ℕ) (list : List ℕ) → IsPlain (suc n) (amounts_data list)
unfolding amounts_data
amounts_plain n list = list_plain n amount_data list (amount_plain n)

pub positions_plain : (n : ℕ) (zs : List ℤ) → IsPlain (suc n) (positions_data zs)
unfolding positions_data
positions_plain n zs = list_plain n position_data zs (position_plain n)

pub law_plain : (law : List ℕ) → IsPlain 3 (law_data law)
unfolding law_data
law_plain law = let points = list_plain 1 point_data (points_from 0 law) (λ p. pair_plain 0 p.0 (min p.1 18446744073709551615)) in (rw points.0 refl, omega arith)

pub laws_plain : (laws : List (List ℕ)) → IsPlain 4 (laws_data laws)
unfolding laws_data
laws_plain [] = (refl, omega arith)
laws_plain (law ∷ []) = deeper 3 4 _ (omega arith) (law_plain law)
laws_plain (law ∷ next ∷ laws) = list_plain 3 law_data (law ∷ next ∷ laws) law_plain

-- one law, as deep as several may be
pub one_law_plain : (law : List ℕ) → IsPlain 4 (law_data law)
one_law_plain law = deeper 3 4 (law_data law) (omega arith) (law_plain law)
