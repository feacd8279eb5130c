-- A map from names to their last places, one name after another.
use Rattle.std.proofs.Common.{◌≡◌, ℕ, zero, suc, ◌+◌, ◌<◌, List, [], ◌∷◌, length, map, get_or, Bool, true, false, cond, Option, Some, Bor, refl, sym, ap, ◌∙◌, arith, add-one}
use Rattle.std.specs.Str.{bytes_eq}
use Rattle.std.specs.HashMap as hash
use Rattle.std.specs.HashMap.{HashMap, get_by}
use Rattle.std.proofs.lemmas.Slice.Eq.{bytes_eq-Decides}
use Rattle.std.proofs.lemmas.Map.Text.{hash_map_updates_str}
use Rattle.serde_json.specs.View.{view}
use Rattle.serde_json.specs.declared.value.Value.{Value}
use Rattle.json_forms.specs.NodeNames.{Name}
use Rattle.network_json.specs.Names.{place_below, name_under, names_in}

same_test : (a b : Bool) → (a ≡ true → b ≡ true) → (b ≡ true → a ≡ true) → a ≡ b
same_test true b f g = sym (f refl)
same_test false true f g = g refl
same_test false false f g = refl

bytes_eq-sym : (xs ys : List ℕ) → bytes_eq xs ys ≡ bytes_eq ys xs
bytes_eq-sym xs ys = same_test (bytes_eq xs ys) (bytes_eq ys xs) (λ e. (bytes_eq-Decides ys xs).1 (sym ((bytes_eq-Decides xs ys).0 e))) (λ e. (bytes_eq-Decides xs ys).1 (sym ((bytes_eq-Decides ys xs).0 e)))

name_at_index : (nodes : List Value) (i : ℕ) (v : Value) → i < length nodes → v ≡ get_or nodes i v → get_or (names_in (map view nodes)) i [] ≡ name_under (view v)
name_at_index [] i v lt is = absurd (omega arith)
name_at_index (n ∷ ns) zero v lt is = ap (λ (x : Value). name_under (view x)) (sym is)
name_at_index (n ∷ ns) (suc i) v lt is = name_at_index ns i v (omega arith) is

-- one name more has a place
pub places_more : {S : Type 0} (m n : HashMap (Bor (List ℕ)) ℕ S) (nodes : List Value) (i : ℕ) (v : Value) (key : Name) → i < length nodes → v ≡ get_or nodes i v → key ≡ name_under (view v)
    → ((name : Name) → get_by (λ k. bytes_eq name k.now) m ≡ place_below (names_in (map view nodes)) name i)
    → hash.UpdatesBy (λ x y. bytes_eq x.now y.now) (λ k. bytes_eq key k.now) m n (Some i)
    → (name : Name) → get_by (λ k. bytes_eq name k.now) n ≡ place_below (names_in (map view nodes)) name (i + 1)
places_more m n nodes i v key lt is named before updates name =
    let names = names_in (map view nodes) in
    let same : bytes_eq key name ≡ bytes_eq name (get_or names i []) = bytes_eq-sym key name ∙ ap (bytes_eq name) (named ∙ sym (name_at_index nodes i v lt is)) in
    hash_map_updates_str key m n (Some i) updates name
    ∙ ap (λ (o : Option ℕ). cond (bytes_eq key name) (Some i) o) (before name)
    ∙ ap (λ (b : Bool). cond b (Some i) (place_below names name i)) same
    ∙ ap (place_below names name) (sym (add-one i))

within-at : (b : Bool) (n k : ℕ) (rest : Option ℕ) → (rest ≡ Some k → k < n) → cond b (Some n) rest ≡ Some k → k < suc n
within-at true n k rest later e = let same : n ≡ k = cc in omega arith
within-at false n k rest later e = omega (arith, later e)

-- a place is one of the names'
pub place_within : (names : List Name) (name : Name) (n k : ℕ) → place_below names name n ≡ Some k → k < n
place_within names name zero k e = cc
place_within names name (suc n) k e = within-at (bytes_eq name (get_or names n [])) n k (place_below names name n) (place_within names name n k) e

pub names_count : (nodes : List Value) → length (names_in (map view nodes)) ≡ length nodes
names_count [] = refl
names_count (n ∷ ns) = ap suc (names_count ns)
