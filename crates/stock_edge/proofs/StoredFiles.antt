-- Looking up names in a store of files.
use Rattle.std.proofs.Common.{◌≡◌, ℕ, List, [], ◌∷◌, Bool, true, false, cond, Some, Vec, String, Global, string_bytes, refl, ap, sym, ◌∙◌}
use Rattle.std.specs.declared.option.Option.{Option}
use Rattle.std.specs.Prelude.{map}
use Rattle.std.specs.Map.{lookup}
use Rattle.std.specs.Option.{option_map}
use Rattle.std.specs.Str.{bytes_eq}
use Rattle.stock_edge.specs.HeldFiles.{NamedFiles, held_in, held_with}

-- a choice between a value and what more has, where both are seen by f
chosen : {X Y : Type 0} (f : X → Y) (b : Bool) (x : X) (rest : Option Y) (more : Option X) → rest ≡ option_map f more → cond b (Some (f x)) rest ≡ option_map f (cond b (Some x) more)
chosen f true x rest more h = refl
chosen f false x rest more h = h

-- what is looked up where the keys and the values are seen by f and g
lookup-map : {K L X Y : Type 0} (f : K → L) (g : X → Y) (test : L → Bool) (es : List (K × X)) → lookup test (map (λ e. (f e.0, g e.1)) es) ≡ option_map g (lookup (λ k. test (f k)) es)
lookup-map f g test [] = refl
lookup-map f g test (e ∷ es) = chosen g (test (f e.0)) e.1 _ _ (lookup-map f g test es)

-- the store's entries as names with their bytes
abbrev pub seen : List (String Global × Vec ℕ Global) → NamedFiles
seen entries = map (λ entry. (string_bytes entry.0, entry.1.items)) entries

-- a name has the bytes that the store's look-up finds
pub held_in-seen : (name : List ℕ) (entries : List (String Global × Vec ℕ Global)) → held_in (seen entries) name ≡ option_map (λ v. v.items) (lookup (λ k. bytes_eq name (string_bytes k)) entries)
held_in-seen name entries = lookup-map string_bytes (λ v. v.items) (bytes_eq name) entries

-- the same of files that are known to be the store's
pub held_found : (files : NamedFiles) (name : List ℕ) (entries : List (String Global × Vec ℕ Global)) (found : Option (Vec ℕ Global)) → seen entries ≡ files → found ≡ lookup (λ k. bytes_eq name (string_bytes k)) entries
    → held_in files name ≡ option_map (λ v. v.items) found
held_found files name entries found e h = ap (λ t. held_in t name) (sym e) ∙ held_in-seen name entries ∙ ap (option_map (λ v. v.items)) (sym h)

-- a look-up after one value was put in, seen by its bytes
pub held_after : (old new : List (String Global × Vec ℕ Global)) (name other : List ℕ) (v : Vec ℕ Global)
    → lookup (λ k. bytes_eq other (string_bytes k)) new ≡ cond (bytes_eq name other) (Some v) (lookup (λ k. bytes_eq other (string_bytes k)) old)
    → held_in (seen new) other ≡ held_with (held_in (seen old)) name v.items other
held_after old new name other v h =
    held_in-seen other new ∙ ap (option_map (λ w. w.items)) h ∙ sym (chosen (λ w. w.items) (bytes_eq name other) v _ _ (held_in-seen other old))

-- the same at every name, of files that are known to be the store's
pub held_added : (old new : List (String Global × Vec ℕ Global)) (files : NamedFiles) (key name : List ℕ) (v : Vec ℕ Global) (bytes : List ℕ) → seen old ≡ files → key ≡ name → v.items ≡ bytes
    → ((other : List ℕ) → lookup (λ k. bytes_eq other (string_bytes k)) new ≡ cond (bytes_eq key other) (Some v) (lookup (λ k. bytes_eq other (string_bytes k)) old))
    → held_in (seen new) ≡ held_with (held_in files) name bytes
held_added old new files key name v bytes e n b h = rw (← e, ← n, ← b) (λ i. λ other. held_after old new key other v (h other) i)
