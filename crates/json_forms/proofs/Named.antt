-- The names of an object's members.
use Rattle.std.proofs.Common.{◌≡◌, ℕ, List, [], ◌∷◌, map, Bool, true, false, cond, string_bytes, Result, Err, refl, sym, ap, ◌∙◌, subst}
use Rattle.std.specs.Prelude.{⊤}
use Rattle.std.specs.List.{list_any}
use Rattle.std.specs.Str.{bytes_eq}
use Rattle.std.specs.Map.{keys_of}
use Rattle.serde_json.specs.View.{members_view}
use Rattle.serde_json.proofs.Views.{Entry}
use Rattle.json_forms.specs.declared.fault.InstanceFault.{InstanceFault}
use Rattle.json_forms.specs.declared.fault.InstanceFault.TheVariants.{UnknownKey}
use Rattle.json_forms.specs.declared.fault.InstanceErr.{InstanceErr}
use Rattle.json_forms.specs.declared.fault.InstanceErr.TheVariants.{Bad, Memory}
use Rattle.json_forms.specs.Faults.{Gives, MatchErr, top_key}
use Rattle.json_forms.specs.Keys.{Row, member_names, each_known}

pub member_names-members_view : (es : List Entry) → member_names (members_view es) ≡ map string_bytes (keys_of es)
member_names-members_view [] = refl
member_names-members_view (e ∷ es) = ap (λ ks. string_bytes e.0 ∷ ks) (member_names-members_view es)

-- the first key has no row
pub each_known-unknown : (rows : List Row) (k name : List ℕ) (ks : List (List ℕ)) → name ≡ k → list_any (λ row. bytes_eq row.1 name) rows ≡ false → each_known rows (k ∷ ks) ≡ Err (UnknownKey (top_key name))
each_known-unknown rows k name ks same test =
    subst (λ (l : List ℕ). each_known rows (l ∷ ks) ≡ Err (UnknownKey (top_key name))) same (ap (λ (b : Bool). cond b (each_known rows ks) (Err (UnknownKey (top_key name)))) test)

-- the first key has a row
pub each_known-known : (rows : List Row) (k name : List ℕ) (ks : List (List ℕ)) → name ≡ k → list_any (λ row. bytes_eq row.1 name) rows ≡ true → each_known rows (k ∷ ks) ≡ each_known rows ks
each_known-known rows k name ks same test =
    subst (λ (l : List ℕ). each_known rows (l ∷ ks) ≡ each_known rows ks) same (ap (λ (b : Bool). cond b (each_known rows ks) (Err (UnknownKey (top_key name)))) test)

pub gives_unknown : (t : InstanceErr) (name : List ℕ) (reading : Result ⊤ InstanceFault) → MatchErr t (λ fault. fault ≡ UnknownKey (top_key name)) → reading ≡ Err (UnknownKey (top_key name)) → Gives (Err t) reading
gives_unknown Memory name reading is e = tt
gives_unknown (Bad f) name reading is e = e ∙ ap Err (sym is)
