-- The value that bytes say.
use Rattle.std.proofs.Common.{◌≡◌, ℕ, List, Bool, true, false, cond, Some, None, Ok, Err, refl, ap, ◌∙◌}
use Rattle.std.specs.Str.{IsUtf8, is_utf8}
use Rattle.std.proofs.lemmas.Str.{is_utf8-from_IsUtf8, IsUtf8-from_is_utf8}
use Rattle.serde_json.specs.Data.{Data}
use Rattle.serde_json.specs.Read.{read}
use Rattle.json_forms.specs.declared.fault.InstanceFault.TheVariants.{NotJson}
use Rattle.json_forms.specs.Values.{value_in, value_or_fault}

pub value_in-is : (bytes : List ℕ) (d : Data) → IsUtf8 bytes → read bytes ≡ Some d → value_in bytes ≡ Ok d
value_in-is bytes d utf8 e = ap (λ (b : Bool). value_or_fault (cond b (read bytes) None)) (is_utf8-from_IsUtf8 bytes utf8) ∙ ap value_or_fault e

pub value_in-none : (bytes : List ℕ) → (IsUtf8 bytes → read bytes ≡ None) → value_in bytes ≡ Err NotJson
value_in-none bytes f = none (is_utf8 bytes) (λ t. f (IsUtf8-from_is_utf8 bytes t))
  where
    none : (b : Bool) → (b ≡ true → read bytes ≡ None) → value_or_fault (cond b (read bytes) None) ≡ Err NotJson
    none true g = ap value_or_fault (g refl)
    none false g = refl
