-- Lists of objects that were written are read back.
use Rattle.std.proofs.Common.{◌≡◌, ℕ, suc, ◌≤◌, List, [], ◌∷◌, All, length, map, Bool, true, cond, Option, Some, None, Result, Ok, Err, refl, sym, ap, ◌∙◌, arith}
use Rattle.std.proofs.lemmas.List.{length-map}
use Rattle.serde_json.specs.Data.{Data}
use Rattle.json_forms.specs.declared.fault.KeyList.{KeyList}
use Rattle.json_forms.specs.declared.fault.FieldFault.{FieldFault}
use Rattle.json_forms.specs.declared.fault.FieldFault.TheVariants.{WrongType}
use Rattle.json_forms.specs.declared.fault.InstanceFault.{InstanceFault}
use Rattle.json_forms.specs.Steps.{◌>>=◌}
use Rattle.json_forms.specs.Numbers.{items_in, of_length_within}
use Rattle.json_forms.specs.Items.{is_object, list_or_fault, all_objects, objects_in, items_from}
use Rattle.json_forms.specs.WrittenValues.{list_data}
use Rattle.json_forms.proofs.BackNumbers.{items_in-list, list_all-written, of_length_back}

pub objects_back : {A : Type 0} (least most : ℕ) (write : A → Data) (xs : List A) → ((x : A) → is_object (write x) ≡ true) → least ≤ length xs → length xs ≤ most → objects_in least most (list_data (map write xs)) ≡ Ok (map write xs)
objects_back least most write xs objects some few =
    let ds = map write xs in
    let count : length ds ≡ length xs = length-map xs write in
    ap (λ (o : Option (List Data)). list_or_fault o >>= λ listed. of_length_within least most listed >>= all_objects) (items_in-list ds)
    ∙ ap (λ (r : Result (List Data) FieldFault). r >>= all_objects) (of_length_back least most ds (omega (arith, count)) (omega (arith, count)))
    ∙ ap (λ (b : Bool). cond b (Ok ds) (Err WrongType)) (list_all-written is_object write xs objects)

pub items_back : {A : Type 0} (P : A → Type 0) (list : KeyList) (place : ℕ) (reading : Data → Result A InstanceFault) (write : A → Data) (xs : List A) → ((x : A) → P x → reading (write x) ≡ Ok x) → All P xs → items_from list place reading (map write xs) ≡ Ok xs
items_back P list place reading write [] back all = refl
items_back P list place reading write (x ∷ xs) back all =
    let here = back x (all 0 x (omega arith)) in
    let rest = items_back P list (suc place) reading write xs back (λ k d lt. all (suc k) d (omega arith)) in
    rw (here, rest) refl
