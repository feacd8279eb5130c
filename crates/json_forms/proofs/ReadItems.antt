-- The items of a list, one after another.
use Rattle.std.proofs.Common.{◌≡◌, ℕ, suc, ◌+◌, ◌<◌, List, [], ◌∷◌, ◌++◌, length, map, drop, get_or, Result, Ok, Err, refl, sym, ap, subst, ◌∙◌, append_assoc, add-one, drop-cons}
use Rattle.serde_json.specs.Data.{Data}
use Rattle.serde_json.specs.View.{view}
use Rattle.serde_json.specs.declared.value.Value.{Value}
use Rattle.json_forms.specs.declared.fault.KeyList.{KeyList}
use Rattle.json_forms.specs.declared.fault.InstanceFault.{InstanceFault}
use Rattle.json_forms.specs.declared.fault.InstanceErr.{InstanceErr}
use Rattle.json_forms.specs.declared.fault.InstanceErr.TheVariants.{Bad, Memory}
use Rattle.json_forms.specs.Faults.{Gives, of_item, item_err}
use Rattle.json_forms.specs.Steps.{◌>>=◌}
use Rattle.json_forms.specs.Items.{items_from}
use Rattle.json_forms.proofs.Chained.{gives_refused}

-- the refusal of an item is told of the item
pub gives_item : {A : Type 0} (list : KeyList) (place : ℕ) (e : InstanceErr) (reading : Result A InstanceFault) → Gives (Err e) reading → Gives (Err (item_err list place e)) (of_item list place reading)
gives_item list place (Bad f) reading h = ap (of_item list place) h
gives_item list place Memory reading h = tt

-- what was read before stands in front
after : {A : Type 0} (done : List A) (a : A) (rest : Result (List A) InstanceFault) → ((rest >>= λ xs. Ok (a ∷ xs)) >>= λ xs. Ok (done ++ xs)) ≡ (rest >>= λ xs. Ok ((done ++ a ∷ []) ++ xs))
after done a (Ok xs) = ap Ok (sym (append_assoc done (a ∷ []) xs))
after done a (Err f) = refl

first_read : {A : Type 0} (list : KeyList) (place : ℕ) (reading : Data → Result A InstanceFault) (d : Data) (ds : List Data) (done : List A) (a : A) → of_item list place (reading d) ≡ Ok a
    → (items_from list place reading (d ∷ ds) >>= λ xs. Ok (done ++ xs)) ≡ (items_from list (suc place) reading ds >>= λ xs. Ok ((done ++ a ∷ []) ++ xs))
first_read {A} list place reading d ds done a is =
    ap (λ (step : Result A InstanceFault). (step >>= λ x. items_from list (suc place) reading ds >>= λ rest. Ok (x ∷ rest)) >>= λ xs. Ok (done ++ xs)) is
    ∙ after done a (items_from list (suc place) reading ds)

next_is : (all : List Value) (i : ℕ) (v : Value) → i < length all → v ≡ get_or all i v → drop i all ≡ v ∷ drop (suc i) all
next_is all i v lt read = drop-cons all i v lt ∙ ap (λ (x : Value). x ∷ drop (suc i) all) (sym read)

-- one object more is read
pub items_more : {A : Type 0} (list : KeyList) (place : ℕ) (reading : Data → Result A InstanceFault) (all : List Value) (i : ℕ) (v : Value) (done : List A) (a : A) → i < length all → v ≡ get_or all i v → of_item list place (reading (view v)) ≡ Ok a
    → (items_from list place reading (map view (drop i all)) >>= λ xs. Ok (done ++ xs)) ≡ (items_from list (place + 1) reading (map view (drop (i + 1) all)) >>= λ xs. Ok ((done ++ a ∷ []) ++ xs))
items_more list place reading all i v done a lt is read =
    ap (λ (vs : List Value). items_from list place reading (map view vs) >>= λ xs. Ok (done ++ xs)) (next_is all i v lt is)
    ∙ first_read list place reading (view v) (map view (drop (suc i) all)) done a read
    ∙ ap (λ (k : ℕ). items_from list (suc place) reading (map view (drop k all)) >>= λ xs. Ok ((done ++ a ∷ []) ++ xs)) (sym (add-one i))
    ∙ ap (λ (k : ℕ). items_from list k reading (map view (drop (i + 1) all)) >>= λ xs. Ok ((done ++ a ∷ []) ++ xs)) (sym (add-one place))

-- the first object is refused
pub items_refused : {A : Type 0} (list : KeyList) (place : ℕ) (reading : Data → Result A InstanceFault) (all : List Value) (i : ℕ) (v : Value) (done : List A) (e : InstanceErr) → i < length all → v ≡ get_or all i v → Gives (Err e) (of_item list place (reading (view v)))
    → Gives (Err e) (items_from list place reading (map view (drop i all)) >>= λ xs. Ok (done ++ xs))
items_refused list place reading all i v done e lt is refused =
    subst (λ (vs : List Value). Gives (Err e) (items_from list place reading (map view vs) >>= λ xs. Ok (done ++ xs))) (sym (next_is all i v lt is))
    (gives_refused e _ _ (gives_refused e (of_item list place (reading (view v))) _ refused))
