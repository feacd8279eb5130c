-- The refusal of a key's value.
use Rattle.std.proofs.Common.{◌≡◌, List, ℕ, Option, Some, Result, Ok, Err, sym, ap, ◌∙◌, subst}
use Rattle.serde_json.specs.Data.{Data}
use Rattle.serde_json.specs.Find.{get}
use Rattle.json_forms.specs.declared.fault.FieldFault.{FieldFault}
use Rattle.json_forms.specs.declared.fault.FieldErr.{FieldErr}
use Rattle.json_forms.specs.declared.fault.FieldErr.TheVariants as field
use Rattle.json_forms.specs.declared.fault.InstanceErr.{InstanceErr}
use Rattle.json_forms.specs.declared.fault.InstanceErr.TheVariants.{Bad, Memory}
use Rattle.json_forms.specs.Faults.{Gives, GivesField, IsKeyErr, of_key}
use Rattle.json_forms.specs.Keys.{given_value, given}
use Rattle.json_forms.proofs.Chained.{gives_refused}

gives_key : {A : Type 0} (name : List ℕ) (e : FieldErr) (t : InstanceErr) (reading : Result A FieldFault) → GivesField (Err e) reading → IsKeyErr name e t → Gives (Err t) (of_key name reading)
gives_key name e Memory reading reads is = tt
gives_key name (field.Bad f) (Bad g) reading reads is = ap (of_key name) reads ∙ ap Err (sym is)
gives_key name field.Memory (Bad g) reading reads is = absurd is

pub gives_given : {A : Type 0} (form : Data → Result A FieldFault) (name : List ℕ) (d v : Data) (e : FieldErr) (t : InstanceErr) → Some v ≡ get name d → GivesField (Err e) (form v) → IsKeyErr name e t → Gives (Err t) (given form name d)
gives_given form name d v e t is reads tells =
    subst (λ (o : Option Data). Gives (Err t) (given_value form name o)) is (gives_refused t (of_key name (form v)) (λ a. Ok (Some a)) (gives_key name e t (form v) reads tells))
