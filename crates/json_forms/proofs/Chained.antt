-- Steps of a reading, one after another.
use Rattle.std.proofs.Common.{◌≡◌, Result, Ok, Err, sym, ap, ◌∙◌, subst}
use Rattle.json_forms.specs.declared.fault.InstanceFault.{InstanceFault}
use Rattle.json_forms.specs.declared.fault.InstanceErr.{InstanceErr}
use Rattle.json_forms.specs.declared.fault.InstanceErr.TheVariants.{Bad, Memory}
use Rattle.json_forms.specs.declared.fault.FieldFault.{FieldFault}
use Rattle.json_forms.specs.declared.fault.FieldErr.{FieldErr}
use Rattle.json_forms.specs.declared.fault.FieldErr.TheVariants as field
use Rattle.json_forms.specs.Faults.{Gives, GivesField}
use Rattle.json_forms.specs.Steps.{◌>>=◌}

-- a refused step ends the reading
pub gives_refused : {A B : Type 0} (e : InstanceErr) (step : Result A InstanceFault) (rest : A → Result B InstanceFault) → Gives (Err e) step → Gives (Err e) (step >>= rest)
gives_refused (Bad f) step rest h = ap (λ r. r >>= rest) h
gives_refused Memory step rest h = tt

-- after a step that was taken, the rest decides
pub gives_rest : {A B : Type 0} (answer : Result B InstanceErr) (step : Result A InstanceFault) (rest : A → Result B InstanceFault) (a : A) → step ≡ Ok a → Gives answer (rest a) → Gives answer (step >>= rest)
gives_rest answer step rest a h g = subst (λ r. Gives answer (r >>= rest)) (sym h) g

-- the steps were taken, one and all
pub taken : {A B : Type 0} (step : Result A InstanceFault) (rest : A → Result B InstanceFault) (a : A) (b : B) → step ≡ Ok a → rest a ≡ Ok b → (step >>= rest) ≡ Ok b
taken step rest a b h g = ap (λ r. r >>= rest) h ∙ g

-- the same within the value of a key
pub field_refused : {A B : Type 0} (e : FieldErr) (step : Result A FieldFault) (rest : A → Result B FieldFault) → GivesField (Err e) step → GivesField (Err e) (step >>= rest)
field_refused (field.Bad f) step rest h = ap (λ r. r >>= rest) h
field_refused field.Memory step rest h = tt

pub field_rest : {A B : Type 0} (answer : Result B FieldErr) (step : Result A FieldFault) (rest : A → Result B FieldFault) (a : A) → step ≡ Ok a → GivesField answer (rest a) → GivesField answer (step >>= rest)
field_rest answer step rest a h g = subst (λ r. GivesField answer (r >>= rest)) (sym h) g

-- the steps of a reading whose first fault ends it
pub ruleset steps = (gives_refused, gives_rest, taken)
