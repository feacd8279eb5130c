-- Keys that were written are read back.
use Rattle.std.proofs.Common.{◌≡◌, ℕ, ◌≤◌, List, Bool, true, cond, Some, None, Result, Ok, Err, refl, ap, ◌∙◌, arith}
use Rattle.serde_json.specs.Data.{Data}
use Rattle.serde_json.specs.Find.{get}
use Rattle.json_forms.specs.declared.fault.FieldFault.{FieldFault}
use Rattle.json_forms.specs.declared.fault.FieldFault.TheVariants.{OutOfRange}
use Rattle.json_forms.specs.Faults.{of_key}
use Rattle.json_forms.specs.Steps.{◌>>=◌}
use Rattle.json_forms.specs.Numbers.{amount_in}
use Rattle.json_forms.specs.Keys.{given_value, given, present, required, optional, in_range}
use Rattle.json_forms.specs.WrittenValues.{amount_data}
use Rattle.json_forms.proofs.BackNumbers.{amount_back}

-- a value that stands under a key
pub given_back : {A : Type 0} (form : Data → Result A FieldFault) (name : List ℕ) (d v : Data) (a : A) → get name d ≡ Some v → form v ≡ Ok a → given form name d ≡ Ok (Some a)
given_back form name d v a is reads = ap (given_value form name) is ∙ ap (λ r. of_key name r >>= λ x. Ok (Some x)) reads

-- a key that is absent
pub given_absent : {A : Type 0} (form : Data → Result A FieldFault) (name : List ℕ) (d : Data) → get name d ≡ None → given form name d ≡ Ok None
given_absent form name d is = ap (given_value form name) is

pub required_back : {A : Type 0} (form : Data → Result A FieldFault) (name : List ℕ) (d v : Data) (a : A) → get name d ≡ Some v → form v ≡ Ok a → required form name d ≡ Ok a
required_back form name d v a is reads = ap (λ r. r >>= present name) (given_back form name d v a is reads)

pub optional_back : {A : Type 0} (form : Data → Result A FieldFault) (default : A) (name : List ℕ) (d v : Data) (a : A) → get name d ≡ Some v → form v ≡ Ok a → optional form default name d ≡ Ok a
optional_back form default name d v a is reads = rw (given_back form name d v a is reads) refl

-- the same for a number
pub required_amount : (least most : ℕ) (name : List ℕ) (d : Data) (n : ℕ) → get name d ≡ Some (amount_data n) → least ≤ n → n ≤ most → required (amount_in least most) name d ≡ Ok n
required_amount least most name d n is above below = required_back (amount_in least most) name d (amount_data n) n is (amount_back least most n above below)

pub optional_amount : (most : ℕ) (name : List ℕ) (d : Data) (n : ℕ) → get name d ≡ Some (amount_data n) → n ≤ most → optional (amount_in 0 most) 0 name d ≡ Ok n
optional_amount most name d n is below = optional_back (amount_in 0 most) 0 name d (amount_data n) n is (amount_back 0 most n (omega arith) below)

-- a test that holds
pub in_range_back : (name : List ℕ) (holds : Bool) → holds ≡ true → in_range name holds ≡ Ok tt
in_range_back name holds is = ap (λ (b : Bool). of_key name (cond b (Ok tt) (Err OutOfRange))) is
