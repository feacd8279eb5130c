-- A breach here, or one further on.
use Rattle.std.proofs.Common.{◌≡◌, ℕ, List, Option, Some, None, refl}
use Rattle.line_text.specs.Breaches.{Breach, breach_behind, breach_or}

pub none_here : {L : Type 0} (before : List L) (rule : Option ℕ) (further : Option Breach) → breach_or before rule further ≡ None → rule ≡ None
none_here before None further h = refl
none_here before (Some r) further h = cc

pub none_further : {L : Type 0} (before : List L) (rule : Option ℕ) (further : Option Breach) → breach_or before rule further ≡ None → further ≡ None
none_further before None further h = h
none_further before (Some r) further h = cc

pub or_none : {L : Type 0} (before : List L) (rule : Option ℕ) (further : Option Breach) → rule ≡ None → breach_or before rule further ≡ further
or_none before None further h = refl
or_none before (Some r) further h = cc

pub or_some : {L : Type 0} (before : List L) (rule : Option ℕ) (further : Option Breach) (r : ℕ) → rule ≡ Some r → breach_or before rule further ≡ Some (breach_behind before r)
or_some before rule further r h = rw h refl

pub or_more : {L : Type 0} (before : List L) (rule : Option ℕ) (further more : Option Breach) (b : Breach) → (further ≡ Some b → more ≡ Some b) → breach_or before rule further ≡ Some b → breach_or before rule more ≡ Some b
or_more before None further more b next h = next h
or_more before (Some r) further more b next h = h
