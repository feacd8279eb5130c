-- Whether an answer has ended a run.
use Rattle.std.proofs.Common.{◌≡◌, ◌⊎◌, inl, inr, Option, Some, None, IsSome, Result, Ok, Err, OnOk, OnErr, IfErr}
use Rattle.std.specs.Result.{result_err}

pub going : {A X : Type 0} (o : Option X) → o ≡ None → A ⊎ IsSome o → A
going None none (inl a) = a
going None none (inr ended) = cc
going (Some x) none either = cc

-- what holds after a period that none ended, where that is kept
pub ok_after : {T E A B C : Type 0} (r : Result T E) (o : Option E) → o ≡ result_err r → OnOk r A → OnOk r B → (o ≡ None → A → B → C) → OnOk r C
ok_after (Ok x) o e a b f = f e a b
ok_after (Err x) o e a b f = tt

-- .. and after one that an answer ended
pub err_after : {T E A B C : Type 0} {P Q : E → Type 0} (r : Result T E) (o : Option E) → o ≡ result_err r → IfErr r P → OnErr r A → OnErr r B → OnErr r C → ((x : E) → o ≡ Some x → P x → A → B → C → Q x) → IfErr r Q
err_after (Ok x) o e p a b c f = tt
err_after (Err x) o e p a b c f = f x e p a b c
