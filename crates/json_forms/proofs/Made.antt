-- A law that was made, or why none was.
use Rattle.std.proofs.Common.{◌≡◌, ℕ, List, Option, Some, None, Result, Ok, Err, sym, ap, ◌∙◌}
use Rattle.std.specs.Result.{IfOk, OnOk, IfErr}
use Rattle.demand_law.specs.Placed.{MatchErr}
use Rattle.demand_law.specs.declared.law.LawFault.{LawFault}
use Rattle.demand_law.specs.declared.law.LawErr.{LawErr}
use Rattle.demand_law.specs.declared.law.LawErr.TheVariants.{Bad, Memory}
use Rattle.json_forms.specs.Faults.{GivesField}
use Rattle.json_forms.specs.LawTexts.{made, made_answer}

pub gives_made : (r : Result (List ℕ) LawErr) (fault : Option LawFault) (law : List ℕ) → IfOk r (λ l. l ≡ law) → OnOk r (fault ≡ None) → IfErr r (λ e. MatchErr e (λ f. fault ≡ Some f)) → GivesField (made_answer r) (made fault law)
gives_made (Ok l) fault law is none bad = ap (λ f. made f law) none ∙ ap Ok (sym is)
gives_made (Err (Bad f)) fault law is none bad = ap (λ f. made f law) bad
gives_made (Err Memory) fault law is none bad = tt

-- what holds of each law that is made holds of the answer's
pub made_keeps : (P : List ℕ → Type 0) (r : Result (List ℕ) LawErr) → IfOk r P → IfOk (made_answer r) P
made_keeps P (Ok l) h = h
made_keeps P (Err (Bad f)) h = tt
made_keeps P (Err Memory) h = tt
