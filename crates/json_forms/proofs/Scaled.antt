-- Laws at a common sum, one after another.
use Rattle.std.proofs.Common.{◌≡◌, ℕ, suc, ◌+◌, ◌<◌, List, [], ◌∷◌, ◌++◌, length, map, drop, get_or, sum, All, Option, Some, None, Result, Ok, Err, refl, sym, ap, ◌∙◌, append_assoc, add-one, drop-cons, arith}
use Rattle.std.specs.Option.{MatchOption, IfSome}
use Rattle.std.proofs.lemmas.List.Elements.{All-push}
use Rattle.model_terms.specs.DemandLaws.{common_total}
use Rattle.serde_json.specs.Data.{Data}
use Rattle.serde_json.specs.View.{view}
use Rattle.serde_json.specs.declared.value.Value.{Value}
use Rattle.json_forms.specs.declared.fault.FieldFault.{FieldFault}
use Rattle.json_forms.specs.Steps.{◌>>=◌}
use Rattle.json_forms.specs.LawTexts.{scaled_law, scaled_laws}

abbrev Laws : Type 0
Laws = List (List ℕ)

-- what was read before stands in front
after : (done : Laws) (law : List ℕ) (rest : Result Laws FieldFault) → ((rest >>= λ laws. Ok (law ∷ laws)) >>= λ laws. Ok (done ++ laws)) ≡ (rest >>= λ laws. Ok ((done ++ law ∷ []) ++ laws))
after done law (Ok laws) = ap Ok (sym (append_assoc done (law ∷ []) laws))
after done law (Err f) = refl

scaled_first : (common : Option ℕ) (d : Data) (ds : List Data) (done : Laws) (law : List ℕ) (sum : ℕ) → scaled_law common d ≡ Ok (law, sum)
    → (scaled_laws common (d ∷ ds) >>= λ laws. Ok (done ++ laws)) ≡ (scaled_laws (Some sum) ds >>= λ laws. Ok ((done ++ law ∷ []) ++ laws))
scaled_first common d ds done law sum is =
    ap (λ (step : Result (List ℕ × ℕ) FieldFault). (step >>= λ first. scaled_laws (Some first.1) ds >>= λ rest. Ok (first.0 ∷ rest)) >>= λ laws. Ok (done ++ laws)) is
    ∙ after done law (scaled_laws (Some sum) ds)

-- one value more is read
pub scaled_more : (common : Option ℕ) (all : List Value) (i : ℕ) (v : Value) (done : Laws) (law : List ℕ) (sum : ℕ) → i < length all → v ≡ get_or all i v → scaled_law common (view v) ≡ Ok (law, sum)
    → (scaled_laws common (map view (drop i all)) >>= λ laws. Ok (done ++ laws)) ≡ (scaled_laws (Some sum) (map view (drop (i + 1) all)) >>= λ laws. Ok ((done ++ law ∷ []) ++ laws))
scaled_more common all i v done law sum lt is read =
    ap (λ (vs : List Value). scaled_laws common (map view vs) >>= λ laws. Ok (done ++ laws)) (drop-cons all i v lt ∙ ap (λ (x : Value). x ∷ drop (suc i) all) (sym is))
    ∙ scaled_first common (view v) (map view (drop (suc i) all)) done law sum read
    ∙ ap (λ (k : ℕ). scaled_laws (Some sum) (map view (drop k all)) >>= λ laws. Ok ((done ++ law ∷ []) ++ laws)) (sym (add-one i))

-- a law more of the common sum
pub common_more : (common : Option ℕ) (laws : Laws) (law : List ℕ) (n : ℕ) → MatchOption common (laws ≡ []) (λ m. All (λ l. sum l ≡ m) laws) → IfSome common (λ m. n ≡ m) → sum law ≡ n → All (λ l. sum l ≡ n) (laws ++ law ∷ [])
common_more None laws law n none keeps is = All-push (λ l. sum l ≡ n) laws law (λ k d lt. absurd (omega (arith, ap length none))) is
common_more (Some m) laws law n all keeps is = All-push (λ l. sum l ≡ n) laws law (λ k d lt. all k d lt ∙ sym keeps) is

-- laws of one sum have the sum of the first one
pub common_of : (common : Option ℕ) (laws : Laws) → MatchOption common (laws ≡ []) (λ m. All (λ l. sum l ≡ m) laws) → All (λ l. sum l ≡ common_total laws) laws
common_of None laws none = λ k d lt. absurd (omega (arith, ap length none))
common_of (Some m) [] all = λ k d lt. absurd (omega arith)
common_of (Some m) (law ∷ laws) all = λ k d lt. all k d lt ∙ sym (all 0 d (omega arith))
