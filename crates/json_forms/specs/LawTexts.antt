-- Laws of demand in JSON values.
use Rattle.std.specs.Prelude.{ℕ, ◌&&◌, ◌==◌, List, [], ◌∷◌, length, sum, codes, Bool, false, if◌then◌else◌, Option, Some, None, unwrap_or, Result, Ok, Err}
use Rattle.std.specs.List.{list_all}
use Rattle.std.specs.Option.{option_or}
use Rattle.serde_json.specs.Data.{Data, Members}
use Rattle.serde_json.specs.Find.{get, at, as_object}
use Rattle.serde_json.specs.Events.{members_len}
use Rattle.demand_law.specs.Points.{points_fault, points_law}
use Rattle.demand_law.specs.Named.{uniform_fault, uniform_law, binomial_fault, binomial_law, rescale_fault, rescaled_law}
use Rattle.demand_law.specs.declared.law.LawFault.{LawFault}
use Rattle.demand_law.specs.declared.law.LawErr.{LawErr}
use Rattle.demand_law.specs.declared.law.LawErr.TheVariants as law
use Rattle.model_terms.specs.Limits.{most_word}
use Rattle.json_forms.specs.declared.fault.FieldErr.{FieldErr}
use Rattle.json_forms.specs.declared.fault.FieldErr.TheVariants.{Bad, Memory}
use Rattle.json_forms.specs.declared.fault.FieldFault.{FieldFault}
use Rattle.json_forms.specs.declared.fault.FieldFault.TheVariants.{WrongType, OutOfRange, LengthMismatch, BadLaw}
use Rattle.json_forms.specs.declared.law_texts.LawForm.{LawForm}
use Rattle.json_forms.specs.declared.law_texts.LawForm.TheVariants.{Points, Uniform, Binomial}
use Rattle.json_forms.specs.declared.law_texts.NumberTest.{NumberTest}
use Rattle.json_forms.specs.declared.law_texts.NumberTest.TheVariants.{Whole, Word}
use Rattle.json_forms.specs.Steps.{◌>>=◌, each}
use Rattle.json_forms.specs.Numbers.{is_whole, is_amount, amount_in, items_in}

-- ---- shape
abbrev pub passes : NumberTest → Data → Bool
passes Whole d = is_whole d
passes Word d = is_amount 0 most_word d

abbrev pub all_pass : (Data → Bool) → Option (List Data) → Bool
all_pass test None = false
all_pass test (Some ds) = list_all test ds

abbrev pub has_places : ℕ → Option (List Data) → Bool
has_places places None = false
has_places places (Some ds) = length ds == places

-- a list of this many numbers
abbrev pub is_tuple : NumberTest → ℕ → Data → Bool
is_tuple test places d = has_places places (items_in d) && all_pass (passes test) (items_in d)

abbrev pub key_count : Option Members → ℕ
key_count None = 0
key_count (Some ms) = members_len ms

-- the value under the key of a form
abbrev pub under : LawForm → Option Data → Option (LawForm × Data)
under form None = None
under form (Some d) = Some (form, d)

-- the form of a law, and what stands under the only key
abbrev pub law_text : Data → Option (LawForm × Data)
law_text d =
    if key_count (as_object d) == 1
    then option_or (under Points (get (codes "points") d)) (option_or (under Uniform (get (codes "uniform") d)) (under Binomial (get (codes "binomial") d)))
    else None

-- points are pairs of numbers, a uniform law has two numbers, a binomial law three
abbrev pub text_passes : NumberTest → Option (LawForm × Data) → Bool
text_passes test None = false
text_passes test (Some (Points, d)) = all_pass (is_tuple test 2) (items_in d)
text_passes test (Some (Uniform, d)) = is_tuple test 2 d
text_passes test (Some (Binomial, d)) = is_tuple test 3 d

-- whether a value has the shape of a law whose numbers pass
unfoldable pub is_law : NumberTest → Data → Bool
is_law test d = text_passes test (law_text d)

-- ---- value
abbrev pub number_of : Option Data → Result ℕ FieldFault
number_of None = Err WrongType
number_of (Some d) = amount_in 0 most_word d

-- a demand and its weight
abbrev pub point_in : Data → Result (ℕ × ℕ) FieldFault
point_in d = do
  demand ← number_of (at 0 d)
  weight ← number_of (at 1 d)
  Ok (demand, weight)

abbrev pub points_in : Option (List Data) → Result (List (ℕ × ℕ)) FieldFault
points_in None = Err WrongType
points_in (Some ds) = each point_in ds

-- what a maker of laws answers, by its fault and its law
abbrev pub made : Option LawFault → List ℕ → Result (List ℕ) FieldFault
made None law = Ok law
made (Some f) law = Err (BadLaw f)

abbrev pub made_answer : Result (List ℕ) LawErr → Result (List ℕ) FieldErr
made_answer (Ok law) = Ok law
made_answer (Err (law.Bad f)) = Err (Bad (BadLaw f))
made_answer (Err law.Memory) = Err Memory

abbrev pub points_made : Data → Result (List ℕ) FieldFault
points_made d = points_in (items_in d) >>= λ ps. made (points_fault ps) (points_law ps)

abbrev pub uniform_made : Data → Result (List ℕ) FieldFault
uniform_made d = do
  lo ← number_of (at 0 d)
  hi ← number_of (at 1 d)
  made (uniform_fault lo hi) (uniform_law lo hi)

abbrev pub binomial_made : Data → Result (List ℕ) FieldFault
binomial_made d = do
  n ← number_of (at 0 d)
  a ← number_of (at 1 d)
  b ← number_of (at 2 d)
  made (binomial_fault n a b) (binomial_law n a b)

abbrev pub text_made : Option (LawForm × Data) → Result (List ℕ) FieldFault
text_made None = Err WrongType
text_made (Some (Points, d)) = points_made d
text_made (Some (Uniform, d)) = uniform_made d
text_made (Some (Binomial, d)) = binomial_made d

-- the law that a value of the right shape says
unfoldable pub law_of : Data → Result (List ℕ) FieldFault
law_of d = text_made (law_text d)

-- ---- one law
abbrev pub all_laws : List Data → Result (List Data) FieldFault
all_laws ds = if list_all (is_law Whole) ds then (if list_all (is_law Word) ds then Ok ds else Err OutOfRange) else Err WrongType

-- a law: its shape, then the range of its numbers, then the law itself
abbrev pub law_in : Data → Result (List ℕ) FieldFault
law_in d = all_laws (d ∷ []) >>= λ _. law_of d

-- ---- laws of one sum
-- the sum that all laws get: the stated total, or the sum of the first law
abbrev pub common_sum : Option ℕ → List ℕ → ℕ
common_sum total law = unwrap_or total (sum law)

-- a law at the common sum, and that sum
abbrev pub scaled_law : Option ℕ → Data → Result (List ℕ × ℕ) FieldFault
scaled_law total d = do
  law ← law_of d
  scaled ← made (rescale_fault law (common_sum total law)) (rescaled_law law (common_sum total law))
  Ok (scaled, common_sum total law)

-- the laws from first to last, each at the common sum
abbrev pub scaled_laws : Option ℕ → List Data → Result (List (List ℕ)) FieldFault
scaled_laws total [] = Ok []
scaled_laws total (d ∷ ds) = do
  first ← scaled_law total d
  rest ← scaled_laws (Some first.1) ds
  Ok (first.0 ∷ rest)

-- one law, which serves every place
abbrev pub one_law : Option ℕ → Data → Result (List (List ℕ)) FieldFault
one_law total d = all_laws (d ∷ []) >>= scaled_laws total

-- one law a place
abbrev pub laws_each : ℕ → Option ℕ → List Data → Result (List (List ℕ)) FieldFault
laws_each places total ds = all_laws ds >>= λ laws. if length laws == places then scaled_laws total laws else Err LengthMismatch

abbrev pub some_laws : ℕ → Option ℕ → Option (List Data) → Data → Result (List (List ℕ)) FieldFault
some_laws places total None d = one_law total d
some_laws places total (Some ds) d = laws_each places total ds

-- one law, which serves every place, or one law a place
abbrev pub laws_in : ℕ → Option ℕ → Data → Result (List (List ℕ)) FieldFault
laws_in places total d = some_laws places total (items_in d) d
