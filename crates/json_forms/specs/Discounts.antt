-- A discount.
use Rattle.std.specs.Prelude.{ℕ, if◌then◌else◌, Option, Some, None, Result, Ok, Err}
use Rattle.serde_json.specs.Data.{Data}
use Rattle.serde_json.specs.Find.{at}
use Rattle.model_terms.specs.Limits.{most_discount}
use Rattle.json_forms.specs.declared.fault.FieldFault.{FieldFault}
use Rattle.json_forms.specs.declared.fault.FieldFault.TheVariants.{WrongType}
use Rattle.json_forms.specs.declared.law_texts.NumberTest.TheVariants.{Whole}
use Rattle.json_forms.specs.Steps.{◌>>=◌}
use Rattle.json_forms.specs.Numbers.{amount_in}
use Rattle.json_forms.specs.LawTexts.{is_tuple}

abbrev pub part_of : ℕ → Option Data → Result ℕ FieldFault
part_of most None = Err WrongType
part_of most (Some d) = amount_in 1 most d

-- the numbers a and b of a list, with 1 ≤ a ≤ b ≤ 1,000
abbrev pub ratio_in : Data → Result (ℕ × ℕ) FieldFault
ratio_in d = do
  b ← part_of most_discount (at 1 d)
  a ← part_of b (at 0 d)
  Ok (a, b)

-- a list of two whole numbers, a discount a/b
abbrev pub discount_in : Data → Result (ℕ × ℕ) FieldFault
discount_in d = if is_tuple Whole 2 d then ratio_in d else Err WrongType
