-- A discount that was written is read back.
use Rattle.std.proofs.Common.{◌≡◌, ℕ, Ok, refl, arith}
use Rattle.model_terms.specs.Rates.{IsDiscount}
use Rattle.json_forms.specs.declared.law_texts.NumberTest.TheVariants.{Whole}
use Rattle.json_forms.specs.Discounts.{discount_in}
use Rattle.json_forms.specs.WrittenValues.{pair_data}
use Rattle.json_forms.proofs.BackNumbers.{amount_back}
use Rattle.json_forms.proofs.BackLaws.{is_tuple-pair}

pub discount_back : (num den : ℕ) → IsDiscount num den → discount_in (pair_data num den) ≡ Ok (num, den)
discount_back num den is =
    let shape = is_tuple-pair Whole num den (omega (arith, is.proper, is.most)) (omega (arith, is.most)) in
    let second = amount_back 1 1000 den (omega (arith, is.least, is.proper)) is.most in
    let first = amount_back 1 den num is.least is.proper in
    rw (shape, second, first) refl
