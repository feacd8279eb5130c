use Rattle.std.proofs.Common.{◌≡◌, ◌*◌, ◌^◌, ◌++◌, List, ℕ, length, take, drop, subst, sym, ap, ◌∙◌, arith}
use Rattle.std.specs.Str.Parse.{AllDigits, digits_value}
use Rattle.std.proofs.lemmas.List.{take-append-drop}
use Rattle.value_cert.proofs.DigitFacts.{value_of_both, digits_of_both, both_digits}
use Rattle.value_cert.proofs.digits.number_of_parts.Goals as goal

-- what is cut in two parts is both
parts : (digits front end : List ℕ) (n : ℕ) → front ≡ take n digits → end ≡ drop n digits → front ++ end ≡ digits
parts digits front end n first last = ap (λ (t : List ℕ). t ++ end) first ∙ ap (λ (t : List ℕ). take n digits ++ t) last ∙ take-append-drop n digits

pub returns-in_err-front-clause-number : goal.returns-in_err-front-clause-number
returns-in_err-front-clause-number c =
    let front = c.split_at.result.0.now in
    let end = c.split_at.result.1.now in
    let whole = parts c.args.digits.now front end _ c.split_at.ensures.front c.split_at.ensures.back in
    rw c.from_residual.ensures (λ all. c.in_err-front.ensures.number (both_digits front end (subst (AllDigits 10) (sym whole) all)).0)

pub returns-in_err-end-clause-number : goal.returns-in_err-end-clause-number
returns-in_err-end-clause-number c =
    let front = c.split_at.result.0.now in
    let end = c.split_at.result.1.now in
    let whole = parts c.args.digits.now front end _ c.split_at.ensures.front c.split_at.ensures.back in
    rw c.from_residual-in_err-end.ensures (λ all. c.in_err-end.ensures.number (both_digits front end (subst (AllDigits 10) (sym whole) all)).1)

pub returns-clause-number : goal.returns-clause-number
returns-clause-number c =
    let front = c.split_at.result.0.now in
    let end = c.split_at.result.1.now in
    let whole = parts c.args.digits.now front end _ c.split_at.ensures.front c.split_at.ensures.back in
    let first = c.in_ok-front.ensures.number in
    let last = c.in_ok-end.ensures.number in
    let few : length end ≡ 18 = omega (arith, c.split_at.ensures.back_len) in
    let power : digits_value 10 front * 10 ^ length end ≡ digits_value 10 front * 10 ^ 18 = ap (λ n. digits_value 10 front * 10 ^ n) few in (
      subst (AllDigits 10) whole (digits_of_both front end first.0 last.0),
      omega (arith, c.join.ensures.number, first.1, last.1, power, value_of_both front end, ap (digits_value 10) whole),
    )
