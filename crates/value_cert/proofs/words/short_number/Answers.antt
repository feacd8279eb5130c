use Rattle.std.proofs.Common.{rules, ◌≡◌, List, ℕ, ◌-◌, length, take, drop, FitsSigned, Some, ap, ◌∙◌, subst, arith}
use Rattle.std.specs.Int.{w128}
use Rattle.std.specs.Str.Parse.{AllDigits}
use Rattle.std.proofs.lemmas.Int.{to_z-of_z}
use Rattle.std.proofs.lemmas.List.{take_all, length-drop}
use Rattle.value_cert.specs.Digits.{IsNumberOf}
use Rattle.value_cert.proofs.DigitFacts.{minus_number, no_minus_number, plus_number, no_plus_number}
use Rattle.value_cert.proofs.words.short_number.Goals as goal

-- the bytes behind the first
behind : (word : List ℕ) → take (length word - 1) (drop 1 word) ≡ drop 1 word
behind word = take_all (length word - 1) (drop 1 word) (omega (arith, length-drop 1 word))

pub returns-in_err-size : goal.returns-in_err-size
returns-in_err-size c =
    let P : List ℕ → Type 0 = λ digits. AllDigits 10 digits → ⊥ in
    rw c.from_residual.ensures (no_minus_number c.args.word.now c.if-word-eq45.true (subst P (behind c.args.word.now) c.in_err-size.ensures.number))

pub returns-then-word-eq45 : goal.returns-then-word-eq45
returns-then-word-eq45 c =
    let P : List ℕ → Type 0 = λ digits. IsNumberOf digits (Some c.in_ok-size.size) in
    let fits : FitsSigned w128 c.minus.result = search rules in
    ap Some (to_z-of_z w128 c.minus.result fits ∙ c.minus.ensures)
    ∙ minus_number c.args.word.now c.in_ok-size.size c.requires.plain c.requires.short c.if-word-eq45.true (subst P (behind c.args.word.now) c.in_ok-size.ensures.number)

pub returns-in_err-size-2 : goal.returns-in_err-size-2
returns-in_err-size-2 c = rw c.from_residual-in_err-size-2.ensures (no_plus_number c.args.word.now c.requires.plain c.if-word-eq45.false c.in_err-size-2.ensures.number)

pub returns : goal.returns
returns c =
    let fits : FitsSigned w128 c.plus.result = search rules in
    ap Some (to_z-of_z w128 c.plus.result fits ∙ c.plus.ensures)
    ∙ plus_number c.args.word.now c.in_ok-size-2.size c.requires.plain c.requires.short c.if-word-eq45.false c.in_ok-size-2.ensures.number
