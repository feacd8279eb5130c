use Rattle.std.proofs.Common.{List, sym, ◌∙◌, subst}
use Rattle.decision_model.specs.declared.finite.Finite.{Finite}
use Rattle.decision_model.specs.declared.instance.Instance.TheVariants as instance
use Rattle.finite_lemmas.specs.SolvedKept.{solved_breaks_nothing, solved_is_least}
use Rattle.finite_recursion.specs.SolvedSizes.{solved_has_text}
use Rattle.value_cert.specs.FiniteRules.{IsLeastPolicy}
use Rattle.value_cert.specs.Kept.{BreaksNoRule}
use Rattle.value_cert.specs.Texts.{HasText}
use Rattle.value_cert.specs.declared.cert.Cert.TheVariants as cert
use Rattle.value_cert.specs.declared.finite.FiniteCert.{FiniteCert}
use Rattle.value_cert.specs.declared.finite.FiniteRow.{FiniteRow}
use Rattle.finite_ss.proofs.solve.solve_finite.Goals as goal

-- the certificate with these rows
with_rows : Finite → List FiniteRow → FiniteCert
with_rows finite rows = record { discount_num = finite.discount_num; discount_den = finite.discount_den; rows = rows }

pub returns-in-Ok-clause-least : goal.returns-in-Ok-clause-least
unfolding with_rows
returns-in-Ok-clause-least c =
    let finite = c.args.finite.now in
    let P : List FiniteRow → Type 0 = λ rows. IsLeastPolicy finite (with_rows finite rows) in
    subst P (sym (c.new.ensures ∙ c.in-Ok.ensures)) (solved_is_least finite c.requires.regular.readable)

pub returns-in-Ok-clause-accepted : goal.returns-in-Ok-clause-accepted
unfolding with_rows
returns-in-Ok-clause-accepted c =
    let finite = c.args.finite.now in
    let P : List FiniteRow → Type 0 = λ rows. BreaksNoRule (instance.Finite finite) (cert.Finite (with_rows finite rows)) in
    subst P (sym (c.new.ensures ∙ c.in-Ok.ensures)) (solved_breaks_nothing finite c.requires.regular.readable)

pub returns-in-Ok-clause-text : goal.returns-in-Ok-clause-text
unfolding with_rows
returns-in-Ok-clause-text c =
    let finite = c.args.finite.now in
    let P : List FiniteRow → Type 0 = λ rows. HasText (cert.Finite (with_rows finite rows)) in
    subst P (sym (c.new.ensures ∙ c.in-Ok.ensures)) (solved_has_text finite c.requires)
