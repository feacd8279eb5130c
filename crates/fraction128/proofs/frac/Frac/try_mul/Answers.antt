use Rattle.std.specs.Prelude.{FitsSigned}
use Rattle.std.specs.Int.{w128}
use Rattle.std.proofs.Common.{ℤ, arith, rules, sym, subst}
use Rattle.std.proofs.lemmas.Int.{to_z-of_z}
use Rattle.fraction128.proofs.Multiplied.{multiplied}
use Rattle.fraction128.proofs.frac.Frac.try_mul.Goals as goal

pub returns-in_err-num-clause-fits : goal.returns-in_err-num-clause-fits
returns-in_err-num-clause-fits c =
    let facts = multiplied c.args.self.now c.args.other.now c.new-first.result c.new-second.result (search rules) (search rules) (search rules) (search rules) c.new-first.ensures.value c.new-second.ensures.value in
    let Fits : ℤ → Type 0 = λ z. FitsSigned w128 z in
    (λ h. search rules, λ h. absurd (c.in_err-num.ensures (subst Fits (sym facts.num_is) h.reduced_num)))

pub returns-in_err-den-clause-fits : goal.returns-in_err-den-clause-fits
returns-in_err-den-clause-fits c =
    let facts = multiplied c.args.self.now c.args.other.now c.new-first.result c.new-second.result (search rules) (search rules) (search rules) (search rules) c.new-first.ensures.value c.new-second.ensures.value in
    (λ h. search rules, λ h. absurd (c.in_err-den.ensures (omega (arith, facts.den_is, h.reduced_den))))

pub invariant_of-result : goal.invariant_of-result
invariant_of-result c =
    let facts = multiplied c.args.self.now c.args.other.now c.new-first.result c.new-second.result (search rules) (search rules) (search rules) (search rules) c.new-first.ensures.value c.new-second.ensures.value in
    let fits : FitsSigned w128 c.in_ok-num.num = search rules in
    record { reduced = rw (to_z-of_z w128 c.in_ok-num.num fits, c.in_ok-num.ensures.1, facts.product, c.in_ok-den.ensures.1) facts.reduced }

pub returns-clause-fits : goal.returns-clause-fits
returns-clause-fits c =
    let facts = multiplied c.args.self.now c.args.other.now c.new-first.result c.new-second.result (search rules) (search rules) (search rules) (search rules) c.new-first.ensures.value c.new-second.ensures.value in
    let Fits : ℤ → Type 0 = λ z. FitsSigned w128 z in (
      λ _. record {
        reduced_num = subst Fits facts.num_is c.in_ok-num.ensures.0;
        reduced_den = omega (arith, facts.den_is, c.in_ok-den.ensures);
      },
      λ _. search rules,
    )

pub returns-clause-value : goal.returns-clause-value
returns-clause-value c =
    let facts = multiplied c.args.self.now c.args.other.now c.new-first.result c.new-second.result (search rules) (search rules) (search rules) (search rules) c.new-first.ensures.value c.new-second.ensures.value in
    let fits : FitsSigned w128 c.in_ok-num.num = search rules in
    rw (to_z-of_z w128 c.in_ok-num.num fits, c.in_ok-num.ensures.1, facts.product, c.in_ok-den.ensures.1) facts.value
