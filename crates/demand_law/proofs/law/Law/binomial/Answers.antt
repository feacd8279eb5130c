use Rattle.std.proofs.Common.{◌≡◌, ℕ, ◌^◌, ◌≤◌, List, length, sum, refl, ◌∙◌, ap, arith}
use Rattle.std.proofs.lemmas.Result.{IfOk-weaker}
use Rattle.demand_law.specs.Named.{binomial_law}
use Rattle.demand_law.proofs.BinomialWeights.{sum-binomial_law, length-binomial_law-le}
use Rattle.demand_law.proofs.law.Law.binomial.Goals as goal

pub returns-clause-power : goal.returns-clause-power
returns-clause-power c =
    let P : List ℕ → Type 0 = λ law. law ≡ binomial_law c.args.n c.args.a c.args.b in
    let Q : List ℕ → Type 0 = λ law. sum law ≡ c.args.b ^ c.args.n in
    IfOk-weaker c.successes.result P Q (λ law is. ap sum is ∙ sum-binomial_law c.args.n c.args.a c.args.b c.if-a-b.false) c.successes.ensures.ok

pub returns-clause-total : goal.returns-clause-total
returns-clause-total c =
    let P : List ℕ → Type 0 = λ law. law ≡ binomial_law c.args.n c.args.a c.args.b in
    let Q : List ℕ → Type 0 = λ law. sum law ≤ 1000000000 in
    let fits : c.args.b ^ c.args.n ≤ 1000000000 = c.if-not-power_fits.ensures.0 refl in
    IfOk-weaker c.successes.result P Q (λ law is. omega (arith, ap sum is, sum-binomial_law c.args.n c.args.a c.args.b c.if-a-b.false)) c.successes.ensures.ok

pub returns-clause-short : goal.returns-clause-short
returns-clause-short c =
    let P : List ℕ → Type 0 = λ law. law ≡ binomial_law c.args.n c.args.a c.args.b in
    let Q : List ℕ → Type 0 = λ law. length law ≤ 10001 in
    IfOk-weaker c.successes.result P Q (λ law is. omega (arith, ap length is, length-binomial_law-le c.args.n c.args.a c.args.b)) c.successes.ensures.ok
