use Rattle.std.proofs.Common.{◌≡◌, ℕ, ◌^◌, ◌<◌, List, [], ◌∷◌, ◌∙◌, ap, arith}
use Rattle.std.proofs.Math.Nat.{one-le-pow}
use Rattle.std.proofs.lemmas.Result.{IfOk-weaker}
use Rattle.demand_law.specs.Points.{points_law}
use Rattle.demand_law.specs.Named.{binomial_law}
use Rattle.demand_law.proofs.BinomialWeights.{binomial_law-never, binomial_law-no_trial, binomial_law-always}
use Rattle.demand_law.proofs.named.successes.Goals as goal
use Rattle.demand_law.proofs.named.successes.Goals.{then-n-eq0-via-then-n-eq0, then-n-eq0-via-else-n-eq0+then-a-b}

pub one_demand-requires-clause-some : goal.one_demand-requires-clause-some
one_demand-requires-clause-some c = omega (arith, c.pow-power.ensures, one-le-pow c.args.n c.args.b c.requires.some)

pub one_demand-requires-then-n-eq0-clause-some : goal.one_demand-requires-then-n-eq0-clause-some
one_demand-requires-then-n-eq0-clause-some c = omega (arith, c.pow-power.ensures, one-le-pow c.args.n c.args.b c.requires.some)

pub returns-then-a-eq0-clause-ok : goal.returns-then-a-eq0-clause-ok
returns-then-a-eq0-clause-ok c =
    let P : List ℕ → Type 0 = λ law. law ≡ points_law ((0, c.pow-power.result) ∷ []) in
    let Q : List ℕ → Type 0 = λ law. law ≡ binomial_law c.args.n c.args.a c.args.b in
    IfOk-weaker c.one_demand.result P Q (λ law is. is ∙ ap (λ w. points_law ((0, w) ∷ [])) c.pow-power.ensures ∙ binomial_law-never c.args.n c.args.a c.args.b c.if-a-eq0.true) c.one_demand.ensures.ok

pub returns-then-n-eq0-clause-ok : goal.returns-then-n-eq0-clause-ok
returns-then-n-eq0-clause-ok c =
    let P : List ℕ → Type 0 = λ law. law ≡ points_law ((c.args.n, c.pow-power.result) ∷ []) in
    let Q : List ℕ → Type 0 = λ law. law ≡ binomial_law c.args.n c.args.a c.args.b in
    let some : 0 < c.args.a = omega arith in
    let one : points_law ((c.args.n, c.args.b ^ c.args.n) ∷ []) ≡ binomial_law c.args.n c.args.a c.args.b =
    elim c.then-n-eq0.branch [
      | then-n-eq0-via-then-n-eq0 w ↦ binomial_law-no_trial c.args.n c.args.a c.args.b some w.if-n-eq0.true
      | then-n-eq0-via-else-n-eq0+then-a-b w ↦ binomial_law-always c.args.n c.args.a c.args.b some w.if-a-b.true
    ] in
    IfOk-weaker c.one_demand-then-n-eq0.result P Q (λ law is. is ∙ ap (λ w. points_law ((c.args.n, w) ∷ [])) c.pow-power.ensures ∙ one) c.one_demand-then-n-eq0.ensures.ok
