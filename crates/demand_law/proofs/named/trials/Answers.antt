use Rattle.std.proofs.Common.{◌-◌, ◌≤◌, [], ◌∷◌, ◌∙◌, ap, Err, arith}
use Rattle.std.proofs.lemmas.Result.{err_from_is_err_and}
use Rattle.demand_law.specs.Sequences.{law_at}
use Rattle.demand_law.specs.ServedLaws.{law_at-one}
use Rattle.demand_law.proofs.FewPoints.{no_fault_two, is_memory}
use Rattle.demand_law.proofs.BinomialWeights.{binomial_law-trials, totals_of-trials, base_fits}
use Rattle.demand_law.proofs.named.trials.Goals as goal

pub returns-in_err-trial-clause-err : goal.returns-in_err-trial-clause-err
returns-in_err-trial-clause-err c =
    let failure = c.args.b - c.args.a in
    let fits : c.args.b ≤ 1000000000 = base_fits c.args.b c.args.n 1000000000 c.requires.some (omega arith) c.requires.fits in
    let none = no_fault_two failure c.args.a (omega arith) c.requires.succeeds (omega arith) in
    let p = err_from_is_err_and c.from_residual.result c.from_residual.ensures.1 in
    rw (p.1, p.2) (is_memory ((0, failure) ∷ (1, c.args.a) ∷ []) c.in_err-trial.field-0.0 none c.in_err-trial.ensures.bad)

pub returns-in-Ok-clause-ok : goal.returns-in-Ok-clause-ok
returns-in-Ok-clause-ok c =
    let trial = c.in_ok-trial.trial in
    binomial_law-trials (law_at (trial ∷ [])) c.args.a c.args.b (λ t. law_at-one trial t ∙ c.in_ok-trial.ensures.ok) c.in-Ok.law 0 c.args.n c.requires.succeeds c.in-Ok.ensures.is_sum

pub unreachable-requires : goal.unreachable-requires
unreachable-requires c =
    let trial = c.in_ok-trial.trial in
    omega (arith, c.in-Err-Width.ensures.width.0 (ap Err c.in-Err-Width.field-0-is), totals_of-trials (law_at (trial ∷ [])) c.args.a c.args.b (λ t. law_at-one trial t ∙ c.in_ok-trial.ensures.ok) 0 c.args.n (omega arith))
