use Rattle.std.proofs.Common.{subst, sym}
use Rattle.value_cert.specs.AverageRules.{IsLeastAverage, solved_average}
use Rattle.value_cert.specs.Kept.{BreaksNoRule}
use Rattle.value_cert.specs.Texts.{HasText}
use Rattle.value_cert.specs.declared.average.AverageCert.{AverageCert}
use Rattle.value_cert.specs.declared.cert.Cert.TheVariants as cert
use Rattle.average_lemmas.specs.KeptSizes.{kept_text}
use Rattle.average_lemmas.specs.SolvedAverage.{solved_rules, solved_kept, solved_certifies}
use Rattle.average_cost.proofs.solve.solve_average.Goals as goal
use Rattle.decision_model.specs.declared.instance.Instance.TheVariants as instance

pub returns-in-Ok-clause-least : goal.returns-in-Ok-clause-least
returns-in-Ok-clause-least c = subst (λ (z : AverageCert). IsLeastAverage c.args.item.now z) (sym c.in-Ok.ensures) (solved_certifies c.args.item.now c.requires)

pub returns-in-Ok-clause-accepted : goal.returns-in-Ok-clause-accepted
returns-in-Ok-clause-accepted c = subst (λ (z : AverageCert). BreaksNoRule (instance.Average c.args.item.now) (cert.Average z)) (sym c.in-Ok.ensures) (solved_kept c.args.item.now c.requires)

pub returns-in-Ok-clause-text : goal.returns-in-Ok-clause-text
returns-in-Ok-clause-text c = subst (λ (z : AverageCert). HasText (cert.Average z)) (sym c.in-Ok.ensures) (kept_text c.args.item.now c.requires (solved_average c.args.item.now) (solved_rules c.args.item.now c.requires))
