use Rattle.std.proofs.Common.{arith}
use Rattle.std.proofs.lemmas.Grind.{common_steps}
use Rattle.model_terms.proofs.Greatest.{greatest_in_more}
use Rattle.model_terms.proofs.items.Items+Law.greatest.Goals as goal

pub loop-law-preserved : goal.loop-law-preserved
loop-law-preserved c =
    grind (arith, common_steps, greatest_in_more c.deref-law-items.result.now c.loop-law.law-index c.law-item.result c.loop-law-test.true)
