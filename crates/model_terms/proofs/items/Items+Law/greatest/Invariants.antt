use Rattle.std.proofs.Common.{◌≡◌, take}
use Rattle.demand_law.specs.Sequences.{greatest_in}
use Rattle.model_terms.proofs.items.Items+Law.greatest.Given as goal

abbrev pub invariant-loop-law : goal.invariant-loop-law
invariant-loop-law l = l.greatest ≡ greatest_in (take l.law-index l.law-items)
