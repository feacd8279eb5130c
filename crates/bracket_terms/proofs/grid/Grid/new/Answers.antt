use Rattle.std.proofs.Common.{◌^◌, ◌∙◌, arith, add-one}
use Rattle.bracket_lemmas.specs.WideSizes.{unit_fits}
use Rattle.bracket_terms.proofs.grid.Grid.new.Goals as goal

pub power-unit-requires : goal.power-unit-requires
power-unit-requires c = let fits = unit_fits c.args.item.now c.requires in rw (c.total.ensures, add-one) (omega (arith, fits))

pub invariant_of-result : goal.invariant_of-result
invariant_of-result c = record {
  wide = ∣ c.requires ∣₁;
  lead_is = c.in_ok-lead.ensures;
  unit_is = c.power-unit.ensures ∙ (λ i. c.total.ensures i ^ add-one c.args.item.now.lead i);
}
