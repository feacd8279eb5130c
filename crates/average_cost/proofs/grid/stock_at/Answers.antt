use Rattle.value_cert.specs.AverageValues.{at_place, stock_sum}
use Rattle.average_lemmas.specs.PlaceSizes.{place_cost, cast_fits}
use Rattle.average_cost.proofs.GridFacts.{place_value}
use Rattle.average_cost.proofs.grid.stock_at.Goals as goal

pub overflow_cast-result : goal.overflow_cast-result
overflow_cast-result c = cast_fits c.value.result (stock_sum c.args.item.now (at_place c.args.item.now c.args.k)) (place_value c.args.item.now c.requires.valid c.args.k c.requires.within c.args.place.now c.value.result c.requires.place (c.value.ensures _ _ _ c.requires.place.walk))

pub returns : goal.returns
returns c = place_cost (place_value c.args.item.now c.requires.valid c.args.k c.requires.within c.args.place.now c.value.result c.requires.place (c.value.ensures _ _ _ c.requires.place.walk))
