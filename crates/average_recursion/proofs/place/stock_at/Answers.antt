use Rattle.std.proofs.Common.{◌∙◌}
use Rattle.average_lemmas.specs.PlaceSizes.{place_cost}
use Rattle.average_recursion.proofs.Places.{place_value}
use Rattle.average_recursion.proofs.place.stock_at.Goals as goal

pub returns : goal.returns
returns c =
    c.unsigned_abs.ensures.value ∙ place_cost (place_value c.args.average.now c.requires.valid c.args.place.now c.requires.place c.requires.within c.value.result (c.value.ensures _ _ _ c.requires.place.walk))
