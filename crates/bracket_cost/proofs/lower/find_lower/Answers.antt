use Rattle.std.proofs.Common.{arith}
use Rattle.decision_model.specs.Average.{average_positions}
use Rattle.bracket_lemmas.specs.GreatestUnder.{none_passes}
use Rattle.bracket_lemmas.specs.SolvedFacts.{passes_from, lower_is}
use Rattle.bracket_lemmas.specs.WideSizes.{some_moving, some_place, all_places}
use Rattle.bracket_cost.proofs.LowerFacts.{top_fails}
use Rattle.bracket_terms.specs.Known.{item_of, wide_of}
use Rattle.bracket_cost.proofs.lower.find_lower.Goals as goal

pub turns-init : goal.turns-init
turns-init c =
    let item = (item_of c.args.terms.now) in
    let wide = (wide_of c.args.terms.now) in
    record {
      ordered = omega arith;
      within = omega (arith, c.sizes-top.ensures.most);
      passes = passes_from item (some_moving item wide) (average_positions item) (some_place item wide) (all_places item wide) 0 (none_passes item (some_moving item wide) (average_positions item));
      fails = λ less. absurd (omega (arith, less, c.sizes-top.ensures.most));
    }

pub returns-clause-exact : goal.returns-clause-exact
returns-clause-exact c =
    let item = (item_of c.args.terms.now) in
    let wide = (wide_of c.args.terms.now) in
    lower_is item (some_moving item wide) (average_positions item) (some_place item wide) (all_places item wide) c.turns.good (omega (arith, c.turns.invariant.ordered, c.turns.invariant.within)) c.turns.invariant.passes
    (λ less. top_fails item (average_positions item) c.turns.good c.turns.top c.turns.invariant.ordered c.turns-test.false c.turns.invariant.fails less)
