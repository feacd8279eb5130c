use Rattle.std.proofs.Common.{arith, ap, ◌∙◌}
use Rattle.decision_model.specs.Average.{average_positions}
use Rattle.bracket_lemmas.specs.BracketSolved.{passes_over}
use Rattle.value_cert.specs.BracketValues.{most_over}
use Rattle.bracket_lemmas.specs.SolvedFacts.{most_passes, upper_is}
use Rattle.bracket_lemmas.specs.WideSizes.{some_moving, some_place, all_places}
use Rattle.bracket_cost.proofs.UpperFacts.{bottom_fails, no_bottom}
use Rattle.bracket_terms.specs.Known.{item_of, wide_of}
use Rattle.bracket_cost.proofs.upper.find_upper.Goals as goal

pub turns-init : goal.turns-init
turns-init c =
    let item = (item_of c.args.terms.now) in
    let wide = (wide_of c.args.terms.now) in
    let n = average_positions item in
    let test = passes_over item (most_over item n) c.args.pair.orders c.args.pair.high in
    record {
      ordered = omega arith;
      within = omega (arith, c.sizes-good.ensures.most);
      passes = ap test c.sizes-good.ensures.most ∙ most_passes item (some_moving item wide) n (some_place item wide) (all_places item wide) c.args.pair.high c.args.pair.orders c.requires.within c.requires.before;
      fails = no_bottom test;
    }

pub returns-clause-exact : goal.returns-clause-exact
returns-clause-exact c =
    let item = (item_of c.args.terms.now) in
    let wide = (wide_of c.args.terms.now) in
    let n = average_positions item in
    upper_is item (some_moving item wide) n (some_place item wide) (all_places item wide) c.args.pair.high c.args.pair.orders c.requires.within c.requires.before c.turns.good c.turns.invariant.passes
    (bottom_fails (passes_over item (most_over item n) c.args.pair.orders c.args.pair.high) c.turns.good c.turns.bottom c.turns.invariant.ordered c.turns-test.false c.turns.invariant.fails)
