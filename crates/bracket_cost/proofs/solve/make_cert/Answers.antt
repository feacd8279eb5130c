use Rattle.std.proofs.Common.{◌∙◌, ap, arith}
use Rattle.value_cert.specs.AverageValues.{at_place}
use Rattle.bracket_cost.proofs.CellFacts.{high_inside, orders_before, count_under, count_over, small_over, cert_told, position_back, low_back}
use Rattle.bracket_terms.specs.Known.{item_of, wide_of}
use Rattle.bracket_cost.proofs.solve.make_cert.Goals as goal

pub list_cells-requires-clause-under : goal.list_cells-requires-clause-under
list_cells-requires-clause-under c = count_under (item_of c.args.terms.now) (wide_of c.args.terms.now) c.args.under.now c.requires.under

pub list_cells-requires-clause-over : goal.list_cells-requires-clause-over
list_cells-requires-clause-over c = count_over (item_of c.args.terms.now) (wide_of c.args.terms.now) c.args.over.now c.requires.over

pub list_cells-requires-clause-small : goal.list_cells-requires-clause-small
list_cells-requires-clause-small c = small_over (item_of c.args.terms.now) (wide_of c.args.terms.now) c.args.over.now c.requires.over

pub position_of-requires : goal.position_of-requires
position_of-requires c = omega (arith, orders_before (item_of c.args.terms.now) (wide_of c.args.terms.now), high_inside (item_of c.args.terms.now) (wide_of c.args.terms.now), (wide_of c.args.terms.now).grid, ap (λ f. f.pair.orders) c.requires.front)

pub position_of-requires-2 : goal.position_of-requires-2
position_of-requires-2 c = omega (arith, high_inside (item_of c.args.terms.now) (wide_of c.args.terms.now), (wide_of c.args.terms.now).grid, ap (λ f. f.pair.high) c.requires.front)

pub returns : goal.returns
returns c =
    let item = (item_of c.args.terms.now) in
    cert_told item (wide_of c.args.terms.now) c.args.front.lower c.args.upper c.args.front.pair.high c.args.front.pair.orders _ _ c.args.under.now c.args.over.now c.new.result
    (ap (λ f. f.lower) c.requires.front) c.requires.upper (ap (λ f. f.pair.high) c.requires.front) (ap (λ f. f.pair.orders) c.requires.front)
    (low_back c.below.result c.position_of.result (at_place item c.args.front.pair.orders) c.below.ensures.near c.position_of.ensures.near c.below.ensures.at c.position_of.ensures.at)
    (position_back c.position_of-2.result (at_place item c.args.front.pair.high) c.position_of-2.ensures.near c.position_of-2.ensures.at)
    c.requires.under c.requires.over (c.new.ensures ∙ c.in_ok-cells.ensures)
