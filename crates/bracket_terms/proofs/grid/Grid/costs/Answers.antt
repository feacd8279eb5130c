use Rattle.std.proofs.Common.{ℕ, ◌∙◌, ◌++◌, ◌∷◌, [], sym, arith, subst}
use Rattle.std.proofs.lemmas.List.FromFn.{map-range_with_len_more}
use Rattle.value_cert.specs.BracketValues.{low_cost, up_cost}
use Rattle.bracket_lemmas.specs.WideSizes.{unit_some}
use Rattle.bracket_terms.proofs.WalkFacts.{low_told, up_told}
use Rattle.bracket_terms.specs.GridKnown.{grid_item, grid_wide}
use Rattle.bracket_terms.specs.Grids.{IsAt}
use Rattle.bracket_terms.proofs.grid.Grid.costs.Goals as goal

pub nonzero_div-cost : goal.nonzero_div-cost
nonzero_div-cost c = let grid = c.args.self.now in omega (arith, unit_some (grid_item grid) (grid_wide grid), grid.unit_is)

pub div_ceil-requires : goal.div_ceil-requires
div_ceil-requires c = let grid = c.args.self.now in omega (arith, unit_some (grid_item grid) (grid_wide grid), grid.unit_is)

pub loop-k-preserved : goal.loop-k-preserved
loop-k-preserved c =
    let grid = c.args.self.now in
    let item = grid_item grid in
    let k = c.loop-k.k in
    let low = low_told item k c.cost_at-cost.result grid.unit c.cost_at-cost.ensures.exact grid.unit_is in
    let up = up_told item k c.cost_at-cost.result grid.unit c.div_ceil.result c.cost_at-cost.ensures.exact grid.unit_is c.div_ceil.ensures in
    record {
      are_low = c.in_ok-push.ensures.items ∙ (λ i. c.loop-k.invariant.are_low i ++ low i ∷ []) ∙ sym (map-range_with_len_more (low_cost item) 0 k k (omega arith));
      are_up = c.in_ok-push-2.ensures.items ∙ (λ i. c.loop-k.invariant.are_up i ++ up i ∷ []) ∙ sym (map-range_with_len_more (up_cost item) 0 k k (omega arith));
      stands = subst (λ (j : ℕ). IsAt item c.cost_at-cost.new.walk j) (omega arith) c.cost_at-cost.ensures.at;
    }
