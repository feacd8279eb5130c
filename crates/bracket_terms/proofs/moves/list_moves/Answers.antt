use Rattle.std.proofs.Common.{◌∙◌, ap, arith}
use Rattle.demand_law.specs.CountedSums.{counted_more}
use Rattle.bracket_terms.specs.Moves.{move_sum}
use Rattle.bracket_terms.proofs.MoveFacts.{no_moves}
use Rattle.bracket_terms.proofs.moves.list_moves.Goals as goal

pub loop-back-init : goal.loop-back-init
loop-back-init c = λ f. ap (λ ms. move_sum ms f) c.new-moves.ensures.items ∙ no_moves f

pub loop-back-preserved : goal.loop-back-preserved
loop-back-preserved c = λ f. omega (arith, c.in_ok-push_move.ensures f, c.loop-back.invariant f, counted_more c.args.weights.now c.loop-back.back f c.loop-back-test.true)
