use Rattle.std.proofs.Common.{◌∙◌, ap}
use Rattle.bracket_terms.specs.Moves.{move_sum}
use Rattle.bracket_terms.proofs.MoveFacts.{sum_behind}
use Rattle.bracket_terms.proofs.moves.push_move.Goals as goal

pub returns : goal.returns
returns c = λ f. ap (λ ms. move_sum ms f) c.in_ok-push.ensures.items ∙ sum_behind c.args.moves.now.items (record { back = c.args.back; weight = c.args.weight }) f
