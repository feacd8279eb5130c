use Rattle.std.proofs.Common.{Option, subst, sym}
use Rattle.decision_model.specs.Average.{average_positions}
use Rattle.value_cert.specs.AverageValues.{Ratio}
use Rattle.fraction128.specs.Divisors.{AreCoprime}
use Rattle.average_lemmas.specs.AverageCost.{reduced_turn}
use Rattle.average_lemmas.specs.CostLines.{IsTurn}
use Rattle.average_cost.specs.Turns.{ratio_of, NextOf}
use Rattle.average_cost.specs.declared.gain.Gain.{Gain}
use Rattle.average_cost.proofs.LineFacts.{next_is, end_is}
use Rattle.average_cost.proofs.gain.find_gain.Goals as goal

pub turns-init : goal.turns-init
turns-init c =
    let low = reduced_turn c.args.item.now (average_positions c.args.item.now) (ratio_of c.first_gain.result) c.first_gain.ensures in
    record {
      turn = subst (λ (z : Ratio). IsTurn c.args.item.now (average_positions c.args.item.now) z) (sym c.reduced-g.ensures) low.turn;
      lowest = subst (λ (z : Ratio). AreCoprime z.num z.den) (sym c.reduced-g.ensures) low.lowest;
    }

pub turns-smaller : goal.turns-smaller
turns-smaller c =
    (next_is c.args.item.now c.requires.valid (ratio_of c.turns.g) c.turns.invariant.turn c.in-Some.next (subst (λ (z : Option Gain). NextOf c.args.item.now (ratio_of c.turns.g) (average_positions c.args.item.now) z) c.in-Some.is c.in_ok-run_turn.ensures.next) (ratio_of c.reduced-g-in-Some.result) c.reduced-g-in-Some.ensures).2

pub turns-preserved : goal.turns-preserved
turns-preserved c =
    let next = next_is c.args.item.now c.requires.valid (ratio_of c.turns.g) c.turns.invariant.turn c.in-Some.next (subst (λ (z : Option Gain). NextOf c.args.item.now (ratio_of c.turns.g) (average_positions c.args.item.now) z) c.in-Some.is c.in_ok-run_turn.ensures.next) (ratio_of c.reduced-g-in-Some.result) c.reduced-g-in-Some.ensures in
    record { turn = next.0; lowest = next.1 }

pub returns-in-None : goal.returns-in-None
returns-in-None c =
    end_is c.args.item.now c.requires.valid (ratio_of c.turns.g) c.turns.invariant.turn c.turns.invariant.lowest (subst (λ (z : Option Gain). NextOf c.args.item.now (ratio_of c.turns.g) (average_positions c.args.item.now) z) c.in-None.is c.in_ok-run_turn.ensures.next)
