use Rattle.std.proofs.Common.{ℕ, arith, subst, refl}
use Rattle.average_cost.specs.Grids.{IsPlace}
use Rattle.average_cost.specs.Turns.{ratio_of, AreLines}
use Rattle.average_cost.proofs.LineFacts.{no_lines}
use Rattle.average_cost.proofs.gain.run_turn.Goals as goal

pub loop-k-init : goal.loop-k-init
loop-k-init c = record { are_lines = no_lines c.args.item.now (ratio_of c.args.g) _ c.clear.ensures.items c.clear-2.ensures.items refl; place_is = c.first_place-place.ensures }

pub loop-k-preserved : goal.loop-k-preserved
loop-k-preserved c = record {
  are_lines = c.in_ok-add_line.ensures;
  place_is = subst (λ (j : ℕ). IsPlace c.args.item.now c.go_up.new.place j) (omega arith) c.go_up.ensures;
}

pub returns : goal.returns
returns c = subst (λ (j : ℕ). AreLines c.args.item.now (ratio_of c.args.g) j c.loop-k.lines) (omega (arith, c.loop-k-test.false, c.requires.terms.count, c.loop-k.auto.k-end)) c.loop-k.invariant.are_lines
