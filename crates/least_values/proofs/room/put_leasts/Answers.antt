use Rattle.std.proofs.Common.{◌≡◌, ℕ, ◌+◌, ◌-◌, ◌∙◌, ap, subst, arith}
use Rattle.least_values.specs.Sweeps.{better}
use Rattle.least_values.specs.Rooms.{held, HoldsLeasts}
use Rattle.least_values.proofs.BlockLeasts.{one_turned}
use Rattle.least_values.proofs.room.put_leasts.Goals as goal

pub loop-slot-preserved : goal.loop-slot-preserved
loop-slot-preserved c =
    let room = c.loop-slot.room in
    let slot : ℕ = c.loop-slot.slot - 1 in
    let here : held c.put.new.room slot ≡ better (held room slot) (held room (slot + 1)) =
    c.put.ensures.here ∙ c.better-least.ensures ∙ ap (λ p. better p c.pair_at-in-loop-slot.result) c.pair_at.ensures ∙ ap (better (held room slot)) c.pair_at-in-loop-slot.ensures in
    one_turned c.args.room.now room c.put.new.room c.args.width slot c.loop-slot.slot (omega arith) c.loop-slot.invariant c.put.ensures.length here c.put.ensures.others

pub returns-clause-leasts : goal.returns-clause-leasts
returns-clause-leasts c = λ block is_width holds. let e : c.loop-slot.slot ≡ 0 = omega arith in subst (HoldsLeasts c.loop-slot.room block) e (c.loop-slot.invariant.leasts block is_width holds)
