use Rattle.std.proofs.Common.{ℕ, List, ◌∙◌, ◌*◌, ◌^◌, ◌≤◌, length, slice_index, ap, arith}
use Rattle.average_lemmas.specs.ChosenLines.{length-chosen}
use Rattle.average_lemmas.specs.CostLines.{keep_constant, keep_slope}
use Rattle.average_cost.specs.Turns.{ratio_of}
use Rattle.average_cost.proofs.LineFacts.{num_told, den_told, constant_most, slope_most, constant_by_g, slope_by_g, limit_by_g, against_next, more_next, lines_more}
use Rattle.average_cost.proofs.gain.add_line.Goals as goal

pub constant_line-requires-clause-many : goal.constant_line-requires-clause-many
constant_line-requires-clause-many c = ap length (c.deref.ensures.value ∙ c.requires.lines.constants) ∙ (length-chosen c.args.item.now (ratio_of c.args.g) c.args.k).0

pub constant_line-requires-clause-fits : goal.constant_line-requires-clause-fits
constant_line-requires-clause-fits c =
    rw (c.deref.ensures.value, c.requires.lines.constants) (constant_most c.args.item.now c.requires.valid (ratio_of c.args.g) c.args.k c.requires.within)

pub slope_line-requires-clause-many : goal.slope_line-requires-clause-many
slope_line-requires-clause-many c = ap length (c.deref-2.ensures.value ∙ c.requires.lines.slopes) ∙ (length-chosen c.args.item.now (ratio_of c.args.g) c.args.k).1

pub slope_line-requires-clause-fits : goal.slope_line-requires-clause-fits
slope_line-requires-clause-fits c =
    rw (c.deref-2.ensures.value, c.requires.lines.slopes) (slope_most c.args.item.now c.requires.valid (ratio_of c.args.g) c.args.k c.requires.within)

pub chosen-kept-requires-clause-at_g : goal.chosen-kept-requires-clause-at_g
chosen-kept-requires-clause-at_g c = (rw (num_told c.args.item.now (ratio_of c.args.g) c.args.k c.constant_line.result c.deref.result.now c.args.lines.now.constants.items c.constant_line.ensures c.deref.ensures.value c.requires.lines.constants) (constant_by_g c.args.item.now c.requires.valid (ratio_of c.args.g) c.requires.turn c.args.k c.requires.within), rw (den_told c.args.item.now (ratio_of c.args.g) c.args.k c.slope_line.result c.deref-2.result.now c.args.lines.now.slopes.items c.slope_line.ensures c.deref-2.ensures.value c.requires.lines.slopes) (slope_by_g c.args.item.now c.requires.valid (ratio_of c.args.g) c.requires.turn c.args.k c.requires.within))

pub chosen-kept-requires-clause-at_limit : goal.chosen-kept-requires-clause-at_limit
chosen-kept-requires-clause-at_limit c = rw c.limit_line-limit.ensures (limit_by_g c.args.item.now c.requires.valid (ratio_of c.args.g) c.requires.turn c.args.k c.requires.within)

pub lesser-lines-requires-clause-at_g : goal.lesser-lines-requires-clause-at_g
lesser-lines-requires-clause-at_g c =
    let first : c.constant_line.result * c.args.g.den ≤ 2 ^ 119 = rw (num_told c.args.item.now (ratio_of c.args.g) c.args.k c.constant_line.result c.deref.result.now c.args.lines.now.constants.items c.constant_line.ensures c.deref.ensures.value c.requires.lines.constants) (constant_by_g c.args.item.now c.requires.valid (ratio_of c.args.g) c.requires.turn c.args.k c.requires.within) in
    let second : c.slope_line.result * c.args.g.num ≤ 2 ^ 119 = rw (den_told c.args.item.now (ratio_of c.args.g) c.args.k c.slope_line.result c.deref-2.result.now c.args.lines.now.slopes.items c.slope_line.ensures c.deref-2.ensures.value c.requires.lines.slopes) (slope_by_g c.args.item.now c.requires.valid (ratio_of c.args.g) c.requires.turn c.args.k c.requires.within) in
    (omega (arith, first), omega (arith, second))

pub lesser-lines-requires-clause-at_next : goal.lesser-lines-requires-clause-at_next
lesser-lines-requires-clause-at_next c = rw ((num_told c.args.item.now (ratio_of c.args.g) c.args.k c.constant_line.result c.deref.result.now c.args.lines.now.constants.items c.constant_line.ensures c.deref.ensures.value c.requires.lines.constants), (den_told c.args.item.now (ratio_of c.args.g) c.args.k c.slope_line.result c.deref-2.result.now c.args.lines.now.slopes.items c.slope_line.ensures c.deref-2.ensures.value c.requires.lines.slopes)) (against_next c.args.item.now c.requires.valid (ratio_of c.args.g) c.args.k c.requires.within c.args.lines.now.next c.requires.lines.next)

pub returns : goal.returns
returns c =
    let more = lines_more c.args.item.now (ratio_of c.args.g) c.args.k c.args.lines.now.constants.items c.args.lines.now.slopes.items c.push.new.self.items c.push-2.new.self.items
    c.constant_line.result c.slope_line.result c.limit_line-limit.result c.chosen-kept.result.num c.chosen-kept.result.den
    c.requires.lines.constants c.requires.lines.slopes
    (c.constant_line.ensures ∙ ap (λ (xs : List ℕ). keep_constant c.args.item.now (slice_index xs) c.args.k) c.deref.ensures.value)
    (c.slope_line.ensures ∙ ap (λ (xs : List ℕ). keep_slope c.args.item.now (slice_index xs) c.args.k) c.deref-2.ensures.value)
    c.limit_line-limit.ensures c.chosen-kept.ensures.num c.chosen-kept.ensures.den c.in_ok-push.ensures.items c.in_ok-push-2.ensures.items in
    record {
      constants = more.0;
      slopes = more.1;
      next = more_next c.args.item.now (ratio_of c.args.g) c.args.k c.args.lines.now.next c.lesser-lines.result (record { num = c.constant_line.result; den = c.slope_line.result }) (num_told c.args.item.now (ratio_of c.args.g) c.args.k c.constant_line.result c.deref.result.now c.args.lines.now.constants.items c.constant_line.ensures c.deref.ensures.value c.requires.lines.constants) (den_told c.args.item.now (ratio_of c.args.g) c.args.k c.slope_line.result c.deref-2.result.now c.args.lines.now.slopes.items c.slope_line.ensures c.deref-2.ensures.value c.requires.lines.slopes) c.requires.lines.next c.lesser-lines.ensures.one c.lesser-lines.ensures.none;
    }
