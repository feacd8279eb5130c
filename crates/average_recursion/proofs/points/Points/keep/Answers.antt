use Rattle.std.proofs.Common.{◌≡◌, ◌+◌, ◌*◌, ◌/◌, ◌<◌, pos, length, ◌∙◌, ap, arith}
use Rattle.average_recursion.specs.Recursions.{gain_of}
use Rattle.average_recursion.specs.declared.place.Place.{Place}
use Rattle.average_recursion.proofs.CellSteps.{kept_is, kept_small, kept_fits, small_more, entries_more, many_more}
use Rattle.average_recursion.proofs.Known.{valid_known}
use Rattle.average_recursion.proofs.Numbers.{most_small}
use Rattle.average_recursion.proofs.points.Points.keep.Goals as goal

pub keep_entries-requires-clause-lower_small : goal.keep_entries-requires-clause-lower_small
keep_entries-requires-clause-lower_small c =
    let r = c.args.self.now in
    omega (arith, kept_fits c.args.lower r.place.power r.terms.moving _ c.requires.small_lower, most_small r.average.now (valid_known r.average.now r.valid) (gain_of r) r.is_gain.small r.place.count c.requires.left)

pub keep_entries-requires-clause-upper_small : goal.keep_entries-requires-clause-upper_small
keep_entries-requires-clause-upper_small c =
    let r = c.args.self.now in
    omega (arith, kept_fits c.args.upper r.place.power r.terms.moving _ c.requires.small_upper, most_small r.average.now (valid_known r.average.now r.valid) (gain_of r) r.is_gain.small r.place.count c.requires.left)

-- the next place
more : (c : goal.After-keep_entries) → c.keep_entries.new.place.count ≡ c.args.self.now.place.count + 1
more c = ap (λ (p : Place). p.count) c.keep_entries.ensures.place ∙ c.next_place-next.ensures.next

in_lower : (c : goal.After-keep_entries) → c.args.self.now.place.count < length c.args.self.now.lower.now
in_lower c = omega (arith, c.requires.left, c.args.self.now.tables.are_lower)

in_upper : (c : goal.After-keep_entries) → c.args.self.now.place.count < length c.args.self.now.upper.now
in_upper c = omega (arith, c.requires.left, c.args.self.now.tables.are_upper)

pub invariant_of-self-clause-small_lower : goal.invariant_of-self-clause-small_lower
invariant_of-self-clause-small_lower c =
    let r = c.args.self.now in
    let valid = valid_known r.average.now r.valid in
    small_more r.average.now r.place.count c.keep_entries.new.place.count r.lower.now c.keep_entries.new.lower (pos (c.args.lower * (r.place.power / r.terms.moving))) (in_lower c) c.keep_entries.ensures.lower (more c) (gain_of r) r.small_lower
    (kept_small r.average.now valid r.place.count c.args.lower r.place.power r.terms.moving (r.is_place.power c.requires.left) r.are_terms.all_moving (gain_of r) c.requires.small_lower)

pub invariant_of-self-clause-small_upper : goal.invariant_of-self-clause-small_upper
invariant_of-self-clause-small_upper c =
    let r = c.args.self.now in
    let valid = valid_known r.average.now r.valid in
    small_more r.average.now r.place.count c.keep_entries.new.place.count r.upper.now c.keep_entries.new.upper (pos (c.args.upper * (r.place.power / r.terms.moving))) (in_upper c) c.keep_entries.ensures.upper (more c) (gain_of r) r.small_upper
    (kept_small r.average.now valid r.place.count c.args.upper r.place.power r.terms.moving (r.is_place.power c.requires.left) r.are_terms.all_moving (gain_of r) c.requires.small_upper)

pub returns-clause-points : goal.returns-clause-points
returns-clause-points c = λ first knows.
    let r = c.args.self.now in
    let b = c.before in
    let item = r.average.now in
    let valid = valid_known item r.valid in
    let k = r.place.count in
    let power = r.is_place.power c.requires.left in
    record {
      g_is = knows.g_is;
      low_is = knows.low_is;
      high_is = knows.high_is;
      lower_many = many_more item k c.keep_entries.new.place.count r.lower.now c.keep_entries.new.lower (pos (c.args.lower * (r.place.power / r.terms.moving))) (in_lower b) c.keep_entries.ensures.lower (more b) first.lower c.args.lower knows.lower_many;
      upper_many = many_more item k c.keep_entries.new.place.count r.upper.now c.keep_entries.new.upper (pos (c.args.upper * (r.place.power / r.terms.moving))) (in_upper b) c.keep_entries.ensures.upper (more b) first.upper c.args.upper knows.upper_many;
      lower_are = entries_more item k c.keep_entries.new.place.count r.lower.now c.keep_entries.new.lower (pos (c.args.lower * (r.place.power / r.terms.moving))) (in_lower b) c.keep_entries.ensures.lower (more b) first.lower c.args.lower knows.lower_many knows.lower_are
          (kept_is item valid k c.args.lower r.place.power r.terms.moving power r.are_terms.all_moving);
      upper_are = entries_more item k c.keep_entries.new.place.count r.upper.now c.keep_entries.new.upper (pos (c.args.upper * (r.place.power / r.terms.moving))) (in_upper b) c.keep_entries.ensures.upper (more b) first.upper c.args.upper knows.upper_many knows.upper_are
          (kept_is item valid k c.args.upper r.place.power r.terms.moving power r.are_terms.all_moving);
    }
