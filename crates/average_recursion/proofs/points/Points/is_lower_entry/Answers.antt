use Rattle.std.proofs.Common.{◌≡◌, ℕ, suc, ◌+◌, ◌-◌, ◌*◌, ◌<◌, ◌≤◌, ℤ, pos, true, List, length, take, slice_index, nat_le, sym, ◌∙◌, ap, subst, arith}
use Rattle.std.specs.Prelude.{unsigned_abs}
use Rattle.std.proofs.lemmas.Bool.{le-leb}
use Rattle.std.proofs.lemmas.List.{get_or-take}
use Rattle.decision_model.specs.Average.{average_positions}
use Rattle.value_cert.specs.AverageValues.{limit, gain, loss}
use Rattle.average_recursion.specs.Entries.{entry_at, AreEntries}
use Rattle.average_recursion.specs.Recursions.{gain_of}
use Rattle.average_recursion.specs.declared.points.Points.{Points}
use Rattle.average_recursion.proofs.Known.{valid_known}
use Rattle.average_recursion.proofs.Numbers.{loss_is, power_some as power_least}
use Rattle.average_recursion.proofs.TestRows.{beside}
use Rattle.average_recursion.proofs.points.Points.is_lower_entry.Goals as goal

pub gain_at-gain-requires-clause-valid : goal.gain_at-gain-requires-clause-valid
gain_at-gain-requires-clause-valid c = valid_known c.args.self.now.average.now c.args.self.now.valid

-- the power of the place
power_some : (c : goal.After-gain_at-gain) → 1 ≤ c.args.self.now.place.power
power_some c =
    let r = c.args.self.now in
    omega (arith, r.is_place.power c.requires.left, power_least r.average.now (valid_known r.average.now r.valid) (average_positions r.average.now - suc r.place.count))

-- the average cost of a period
loss_told : (r : Points) → r.place.count < average_positions r.average.now → r.gain.loss ≡ loss r.average.now (gain_of r) r.place.count * r.place.power
loss_told r lt =
    r.is_gain.loss ∙ loss_is r.average.now (valid_known r.average.now r.valid) (gain_of r) r.place.count lt ∙ ap (λ p. loss r.average.now (gain_of r) r.place.count * p) (sym (r.is_place.power lt))

-- the cells so far
so_far : (r : Points) (cells : List ℤ) (a : ℕ → ℕ) → AreEntries r.average.now r.place.count (entry_at cells) a → AreEntries r.average.now r.place.count (entry_at (take r.place.count cells)) a
so_far r cells a are j lt within = ap unsigned_abs (get_or-take r.place.count cells j (pos 0) lt) ∙ are j lt within

pub is_at_most-requires : goal.is_at_most-requires
is_at_most-requires c = power_some c

pub returns-clause-rule : goal.returns-clause-rule
returns-clause-rule c = λ first knows.
    let r = c.args.self.now in
    let item = r.average.now in
    let k = r.place.count in
    let a = slice_index first.lower in
    let entry = c.args.entry in
    let fits : nat_le entry (limit item first.g (length first.lower)) ≡ true = le-leb entry (limit item first.g (length first.lower)) (subst (λ l. entry ≤ l) (c.limit_here.ensures.exact ∙ (λ i. limit item (knows.g_is i) (knows.lower_many i))) c.if-entry-limit_here.false) in
    c.is_at_most.ensures (gain item (gain_of r) a k) (loss item (gain_of r) k) (c.gain_at-gain.ensures.exact a (so_far r r.lower.now a knows.lower_are)) (loss_told r c.requires.left)
    ∙ (λ i. nat_le (entry + loss item (knows.g_is i) (knows.lower_many i)) (gain item (knows.g_is i) a (knows.lower_many i)))
    ∙ beside _ (nat_le entry (limit item first.g (length first.lower))) fits
