use Rattle.std.proofs.Common.{ℕ, ◌≡◌, ◌+◌, ◌∙◌, List, length, sum, take, ap, sym, subst, arith, rules}
use Rattle.std.proofs.lemmas.List.{take_at}
use Rattle.demand_law.specs.Law.{IsLaw}
use Rattle.demand_law.specs.Sequences.{laws_at, IsSumOf}
use Rattle.demand_law.specs.LawSums.{sum-IsSumOf, IsSumOf-swap}
use Rattle.demand_law.specs.ServedLaws.{greatest_sum-laws_at_le, totals_of-laws_at_le}
use Rattle.demand_law.proofs.Leads.{width_more, totals_more, sum_more, sum_first}
use Rattle.demand_law.proofs.sums.sum_each.Goals as goal

pub loop-place-init : goal.loop-place-init
loop-place-init c =
    let laws = c.args.laws.now in
    let first = c.weights-first.result.now in
    let is : IsLaw first = subst IsLaw (sym c.weights-first.ensures.weights) c.weights-first.ensures.law in
    let alone = sum_first laws c.args.from first (c.weights-first.ensures.weights ∙ c.law_of.ensures) is in
    let P : List ℕ → Type 0 = λ sums. IsSumOf sums (laws_at laws c.args.from 1) in
    let copied = c.copy_from_slice.ensures.after in
    (alone.width, subst P (sym (take_at c.copy_from_slice.new.self _ _ (ap length copied) ∙ copied)) alone)

pub add_law-len-requires-clause-room : goal.add_law-len-requires-clause-room
add_law-len-requires-clause-room c =
    let laws = c.args.laws.now in
    let here = c.weights-law.ensures.weights ∙ c.law_of-in-loop-place.ensures in
    let kept : length c.loop-place.sums ≡ length c.args.sums.now = search rules in
    omega (arith, kept, c.requires.width, width_more laws c.args.from c.loop-place.place c.weights-law.result.now here c.loop-place.len c.loop-place.invariant.0, greatest_sum-laws_at_le laws c.args.from (c.loop-place.place + 1) c.args.count (omega arith))

pub add_law-len-requires-clause-fits : goal.add_law-len-requires-clause-fits
add_law-len-requires-clause-fits c =
    let laws = c.args.laws.now in
    let here = c.weights-law.ensures.weights ∙ c.law_of-in-loop-place.ensures in
    let so_far = sum-IsSumOf (take c.loop-place.len c.loop-place.sums) (laws_at laws c.args.from c.loop-place.place) c.loop-place.invariant.1 in
    omega (arith, totals_more laws c.args.from c.loop-place.place c.weights-law.result.now here (sum (take c.loop-place.len c.loop-place.sums)) so_far, totals_of-laws_at_le laws c.args.from (c.loop-place.place + 1) c.args.count (omega arith) c.requires.are_laws, c.requires.fits)

pub loop-place-preserved : goal.loop-place-preserved
loop-place-preserved c =
    let laws = c.args.laws.now in
    let law = c.weights-law.result.now in
    let here = c.weights-law.ensures.weights ∙ c.law_of-in-loop-place.ensures in
    let is : IsLaw law = subst IsLaw (sym c.weights-law.ensures.weights) c.weights-law.ensures.law in (
      omega (arith, is.some, c.add_law-len.ensures.width, width_more laws c.args.from c.loop-place.place law here c.loop-place.len c.loop-place.invariant.0),
      sum_more laws c.args.from c.loop-place.place law here _ _ is c.loop-place.invariant.1 (IsSumOf-swap _ law _ c.add_law-len.ensures.is_sum),
    )
