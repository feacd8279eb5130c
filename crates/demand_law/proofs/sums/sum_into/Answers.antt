use Rattle.std.proofs.Common.{◌≡◌, List, ℕ, length, replicate, ap, ◌∙◌, sym, subst, arith}
use Rattle.std.proofs.lemmas.List.{take_all}
use Rattle.demand_law.specs.Sequences.{laws_at, totals_of, greatest_sum, IsSumOf}
use Rattle.demand_law.proofs.CopiedLaws.{laws_at-alone, totals_of-replicate, greatest_sum-replicate}
use Rattle.demand_law.proofs.sums.sum_into.Goals as goal

pub sum_copies-requires-clause-fits : goal.sum_copies-requires-clause-fits
sum_copies-requires-clause-fits c =
    let law = c.weights.result.now in
    let all : laws_at c.args.laws.now c.args.from c.args.count ≡ replicate c.args.count law =
    laws_at-alone c.args.laws.now law _ c.args.from c.args.count c.in-len1.len_at_least c.in-len1.len_below (c.weights.ensures.weights ∙ c.law-item.is) in
    omega (arith, c.requires.fits, ap totals_of all, totals_of-replicate law c.args.count)

pub sum_copies-requires-clause-room : goal.sum_copies-requires-clause-room
sum_copies-requires-clause-room c =
    let law = c.weights.result.now in
    let all : laws_at c.args.laws.now c.args.from c.args.count ≡ replicate c.args.count law =
    laws_at-alone c.args.laws.now law _ c.args.from c.args.count c.in-len1.len_at_least c.in-len1.len_below (c.weights.ensures.weights ∙ c.law-item.is) in
    omega (arith, c.requires.width, ap greatest_sum all, greatest_sum-replicate law c.args.count)

pub returns-in-len1 : goal.returns-in-len1
returns-in-len1 c =
    let law = c.weights.result.now in
    let sums = c.sum_copies.new.sums in
    let all : laws_at c.args.laws.now c.args.from c.args.count ≡ replicate c.args.count law =
    laws_at-alone c.args.laws.now law _ c.args.from c.args.count c.in-len1.len_at_least c.in-len1.len_below (c.weights.ensures.weights ∙ c.law-item.is) in
    let whole : length sums ≡ c.sum_copies.result = omega (arith, c.requires.width, c.sum_copies.ensures.same, c.sum_copies.ensures.width, ap greatest_sum all, greatest_sum-replicate law c.args.count) in
    let P : List ℕ → Type 0 = λ s. IsSumOf s (replicate c.args.count law) in
    let Q : List (List ℕ) → Type 0 = λ laws. IsSumOf sums laws in
    subst Q (sym all) (subst P (take_all c.sum_copies.result sums (omega (arith, whole))) c.sum_copies.ensures.is_sum)
