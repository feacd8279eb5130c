use Rattle.std.proofs.Common.{◌≡◌, ℕ, ◌+◌, ◌*◌, ◌^◌, ◌≤◌, List, length, sum, replicate, ap, ◌∙◌, sym, subst, arith}
use Rattle.std.proofs.Common.{◌/◌, ◌<◌}
use Rattle.std.proofs.lemmas.List.{take_at}
use Rattle.demand_law.specs.Law.{greatest_of}
use Rattle.demand_law.specs.Sequences.{IsSumOf}
use Rattle.demand_law.specs.LawSums.{IsSumOf-one}
use Rattle.demand_law.proofs.CopiedLaws.{copies_total, doubled, one_more, last_power, fewer_fit, doubles_fit, even_width, odd_width, half_room}
use Rattle.demand_law.proofs.copies.+sum_copies.Goals as goal

-- sums that are those of n copies are those of as many
counted : (law sums : List ℕ) (n count : ℕ) → n ≡ count → IsSumOf sums (replicate n law) → IsSumOf sums (replicate count law)
counted law sums n count same is =
    let P : ℕ → Type 0 = λ k. IsSumOf sums (replicate k law) in
    subst P same is

pub returns-then-count-eq1-clause-is_sum : goal.returns-then-count-eq1-clause-is_sum
returns-then-count-eq1-clause-is_sum t c =
    let law = c.args.law.now in
    let one : 1 ≡ c.args.count = omega arith in
    let copied = c.copy_from_slice.ensures.after in
    let P : List ℕ → Type 0 = λ sums. IsSumOf sums (replicate 1 law) in
    counted law _ 1 c.args.count one (subst P (sym (take_at c.copy_from_slice.new.self _ _ (ap length copied) ∙ copied)) (IsSumOf-one law c.requires.law_some))

pub sum_copies-half-requires : goal.sum_copies-half-requires
sum_copies-half-requires t c =
    let half = c.args.count / 2 in
    let within : half + half ≤ c.args.count = omega arith in
    let less : half < c.args.count = omega arith in
    let le : half ≤ c.args.count = omega arith in (
      omega arith,
      (
        omega arith,
        (
          c.requires.law_some,
          (
            c.requires.weights_some,
            (
              fewer_fit (sum c.args.law.now) half c.args.count c.requires.weights_some le c.requires.fits,
              ((half_room (greatest_of c.args.law.now) half c.args.count (length c.args.sums.now) within c.requires.room).1, c.requires.room_to_work),
            ),
          ),
        ),
      ),
    )

pub double-len-requires-clause-room : goal.double-len-requires-clause-room
double-len-requires-clause-room t c =
    let half = c.args.count / 2 in
    let within : half + half ≤ c.args.count = omega arith in
    let room = (half_room (greatest_of c.args.law.now) half c.args.count (length c.args.sums.now) within c.requires.room).0 in
    omega (arith, c.sum_copies-half.ensures.width, c.sum_copies-half.ensures.same, room)

pub double-len-requires-clause-fits : goal.double-len-requires-clause-fits
double-len-requires-clause-fits t c =
    let half = c.args.count / 2 in
    let within : half + half ≤ c.args.count = omega arith in
    let total = copies_total c.args.law.now half _ c.sum_copies-half.ensures.is_sum in
    omega (arith, ap (λ n. n * n) total, doubles_fit (sum c.args.law.now) half c.args.count c.requires.weights_some within c.requires.fits)

pub returns-then-count-eq0-clause-width : goal.returns-then-count-eq0-clause-width
returns-then-count-eq0-clause-width t c =
    let half = c.args.count / 2 in
    let even : half + half ≡ c.args.count = omega arith in
    even_width (greatest_of c.args.law.now) half c.args.count c.sum_copies-half.result c.double-len.result even c.sum_copies-half.ensures.width c.double-len.ensures.width

pub returns-then-count-eq0-clause-is_sum : goal.returns-then-count-eq0-clause-is_sum
returns-then-count-eq0-clause-is_sum t c =
    let half = c.args.count / 2 in
    let even : half + half ≡ c.args.count = omega arith in
    counted c.args.law.now _ (half + half) c.args.count even (doubled c.args.law.now half _ c.sum_copies-half.ensures.is_sum _ c.double-len.ensures.is_sum)

pub add_law-requires-clause-room : goal.add_law-requires-clause-room
add_law-requires-clause-room t c =
    let half = c.args.count / 2 in
    let odd : (half + half) + 1 ≡ c.args.count = omega arith in
    omega (
      arith,
      c.requires.law_some,
      c.requires.room,
      c.sum_copies-half.ensures.same,
      c.double-len.ensures.same,
      odd_width (greatest_of c.args.law.now) half c.args.count c.sum_copies-half.result c.double-len.result odd c.sum_copies-half.ensures.width c.double-len.ensures.width,
    )

pub add_law-requires-clause-fits : goal.add_law-requires-clause-fits
add_law-requires-clause-fits t c =
    let half = c.args.count / 2 in
    let odd : (half + half) + 1 ≡ c.args.count = omega arith in
    let twice = doubled c.args.law.now half _ c.sum_copies-half.ensures.is_sum _ c.double-len.ensures.is_sum in
    let total = copies_total c.args.law.now (half + half) _ twice in
    omega (arith, ap (λ n. n * sum c.args.law.now) total, last_power (sum c.args.law.now) (half + half), ap (λ n. sum c.args.law.now ^ n) odd, c.requires.fits)

pub returns-clause-width : goal.returns-clause-width
returns-clause-width t c =
    let half = c.args.count / 2 in
    let odd : (half + half) + 1 ≡ c.args.count = omega arith in
    omega (
      arith,
      c.requires.law_some,
      c.add_law.ensures.width,
      odd_width (greatest_of c.args.law.now) half c.args.count c.sum_copies-half.result c.double-len.result odd c.sum_copies-half.ensures.width c.double-len.ensures.width,
    )

pub returns-clause-is_sum : goal.returns-clause-is_sum
returns-clause-is_sum t c =
    let half = c.args.count / 2 in
    let odd : (half + half) + 1 ≡ c.args.count = omega arith in
    let twice = doubled c.args.law.now half _ c.sum_copies-half.ensures.is_sum _ c.double-len.ensures.is_sum in
    counted c.args.law.now _ ((half + half) + 1) c.args.count odd (one_more c.args.law.now (half + half) _ twice _ c.requires.law_some c.add_law.ensures.is_sum)
