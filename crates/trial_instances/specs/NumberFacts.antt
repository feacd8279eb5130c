-- What the numbers of a trial keep to: their range, and so the sums and laws that they make.
use Rattle.std.proofs.Common.{◌≡◌, ℕ, ◌+◌, ◌-◌, ◌*◌, ◌/◌, ◌%◌, ◌^◌, ◌<◌, ◌≤◌, List, [], ◌∷◌, ◌++◌, length, sum, refl, inl, arith}
use Rattle.std.specs.List.{All, range_with_len}
use Rattle.std.specs.Int.{w32, rotate_right}
use Rattle.std.proofs.Math.Nat.{mul-le-mul_right, div-le_self, mod-lt}
use Rattle.std.proofs.lemmas.Nat.{or_lt}
use Rattle.std.proofs.lemmas.List.Elements.{All-map, All-weaker, All-replicate, All-cons, All-nil}
use Rattle.std.proofs.lemmas.List.{length-replicate}
use Rattle.std.proofs.lemmas.List.FromFn.{map-range_with_len_more, length-map-range_with_len}
use Rattle.std.proofs.lemmas.List.Sums.{sum_by-le}
use Rattle.rand_pcg.specs.Lcg.{Lcg}
use Rattle.demand_law.specs.Named.{uniform_law}
use Rattle.node_state.specs.Draws.{generator_of, word_at}
use Rattle.decision_model.specs.DemandLaws.{IsDemandLaw, AreDemandLaws}
use Rattle.trial_instances.specs.Numbers.{number, numbers, repeated}

-- a number from least to most
pub record IsFromTo (least most number : ℕ) : Type 0 where
  pub least_most : least ≤ number
  pub most_least : number ≤ most

-- ---- one number
rotated_fits : (x by : ℕ) → x < 2 ^ 32 → rotate_right w32 x by < 2 ^ 32
rotated_fits x by small = or_lt 32 (x / 2 ^ (by % 32)) (x * 2 ^ ((32 - by % 32) % 32) % 2 ^ 32) (omega (arith, small, div-le_self x (2 ^ (by % 32)))) (mod-lt (x * 2 ^ ((32 - by % 32) % 32)) (omega arith))

word_fits : (g : Lcg) (place : ℕ) → word_at g place < 2 ^ 32
word_fits g place = rotated_fits _ _ (omega arith)

pub number_in_range : (trial place least most : ℕ) → least ≤ most → IsFromTo least most (number trial place least most)
unfolding number
number_in_range trial place least most ordered =
    let word = word_at (generator_of trial) place in
    let few : word * (most - least + 1) ≤ 4294967295 * (most - least + 1) = mul-le-mul_right (most - least + 1) (omega (arith, word_fits (generator_of trial) place)) in
    record { least_most = omega arith; most_least = omega (arith, few, ordered) }

pub number_most : (trial place least most : ℕ) → least ≤ most → number trial place least most ≤ most
number_most trial place least most ordered = (number_in_range trial place least most ordered).most_least

-- ---- a list of numbers
pub numbers_none : (trial place least most : ℕ) → numbers trial place 0 least most ≡ []
unfolding numbers
numbers_none trial place least most = refl

pub numbers_more : (trial place count least most : ℕ) → numbers trial place (count + 1) least most ≡ numbers trial place count least most ++ number trial (place + count) least most ∷ []
unfolding numbers
numbers_more trial place count least most = map-range_with_len_more (λ k. number trial (place + k) least most) 0 count count (omega arith)

pub length_numbers : (trial place count least most : ℕ) → length (numbers trial place count least most) ≡ count
unfolding numbers
length_numbers trial place count least most = length-map-range_with_len (λ k. number trial (place + k) least most) 0 count

pub numbers_in_range : (trial place count least most : ℕ) → least ≤ most → All (IsFromTo least most) (numbers trial place count least most)
unfolding numbers
numbers_in_range trial place count least most ordered =
    All-map (IsFromTo least most) (λ k. number trial (place + k) least most) (range_with_len 0 count) (λ i d lt. number_in_range trial _ least most ordered)

pub numbers_most : (trial place count least most : ℕ) → least ≤ most → All (λ x. x ≤ most) (numbers trial place count least most)
numbers_most trial place count least most ordered =
    All-weaker (IsFromTo least most) (λ x. x ≤ most) (λ x is. is.most_least) (numbers trial place count least most) (numbers_in_range trial place count least most ordered)

pub sum_numbers_most : (trial place count least most : ℕ) → least ≤ most → sum (numbers trial place count least most) ≤ count * most
sum_numbers_most trial place count least most ordered =
    let few = sum_by-le (λ x. x) most (numbers trial place count least most) (numbers_most trial place count least most ordered) in
    rw (length_numbers trial place count least most) at few

-- numbers from 1 on are the weights of a law
pub numbers_law : (trial place count most : ℕ) → 1 ≤ count → count ≤ 10001 → 1 ≤ most → count * most ≤ 1000000000 → IsDemandLaw (numbers trial place count 1 most)
numbers_law trial place count most some few positive fits =
    let same = length_numbers trial place count 1 most in
    record {
      some_demand = omega arith;
      greatest_in_range = omega arith;
      greatest_has_weight = omega (arith, (numbers_in_range trial place count 1 most positive (length (numbers trial place count 1 most) - 1) 0 (omega arith)).least_most);
      total_in_range = omega (arith, sum_numbers_most trial place count 1 most positive);
    }

-- ---- one number, so many times
pub length_repeated : (count amount : ℕ) → length (repeated count amount) ≡ count
unfolding repeated
length_repeated count amount = length-replicate count amount

pub repeated_most : (count amount most : ℕ) → amount ≤ most → All (λ x. x ≤ most) (repeated count amount)
unfolding repeated
repeated_most count amount most few = All-replicate (λ x. x ≤ most) count amount few

-- demands from 0 to 9, each as likely as the others, are a law
pub digits_law : IsDemandLaw (uniform_law 0 9)
unfolding uniform_law
digits_law = record { some_demand = omega arith; greatest_in_range = omega arith; greatest_has_weight = omega arith; total_in_range = omega arith }

-- one law, which serves every place
pub one_law : (law : List ℕ) (places : ℕ) → IsDemandLaw law → AreDemandLaws (law ∷ []) places
one_law law places is = record {
  listed = inl refl;
  each = All-cons IsDemandLaw law [] is (All-nil IsDemandLaw);
  common = All-cons (λ w. sum w ≡ sum law) law [] refl (All-nil (λ w. sum w ≡ sum law));
}
