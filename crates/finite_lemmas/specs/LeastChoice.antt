-- The solver's choice is the first position of least value among those that an order may lead to.
use Rattle.std.proofs.Common.{◌≡◌, ℕ, ℤ, pos, ◌+ℤ◌, ◌-ℤ◌, ◌≤ℤ◌, ◌<ℤ◌, arith, subst}
use Rattle.std.proofs.lemmas.Int.{ints}
use Rattle.newsvendor.specs.Least.{first_least_upto}
use Rattle.newsvendor.specs.FirstLeast.{IsFirstUpto, search_is_first}
use Rattle.decision_model.specs.declared.finite.Finite.{Finite}
use Rattle.decision_model.specs.Positions.{above_zero}
use Rattle.decision_model.specs.FiniteProblem.{top}
use Rattle.decision_model.specs.FiniteSound.{up_to_from}
use Rattle.value_cert.specs.FiniteValues.{value_of, least_choice}
use Rattle.finite_lemmas.specs.KConvex.{above_zero_is}
use Rattle.finite_lemmas.specs.OrderForms.{IsFirstIn}

-- a position, by how far it is above a lower one
pub place_is : (low x : ℤ) → low ≤ℤ x → low +ℤ pos (above_zero (x -ℤ low)) ≡ x
place_is low x h = omega (arith, ints, h, above_zero_is (x -ℤ low))

-- the first least of the positions from low to cap, which are some
abbrev pub first_in : (ℤ → ℤ) → ℤ → ℤ → ℤ
first_in f low cap = low +ℤ pos (first_least_upto (λ units. f (low +ℤ pos units)) (above_zero (cap -ℤ low)))

-- the search over the units above low finds it
pub first_in_is : (f : ℤ → ℤ) (low cap : ℤ) → low ≤ℤ cap → IsFirstIn f low cap (first_in f low cap)
first_in_is f low cap le = record {
  from_low = omega (arith, ints);
  to_cap = omega (arith, ints, is.within, last);
  least = λ y from to. subst (λ (z : ℤ). f (first_in f low cap) ≤ℤ f z) (place_is low y from) (is.least (above_zero (y -ℤ low)) (omega (arith, ints, last, place_is low y from, to)));
  first = λ y from lt. subst (λ (z : ℤ). f (first_in f low cap) <ℤ f z) (place_is low y from) (is.first (above_zero (y -ℤ low)) (omega (arith, ints, place_is low y from, lt)));
}
  where
    is : IsFirstUpto (λ units. f (low +ℤ pos units)) (above_zero (cap -ℤ low)) (first_least_upto (λ units. f (low +ℤ pos units)) (above_zero (cap -ℤ low)))
    is = search_is_first (λ units. f (low +ℤ pos units)) (above_zero (cap -ℤ low))

    last : low +ℤ pos (above_zero (cap -ℤ low)) ≡ cap
    last = place_is low cap le

-- the choice is the first position of least value from x up to the greatest that an order may lead to
pub least_choice_is : (finite : Finite) (F : ℤ → ℤ) (n t : ℕ) (x : ℤ) → x ≤ℤ finite.cap → IsFirstIn (value_of finite F n t x) x (top finite x) (least_choice finite F n t x)
unfolding least_choice
least_choice_is finite F n t x to = first_in_is (value_of finite F n t x) x (top finite x) (up_to_from finite.most finite.cap x to)
