use Rattle.std.proofs.Common.{◌≡◌, ◌≢◌, ℕ, ◌+◌, ◌*◌, ◌≤◌, nat_le, nat_eq, true, false, sym, ◌∙◌, arith}
use Rattle.std.proofs.lemmas.Bool.{le-leb}
use Rattle.std.proofs.lemmas.Bool.Decides.{nat_tests}
use Rattle.fraction128.specs.Lowest.{gcd_is}
use Rattle.fraction128.specs.Reduced.{gcd_of}
use Rattle.decision_model.specs.Average.{average_positions}
use Rattle.value_cert.specs.AverageValues.{greatest_den, greatest_num}
use Rattle.average_recursion.proofs.Numbers.{places_fit, greatest_fits, num_fits}
use Rattle.average_recursion.proofs.TestRows.{third_fails, last_decides}
use Rattle.average_recursion.proofs.gain.is_gain.Goals as goal

pub overflow_mul-terms : goal.overflow_mul-terms
overflow_mul-terms c = let fits = places_fit c.args.average.now c.requires.valid in rw (c.requires.terms.positions, c.requires.terms.unit) (omega (arith, fits))

pub overflow_mul-terms-2 : goal.overflow_mul-terms-2
overflow_mul-terms-2 c = let fits = greatest_fits c.args.average.now c.requires.valid in rw (c.requires.terms.positions, c.requires.terms.unit, c.requires.terms.last) (omega (arith, fits))

-- the greatest common divisor, which is tested
tested : (den num g : ℕ) → g ≡ gcd_of num den → (g ≡ 1 → nat_eq (gcd_of num den) 1 ≡ true) × (g ≢ 1 → nat_eq (gcd_of num den) 1 ≡ false)
tested den num g e = (λ one. yes (gcd_of num den) (sym e ∙ one), λ apart. no (gcd_of num den) (λ f. apart (e ∙ f)))
  where
    yes : (x : ℕ) → x ≡ 1 → nat_eq x 1 ≡ true
    yes x h = grind (arith, nat_tests)

    no : (x : ℕ) → x ≢ 1 → nat_eq x 1 ≡ false
    no x h = grind (arith, nat_tests)

pub returns-then-gcd-ne1 : goal.returns-then-gcd-ne1
returns-then-gcd-ne1 c =
    let item = c.args.average.now in
    let is = gcd_is c.args.num c.args.den c.gcd.result c.if-den-lt1.false c.gcd.ensures in
    third_fails (nat_le 1 c.args.den) (nat_le c.args.den (greatest_den item (average_positions item))) (nat_eq (gcd_of c.args.num c.args.den) 1) (nat_le c.args.num (greatest_num item c.args.den)) ((tested c.args.den c.args.num c.gcd.result is).1 c.if-gcd-ne1.true)

-- the denominator is in range
den_small : (c : goal.After-cost_bound) → c.args.den ≤ greatest_den c.args.average.now (average_positions c.args.average.now)
den_small c =
    let terms = c.args.terms.now in
    let is : terms.positions * terms.unit * terms.last ≡ greatest_den c.args.average.now (average_positions c.args.average.now) = λ i. c.requires.terms.positions i * c.requires.terms.unit i * c.requires.terms.last i in
    omega (arith, c.if-den-terms.false, is)

pub overflow_mul-result : goal.overflow_mul-result
overflow_mul-result c =
    let fits = num_fits c.args.average.now c.requires.valid c.args.den (den_small c) in
    rw (c.from.ensures, c.cost_bound.ensures.bound) (omega (arith, fits))

pub returns : goal.returns
returns c =
    let item = c.args.average.now in
    let is = gcd_is c.args.num c.args.den c.gcd.result c.if-den-lt1.false c.gcd.ensures in
    (λ i. nat_le c.args.num (c.args.den * (c.from.ensures i + c.cost_bound.ensures.bound i)))
    ∙ last_decides (nat_le 1 c.args.den) (nat_le c.args.den (greatest_den item (average_positions item))) (nat_eq (gcd_of c.args.num c.args.den) 1) (nat_le c.args.num (greatest_num item c.args.den))
    (le-leb 1 c.args.den c.if-den-lt1.false) (le-leb c.args.den (greatest_den item (average_positions item)) (den_small c)) ((tested c.args.den c.args.num c.gcd.result is).0 c.if-gcd-ne1.false)
