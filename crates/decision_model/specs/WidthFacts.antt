-- What a width number of at most 2^120 says of its factors, and of the laws of lead times.
use Rattle.std.proofs.Common.{ℕ, ◌+◌, ◌-◌, ◌*◌, ◌^◌, ◌≤◌, length, sum, slice_index, ℤ, pos, negsuc, ◌+ℤ◌, ◌-ℤ◌, ◌≤ℤ◌, arith}
use Rattle.std.proofs.lemmas.Int.{ints}
use Rattle.std.proofs.Math.Nat.{one-le-pow, pow-le-pow_right}
use Rattle.std.proofs.lemmas.Nat.{mul-le, mul-pow}
use Rattle.decision_model.specs.declared.finite.Finite.{Finite}
use Rattle.decision_model.specs.declared.average.Average.{Average}
use Rattle.decision_model.specs.declared.serial.Serial.{Serial}
use Rattle.decision_model.specs.Rates.{IsDiscount}
use Rattle.decision_model.specs.Positions.{above_zero}
use Rattle.decision_model.specs.DemandLaws.{common_total}
use Rattle.decision_model.specs.LawFacts.{common_total_some, sum_demand_law_some}
use Rattle.decision_model.specs.Finite.{IsReadableFinite, finite_cost_bound, finite_width}
use Rattle.decision_model.specs.Average.{IsReadableAverage, HasDemand, average_positions, average_cost_bound, average_width}
use Rattle.decision_model.specs.Serial.{IsReadableSerial, serial_cost_bound, serial_width}

-- ---- factors of at least 1
mul_some : (a b : ℕ) → 1 ≤ a → 1 ≤ b → 1 ≤ a * b
mul_some a b some_a some_b = mul-le 1 1 a b some_a some_b

pow_some : (base times : ℕ) → 1 ≤ base → 1 ≤ base ^ times
pow_some base times some = one-le-pow times base (omega arith)

discount_some : (num den : ℕ) → IsDiscount num den → 1 ≤ den
discount_some num den is = omega (arith, is.least, is.proper)

-- no factor is above a product of such
factor_within : (front factor back : ℕ) → 1 ≤ front → 1 ≤ back → factor ≤ front * factor * back
factor_within front factor back some_front some_back =
    omega (arith, mul-le 1 factor front factor some_front (omega arith), mul-le (front * factor) 1 (front * factor) back (omega arith) some_back)

-- ---- the finite kind
finite_cost_bound_some : (finite : Finite) → 1 ≤ finite_cost_bound finite
unfolding finite_cost_bound
finite_cost_bound_some finite = omega arith

-- the weights of all demands that the costs look at
pub finite_weights_fit : (finite : Finite) → IsReadableFinite finite → finite_width finite ≤ 2 ^ 120 → common_total finite.laws ^ (finite.periods + finite.lead) ≤ 2 ^ 120
unfolding finite_width
finite_weights_fit finite readable fits =
    omega (arith, fits, factor_within (finite.periods * finite_cost_bound finite) (common_total finite.laws ^ (finite.periods + finite.lead)) (finite.discount_den ^ finite.periods) (mul_some _ _ readable.periods.least (finite_cost_bound_some finite)) (pow_some finite.discount_den finite.periods (discount_some _ _ readable.discount)))

-- the discounts of all periods
pub finite_discounts_fit : (finite : Finite) → IsReadableFinite finite → finite_width finite ≤ 2 ^ 120 → finite.discount_den ^ finite.periods ≤ 2 ^ 120
unfolding finite_width
finite_discounts_fit finite readable fits =
    let weights_some = pow_some (common_total finite.laws) (finite.periods + finite.lead) (common_total_some finite.laws (finite.periods + finite.lead) (omega (arith, readable.periods.least)) readable.laws) in
    omega (arith, fits, factor_within (finite.periods * finite_cost_bound finite * common_total finite.laws ^ (finite.periods + finite.lead)) (finite.discount_den ^ finite.periods) 1 (mul_some _ _ (mul_some _ _ readable.periods.least (finite_cost_bound_some finite)) weights_some) (omega arith))

-- both, and so those of the last n periods
pub finite_scale_fits : (finite : Finite) → IsReadableFinite finite → finite_width finite ≤ 2 ^ 120 → (n : ℕ) → n ≤ finite.periods → finite.discount_den ^ n * common_total finite.laws ^ (n + finite.lead) ≤ 2 ^ 120
unfolding finite_width
finite_scale_fits finite readable fits n le =
    let den = finite.discount_den in
    let weight = common_total finite.laws in
    let some_weight = common_total_some finite.laws (finite.periods + finite.lead) (omega (arith, readable.periods.least)) readable.laws in
    let discounts : den ^ n ≤ den ^ finite.periods = pow-le-pow_right {n = den} (discount_some _ _ readable.discount) le in
    let weights : weight ^ (n + finite.lead) ≤ weight ^ (finite.periods + finite.lead) = pow-le-pow_right {n = weight} some_weight (omega (arith, le)) in
    let scales = mul-le (den ^ n) (weight ^ (n + finite.lead)) (den ^ finite.periods) (weight ^ (finite.periods + finite.lead)) discounts weights in
    let most = behind (finite.periods * finite_cost_bound finite) (weight ^ (finite.periods + finite.lead)) (den ^ finite.periods) (mul_some _ _ readable.periods.least (finite_cost_bound_some finite)) in
    omega (arith, fits, scales, most)
  where
    behind : (front w d : ℕ) → 1 ≤ front → d * w ≤ front * w * d
    behind front w d some = omega (arith, mul-le 1 (w * d) front (w * d) some (omega arith))

pub finite_scale_some : (finite : Finite) → IsReadableFinite finite → (n : ℕ) → 1 ≤ finite.discount_den ^ n * common_total finite.laws ^ (n + finite.lead)
finite_scale_some finite readable n =
    mul_some _ _ (pow_some finite.discount_den n (discount_some _ _ readable.discount))
    (pow_some (common_total finite.laws) (n + finite.lead) (common_total_some finite.laws (finite.periods + finite.lead) (omega (arith, readable.periods.least)) readable.laws))

-- .. each of the two
pub finite_discounts_upto : (finite : Finite) → IsReadableFinite finite → finite_width finite ≤ 2 ^ 120 → (n : ℕ) → n ≤ finite.periods → finite.discount_den ^ n ≤ 2 ^ 120
finite_discounts_upto finite readable fits n le =
    omega (arith, finite_discounts_fit finite readable fits, pow-le-pow_right {n = finite.discount_den} (discount_some _ _ readable.discount) le)

pub finite_weights_upto : (finite : Finite) → IsReadableFinite finite → finite_width finite ≤ 2 ^ 120 → (n : ℕ) → n ≤ finite.periods + finite.lead → common_total finite.laws ^ n ≤ 2 ^ 120
finite_weights_upto finite readable fits n le =
    omega (arith, finite_weights_fit finite readable fits, pow-le-pow_right {n = common_total finite.laws} (common_total_some finite.laws (finite.periods + finite.lead) (omega (arith, readable.periods.least)) readable.laws) le)

-- ---- the average kind
average_cost_some : (average : Average) → 1 ≤ average.setup + average_cost_bound average
unfolding average_cost_bound
average_cost_some average = omega arith

above_zero_some : (z : ℤ) → pos 1 ≤ℤ z → 1 ≤ above_zero z
above_zero_some (pos n) le = omega (arith, ints)
above_zero_some (negsuc n) le = absurd (omega (arith, ints))

-- the grid has a position
pub average_positions_some : (average : Average) → IsReadableAverage average → 1 ≤ average_positions average
unfolding average_positions
average_positions_some average readable = above_zero_some (average.cap -ℤ average.floor +ℤ pos 1) (omega (arith, ints, readable.floor_below))

average_front_some : (average : Average) → IsReadableAverage average → 1 ≤ 2 * average_positions average ^ 2 * (average.setup + average_cost_bound average)
average_front_some average readable =
    mul_some _ _ (mul_some 2 _ (omega arith) (pow_some _ 2 (average_positions_some average readable))) (average_cost_some average)

-- the weights of all demands that two costs look at
pub average_weights_fit : (average : Average) → IsReadableAverage average → HasDemand average.law → average_width average ≤ 2 ^ 120 → sum average.law ^ (2 * average.lead + 2) ≤ 2 ^ 120
unfolding average_width
average_weights_fit average readable some fits =
    omega (arith, fits, factor_within (2 * average_positions average ^ 2 * (average.setup + average_cost_bound average)) (sum average.law ^ (2 * average.lead + 2)) ((sum average.law - slice_index average.law 0) ^ (2 * average_positions average - 2)) (average_front_some average readable) (pow_some _ (2 * average_positions average - 2) (omega (arith, some))))

-- the weights of the demands above 0, at all positions
pub average_moving_fit : (average : Average) → IsReadableAverage average → average_width average ≤ 2 ^ 120 → (sum average.law - slice_index average.law 0) ^ (2 * average_positions average - 2) ≤ 2 ^ 120
unfolding average_width
average_moving_fit average readable fits =
    omega (arith, fits, factor_within (2 * average_positions average ^ 2 * (average.setup + average_cost_bound average) * sum average.law ^ (2 * average.lead + 2)) ((sum average.law - slice_index average.law 0) ^ (2 * average_positions average - 2)) 1 (mul_some _ _ (average_front_some average readable) (pow_some _ (2 * average.lead + 2) (sum_demand_law_some average.law readable.law))) (omega arith))

-- ---- the serial kind
serial_cost_bound_some : (serial : Serial) → 1 ≤ serial_cost_bound serial
unfolding serial_cost_bound
serial_cost_bound_some serial = omega arith

serial_weights_some : (serial : Serial) → IsReadableSerial serial → 1 ≤ common_total serial.laws ^ serial.periods
serial_weights_some serial readable = pow_some (common_total serial.laws) serial.periods (common_total_some serial.laws serial.periods readable.periods.least readable.laws)

serial_discounts_some : (serial : Serial) → IsReadableSerial serial → 1 ≤ serial.discount_den ^ serial.periods
serial_discounts_some serial readable = pow_some serial.discount_den serial.periods (discount_some _ _ readable.discount)

serial_parts_some : (serial : Serial) → IsReadableSerial serial → 1 ≤ (2 * serial.periods) ^ length serial.holding
serial_parts_some serial readable = pow_some (2 * serial.periods) (length serial.holding) (omega (arith, readable.periods.least))

-- twice the periods, for each echelon
pub serial_parts_fit : (serial : Serial) → IsReadableSerial serial → serial_width serial ≤ 2 ^ 120 → (2 * serial.periods) ^ length serial.holding ≤ 2 ^ 120
unfolding serial_width
serial_parts_fit serial readable fits =
    let parts = (2 * serial.periods) ^ length serial.holding in
    let weights = common_total serial.laws ^ serial.periods in
    let front = factor_within 1 parts (serial_cost_bound serial) (omega arith) (serial_cost_bound_some serial) in
    let middle = factor_within 1 (parts * serial_cost_bound serial) weights (omega arith) (serial_weights_some serial readable) in
    let whole = factor_within 1 (parts * serial_cost_bound serial * weights) (serial.discount_den ^ serial.periods) (omega arith) (serial_discounts_some serial readable) in
    omega (arith, fits, front, middle, whole)

-- the weights of all demands
pub serial_weights_fit : (serial : Serial) → IsReadableSerial serial → serial_width serial ≤ 2 ^ 120 → common_total serial.laws ^ serial.periods ≤ 2 ^ 120
unfolding serial_width
serial_weights_fit serial readable fits =
    omega (arith, fits, factor_within ((2 * serial.periods) ^ length serial.holding * serial_cost_bound serial) (common_total serial.laws ^ serial.periods) (serial.discount_den ^ serial.periods) (mul_some _ _ (serial_parts_some serial readable) (serial_cost_bound_some serial)) (serial_discounts_some serial readable))

-- the discounts of all periods
pub serial_discounts_fit : (serial : Serial) → IsReadableSerial serial → serial_width serial ≤ 2 ^ 120 → serial.discount_den ^ serial.periods ≤ 2 ^ 120
unfolding serial_width
serial_discounts_fit serial readable fits =
    omega (arith, fits, factor_within ((2 * serial.periods) ^ length serial.holding * serial_cost_bound serial * common_total serial.laws ^ serial.periods) (serial.discount_den ^ serial.periods) 1 (mul_some _ _ (mul_some _ _ (serial_parts_some serial readable) (serial_cost_bound_some serial)) (serial_weights_some serial readable)) (omega arith))

-- the numbers of the last n periods are over a product that fits
pub serial_scale_fits : (serial : Serial) → IsReadableSerial serial → serial_width serial ≤ 2 ^ 120 → (n : ℕ) → n ≤ serial.periods → (serial.discount_den * common_total serial.laws) ^ n ≤ 2 ^ 120
unfolding serial_width
serial_scale_fits serial readable fits n le =
    let den = serial.discount_den in
    let weight = common_total serial.laws in
    let some = mul_some den weight (discount_some _ _ readable.discount) (common_total_some serial.laws serial.periods readable.periods.least readable.laws) in
    let grows : (den * weight) ^ n ≤ (den * weight) ^ serial.periods = pow-le-pow_right {n = den * weight} some le in
    let most = behind ((2 * serial.periods) ^ length serial.holding * serial_cost_bound serial) (weight ^ serial.periods) (den ^ serial.periods) (mul_some _ _ (serial_parts_some serial readable) (serial_cost_bound_some serial)) in
    omega (arith, fits, grows, mul-pow den weight serial.periods, most)
  where
    behind : (front w d : ℕ) → 1 ≤ front → d * w ≤ front * w * d
    behind front w d some = omega (arith, mul-le 1 (w * d) front (w * d) some (omega arith))

pub serial_scale_some : (serial : Serial) → IsReadableSerial serial → (n : ℕ) → 1 ≤ (serial.discount_den * common_total serial.laws) ^ n
serial_scale_some serial readable n =
    pow_some _ n (mul_some _ _ (discount_some _ _ readable.discount) (common_total_some serial.laws serial.periods readable.periods.least readable.laws))
