-- The rules on the periods and the positions of a finite horizon's certificate, case by case.
use Rattle.std.proofs.Common.{rules, ◌≡◌, ◌≢◌, ℕ, suc, ◌+◌, ◌-◌, ◌^◌, ◌==◌, ◌<◌, ◌≤◌, Bool, true, false, cond, length, ℤ, pos, ◌+ℤ◌, ◌-ℤ◌, ◌≤ℤ◌, ◌<ℤ◌, refl, sym, ap, ◌∙◌, subst, arith, of_z, to_z}
use Rattle.std.specs.Prelude.{Option, None, Some, int_le, nat_lt, nat_le, not, ◌&&◌, ◌||◌, unsigned_abs}
use Rattle.std.proofs.lemmas.Bool.{and_parts, false_from_ne_true, leb-false}
use Rattle.std.proofs.lemmas.Int.{ints, to_z-of_z, by_lt_z}
use Rattle.std.specs.Int.{w64, w128}
use Rattle.std.specs.Int.RustNames.{FitsSigned}
use Rattle.std.specs.Int.Signed.{lt_z}
use Rattle.decision_model.specs.declared.finite.Finite.{Finite}
use Rattle.decision_model.specs.Finite.{IsValidFinite, finite_low, finite_positions}
use Rattle.decision_model.specs.FiniteCosts.{above_last}
use Rattle.decision_model.specs.FiniteProblem.{top}
use Rattle.decision_model.specs.FiniteSound.{sound_readable, low_zero, up_to_cap}
use Rattle.decision_model.specs.PositionTests.{le_test, le_known, above_zero_is}
use Rattle.finite_lemmas.specs.LeastTest.{allowed_rule}
use Rattle.finite_recursion.specs.Recursions.{finite_of, KnowsRows, next_position, next_at, is_whole}
use Rattle.finite_lemmas.specs.SolvedRows.{row_width_is}
use Rattle.finite_recursion.specs.Rows.{row_period}
use Rattle.finite_recursion.specs.declared.recursion.Recursion.{Recursion}
use Rattle.value_cert.specs.FiniteRules.{FirstRows, is_row_whole, is_next_position, is_next_period, is_allowed, last_period, value_rule, position_rule}
use Rattle.value_cert.specs.FiniteValues.{value_of, least_choice, row_width}
use Rattle.value_cert.specs.Numbers.{is_number}
use Rattle.value_cert.specs.RuleTests.{number_at, number_other}

-- ---- plain tests
-- a number that is tested to be below another one, with both seen as other numbers
pub below_by : (a b low high : ℤ) → lt_z a b ≡ true → a ≡ low → b ≡ high → low <ℤ high
below_by a b low high test p q = by_lt_z a b (λ lt. omega (arith, ints, lt, p, q)) (λ le. absurd (omega (arith, ints, le, test)))

-- and one that is tested not to be
pub at_least_by : (a b low high : ℤ) → lt_z a b ≡ false → a ≡ low → b ≡ high → high ≤ℤ low
at_least_by a b low high test p q = by_lt_z a b (λ lt. absurd (omega (arith, ints, lt, test))) (λ le. omega (arith, ints, le, p, q))

-- numbers of the same bits
pub same_bits : (a b : ℤ) → FitsSigned w128 a → FitsSigned w128 b → of_z w128 a ≡ of_z w128 b → a ≡ b
same_bits a b p q same = sym (to_z-of_z w128 a p) ∙ ap (to_z w128) same ∙ to_z-of_z w128 b q

-- ---- periods
-- another period than the next one
pub other_period : (finite : Finite) (first : FirstRows) (period : ℤ) → period ≢ pos (finite.periods - first.rows) → is_next_period finite first period ≡ false
other_period finite first period differ = last_fails (is_row_whole finite first) (nat_lt first.rows finite.periods) _ (number_other (pos (finite.periods - first.rows)) period (λ same. differ (sym same)))
  where
    last_fails : (a b c : Bool) → c ≡ false → (a && b && c) ≡ false
    last_fails true true c e = e
    last_fails true false c e = refl
    last_fails false b c e = refl

-- ---- positions
-- no position stands behind a whole row
pub whole_row_rule : (finite : Finite) (first : FirstRows) (x y value : ℤ) → is_row_whole finite first ≡ true → position_rule finite first x y value ≡ Some 2
whole_row_rule finite first x y value whole =
    let rule = value_rule finite first.later (first.rows - 1) (last_period finite first) x y value in
    ap (λ b. cond {A = Option ℕ} (not b && is_number (next_at finite first) x) rule (Some 2)) whole

-- another position than the next one
pub other_position_rule : (finite : Finite) (first : FirstRows) (x y value : ℤ) → is_row_whole finite first ≡ false → x ≢ next_at finite first → position_rule finite first x y value ≡ Some 2
other_position_rule finite first x y value left differ =
    let rule = value_rule finite first.later (first.rows - 1) (last_period finite first) x y value in
    ap (λ b. cond {A = Option ℕ} (not b && is_number (next_at finite first) x) rule (Some 2)) left
    ∙ ap (λ b. cond {A = Option ℕ} b rule (Some 2)) (number_other (next_at finite first) x (λ same. differ (sym same)))

-- the next position has the rule on its choice and value
pub next_position_rule : (finite : Finite) (first : FirstRows) (x y value : ℤ) → is_row_whole finite first ≡ false → x ≡ next_at finite first
    → position_rule finite first x y value ≡ value_rule finite first.later (first.rows - 1) (last_period finite first) x y value
next_position_rule finite first x y value left here =
    let rule = value_rule finite first.later (first.rows - 1) (last_period finite first) x y value in
    ap (λ b. cond {A = Option ℕ} (not b && is_number (next_at finite first) x) rule (Some 2)) left
    ∙ ap (λ b. cond {A = Option ℕ} b rule (Some 2)) (number_at (next_at finite first) x (sym here))

-- a position of a row that isn't whole is near 0
pub left_near : (recursion : Recursion) → IsValidFinite (finite_of recursion) → is_whole recursion ≡ false → unsigned_abs (next_position recursion) ≤ 10 ^ 13
unfolding finite_positions
left_near recursion valid left =
    let finite = finite_of recursion in
    let readable = valid.regular.readable in
    let period = row_period finite recursion.rows in
    let last = finite_low finite (finite.periods + 1) in
    let inside = leb-false (row_width finite period) recursion.row.place (second_fails (recursion.rows == 0) (nat_le (row_width finite period) recursion.row.place) left) in
    let positions = above_zero_is (finite.cap -ℤ last +ℤ pos 1) (omega (arith, ints, low_zero finite (finite.periods + 1), readable.cap.least)) in
    let low = above_last finite (sound_readable finite readable) period (omega arith) in
    omega (arith, ints, inside, row_width_is finite readable period, positions, low, valid.regular.grid.positions, readable.cap.least, readable.cap.most)
  where
    second_fails : (a b : Bool) → (a || b) ≡ false → b ≡ false
    second_fails true b h = cc
    second_fails false b h = h

-- ---- choices
-- an allowed choice is from its position up
pub allowed_from : (finite : Finite) (x y : ℤ) → is_allowed finite x y ≡ true → x ≤ℤ y
allowed_from finite x y allowed = le_known x y (and_parts (int_le x y) (int_le y (top finite x)) allowed).0

-- and at most the cap
pub allowed_to : (finite : Finite) (x y : ℤ) → is_allowed finite x y ≡ true → y ≤ℤ finite.cap
allowed_to finite x y allowed =
    omega (arith, ints, le_known y (top finite x) (and_parts (int_le x y) (int_le y (top finite x)) allowed).1, up_to_cap finite.most finite.cap x)

-- an allowed choice at a recursion's next position is near 0
pub choice_near : (recursion : Recursion) (to : ℤ) → IsValidFinite (finite_of recursion) → is_whole recursion ≡ false → is_allowed (finite_of recursion) (next_position recursion) to ≡ true → unsigned_abs to ≤ 10 ^ 13
choice_near recursion to valid left allowed =
    omega (arith, ints, left_near recursion valid left, allowed_from (finite_of recursion) (next_position recursion) to allowed, allowed_to (finite_of recursion) (next_position recursion) to allowed, valid.regular.readable.cap.most)

-- and of 64 bits
pub choice_fits : (recursion : Recursion) (to : ℤ) → IsValidFinite (finite_of recursion) → is_whole recursion ≡ false → is_allowed (finite_of recursion) (next_position recursion) to ≡ true → FitsSigned w64 to
choice_fits recursion to valid left allowed = fits to (choice_near recursion to valid left allowed)
  where
    fits : (x : ℤ) → unsigned_abs x ≤ 10 ^ 13 → FitsSigned w64 x
    fits x small = search rules

-- so that it is stored as it is
pub stored_choice : (recursion : Recursion) (to : ℤ) → IsValidFinite (finite_of recursion) → is_whole recursion ≡ false → is_allowed (finite_of recursion) (next_position recursion) to ≡ true
    → FitsSigned w128 to → to_z w64 (of_z w64 (to_z w128 (of_z w128 to))) ≡ to
stored_choice recursion to valid left allowed wide =
    ap (λ (z : ℤ). to_z w64 (of_z w64 z)) (to_z-of_z w128 to wide) ∙ to_z-of_z w64 to (choice_fits recursion to valid left allowed)

-- what a test of a choice tells, with its numbers seen as other numbers
pub test_of_choice : (told : Bool) (f g : Finite) (x to_x y to_y : ℤ) → told ≡ is_allowed f x y → f ≡ g → x ≡ to_x → y ≡ to_y → is_allowed g to_x to_y ≡ told
test_of_choice told f g x to_x y to_y is p q r =
    sym (is ∙ ap (λ (h : Finite). is_allowed h x y) p ∙ ap (λ (z : ℤ). is_allowed g z y) q ∙ ap (λ (z : ℤ). is_allowed g to_x z) r)

-- a choice that isn't allowed
pub barred_rule : (finite : Finite) (F : ℤ → ℤ) (n t : ℕ) (x y value : ℤ) → is_allowed finite x y ≡ false → value_rule finite F n t x y value ≡ Some 3
barred_rule finite F n t x y value barred = rw barred refl

module _ (finite : Finite) (F : ℤ → ℤ) (n t : ℕ) (x y value : ℤ) (below : x ≤ℤ finite.cap) (allowed : is_allowed finite x y ≡ true) where
  -- the least value at the position
  abbrev least : ℤ
  least = value_of finite F n t x (least_choice finite F n t x)

  -- the rule by its two tests
  rule_of : Bool → Bool → Option ℕ
  rule_of low own = cond low (cond own None (Some 5)) (Some 4)

  by_tests : (low own : Bool) → int_le value least ≡ low → is_number (value_of finite F n t x y) value ≡ own → value_rule finite F n t x y value ≡ rule_of low own
  unfolding rule_of
  by_tests low own p q =
      allowed_rule finite F n t x below y value allowed
      ∙ ap (λ b. cond {A = Option ℕ} b (cond (is_number (value_of finite F n t x y) value) None (Some 5)) (Some 4)) p
      ∙ ap (λ b. cond {A = Option ℕ} low (cond b None (Some 5)) (Some 4)) q

  -- a value above the least one
  pub dear_rule : least <ℤ value → value_rule finite F n t x y value ≡ Some 4
  unfolding rule_of
  dear_rule above = by_tests false (is_number (value_of finite F n t x y) value) (false_from_ne_true (int_le value least) (λ low. absurd (omega (arith, ints, above, le_known value least low)))) refl

  -- another value than the choice's
  pub other_value_rule : value ≤ℤ least → value ≢ value_of finite F n t x y → value_rule finite F n t x y value ≡ Some 5
  unfolding rule_of
  other_value_rule low differ = by_tests true false (le_test value least low) (number_other (value_of finite F n t x y) value (λ same. differ (sym same)))

  -- the choice's value, where none is lower
  pub own_value_rule : value ≤ℤ least → value ≡ value_of finite F n t x y → value_rule finite F n t x y value ≡ None
  unfolding rule_of
  own_value_rule low same = by_tests true true (le_test value least low) (number_at (value_of finite F n t x y) value (sym same))

-- ---- the choice at a recursion's next position
-- its next position is that of the rows that it knows
pub next_here : (recursion : Recursion) (first : FirstRows) → KnowsRows recursion first → next_position recursion ≡ next_at (finite_of recursion) first
next_here recursion first knows = ap (λ k. (finite_of recursion).cap -ℤ pos k) knows.place_is

-- the value of a choice at the next position
abbrev pub choice_value : Finite → FirstRows → ℤ → ℤ
choice_value finite first to = value_of finite first.later (first.rows - 1) (last_period finite first) (next_at finite first) to

-- the least value there
abbrev pub least_at : Finite → FirstRows → ℤ
least_at finite first = choice_value finite first (least_choice finite first.later (first.rows - 1) (last_period finite first) (next_at finite first))

-- the rule on a choice there and its value
abbrev pub choice_rule : Recursion → FirstRows → ℤ → ℤ → Option ℕ
choice_rule recursion first to value =
    let finite = finite_of recursion in
    value_rule finite first.later (first.rows - 1) (last_period finite first) (next_position recursion) to value

module _ (recursion : Recursion) (first : FirstRows) (knows : KnowsRows recursion first) (to value : ℤ) (allowed : is_allowed (finite_of recursion) (next_position recursion) to ≡ true) where
  allowed_here : is_allowed (finite_of recursion) (next_at (finite_of recursion) first) to ≡ true
  allowed_here = subst (λ (x : ℤ). is_allowed (finite_of recursion) x to ≡ true) (next_here recursion first knows) allowed

  below : next_at (finite_of recursion) first ≤ℤ (finite_of recursion).cap
  below = omega (arith, ints)

  rule_here : ℤ → Option ℕ
  rule_here x = value_rule (finite_of recursion) first.later (first.rows - 1) (last_period (finite_of recursion) first) x to value

  from_here : (answer : Option ℕ) → rule_here (next_at (finite_of recursion) first) ≡ answer → answer ≡ rule_here (next_position recursion)
  from_here answer is = sym (ap rule_here (next_here recursion first knows) ∙ is)

  -- a value above the least one
  pub dear_choice : least_at (finite_of recursion) first <ℤ value → Some 4 ≡ choice_rule recursion first to value
  unfolding rule_here
  dear_choice above = from_here (Some 4) (dear_rule (finite_of recursion) first.later (first.rows - 1) (last_period (finite_of recursion) first) (next_at (finite_of recursion) first) to value below allowed_here above)

  -- another value than the choice's
  pub other_choice : value ≤ℤ least_at (finite_of recursion) first → value ≢ choice_value (finite_of recursion) first to → Some 5 ≡ choice_rule recursion first to value
  unfolding rule_here
  other_choice low differ = from_here (Some 5) (other_value_rule (finite_of recursion) first.later (first.rows - 1) (last_period (finite_of recursion) first) (next_at (finite_of recursion) first) to value below allowed_here low differ)

  -- the choice's value, where none is lower
  pub own_choice : value ≤ℤ least_at (finite_of recursion) first → value ≡ choice_value (finite_of recursion) first to → None ≡ choice_rule recursion first to value
  unfolding rule_here
  own_choice low same = from_here None (own_value_rule (finite_of recursion) first.later (first.rows - 1) (last_period (finite_of recursion) first) (next_at (finite_of recursion) first) to value below allowed_here low same)
