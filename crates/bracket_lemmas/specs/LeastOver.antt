-- The upper entries that one sweep gives are the least, and a greater upper bound has lesser ones.
use Rattle.std.proofs.Common.{◌≡◌, ℕ, zero, suc, ◌+◌, ◌-◌, ◌*◌, ◌^◌, ◌<◌, ◌≤◌, ℤ, pos, ◌+ℤ◌, ◌≤ℤ◌, ◌<ℤ◌, if◌then◌else◌, slice_index, sum, refl, ◌∙◌, ap, arith, mul-le-mul_left, ◌⊎◌, inl, inr, nat_lt}
use Rattle.std.specs.Int.{div_ceil}
use Rattle.std.proofs.lemmas.Int.{ints}
use Rattle.std.proofs.lemmas.Bool.{cases_lt}
use Rattle.std.proofs.lemmas.Nat.{mul-le}
use Rattle.std.proofs.lemmas.Grind.{div_ceil_times}
use Rattle.std.proofs.Math.Nat.{one-le-pow}
use Rattle.decision_model.specs.declared.average.Average.{Average}
use Rattle.decision_model.specs.Average.{average_cost_bound}
use Rattle.value_cert.specs.AverageValues.{at_place, moving, stock_sum}
use Rattle.average_lemmas.specs.Iteration.{below_suc}
use Rattle.average_lemmas.specs.Sizes.{stock_most}
use Rattle.average_lemmas.specs.Tables.{sum_first, lt_true, lt_false}
use Rattle.bracket_lemmas.specs.BracketSolved.{over_gain, over_step, over_entries}
use Rattle.decision_model.specs.Limits.{parts}
use Rattle.value_cert.specs.BracketValues.{setup_parts, up_cost, most_bound, most_over}
use Rattle.bracket_lemmas.specs.EntryFacts.{past, all_after, past_mono, past_same, past_most, past_least}
use Rattle.bracket_lemmas.specs.GreatestUnder.{cancel_factor}
use Rattle.bracket_lemmas.specs.Listing.{LooksBelow, listed_entry}
use Rattle.bracket_lemmas.specs.RaisedTables.{IsRaisedTable}

-- ---- rounding up
-- as often as the divisor it is no less
pub ceil_least : (a v : ℕ) → 1 ≤ v → a ≤ v * div_ceil a v
ceil_least a v some = let is = div_ceil_times a v (omega (arith, some)) in omega (arith, is.0)

-- and no more than any number that is
pub ceil_most : (a v x : ℕ) → 1 ≤ v → a ≤ v * x → div_ceil a v ≤ x
ceil_most a v x some h =
    let is = div_ceil_times a v (omega (arith, some)) in
    go (cases_lt x (div_ceil a v)) is.1
  where
    go : (x < div_ceil a v) ⊎ (div_ceil a v ≤ x) → div_ceil a v * v < a + v → div_ceil a v ≤ x
    go (inl lt) less = absurd (omega (arith, less, h, mul-le-mul_left v lt))
    go (inr le) less = le

-- ---- plain numbers: w for W, s for the weight of demand 0, v for W - s
keep_first : (w s v e g up counts after : ℕ) → w ≡ s + v → counts ≡ s * e + after → w * up + counts ≤ w * e + w * g → w * up + after ≤ v * e + w * g
keep_first w s v e g up counts after whole split h = omega (arith, h, split, ap (λ z. z * e) whole)

first_keep : (w s v e g up counts after : ℕ) → w ≡ s + v → counts ≡ s * e + after → w * up + after ≤ v * e + w * g → w * up + counts ≤ w * e + w * g
first_keep w s v e g up counts after whole split h = omega (arith, h, split, ap (λ z. z * e) whole)

-- where a place is by the count of those that order
pub ordered_place : (item : Average) (orders k : ℕ) (low : ℤ) → low +ℤ pos 1 ≡ at_place item orders → at_place item k ≤ℤ low → k < orders
ordered_place item orders k low e h = omega (arith, ints, e, h)

pub kept_place : (item : Average) (orders k : ℕ) (low : ℤ) → low +ℤ pos 1 ≡ at_place item orders → low <ℤ at_place item k → orders ≤ k
kept_place item orders k low e h = omega (arith, ints, e, h)

pub place_ordered : (item : Average) (orders k : ℕ) (low : ℤ) → low +ℤ pos 1 ≡ at_place item orders → k < orders → at_place item k ≤ℤ low
place_ordered item orders k low e h = omega (arith, ints, e, h)

pub place_kept : (item : Average) (orders k : ℕ) (low : ℤ) → low +ℤ pos 1 ≡ at_place item orders → orders ≤ k → low <ℤ at_place item k
place_kept item orders k low e h = omega (arith, ints, e, h)

-- the rules of raised entries, by the count of the places that order
pub record IsLifted (item : Average) (g n raise orders : ℕ) (t : ℕ → ℕ) : Type 0 where
  pub order : (k : ℕ) → k < n → k < orders → t k ≡ setup_parts item + raise
  pub keep : (k : ℕ) → k < n → orders ≤ k → over_gain item raise t k ≤ sum (moving item.law) * t k + sum item.law * g

module _ (item : Average) (g n raise orders : ℕ) (low high : ℤ) (at : low +ℤ pos 1 ≡ at_place item orders) (t : ℕ → ℕ) where
  pub lifted : IsRaisedTable item g n raise low high t → IsLifted item g n raise orders t
  lifted table = record {
    order = λ k lt less. table.order k lt (place_ordered item orders k low at less);
    keep = λ k lt from. keep_first (sum item.law) (slice_index item.law 0) (sum (moving item.law)) (t k) g (up_cost item k) _ (past item (setup_parts item + raise) t k) (sum_first item.law) (all_after item (setup_parts item + raise) t k) (table.keep k lt (place_kept item orders k low at from));
  }

  pub from_lifted : IsLifted item g n raise orders t → ((k : ℕ) → k < n → at_place item k ≡ high → t k ≤ raise) → IsRaisedTable item g n raise low high t
  from_lifted is reached = record {
    order = λ k lt le. is.order k lt (ordered_place item orders k low at le);
    keep = λ k lt above. first_keep (sum item.law) (slice_index item.law 0) (sum (moving item.law)) (t k) g (up_cost item k) _ (past item (setup_parts item + raise) t k) (sum_first item.law) (all_after item (setup_parts item + raise) t k) (is.keep k lt (kept_place item orders k low at above));
    reached = reached;
  }

module _ (item : Average) (some : 1 ≤ sum (moving item.law)) (raise orders : ℕ) where
  pub looks_over : (g : ℕ) → LooksBelow (over_step item raise orders g)
  looks_over g a b k each = ap (λ p. if nat_lt k orders then setup_parts item + raise else div_ceil (sum item.law * up_cost item k + p - sum item.law * g) (sum (moving item.law))) (past_same item (setup_parts item + raise) a b k each)

  -- the entries of n places at g
  abbrev pub over_at : ℕ → ℕ → ℕ → ℕ
  over_at g n = slice_index (over_entries item raise orders g n)

  pub over_entry : (g n k : ℕ) → k < n → over_at g n k ≡ over_step item raise orders g (over_at g n) k
  over_entry g n k lt = listed_entry (over_step item raise orders g) (looks_over g) n k lt

  pub over_ordered : (g n k : ℕ) → k < n → k < orders → over_at g n k ≡ setup_parts item + raise
  over_ordered g n k lt less = over_entry g n k lt ∙ (rw (lt_true k orders less) refl)

  pub over_kept : (g n k : ℕ) → k < n → orders ≤ k → over_at g n k ≡ div_ceil (over_gain item raise (over_at g n) k - sum item.law * g) (sum (moving item.law))
  over_kept g n k lt from = over_entry g n k lt ∙ (rw (lt_false k orders from) refl)

  -- they meet the rules
  pub over_lifted : (g n : ℕ) → IsLifted item g n raise orders (over_at g n)
  over_lifted g n = record {
    order = λ k lt less. over_ordered g n k lt less;
    keep = λ k lt from. omega (arith, ceil_least (over_gain item raise (over_at g n) k - sum item.law * g) (sum (moving item.law)) some, ap (λ z. sum (moving item.law) * z) (over_kept g n k lt from));
  }

  -- and no others that do have a lesser one
  pub over_least : (g n : ℕ) (t : ℕ → ℕ) → IsLifted item g n raise orders t → (k : ℕ) → k ≤ n → (j : ℕ) → j < k → over_at g n j ≤ t j
  over_least g n t is zero le j lt = absurd (omega (arith, lt))
  over_least g n t is (suc k) le j lt = below_suc (λ m. over_at g n m ≤ t m) k (over_least g n t is k (omega (arith, le))) (here (over_least g n t is k (omega (arith, le))) (cases_lt k orders)) j lt
    where
      here : ((m : ℕ) → m < k → over_at g n m ≤ t m) → (k < orders) ⊎ (orders ≤ k) → over_at g n k ≤ t k
      here each (inl less) = omega (arith, over_ordered g n k le less, is.order k le less)
      here each (inr from) =
          let fewer = past_mono item (setup_parts item + raise) (setup_parts item + raise) (over_at g n) t k (omega arith) each in
          let most = ceil_most (over_gain item raise (over_at g n) k - sum item.law * g) (sum (moving item.law)) (t k) some (omega (arith, fewer, is.keep k le from)) in
          omega (arith, most, over_kept g n k le from)

  -- ---- monotony
  pub lifted_rises : (g more n : ℕ) → g ≤ more → (t : ℕ → ℕ) → IsLifted item g n raise orders t → IsLifted item more n raise orders t
  lifted_rises g more n le t is = record { order = is.order; keep = λ k lt from. omega (arith, is.keep k lt from, mul-le-mul_left (sum item.law) le) }

  -- a greater upper bound has no greater entry
  pub over_falls : (g more n : ℕ) → g ≤ more → (k : ℕ) → k < n → over_at more n k ≤ over_at g n k
  over_falls g more n le k lt = over_least more n (over_at g n) (lifted_rises g more n le (over_at g n) (over_lifted g n)) n (omega arith) k lt

-- ---- sizes, raised by twice as much as any entry can be below 0
module _ (item : Average) (some : 1 ≤ sum (moving item.law)) (n : ℕ) (all : item.floor +ℤ pos n ≡ item.cap +ℤ pos 1) (orders : ℕ) where
  abbrev raise : ℕ
  raise = most_over item n

  -- the cost of a place, in parts
  pub up_most : (k : ℕ) → k < n → up_cost item k ≤ parts * (average_cost_bound item - 1)
  unfolding up_cost
  up_most k lt =
      let unit = one-le-pow (suc item.lead) (sum item.law) (omega (arith, some, sum_first item.law)) in
      ceil_most (parts * stock_sum item (at_place item k)) (sum item.law ^ suc item.lead) (parts * (average_cost_bound item - 1)) unit (omega (arith, stock_most item n all k lt))

  -- what one place can change an entry by
  abbrev pub one_change : ℕ
  one_change = sum item.law * most_bound item

  -- plain numbers: v for V, c for the change of one place, m for the least so far
  deep : (v c e gain loss m : ℕ) → 1 ≤ v → gain - loss ≤ v * e → v * m ≤ gain → loss ≤ c → m ≤ e + c
  deep v c e gain loss m one h least small =
      cancel_factor v m (e + c) one (omega (arith, h, least, small, mul-le 1 c v c one (omega arith)))

  -- no entry is far below
  pub over_deep : (g : ℕ) → g ≤ most_bound item → (k : ℕ) → k ≤ n → (j : ℕ) → j < k → raise ≤ over_at item some raise orders g n j + suc j * one_change
  over_deep g small zero le j lt = absurd (omega (arith, lt))
  over_deep g small (suc k) le j lt =
      below_suc (λ m. raise ≤ over_at item some raise orders g n m + suc m * one_change) k (over_deep g small k (omega (arith, le))) (here (over_deep g small k (omega (arith, le))) (cases_lt k orders)) j lt
    where
      here : ((m : ℕ) → m < k → raise ≤ over_at item some raise orders g n m + suc m * one_change) → (k < orders) ⊎ (orders ≤ k) → raise ≤ over_at item some raise orders g n k + suc k * one_change
      here each (inl less) = omega (arith, over_ordered item some raise orders g n k le less)
      here each (inr from) =
          let t = over_at item some raise orders g n in
          let least = past_least item (setup_parts item + raise) t k (raise - k * one_change) (omega arith) (λ m lt. omega (arith, each m lt, mul-le (suc m) one_change k one_change lt (omega arith))) in
          let rounded = ceil_least (over_gain item raise t k - sum item.law * g) (sum (moving item.law)) some in
          let entry = ap (λ z. sum (moving item.law) * z) (over_kept item some raise orders g n k le from) in
          let one = deep (sum (moving item.law)) one_change (t k) (over_gain item raise t k) (sum item.law * g) (raise - k * one_change) some (omega (arith, rounded, entry)) (omega (arith, least)) (mul-le-mul_left (sum item.law) small) in
          omega (arith, one)

  -- plain numbers
  high : (v c e gain loss m : ℕ) → 1 ≤ v → gain ≤ v * m + c → e ≡ div_ceil (gain - loss) v → e ≤ m + c
  high v c e gain loss m one h is =
      let most = ceil_most (gain - loss) v (m + c) one (omega (arith, h, mul-le 1 c v c one (omega arith))) in
      omega (arith, most, is)

  -- or far above
  pub over_high : (g : ℕ) → (k : ℕ) → k ≤ n → (j : ℕ) → j < k → over_at item some raise orders g n j ≤ setup_parts item + raise + suc j * one_change
  over_high g zero le j lt = absurd (omega (arith, lt))
  over_high g (suc k) le j lt =
      below_suc (λ m. over_at item some raise orders g n m ≤ setup_parts item + raise + suc m * one_change) k (over_high g k (omega (arith, le))) (here (over_high g k (omega (arith, le))) (cases_lt k orders)) j lt
    where
      here : ((m : ℕ) → m < k → over_at item some raise orders g n m ≤ setup_parts item + raise + suc m * one_change) → (k < orders) ⊎ (orders ≤ k) → over_at item some raise orders g n k ≤ setup_parts item + raise + suc k * one_change
      here each (inl less) = omega (arith, over_ordered item some raise orders g n k le less)
      here each (inr from) =
          let t = over_at item some raise orders g n in
          let most = past_most item (setup_parts item + raise) t k (setup_parts item + raise + k * one_change) (omega arith) (λ m lt. omega (arith, each m lt, mul-le (suc m) one_change k one_change lt (omega arith))) in
          let cost : sum item.law * up_cost item k ≤ one_change = mul-le-mul_left (sum item.law) (omega (arith, up_most k le)) in
          let one = high (sum (moving item.law)) one_change (t k) (over_gain item raise t k) (sum item.law * g) (setup_parts item + raise + k * one_change) some (omega (arith, most, cost)) (over_kept item some raise orders g n k le from) in
          omega (arith, one)

  -- ---- with the greatest upper bound no entry above low is above 0
  -- plain numbers: w for W, v for V, sq for the setup cost, up for the cost of a place
  none_above : (w v sq up bound r after e : ℕ) → 1 ≤ v → v ≤ w → up + sq ≤ bound → after ≤ v * (sq + r) → e ≡ div_ceil (w * up + after - w * bound) v → e ≤ r
  none_above w v sq up bound r after e one less costs most is =
      let h : w * up + after - w * bound ≤ v * r = omega (arith, most, mul-le-mul_left w costs, mul-le v sq w sq less (omega arith)) in
      omega (arith, is, ceil_most (w * up + after - w * bound) v r one h)

  pub over_none : (k : ℕ) → k ≤ n → (j : ℕ) → j < k → (j < orders → over_at item some raise orders (most_bound item) n j ≡ setup_parts item + raise) × (orders ≤ j → over_at item some raise orders (most_bound item) n j ≤ raise)
  over_none zero le j lt = absurd (omega (arith, lt))
  over_none (suc k) le j lt =
      below_suc (λ m. (m < orders → over_at item some raise orders (most_bound item) n m ≡ setup_parts item + raise) × (orders ≤ m → over_at item some raise orders (most_bound item) n m ≤ raise)) k (over_none k (omega (arith, le)))
      (λ less. over_ordered item some raise orders (most_bound item) n k le less, here (over_none k (omega (arith, le)))) j lt
    where
      here : ((m : ℕ) → m < k → (m < orders → over_at item some raise orders (most_bound item) n m ≡ setup_parts item + raise) × (orders ≤ m → over_at item some raise orders (most_bound item) n m ≤ raise)) → orders ≤ k → over_at item some raise orders (most_bound item) n k ≤ raise
      here each from =
          let t = over_at item some raise orders (most_bound item) n in
          let most = past_most item (setup_parts item + raise) t k (setup_parts item + raise) (omega arith) (λ m lt. by m (each m lt) (cases_lt m orders)) in
          none_above (sum item.law) (sum (moving item.law)) (setup_parts item) (up_cost item k) (most_bound item) raise (past item (setup_parts item + raise) t k) (t k) some (omega (arith, sum_first item.law)) (omega (arith, up_most k le)) most (over_kept item some raise orders (most_bound item) n k le from)
        where
          by : (m : ℕ) → (m < orders → over_at item some raise orders (most_bound item) n m ≡ setup_parts item + raise) × (orders ≤ m → over_at item some raise orders (most_bound item) n m ≤ raise) → (m < orders) ⊎ (orders ≤ m) → over_at item some raise orders (most_bound item) n m ≤ setup_parts item + raise
          by m is (inl less) = omega (arith, is.0 less)
          by m is (inr from) = omega (arith, is.1 from)
