-- The planning horizon theorem of Wagner and Whitin (1958): where no unit ordered later costs more, the last order period never moves back as the horizon grows. So what each period adds to the least cost exceeds no setup.
use Rattle.std.proofs.Common.{◌≡◌, ℕ, zero, suc, ◌+◌, ◌-◌, ◌<◌, ◌≤◌, cond, eqb, refl, sym, ◌∙◌, ap, arith, add-zero, add-one, ◌⊎◌, inl, inr}
use Rattle.std.proofs.lemmas.Bool.{cases_lt, cases_eq, eq-eqb, ne_eqb}
use Rattle.lot_lemmas.specs.LotSums.{sum_from, sum_from-last}

-- costs of the first 0, 1, 2, .. periods: the least ones, and those by the last order period, which serves all periods behind it
pub record LotCosts : Type 0 where
  pub periods : ℕ
  pub demand : ℕ → ℕ
  pub setup : ℕ → ℕ
  pub serve : ℕ → ℕ → ℕ
  pub by : ℕ → ℕ → ℕ
  pub least : ℕ → ℕ
  pub last : ℕ → ℕ

-- they follow the recursion over last order periods, and no later order serves a period at a higher cost
pub record IsLotRecursion (r : LotCosts) : Type 0 where
  pub begins : (t : ℕ) → r.by t t ≡ r.least t + r.setup t
  pub grows : (t n : ℕ) → t ≤ n → n < r.periods → r.by t (suc n) ≡ r.by t n + r.serve t n
  pub free : (t n : ℕ) → n < r.periods → r.demand n ≡ 0 → r.serve t n ≡ 0
  pub can_wait : (t u n : ℕ) → t ≤ u → u ≤ n → n < r.periods → r.serve u n ≤ r.serve t n
  pub none : r.least 0 ≡ 0
  pub idle : (n : ℕ) → n < r.periods → r.demand n ≡ 0 → r.least (suc n) ≡ r.least n
  pub within : (n : ℕ) → r.last n ≤ n
  pub ordered : (n : ℕ) → n < r.periods → (r.demand n ≡ 0 → ⊥) → r.least (suc n) ≡ r.by (r.last n) (suc n)
  pub is_least : (n t : ℕ) → t ≤ n → r.by (r.last n) (suc n) ≤ r.by t (suc n)
  pub is_latest : (n t : ℕ) → t ≤ n → r.last n < t → r.by (r.last n) (suc n) < r.by t (suc n)

-- the last order period of the first n periods, 0 before the first demand
unfoldable pub last_so_far : LotCosts → ℕ → ℕ
last_so_far r zero = 0
last_so_far r (suc n) = cond (eqb (r.demand n) 0) (last_so_far r n) (r.last n)

pub last_so_far-idle : (r : LotCosts) (n : ℕ) → r.demand n ≡ 0 → last_so_far r (suc n) ≡ last_so_far r n
unfolding last_so_far
last_so_far-idle r n z = ap (λ b. cond b (last_so_far r n) (r.last n)) (eq-eqb (r.demand n) 0 z)

pub last_so_far-ordered : (r : LotCosts) (n : ℕ) → (r.demand n ≡ 0 → ⊥) → last_so_far r (suc n) ≡ r.last n
unfolding last_so_far
last_so_far-ordered r n some = ap (λ b. cond b (last_so_far r n) (r.last n)) (ne_eqb (r.demand n) 0 some)

pub last_so_far-none : (r : LotCosts) → last_so_far r 0 ≡ 0
unfolding last_so_far
last_so_far-none r = refl

-- no last order period gives less than the least cost
pub least_below : (r : LotCosts) → IsLotRecursion r → (n t : ℕ) → n ≤ r.periods → t ≤ n → r.least n ≤ r.by t n
least_below r is zero t inside le =
    let first : t ≡ 0 = omega arith in
    rw first (omega (arith, is.begins 0))
least_below r is (suc n) t inside le = by_place (cases_lt n t) (cases_eq (r.demand n) 0) (least_below r is n t (omega arith))
  where
    by_place : (n < t) ⊎ (t ≤ n) → (r.demand n ≡ 0) ⊎ (r.demand n ≡ 0 → ⊥) → (t ≤ n → r.least n ≤ r.by t n) → r.least (suc n) ≤ r.by t (suc n)
    by_place (inl after) demanded earlier =
        let same : t ≡ suc n = omega arith in
        rw same (omega (arith, is.begins (suc n)))
    by_place (inr before) (inl z) earlier = omega (arith, is.idle n (omega arith) z, earlier before, is.grows t n before (omega arith))
    by_place (inr before) (inr some) earlier = omega (arith, is.ordered n (omega arith) some, is.is_least n t before)

-- a period adds at least what it costs to serve it from its last order period
pub least_rises : (r : LotCosts) → IsLotRecursion r → (n : ℕ) → n < r.periods → (r.demand n ≡ 0 → ⊥) → r.least n + r.serve (r.last n) n ≤ r.least (suc n)
least_rises r is n inside some =
    omega (arith, is.ordered n inside some, is.grows (r.last n) n (is.within n) inside, least_below r is n (r.last n) (omega arith) (is.within n))

-- the least cost never falls
pub least_mono : (r : LotCosts) → IsLotRecursion r → (n : ℕ) → n < r.periods → r.least n ≤ r.least (suc n)
least_mono r is n inside = by_demand (cases_eq (r.demand n) 0)
  where
    by_demand : (r.demand n ≡ 0) ⊎ (r.demand n ≡ 0 → ⊥) → r.least n ≤ r.least (suc n)
    by_demand (inl z) = omega (arith, is.idle n inside z)
    by_demand (inr some) = omega (arith, least_rises r is n inside some)

-- the least cost is that by a period, if it isn't the first
abbrev IsGiven : LotCosts → ℕ → ℕ → Type 0
IsGiven r n σ = (σ ≡ 0) ⊎ ((σ ≤ n) × (r.least n ≡ r.by σ n))

-- the last order period so far gives the least cost
last_gives : (r : LotCosts) → IsLotRecursion r → (n : ℕ) → n ≤ r.periods → IsGiven r n (last_so_far r n)
last_gives r is zero inside = inl (last_so_far-none r)
last_gives r is (suc n) inside = by_demand (cases_eq (r.demand n) 0) (last_gives r is n (omega arith))
  where
    kept : r.demand n ≡ 0 → (σ : ℕ) → IsGiven r n σ → IsGiven r (suc n) σ
    kept z σ (inl first) = inl first
    kept z σ (inr (le, same)) = inr (omega arith, omega (arith, same, is.idle n (omega arith) z, is.grows σ n le (omega arith), is.free σ n (omega arith) z))

    by_demand : (r.demand n ≡ 0) ⊎ (r.demand n ≡ 0 → ⊥) → IsGiven r n (last_so_far r n) → IsGiven r (suc n) (last_so_far r (suc n))
    by_demand (inl z) earlier = rw (last_so_far-idle r n z) (kept z (last_so_far r n) earlier)
    by_demand (inr some) earlier = rw (last_so_far-ordered r n some) (inr (omega (arith, is.within n), is.ordered n (omega arith) some))

-- the last order period never moves back
pub never_back : (r : LotCosts) → IsLotRecursion r → (n : ℕ) → n < r.periods → last_so_far r n ≤ r.last n
never_back r is n inside = by_case (last_so_far r n) (last_gives r is n (omega arith))
  where
    by_order : (σ : ℕ) → σ ≤ n → r.least n ≡ r.by σ n → (r.last n < σ) ⊎ (σ ≤ r.last n) → σ ≤ r.last n
    by_order σ le same (inr ok) = ok
    by_order σ le same (inl back) =
        absurd (omega (
          arith,
          same,
          is.is_latest n σ le back,
          is.grows σ n le inside,
          is.grows (r.last n) n (is.within n) inside,
          least_below r is n (r.last n) (omega arith) (is.within n),
          is.can_wait (r.last n) σ n (omega arith) le inside,
        ))

    by_case : (σ : ℕ) → IsGiven r n σ → σ ≤ r.last n
    by_case σ (inl first) = omega arith
    by_case σ (inr (le, same)) = by_order σ le same (cases_lt (r.last n) σ)

-- what a period adds
abbrev pub added : (ℕ → ℕ) → ℕ → ℕ
added least k = least (k + 1) - least k

-- the sum of what is added is the least cost
pub sum_from-added : (r : LotCosts) → IsLotRecursion r → (n : ℕ) → n ≤ r.periods → sum_from (added r.least) 0 n ≡ r.least n
sum_from-added r is zero inside = sym is.none
sum_from-added r is (suc n) inside =
    let at : r.least (0 + n + 1) - r.least (0 + n) ≡ r.least (suc n) - r.least n = ap (λ k. r.least (k + 1) - r.least k) (omega arith) ∙ ap (λ k. r.least k - r.least n) (omega arith) in
    omega (arith, sum_from-last (added r.least) 0 n, at, sum_from-added r is n (omega arith), least_mono r is n (omega arith))

-- the cost by an order in t, as it adds up
by-is : (r : LotCosts) → IsLotRecursion r → (t n : ℕ) → t + n ≤ r.periods → r.by t (t + n) ≡ r.least t + r.setup t + sum_from (r.serve t) t n
by-is r is t zero inside = ap (r.by t) (omega arith) ∙ is.begins t ∙ omega arith
by-is r is t (suc n) inside =
    let one_more : t + suc n ≡ suc (t + n) = omega arith in
    ap (r.by t) one_more ∙ is.grows t (t + n) (omega arith) (omega arith) ∙ omega (arith, by-is r is t n (omega arith), sum_from-last (r.serve t) t n)

-- how far what periods add exceeds what it costs to serve them from t
abbrev pub excess_of : LotCosts → ℕ → ℕ → ℕ
excess_of r t k = added r.least k - r.serve t k

-- the excess x of the periods from t up to k: while no later order counts it is the least cost less the cost c of serving them, and then it grows no more
abbrev IsExcess : LotCosts → ℕ → ℕ → ℕ → ℕ → Type 0
IsExcess r t k x c = (x + r.least t + c ≡ r.least k) ⊎ ((t < last_so_far r k) × (x ≤ r.setup t))

small_excess : (r : LotCosts) → IsLotRecursion r → (t k x c : ℕ) → t ≤ k → k ≤ r.periods → r.by t k ≡ r.least t + r.setup t + c → IsExcess r t k x c → x ≤ r.setup t
small_excess r is t k x c le inside cost (inl whole) = omega (arith, whole, cost, least_below r is k t inside le)
small_excess r is t k x c le inside cost (inr (later, small)) = small

-- one period more
excess_step : (r : LotCosts) → IsLotRecursion r → (t k x c : ℕ) → t ≤ k → k < r.periods → r.by t k ≡ r.least t + r.setup t + c → IsExcess r t k x c → IsExcess r t (suc k) (x + excess_of r t k) (c + r.serve t k)
excess_step r is t k x c le inside cost earlier = by_demand (cases_eq (r.demand k) 0) earlier
  where
    next_is : r.least (k + 1) ≡ r.least (suc k)
    next_is = ap r.least (add-one k)

    idle_step : r.demand k ≡ 0 → IsExcess r t k x c → IsExcess r t (suc k) (x + excess_of r t k) (c + r.serve t k)
    idle_step z (inl whole) = inl (omega (arith, whole, next_is, is.idle k inside z, is.free t k inside z))
    idle_step z (inr (later, small)) = inr (rw (last_so_far-idle r k z) later, omega (arith, small, next_is, is.idle k inside z))

    -- the excess at k is 0 or a whole difference
    turn : (r.demand k ≡ 0 → ⊥) → x + r.least t + c ≡ r.least k → t < r.last k → (r.least (suc k) < r.least k + r.serve t k) ⊎ (r.least k + r.serve t k ≤ r.least (suc k)) → IsExcess r t (suc k) (x + excess_of r t k) (c + r.serve t k)
    turn some whole later (inl under) =
        inr (rw (last_so_far-ordered r k some) later, omega (arith, under, next_is, small_excess r is t k x c le (omega arith) cost (inl whole)))
    turn some whole later (inr over) =
        inr (rw (last_so_far-ordered r k some) later, omega (arith, over, next_is, whole, cost, is.grows t k le inside, least_below r is (suc k) t (omega arith) (omega arith)))

    whole_step : (r.demand k ≡ 0 → ⊥) → x + r.least t + c ≡ r.least k → (t < r.last k) ⊎ (r.last k ≤ t) → IsExcess r t (suc k) (x + excess_of r t k) (c + r.serve t k)
    whole_step some whole (inl later) = turn some whole later (cases_lt (r.least (suc k)) (r.least k + r.serve t k))
    whole_step some whole (inr early) = inl (omega (arith, whole, next_is, least_rises r is k inside some, is.can_wait (r.last k) t k early le inside))

    later_step : (r.demand k ≡ 0 → ⊥) → (σ : ℕ) → t < σ → σ ≤ r.last k → x ≤ r.setup t → IsGiven r k σ → IsExcess r t (suc k) (x + excess_of r t k) (c + r.serve t k)
    later_step some σ later ahead small (inl first) = absurd (omega arith)
    later_step some σ later ahead small (inr (before, same)) =
        inr (
          rw (last_so_far-ordered r k some) (omega arith),
          omega (arith, small, next_is, same, is.grows σ k before inside, least_below r is (suc k) σ (omega arith) (omega arith), is.can_wait t σ k (omega arith) before inside),
        )

    by_demand : (r.demand k ≡ 0) ⊎ (r.demand k ≡ 0 → ⊥) → IsExcess r t k x c → IsExcess r t (suc k) (x + excess_of r t k) (c + r.serve t k)
    by_demand (inl z) before = idle_step z before
    by_demand (inr some) (inl whole) = whole_step some whole (cases_lt t (r.last k))
    by_demand (inr some) (inr (later, small)) = later_step some (last_so_far r k) later (never_back r is k inside) small (last_gives r is k (omega arith))

excess_is : (r : LotCosts) → IsLotRecursion r → (t n : ℕ) → t + n ≤ r.periods → IsExcess r t (t + n) (sum_from (excess_of r t) t n) (sum_from (r.serve t) t n)
excess_is r is t zero inside = inl (omega (arith, ap r.least (add-zero t)))
excess_is r is t (suc n) inside =
    let one_more : suc (t + n) ≡ t + suc n = omega arith in
    let step = excess_step r is t (t + n) (sum_from (excess_of r t) t n) (sum_from (r.serve t) t n) (omega arith) (omega arith) (by-is r is t n (omega arith)) (excess_is r is t n (omega arith)) in
    rw (← one_more) (rw (sum_from-last (excess_of r t) t n, sum_from-last (r.serve t) t n) step)

-- no setup is exceeded
pub excess_below : (r : LotCosts) → IsLotRecursion r → (t n : ℕ) → t + n ≤ r.periods → sum_from (excess_of r t) t n ≤ r.setup t
excess_below r is t n inside =
    small_excess r is t (t + n) (sum_from (excess_of r t) t n) (sum_from (r.serve t) t n) (omega arith) inside (by-is r is t n inside) (excess_is r is t n inside)
