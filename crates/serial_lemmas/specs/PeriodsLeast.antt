-- A certificate of a serial system whose lines break no rule has a level for each echelon of each period and a cell for
-- each position, and names a policy that costs least.
use Rattle.std.proofs.Common.{◌≡◌, ℕ, zero, suc, ◌+◌, ◌-◌, ◌<◌, ◌≤◌, cond, List, [], ◌∷◌, length, map, ℤ, pos, ◌+ℤ◌, ◌-ℤ◌, ◌≤ℤ◌, IsTrue, refl, sym, ap, ◌∙◌, subst, arith}
use Rattle.std.specs.Prelude.{int_le, slice_index_or}
use Rattle.std.specs.List.{range_with_len}
use Rattle.std.specs.Int.Signed.{≤ℤ_refl}
use Rattle.std.proofs.lemmas.Bool.{and_parts, eq-eqb, ne_eqb}
use Rattle.std.proofs.lemmas.Int.{ints}
use Rattle.demand_law.specs.Integers as Z
use Rattle.decision_model.specs.declared.instance.Instance.TheVariants as instance
use Rattle.decision_model.specs.declared.serial.Serial.{Serial}
use Rattle.decision_model.specs.Policies.{Least}
use Rattle.decision_model.specs.Positions.{above_zero}
use Rattle.decision_model.specs.PositionTests.{le_known}
use Rattle.decision_model.specs.Serial.{IsReadableSerial, serial_low}
use Rattle.decision_model.specs.SerialProblem.{limit, over_echelons, are_ordered, serial_problem}
use Rattle.decision_model.specs.SerialSound.{sound_readable}
use Rattle.decision_model.specs.SerialStates.{ordered_low, ordered_cap}
use Rattle.value_cert.specs.Contents.{EachIs}
use Rattle.value_cert.specs.Kept.{BreaksNoRule}
use Rattle.value_cert.specs.SerialRules.{no_rows, put_level, rows_of, row_cells, cell_value, serial_levels, start_value, IsRowOf, IsPeriodOf, HasEachPeriod, IsLeastPolicy, CertifiesPolicy}
use Rattle.value_cert.specs.SerialValues.{order_cost, echelon_value, no_values, base_stock_policy, row_width}
use Rattle.value_cert.specs.declared.cert.Cert.TheVariants as cert
use Rattle.value_cert.specs.declared.serial.SerialCert.{SerialCert}
use Rattle.value_cert.specs.declared.serial.SerialPeriod.{SerialPeriod}
use Rattle.value_cert.specs.declared.serial.SerialRow.{SerialRow}
use Rattle.serial_lemmas.specs.Certified.{certified}
use Rattle.serial_lemmas.specs.Levels.{IsCertificate}
use Rattle.serial_lemmas.specs.RowCells.{cells_at, cells_value}
use Rattle.serial_lemmas.specs.RowsKept.{RowsPass, PeriodsPass, put_rows, put_levels, periods_kept}
use Rattle.serial_lemmas.specs.RowsLeast.{RowAt, row_at, rows_put, turns, place_is}

-- ---- lists of rows
module _ (serial : Serial) (F : ℕ → ℤ → ℤ) (n t : ℕ) where
  -- the echelons of rows count from the first one's
  rows_echelons : (i : ℕ) (levels : ℕ → ℤ) (rows : List SerialRow) → RowsPass serial F n t i levels rows → map (λ row. row.echelon) rows ≡ range_with_len (i + 1) (length rows)
  rows_echelons i levels [] pass = refl
  rows_echelons i levels (row ∷ rows) pass =
      let first : row.echelon ≡ i + 1 = omega (arith, pass.0.echelon) in
      let next : suc i + 1 ≡ i + 1 + 1 = omega arith in
      ap (λ echelon. echelon ∷ map (λ row. row.echelon) rows) first
      ∙ ap (λ rest. (i + 1) ∷ rest) (rows_echelons (suc i) (put_level levels i row.level) rows pass.1 ∙ ap (λ k. range_with_len k (length rows)) next)

  -- each has the positions of its period
  rows_positions : (i : ℕ) (levels : ℕ → ℤ) (rows : List SerialRow) → RowsPass serial F n t i levels rows → EachIs (IsRowOf serial t) rows
  rows_positions i levels [] pass = tt
  rows_positions i levels (row ∷ rows) pass =
      let low = serial_low serial t in
      let E = echelon_value serial (order_cost serial F n t) (put_level levels i row.level) n t i in
      let here : IsRowOf serial t row = cells_at E low (row_width serial t) 0 row.cells pass.0.cells ∙ ap (λ k. map (λ place. low +ℤ pos place) (range_with_len 0 k)) pass.0.whole in
      (here, rows_positions (suc i) (put_level levels i row.level) rows pass.1)

-- ---- lists of periods
-- the values behind so many periods
abbrev pub values_after : (ℕ → ℤ → ℤ) → List SerialPeriod → ℕ → ℕ → ℤ → ℤ
values_after F periods zero = F
values_after F [] (suc k) = F
values_after F (period ∷ periods) (suc k) = values_after (put_rows F 0 period.rows) periods k

-- the rows of period t, which n periods follow, with the values before and after it
record PeriodAt (serial : Serial) (F G : ℕ → ℤ → ℤ) (n t : ℕ) (rows : List SerialRow) : Type 0 where
  levels : ℕ → ℤ
  pass : RowsPass serial F n t 0 levels rows
  count : length rows ≡ length serial.holding
  values : G ≡ put_rows F 0 rows

module _ (serial : Serial) where
  -- the rows of the first of some periods, and those of the others
  rows_here : (period : SerialPeriod) (periods : List SerialPeriod) (t : ℕ) → period.period ≡ t → rows_of (period ∷ periods) t ≡ period.rows
  rows_here period periods t e = ap (λ b. cond b period.rows (rows_of periods t)) (eq-eqb period.period t e)

  -- where a period is another one
  rows_further : (period : SerialPeriod) (periods : List SerialPeriod) (t : ℕ) → (period.period ≡ t → ⊥) → rows_of (period ∷ periods) t ≡ rows_of periods t
  rows_further period periods t differ = ap (λ b. cond b period.rows (rows_of periods t)) (ne_eqb period.period t differ)

  -- each period from the next one down has its rows
  period_at : (F : ℕ → ℤ → ℤ) (levels : ℕ → ℤ) (p : ℕ) (periods : List SerialPeriod) → PeriodsPass serial F levels p periods → (k n t : ℕ) → p + k ≡ n → t + n ≡ serial.periods → 1 ≤ t → PeriodAt serial (values_after F periods k) (values_after F periods (suc k)) n t (rows_of periods t)
  period_at F levels p [] pass k n t e f pt = absurd (omega (arith, pass, e, f, pt))
  period_at F levels p (period ∷ periods) pass zero n t e f pt =
      let P : ℕ → ℕ → List SerialRow → Type 0 = λ n t rows. PeriodAt serial F (put_rows F 0 period.rows) n t rows in
      let here : P p (serial.periods - p) period.rows = record { levels = levels; pass = pass.0.rows; count = pass.0.count; values = refl } in
      let same : p ≡ n = omega (arith, e) in
      let number : serial.periods - p ≡ t = omega (arith, e, f) in
      subst (λ (rows : List SerialRow). P n t rows) (sym (rows_here period periods t (pass.0.number ∙ number)))
      (subst (λ (s : ℕ). P n s period.rows) number (subst (λ (m : ℕ). P m (serial.periods - p) period.rows) same here))
  period_at F levels p (period ∷ periods) pass (suc k) n t e f pt =
      let rest = period_at (put_rows F 0 period.rows) (put_levels levels 0 period.rows) (suc p) periods pass.1 k n t (omega (arith, e)) f pt in
      let differ : period.period ≡ t → ⊥ = λ same. absurd (omega (arith, pass.0.number, pass.0.more, same, e, f)) in
      subst (λ (rows : List SerialRow). PeriodAt serial (values_after (put_rows F 0 period.rows) periods k) (values_after (put_rows F 0 period.rows) periods (suc k)) n t rows) (sym (rows_further period periods t differ)) rest

  -- there are as many periods as the instance has
  periods_count : (F : ℕ → ℤ → ℤ) (levels : ℕ → ℤ) (p : ℕ) (periods : List SerialPeriod) → PeriodsPass serial F levels p periods → p + length periods ≡ serial.periods
  periods_count F levels p [] pass = omega (arith, pass)
  periods_count F levels p (period ∷ periods) pass =
      omega (arith, periods_count (put_rows F 0 period.rows) (put_levels levels 0 period.rows) (suc p) periods pass.1)

  -- each has all echelons
  period_listed : (F : ℕ → ℤ → ℤ) (levels : ℕ → ℤ) (p : ℕ) (periods : List SerialPeriod) → PeriodsPass serial F levels p periods → (k : ℕ) (d : SerialPeriod) → k < length periods → IsPeriodOf serial (serial.periods - (p + k)) (slice_index_or periods k d)
  period_listed F levels p [] pass k d lt = absurd (omega (arith, lt))
  period_listed F levels p (period ∷ periods) pass zero d lt =
      let same : serial.periods - p ≡ serial.periods - (p + 0) = omega arith in
      let first : 0 + 1 ≡ 1 = omega arith in
      let echelons = rows_echelons serial F p (serial.periods - p) 0 levels period.rows pass.0.rows ∙ ap (λ k. range_with_len k (length period.rows)) first ∙ ap (range_with_len 1) pass.0.count in
      let here : IsPeriodOf serial (serial.periods - p) period = record { number_is = pass.0.number; echelons = echelons; each = rows_positions serial F p (serial.periods - p) 0 levels period.rows pass.0.rows } in
      subst (λ (s : ℕ). IsPeriodOf serial s period) same here
  period_listed F levels p (period ∷ periods) pass (suc k) d lt =
      let same : serial.periods - (suc p + k) ≡ serial.periods - (p + suc k) = omega arith in
      subst (λ (s : ℕ). IsPeriodOf serial s (slice_index_or periods k d)) same
      (period_listed (put_rows F 0 period.rows) (put_levels levels 0 period.rows) (suc p) periods pass.1 k d (omega (arith, lt)))

-- ---- the certificate
module _ (serial : Serial) (readable : IsReadableSerial serial) (c : SerialCert) (pass : PeriodsPass serial no_values (λ i. pos 0) 0 c.periods) where
  -- the values behind so many periods
  F : ℕ → ℕ → ℤ → ℤ
  F n = values_after no_values c.periods n

  -- the rows of a period
  at : (n t : ℕ) → 1 ≤ t → t + n ≡ serial.periods → PeriodAt serial (F n) (F (suc n)) n t (rows_of c.periods t)
  unfolding F
  at n t pt e = period_at serial no_values (λ i. pos 0) 0 c.periods pass n n t (omega arith) e pt

  -- the row of an echelon
  row : (n t i : ℕ) → 1 ≤ t → t + n ≡ serial.periods → i < length serial.holding → RowAt serial (F n) n t i (serial_levels c t) (row_cells (rows_of c.periods t) i)
  row n t i pt e lt =
      let here = at n t pt e in
      row_at serial (F n) n t (serial_levels c t) 0 here.levels (rows_of c.periods t) here.pass (λ j less. absurd (omega (arith, less))) (λ j le. refl) i (omega arith) (omega (arith, lt, here.count))

  -- the value of a position
  value : (n t i : ℕ) (x : ℤ) → 1 ≤ t → t + n ≡ serial.periods → i < length serial.holding → serial_low serial t ≤ℤ x → x ≤ℤ serial.cap
      → (F (suc n) i x ≡ echelon_value serial (order_cost serial (F n) n t) (serial_levels c t) n t i x) × (cell_value (row_cells (rows_of c.periods t) i) x ≡ echelon_value serial (order_cost serial (F n) n t) (serial_levels c t) n t i x)
  value n t i x pt e lt from to =
      let here = at n t pt e in
      let it = row n t i pt e lt in
      let E = echelon_value serial (order_cost serial (F n) n t) (serial_levels c t) n t i in
      let place = place_is (serial_low serial t) serial.cap x from to in
      let k = above_zero (x -ℤ serial_low serial t) in
      let inside : k < length (row_cells (rows_of c.periods t) i) = omega (arith, it.whole, place.1) in
      let none : k ≡ 0 + k = omega arith in
      let stands = place.0 ∙ ap (λ (j : ℕ). serial_low serial t +ℤ pos j) none in (
        ap (λ (f : ℕ → ℤ → ℤ). f i x) here.values ∙ rows_put serial (F n) n t (F n) 0 here.levels (rows_of c.periods t) here.pass i k x E (omega arith) (omega (arith, lt, here.count)) it.cells inside stands,
        cells_value E (serial_low serial t) (row_width serial t) 0 (row_cells (rows_of c.periods t) i) k x it.cells inside stands,
      )

  -- its levels and values are those of the rules
  is_certificate : IsCertificate serial (serial_levels c) F
  unfolding F
  is_certificate = record {
    last = λ i x. refl;
    levels = λ n t i pt e lt. turns serial (F n) n t i (serial_levels c t i) (row n t i pt e lt).rule;
    exact = λ n t i x pt e lt from to. (value n t i x pt e lt from to).0;
  }

  -- the values of the start
  start_sum : (n : ℕ) → 1 + n ≡ serial.periods → (low : ℤ) (i : ℕ) (xs : List ℤ) → serial_low serial 1 ≤ℤ low → i + length xs ≡ length serial.holding → IsTrue (are_ordered low serial.cap xs) → over_echelons (F (suc n)) i xs ≡ over_echelons (λ i x. cell_value (row_cells (rows_of c.periods 1) i) x) i xs
  start_sum n e low i [] above f on = refl
  start_sum n e low i (x ∷ xs) above f on =
      let here = and_parts (int_le low x) (are_ordered x serial.cap xs) on in
      let from = Z.le_trans (serial_low serial 1) low x above (le_known low x here.0) in
      let to = Z.le_trans x (limit serial.cap xs) serial.cap (ordered_low x serial.cap xs here.1) (ordered_cap x serial.cap xs here.1) in
      let both = value n 1 i x (omega arith) e (omega (arith, f)) from to in
      omega (arith, ints, both.0, both.1, start_sum n e x (suc i) xs from (omega (arith, f)) here.1)

  -- it has each level and each position
  has_each_period : HasEachPeriod serial c
  has_each_period =
      let count : length c.periods ≡ serial.periods = omega (arith, periods_count serial no_values (λ i. pos 0) 0 c.periods pass) in
      record { count = count; each = λ k d lt. listed k d (omega (arith, count, lt)) }
    where
      listed : (k : ℕ) (d : SerialPeriod) → k < length c.periods → IsPeriodOf serial (serial.periods - k) (slice_index_or c.periods k d)
      listed k d lt =
          let same : 0 + k ≡ k = omega arith in
          subst (λ (i : ℕ). IsPeriodOf serial (serial.periods - i) (slice_index_or c.periods k d)) same (period_listed serial no_values (λ i. pos 0) 0 c.periods pass k d lt)

  -- and its policy costs least
  least_policy : IsLeastPolicy serial c
  least_policy =
      let sound = sound_readable serial readable in
      let n = serial.periods - 1 in
      let first : 1 + n ≡ serial.periods = omega (arith, readable.periods.least) in
      let all : suc n ≡ serial.periods = omega (arith, readable.periods.least) in
      let start : over_echelons (F serial.periods) 0 serial.start ≡ start_value serial c = ap (λ (k : ℕ). over_echelons (F k) 0 serial.start) (sym all) ∙ start_sum n first (serial_low serial 1) 0 serial.start (≤ℤ_refl (serial_low serial 1)) (omega (arith, sound.start_each)) sound.start_ordered in
      record {
        periods = has_each_period;
        least = subst (λ (v : ℤ). Least (serial_problem serial) (base_stock_policy (serial_levels c) 1 serial.start) v) start (certified serial sound (serial_levels c) F is_certificate);
      }

-- a certificate whose lines break no rule names a policy that costs least
pub serial_certifies : (serial : Serial) → IsReadableSerial serial → (c : SerialCert) → BreaksNoRule (instance.Serial serial) (cert.Serial c) → CertifiesPolicy serial (cert.Serial c)
serial_certifies serial readable c kept = least_policy serial readable c (periods_kept serial no_rows c.periods kept.1).pass
