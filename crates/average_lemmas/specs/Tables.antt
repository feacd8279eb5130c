-- Tables that meet the rules of a certificate give values of positions that meet the rules of a run.
use Rattle.std.proofs.Common.{◌≡◌, ℕ, suc, ◌+◌, ◌-◌, ◌*◌, ◌^◌, ◌<◌, ◌≤◌, ℤ, pos, negsuc, ◌+ℤ◌, ◌-ℤ◌, ◌≤ℤ◌, ◌<ℤ◌, List, [], ◌∷◌, slice_index, sum, refl, sym, ◌∙◌, ap, subst, arith, pow-suc, mul-le-mul_left, ◌⊎◌, inl, inr, nat_lt, true, false, if◌then◌else◌}
use Rattle.std.specs.Prelude.{int_lt}
use Rattle.std.proofs.lemmas.Int.{ints}
use Rattle.std.proofs.lemmas.Nat.{pow-add}
use Rattle.std.proofs.lemmas.Bool.{cases_lt}
use Rattle.std.proofs.lemmas.Bool.Decides.{nat_tests}
use borrow.Author.Differences.{up, down}
use Rattle.demand_law.specs.WeightedSums.{sum-cons}
use Rattle.decision_model.specs.declared.average.Average.{Average}
use Rattle.decision_model.specs.Positions.{above_zero}
use Rattle.demand_law.specs.CountedSums.{counted, counted-ext, counted-scale}
use Rattle.value_cert.specs.AverageValues.{Ratio, stock_sum, moving, at_place, limit, value_after, gain, loss}
use Rattle.average_lemmas.specs.PositionValues.{setup_value, IsLower, IsUpper, value_of}
use Rattle.value_cert.specs.AverageLeast.{IsPair, IsLowerTable, IsUpperTable}
use Rattle.average_lemmas.specs.Orders.{by_order, lt_test, no_lt_test}

pub lt_true : (a b : ℕ) → a < b → nat_lt a b ≡ true
lt_true a b h = grind (arith, nat_tests)

pub lt_false : (a b : ℕ) → b ≤ a → nat_lt a b ≡ false
lt_false a b h = grind (arith, nat_tests)

-- demand 0 and the others
pub counted_first : (law : List ℕ) (f : ℕ → ℕ) → counted law f ≡ slice_index law 0 * f 0 + counted (moving law) (λ d. f (suc d))
counted_first [] f = omega arith
counted_first (w ∷ ws) f = omega arith

pub sum_first : (law : List ℕ) → sum law ≡ slice_index law 0 + sum (moving law)
sum_first [] = omega arith
sum_first (w ∷ ws) = omega (arith, sum-cons w ws)

pub above_zero_is : (z : ℤ) → above_zero z ≡ up z - down z
above_zero_is (pos n) = omega arith
above_zero_is (negsuc n) = omega arith

-- a position is below the floor or at a place
pub place_of : (item : Average) (x : ℤ) → (x <ℤ item.floor) ⊎ ((k : ℕ) × (x ≡ at_place item k))
place_of item x = go (by_order item.floor x)
  where
    go : (item.floor ≤ℤ x) ⊎ (x <ℤ item.floor) → (x <ℤ item.floor) ⊎ ((k : ℕ) × (x ≡ at_place item k))
    go (inl le) = inr (above_zero (x -ℤ item.floor), omega (arith, ints, above_zero_is (x -ℤ item.floor)))
    go (inr lt) = inl lt

module _ (item : Average) (g : Ratio) (n : ℕ) (a : ℕ → ℕ) where
  pub value_below : (x : ℤ) → x <ℤ item.floor → value_of item g n a x ≡ setup_value item g (sum (moving item.law) ^ n)
  value_below x lt = rw (lt_test x item.floor lt) refl

  value_here : (k : ℕ) → value_of item g n a (at_place item k) ≡ (if nat_lt k n then a k * sum (moving item.law) ^ (n - suc k) else 0)
  value_here k =
      let here : int_lt (at_place item k) item.floor ≡ false = no_lt_test (at_place item k) item.floor (omega (arith, ints)) in
      let place : above_zero (at_place item k -ℤ item.floor) ≡ k = omega (arith, ints, above_zero_is (at_place item k -ℤ item.floor)) in
      rw (here, place) refl

  -- r places follow
  pub value_at : (k r : ℕ) → k + suc r ≡ n → value_of item g n a (at_place item k) ≡ a k * sum (moving item.law) ^ r
  value_at k r e =
      let left : n - suc k ≡ r = omega arith in
      value_here k ∙ (rw (lt_true k n (omega arith), left) refl)

  pub value_past : (k : ℕ) → n ≤ k → value_of item g n a (at_place item k) ≡ 0
  value_past k le = value_here k ∙ (rw (lt_false k n le) refl)

  -- after a demand, over the denominator of the last place
  after_is : (k r d : ℕ) → k + suc r ≡ n → sum (moving item.law) ^ suc r * value_after item g a k d ≡ value_of item g n a (at_place item k -ℤ pos (suc d))
  after_is k r d e = go (cases_lt d k)
    where
      go : (d < k) ⊎ (k ≤ d) → sum (moving item.law) ^ suc r * value_after item g a k d ≡ value_of item g n a (at_place item k -ℤ pos (suc d))
      go (inl lt) =
          let v = sum (moving item.law) in
          let there : at_place item k -ℤ pos (suc d) ≡ at_place item (k - suc d) = omega (arith, ints) in
          let power : v ^ (d + suc r) ≡ v ^ d * v ^ suc r = pow-add v d (suc r) in
          ap (λ b. v ^ suc r * (if b then a (k - suc d) * v ^ d else item.setup * g.den * sum item.law ^ item.lead * v ^ k)) (lt_true d k lt)
          ∙ omega (arith, ap (λ z. a (k - suc d) * z) power)
          ∙ sym (value_at (k - suc d) (d + suc r) (omega arith))
          ∙ ap (value_of item g n a) (sym there)
      go (inr le) =
          let v = sum (moving item.law) in
          let power : v ^ n ≡ v ^ k * v ^ suc r = ap (λ m. v ^ m) (sym e) ∙ pow-add v k (suc r) in
          ap (λ b. v ^ suc r * (if b then a (k - suc d) * v ^ d else item.setup * g.den * sum item.law ^ item.lead * v ^ k)) (lt_false d k le)
          ∙ omega (arith, ap (λ z. item.setup * g.den * sum item.law ^ item.lead * z) power)
          ∙ sym (value_below (at_place item k -ℤ pos (suc d)) (omega (arith, ints)))

  afters_are : (k r : ℕ) → k + suc r ≡ n → sum (moving item.law) ^ suc r * counted (moving item.law) (value_after item g a k) ≡ counted (moving item.law) (λ d. value_of item g n a (at_place item k -ℤ pos (suc d)))
  afters_are k r e =
      sym (counted-scale (moving item.law) (sum (moving item.law) ^ suc r) (value_after item g a k))
      ∙ counted-ext (moving item.law) _ _ (λ d lt. after_is k r d e)

  -- what keeping a place is worth, over the denominator of the last place
  module _ (k r : ℕ) (e : k + suc r ≡ n) where
    pub gain_is : sum (moving item.law) ^ suc r * gain item g a k + slice_index item.law 0 * value_of item g n a (at_place item k)
        ≡ g.den * sum (moving item.law) ^ n * stock_sum item (at_place item k) + counted item.law (λ d. value_of item g n a (at_place item k -ℤ pos d))
    gain_is =
        let v = sum (moving item.law) in
        let cost = stock_sum item (at_place item k) in
        let power : v ^ n ≡ v ^ k * v ^ suc r = ap (λ m. v ^ m) (sym e) ∙ pow-add v k (suc r) in
        let all = counted_first item.law (λ d. value_of item g n a (at_place item k -ℤ pos d)) in
        let stays : at_place item k -ℤ pos 0 ≡ at_place item k = omega (arith, ints) in
        let here = ap (λ x. slice_index item.law 0 * value_of item g n a x) stays in
        let costs = ap (λ z. g.den * z * cost) power in
        omega (arith, all, here, costs, afters_are k r e)

    pub loss_is : sum (moving item.law) ^ suc r * loss item g k ≡ g.num * sum (moving item.law) ^ n * sum item.law ^ suc item.lead
    loss_is =
        let v = sum (moving item.law) in
        let power : v ^ n ≡ v ^ k * v ^ suc r = ap (λ m. v ^ m) (sym e) ∙ pow-add v k (suc r) in
        omega (arith, ap (λ z. g.num * z * sum item.law ^ suc item.lead) power)

    pub entry_is : sum (moving item.law) ^ suc r * a k + slice_index item.law 0 * value_of item g n a (at_place item k) ≡ sum item.law * value_of item g n a (at_place item k)
    entry_is =
        let v = sum (moving item.law) in
        let here = value_at k r e in
        omega (arith, ap (λ z. v * z) here, ap (λ z. z * value_of item g n a (at_place item k)) (sum_first item.law), ap (λ z. z * a k) (pow-suc v r))

    pub limit_is : sum (moving item.law) ^ r * limit item g k ≡ setup_value item g (sum (moving item.law) ^ n)
    limit_is =
        let v = sum (moving item.law) in
        let same : suc k + r ≡ n = omega arith in
        let power : v ^ n ≡ v ^ suc k * v ^ r = ap (λ m. v ^ m) (sym same) ∙ pow-add v (suc k) r in
        omega (arith, ap (λ z. item.setup * g.den * sum item.law ^ item.lead * z) power)

module _ (item : Average) (g : Ratio) (n : ℕ) (a : ℕ → ℕ) (all : item.floor +ℤ pos n ≡ item.cap +ℤ pos 1) where
  -- a place of the grid, with the places that follow
  inside : (k : ℕ) → at_place item k ≤ℤ item.cap → (k < n) × (k + suc (n - suc k) ≡ n)
  inside k le = let lt : k < n = omega (arith, ints) in (lt, omega arith)

  pub lower_table : IsLowerTable item g n a → IsLower item g (sum (moving item.law) ^ n) (value_of item g n a)
  lower_table table = record { limit = most; keep = keep }
    where
      at : (k : ℕ) → (k < n) ⊎ (n ≤ k) → value_of item g n a (at_place item k) ≤ setup_value item g (sum (moving item.law) ^ n)
      at k (inl lt) =
          let e : k + suc (n - suc k) ≡ n = omega arith in
          omega (arith, value_at item g n a k (n - suc k) e, limit_is item g n a k (n - suc k) e, mul-le-mul_left (sum (moving item.law) ^ (n - suc k)) (table.within k lt))
      at k (inr le) = omega (arith, value_past item g n a k le)

      most : (x : ℤ) → value_of item g n a x ≤ setup_value item g (sum (moving item.law) ^ n)
      most x = by_place (place_of item x)
        where
          by_place : (x <ℤ item.floor) ⊎ ((k : ℕ) × (x ≡ at_place item k)) → value_of item g n a x ≤ setup_value item g (sum (moving item.law) ^ n)
          by_place (inl lt) = omega (arith, value_below item g n a x lt)
          by_place (inr (k, same)) = subst (λ (z : ℤ). value_of item g n a z ≤ setup_value item g (sum (moving item.law) ^ n)) (sym same) (at k (cases_lt k n))

      at_keep : (k : ℕ) → at_place item k ≤ℤ item.cap → g.num * sum (moving item.law) ^ n * sum item.law ^ suc item.lead + sum item.law * value_of item g n a (at_place item k) ≤ g.den * sum (moving item.law) ^ n * stock_sum item (at_place item k) + counted item.law (λ d. value_of item g n a (at_place item k -ℤ pos d))
      at_keep k top =
          let (lt, e) = inside k top in
          let r = n - suc k in
          omega (arith, mul-le-mul_left (sum (moving item.law) ^ suc r) (table.keep k lt), gain_is item g n a k r e, loss_is item g n a k r e, entry_is item g n a k r e)

      keep : (y : ℤ) → item.floor ≤ℤ y → y ≤ℤ item.cap → g.num * sum (moving item.law) ^ n * sum item.law ^ suc item.lead + sum item.law * value_of item g n a y ≤ g.den * sum (moving item.law) ^ n * stock_sum item y + counted item.law (λ d. value_of item g n a (y -ℤ pos d))
      keep y floor cap = by_place (place_of item y)
        where
          by_place : (y <ℤ item.floor) ⊎ ((k : ℕ) × (y ≡ at_place item k)) → g.num * sum (moving item.law) ^ n * sum item.law ^ suc item.lead + sum item.law * value_of item g n a y ≤ g.den * sum (moving item.law) ^ n * stock_sum item y + counted item.law (λ d. value_of item g n a (y -ℤ pos d))
          by_place (inl lt) = absurd (omega (arith, ints))
          by_place (inr (k, same)) =
              subst (λ (z : ℤ). g.num * sum (moving item.law) ^ n * sum item.law ^ suc item.lead + sum item.law * value_of item g n a z ≤ g.den * sum (moving item.law) ^ n * stock_sum item z + counted item.law (λ d. value_of item g n a (z -ℤ pos d))) (sym same) (at_keep k (omega (arith, ints)))

  pub upper_table : (low high : ℤ) → IsPair item low high → IsUpperTable item g low high n a → IsUpper item g (sum (moving item.law) ^ n) low high (value_of item g n a)
  upper_table low high pair table = record { order = order; keep = keep; reached = reached }
    where
      order : (x : ℤ) → x ≤ℤ low → value_of item g n a x ≡ setup_value item g (sum (moving item.law) ^ n)
      order x le = by_place (place_of item x)
        where
          by_place : (x <ℤ item.floor) ⊎ ((k : ℕ) × (x ≡ at_place item k)) → value_of item g n a x ≡ setup_value item g (sum (moving item.law) ^ n)
          by_place (inl lt) = value_below item g n a x lt
          by_place (inr (k, same)) =
              let (lt, e) = inside k (omega (arith, ints, pair.ordered, pair.within)) in
              let r = n - suc k in
              ap (value_of item g n a) same ∙ omega (arith, value_at item g n a k r e, limit_is item g n a k r e, ap (λ z. sum (moving item.law) ^ r * z) (table.order k lt (omega (arith, ints))))

      keep : (y : ℤ) → low <ℤ y → y ≤ℤ item.cap → g.num * sum (moving item.law) ^ n * sum item.law ^ suc item.lead + sum item.law * value_of item g n a y ≡ g.den * sum (moving item.law) ^ n * stock_sum item y + counted item.law (λ d. value_of item g n a (y -ℤ pos d))
      keep y above cap = by_place (place_of item y)
        where
          by_place : (y <ℤ item.floor) ⊎ ((k : ℕ) × (y ≡ at_place item k)) → g.num * sum (moving item.law) ^ n * sum item.law ^ suc item.lead + sum item.law * value_of item g n a y ≡ g.den * sum (moving item.law) ^ n * stock_sum item y + counted item.law (λ d. value_of item g n a (y -ℤ pos d))
          by_place (inl lt) = absurd (omega (arith, ints, pair.above))
          by_place (inr (k, same)) =
              let (lt, e) = inside k (omega (arith, ints)) in
              let r = n - suc k in
              let there : low <ℤ at_place item k = omega (arith, ints) in
              subst (λ (z : ℤ). g.num * sum (moving item.law) ^ n * sum item.law ^ suc item.lead + sum item.law * value_of item g n a z ≡ g.den * sum (moving item.law) ^ n * stock_sum item z + counted item.law (λ d. value_of item g n a (z -ℤ pos d))) (sym same)
              (omega (arith, ap (λ z. sum (moving item.law) ^ suc r * z) (table.keep k lt there), gain_is item g n a k r e, loss_is item g n a k r e, entry_is item g n a k r e))

      reached : value_of item g n a high ≡ 0
      reached = by_place (place_of item high)
        where
          by_place : (high <ℤ item.floor) ⊎ ((k : ℕ) × (high ≡ at_place item k)) → value_of item g n a high ≡ 0
          by_place (inl lt) = absurd (omega (arith, ints, pair.above, pair.ordered))
          by_place (inr (k, same)) =
              let (lt, e) = inside k (omega (arith, ints, pair.within)) in
              let r = n - suc k in
              ap (value_of item g n a) same ∙ value_at item g n a k r e ∙ ap (λ z. z * sum (moving item.law) ^ r) (table.reached k lt (sym same)) ∙ omega arith
