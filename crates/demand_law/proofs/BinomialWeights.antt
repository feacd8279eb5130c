-- The law of the number of successes is that of a sum of trials.
use Rattle.std.proofs.Common.{◌≡◌, ℕ, zero, suc, ◌+◌, ◌-◌, ◌*◌, ◌^◌, ◌<◌, ◌≤◌, pos, ◌+ℤ◌, ◌*ℤ◌, List, [], ◌∷◌, length, sum, map, if◌then◌else◌, refl, sym, ◌∙◌, ap, arith, zero-add, ne_eqb, eq-eqb, ◌⊎◌, inl, inr}
use Rattle.std.proofs.Math.Nat.{pow-zero, pow-suc, pow-le-pow_right}
use Rattle.std.specs.List.{range_with_len}
use Rattle.std.proofs.lemmas.Int.{ints}
use Rattle.std.proofs.lemmas.Bool.{cases_lt, cases_eq}
use Rattle.std.proofs.lemmas.List.FromFn.{fill_by_all, length-map-range_with_len, get_or-map-range_with_len}
use lib.Dec.{eqb-zero-suc, eqb-suc-zero, eqb-suc-suc}
use Rattle.demand_law.specs.Law.{weighted, greatest_of}
use Rattle.demand_law.specs.Sequences.{over, laws_from, totals_of, one_at, weight_of_sum, greatest_sum, IsSumOf, law_of_sum}
use Rattle.demand_law.specs.Integers as Z
use Rattle.demand_law.specs.WeightedSums.{sum-cons}
use Rattle.demand_law.specs.SequenceSums.{over-zero, totals_of-laws_from}
use Rattle.demand_law.specs.LawSums.{sum-IsSumOf, IsSumOf-law_of_sum}
use Rattle.demand_law.specs.Points.{weight_in, width_in, points_law}
use Rattle.demand_law.specs.Named.{choose, binomial_weight, binomial_greatest, binomial_law}

-- ---- how many ways there are to choose
choose-zero : (n : ℕ) → choose n 0 ≡ 1
unfolding choose
choose-zero zero = refl
choose-zero (suc n) = refl

choose-suc : (n k : ℕ) → choose (suc n) (suc k) ≡ choose n k + choose n (suc k)
unfolding choose
choose-suc n k = refl

-- there is no way to choose more than there are
choose_past : (n k : ℕ) → n < k → choose n k ≡ 0
unfolding choose
choose_past n zero lt = absurd (omega arith)
choose_past zero (suc k) lt = refl
choose_past (suc n) (suc k) lt = omega (arith, choose_past n k (omega arith), choose_past n (suc k) (omega arith))

choose_all : (n : ℕ) → choose n n ≡ 1
choose_all zero = choose-zero 0
choose_all (suc n) = omega (arith, choose-suc n n, choose_all n, choose_past n (suc n) (omega arith))

-- ---- the weights, f being the weight of failure in a trial
weight-zero : (n a f : ℕ) → choose n 0 * a ^ 0 * f ^ (n - 0) ≡ f ^ n
weight-zero n a f =
    ap (λ c. c * a ^ 0 * f ^ (n - 0)) (choose-zero n)
    ∙ ap (λ x. 1 * x * f ^ (n - 0)) (pow-zero a)
    ∙ ap (λ m. 1 * 1 * f ^ m) all
    ∙ omega arith
  where
    all : n - 0 ≡ n
    all = omega arith

-- one trial more succeeds or fails
weight-suc : (n k a f : ℕ) → choose (suc n) (suc k) * a ^ suc k * f ^ (suc n - suc k) ≡ f * (choose n (suc k) * a ^ suc k * f ^ (n - suc k)) + a * (choose n k * a ^ k * f ^ (n - k))
weight-suc n k a f = product (choose n k) (choose n (suc k)) _ (a ^ k) _ (f ^ (n - k)) (f ^ (n - suc k)) _ (choose-suc n k) (pow-suc a k) (ap (λ m. f ^ m) shorter) (by_place (cases_lt k n))
  where
    shorter : suc n - suc k ≡ n - k
    shorter = omega arith

    product : (c d e x z y u v : ℕ) → e ≡ c + d → z ≡ x * a → v ≡ y → d * y ≡ d * (u * f) → e * z * v ≡ f * (d * z * u) + a * (c * x * y)
    product c d e x z y u v p q r s =
        ap (λ m. m * z * v) p
        ∙ ap (λ m. (c + d) * m * v) q
        ∙ ap (λ m. (c + d) * (x * a) * m) r
        ∙ omega (arith, ap (λ m. x * a * m) s, ap (λ m. f * (d * m * u)) q)

    by_place : (k < n) ⊎ (n ≤ k) → choose n (suc k) * f ^ (n - k) ≡ choose n (suc k) * (f ^ (n - suc k) * f)
    by_place (inl lt) = ap (λ m. choose n (suc k) * m) (ap (λ m. f ^ m) one_more ∙ pow-suc f (n - suc k))
      where
        one_more : n - k ≡ suc (n - suc k)
        one_more = omega arith
    by_place (inr le) = ap (λ c. c * f ^ (n - k)) none ∙ omega arith ∙ sym (ap (λ c. c * (f ^ (n - suc k) * f)) none)
      where
        none : choose n (suc k) ≡ 0
        none = choose_past n (suc k) (omega arith)

-- ---- trials, each of them 1 with the weight a, else 0
module _ (law : ℕ → List ℕ) (a b : ℕ) (trial : (t : ℕ) → law t ≡ (b - a) ∷ a ∷ []) where
  -- one trial before others
  weight_of_sum-suc : (t n e : ℕ) → weight_of_sum (laws_from law t (suc n)) e ≡ pos (b - a) *ℤ weight_of_sum (laws_from law (suc t) n) e +ℤ pos a *ℤ over (laws_from law (suc t) n) (λ ds. one_at (suc (sum ds)) e)
  weight_of_sum-suc t n e =
      ap (λ l. weighted l (λ d. over others (λ ds. one_at (sum (d ∷ ds)) e))) (trial t)
      ∙ ap (λ z. pos (b - a) *ℤ z +ℤ (pos a *ℤ over others (λ ds. one_at (sum (1 ∷ ds)) e) +ℤ pos 0)) failed
      ∙ ap (λ z. pos (b - a) *ℤ weight_of_sum others e +ℤ z) (Z.add_zero (pos a *ℤ over others (λ ds. one_at (sum (1 ∷ ds)) e)) ∙ ap (λ z. pos a *ℤ z) succeeded)
    where
      others : List (List ℕ)
      others = laws_from law (suc t) n

      same : (ds : List ℕ) → sum (0 ∷ ds) ≡ sum ds
      same ds = omega (arith, sum-cons 0 ds)

      one_more : (ds : List ℕ) → sum (1 ∷ ds) ≡ suc (sum ds)
      one_more ds = omega (arith, sum-cons 1 ds)

      failed : over others (λ ds. one_at (sum (0 ∷ ds)) e) ≡ weight_of_sum others e
      failed = ap (over others) (λ i ds. one_at (same ds i) e)

      succeeded : over others (λ ds. one_at (sum (1 ∷ ds)) e) ≡ over others (λ ds. one_at (suc (sum ds)) e)
      succeeded = ap (over others) (λ i ds. one_at (one_more ds i) e)

  -- the weight of k is that of all sequences of trials that have k successes
  weight_of_sum-trials : (t n k : ℕ) → weight_of_sum (laws_from law t n) k ≡ pos (binomial_weight n a b k)
  weight_of_sum-trials t zero zero = ap pos (sym (weight-zero 0 a (b - a) ∙ pow-zero (b - a)))
  weight_of_sum-trials t zero (suc k) =
      ap (λ v. if v then pos 1 else pos 0) (eqb-zero-suc k) ∙ ap pos (sym (ap (λ c. c * a ^ suc k * (b - a) ^ (0 - suc k)) (choose_past 0 (suc k) (omega arith)) ∙ omega arith))
  weight_of_sum-trials t (suc n) zero =
      let none : over (laws_from law (suc t) n) (λ ds. one_at (suc (sum ds)) 0) ≡ pos 0 = ap (over (laws_from law (suc t) n)) (λ i ds. if eqb-suc-zero (sum ds) i then pos 1 else pos 0) ∙ over-zero (laws_from law (suc t) n) in
      weight_of_sum-suc t n 0
      ∙ ap (λ z. pos (b - a) *ℤ weight_of_sum (laws_from law (suc t) n) 0 +ℤ pos a *ℤ z) none
      ∙ ap (λ z. pos (b - a) *ℤ z +ℤ pos a *ℤ pos 0) (weight_of_sum-trials (suc t) n 0 ∙ ap pos (weight-zero n a (b - a)))
      ∙ ap pos (last (b - a) ((b - a) ^ n) ∙ sym (weight-zero (suc n) a (b - a) ∙ pow-suc (b - a) n))
    where
      last : (f x : ℕ) → f * x + a * 0 ≡ x * f
      last f x = omega arith
  weight_of_sum-trials t (suc n) (suc k) =
      let fewer : over (laws_from law (suc t) n) (λ ds. one_at (suc (sum ds)) (suc k)) ≡ weight_of_sum (laws_from law (suc t) n) k = ap (over (laws_from law (suc t) n)) (λ i ds. if eqb-suc-suc (sum ds) k i then pos 1 else pos 0) in
      weight_of_sum-suc t n (suc k)
      ∙ ap (λ z. pos (b - a) *ℤ weight_of_sum (laws_from law (suc t) n) (suc k) +ℤ pos a *ℤ z) (fewer ∙ weight_of_sum-trials (suc t) n k)
      ∙ ap (λ z. pos (b - a) *ℤ z +ℤ pos a *ℤ pos (binomial_weight n a b k)) (weight_of_sum-trials (suc t) n (suc k))
      ∙ ap pos (sym (weight-suc n k a (b - a)))

  greatest_sum-trials : (t n : ℕ) → greatest_sum (laws_from law t n) ≡ n
  greatest_sum-trials t zero = refl
  greatest_sum-trials t (suc n) = omega (arith, ap greatest_of (trial t), greatest_sum-trials (suc t) n)

  -- the law of the sum of the trials
  pub binomial_law-trials : (ws : List ℕ) (t n : ℕ) → 0 < a → IsSumOf ws (laws_from law t n) → ws ≡ binomial_law n a b
  unfolding binomial_law
  binomial_law-trials ws t n some is =
      fill_by_all (binomial_weight n a b) ws (binomial_greatest n a + 1) 0
      (is.width ∙ ap (λ m. m + 1) (greatest_sum-trials t n ∙ sym (all a some)))
      (λ k lt. omega (arith, ints, is.weights k ∙ weight_of_sum-trials t n k))
    where
      all : (a : ℕ) → 0 < a → binomial_greatest n a ≡ n
      all a some = grind arith

  pub totals_of-trials : (t n : ℕ) → a ≤ b → totals_of (laws_from law t n) ≡ b ^ n
  totals_of-trials t n le = totals_of-laws_from law b (λ s. ap sum (trial s) ∙ omega arith) t n

-- ---- powers
-- a base is at most its powers
pub base_fits : (b n most : ℕ) → 0 < n → 0 < b → b ^ n ≤ most → b ≤ most
base_fits b n most some base fits =
    let one : 1 ≤ n = omega arith in
    omega (arith, pow-le-pow_right base one, pow-suc b 0, ap (λ x. x * b) (pow-zero b))

-- ---- the law as a whole
-- no trial succeeds
pub binomial_law-never : (n a b : ℕ) → a ≡ 0 → points_law ((0, b ^ n) ∷ []) ≡ binomial_law n a b
unfolding binomial_law
binomial_law-never n a b none = ap (λ w. w ∷ []) (sym (weight-zero n 0 (b - 0) ∙ ap (λ f. f ^ n) base)) ∙ ap (λ a. map (binomial_weight n a b) (range_with_len 0 (binomial_greatest n a + 1))) (sym none)
  where
    base : b - 0 ≡ b
    base = omega arith

-- the weights of fewer than all successes are 0
binomial_law-one : (n a b : ℕ) → 0 < a → a ^ n ≡ b ^ n → ((k : ℕ) → k < n → (b - a) ^ (n - k) ≡ 0) → points_law ((n, b ^ n) ∷ []) ≡ binomial_law n a b
unfolding binomial_law
binomial_law-one n a b some same none =
    let ps : List (ℕ × ℕ) = (n, b ^ n) ∷ [] in
    let width : width_in ps ≡ binomial_greatest n a + 1 = width_of a some in
    fill_by_all (binomial_weight n a b) (points_law ps) (binomial_greatest n a + 1) 0
    (length-map-range_with_len (weight_in ps) 0 (width_in ps) ∙ width)
    (λ k lt. get_or-map-range_with_len (weight_in ps) 0 (width_in ps) k k 0 (omega arith) (zero-add k) ∙ by_place k (cases_eq n k) (omega (arith, width)))
  where
    width_of : (a : ℕ) → 0 < a → width_in ((n, b ^ n) ∷ []) ≡ binomial_greatest n a + 1
    width_of a some = grind arith

    by_place : (k : ℕ) → (n ≡ k) ⊎ (n ≡ k → ⊥) → k < n + 1 → weight_in ((n, b ^ n) ∷ []) k ≡ binomial_weight n a b k
    by_place k (inl is) lt =
        ap (λ m. weight_in ((n, b ^ n) ∷ []) m) (sym is)
        ∙ ap (λ v. if v then b ^ n else 0) (eq-eqb n n refl)
        ∙ sym same
        ∙ last (a ^ n)
        ∙ sym (ap (λ c. c * a ^ n * (b - a) ^ (n - n)) (choose_all n) ∙ ap (λ x. 1 * a ^ n * x) (ap (λ m. (b - a) ^ m) nothing ∙ pow-zero (b - a)))
        ∙ ap (binomial_weight n a b) is
      where
        nothing : n - n ≡ 0
        nothing = omega arith

        last : (x : ℕ) → x ≡ 1 * x * 1
        last x = omega arith
    by_place k (inr ne) lt =
        ap (λ v. if v then b ^ n else 0) (ne_eqb n k ne)
        ∙ nothing (choose n k * a ^ k)
        ∙ sym (ap (λ x. choose n k * a ^ k * x) (none k (omega arith)))
      where
        nothing : (x : ℕ) → 0 ≡ x * 0
        nothing x = omega arith

pub binomial_law-no_trial : (n a b : ℕ) → 0 < a → n ≡ 0 → points_law ((n, b ^ n) ∷ []) ≡ binomial_law n a b
binomial_law-no_trial n a b some none = binomial_law-one n a b some (one a ∙ sym (one b)) (λ k lt. absurd (omega arith))
  where
    one : (x : ℕ) → x ^ n ≡ 1
    one x = ap (λ m. x ^ m) none ∙ pow-zero x

-- every trial succeeds
pub binomial_law-always : (n a b : ℕ) → 0 < a → a ≡ b → points_law ((n, b ^ n) ∷ []) ≡ binomial_law n a b
binomial_law-always n a b some all = binomial_law-one n a b some (ap (λ x. x ^ n) all) (λ k lt. power (b - a) (n - k) (omega arith) (omega arith))
  where
    power : (f m : ℕ) → f ≡ 0 → 0 < m → f ^ m ≡ 0
    power f zero none some = absurd (omega arith)
    power f (suc m) none some = pow-suc f m ∙ ap (λ x. f ^ m * x) none ∙ omega arith

pub length-binomial_law : (n a b : ℕ) → length (binomial_law n a b) ≡ binomial_greatest n a + 1
unfolding binomial_law
length-binomial_law n a b = length-map-range_with_len (binomial_weight n a b) 0 (binomial_greatest n a + 1)

-- the binomial theorem
pub sum-binomial_law : (n a b : ℕ) → a ≤ b → sum (binomial_law n a b) ≡ b ^ n
sum-binomial_law n zero b le = ap sum (sym (binomial_law-never n 0 b refl)) ∙ omega arith
sum-binomial_law n (suc a) b le =
    let law : ℕ → List ℕ = λ t. (b - suc a) ∷ suc a ∷ [] in
    let laws = laws_from law 0 n in
    let is = IsSumOf-law_of_sum laws in
    ap sum (sym (binomial_law-trials law (suc a) b (λ t. refl) (law_of_sum laws) 0 n (omega arith) is))
    ∙ sum-IsSumOf (law_of_sum laws) laws is
    ∙ totals_of-trials law (suc a) b (λ t. refl) 0 n le

pub length-binomial_law-le : (n a b : ℕ) → length (binomial_law n a b) ≤ n + 1
length-binomial_law-le n a b = omega (arith, length-binomial_law n a b, least a)
  where
    least : (a : ℕ) → binomial_greatest n a ≤ n
    least a = grind arith
