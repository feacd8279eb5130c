-- The steps of the search for the lower bound.
use Rattle.std.proofs.Common.{◌≡◌, ℕ, zero, suc, ◌+◌, ◌-◌, ◌*◌, ◌/◌, min, ◌<◌, ◌≤◌, Bool, true, false, nat_le, nat_lt, ◌==◌, ◌||◌, not, if◌then◌else◌, List, [], ◌∷◌, ◌++◌, length, slice_index, sum, refl, sym, ◌∙◌, ap, subst, arith, add-one}
use Rattle.decision_model.specs.declared.average.Average.{Average}
use Rattle.decision_model.specs.Average.{average_positions}
use Rattle.value_cert.specs.AverageValues.{moving, first_passing}
use Rattle.std.proofs.lemmas.Bool.Decides.{nat_tests}
use Rattle.bracket_lemmas.specs.BracketSolved.{all_below, first_least, under_gain, under_step, under_worth, under_entries, fits_under, passes_under}
use Rattle.value_cert.specs.BracketValues.{setup_parts, low_cost, most_bound}
use Rattle.bracket_lemmas.specs.EntryFacts.{le_true, le_false, past_same}
use Rattle.bracket_lemmas.specs.GreatestUnder.{under_entry, looks_under}
use Rattle.bracket_lemmas.specs.Listing.{none_listed, length-listed, listed_more, listed_front}
use Rattle.bracket_lemmas.specs.Searches.{all_more, all_fails}
use Rattle.bracket_lemmas.specs.SolvedFacts.{passes_known}
use Rattle.bracket_cost.specs.declared.lower.Best.{Best}
use lib.Dec.{eqb-suc-zero}
use Rattle.decision_model.specs.WideAverage.{IsWideAverage}
use Rattle.bracket_lemmas.specs.WideSizes.{some_moving, some_place, all_places}

module _ (item : Average) (wide : IsWideAverage item) (g : ℕ) where
  -- the entries so far are at most the setup cost
  pub entries_small : (k : ℕ) (xs : List ℕ) → xs ≡ under_entries item g k → (j : ℕ) → j < length xs → slice_index xs j ≤ setup_parts item
  entries_small k xs e j lt =
      let lt_k : j < k = omega (arith, lt, ap length e, length-listed (under_step item g) k) in
      omega (arith, ap (λ (ys : List ℕ). slice_index ys j) e, under_entry item (some_moving item wide) g k j lt_k)

  pub entries_length : (k : ℕ) (xs : List ℕ) → xs ≡ under_entries item g k → length xs ≡ k
  entries_length k xs e = ap length e ∙ length-listed (under_step item g) k

  -- what keeping a place is worth by the first entries is that by all
  pub gain_told : (n k : ℕ) → k < n → under_gain item (slice_index (under_entries item g k)) k ≡ under_gain item (slice_index (under_entries item g n)) k
  gain_told n k lt =
      ap (λ p. sum item.law * low_cost item k + p)
      (past_same item (setup_parts item) (slice_index (under_entries item g k)) (slice_index (under_entries item g n)) k (λ j below. sym (listed_front (under_step item g) (looks_under item (some_moving item wide) g) n k j (omega (arith, lt)) below)))

  -- the gain at the next place
  pub gain_here : (k gain : ℕ) (xs ys : List ℕ) → xs ≡ under_entries item g k → ys ≡ xs → gain ≡ under_gain item (slice_index ys) (length ys) → gain ≡ under_gain item (slice_index (under_entries item g k)) k
  gain_here k gain xs ys e f is = is ∙ (λ i. under_gain item (slice_index (f i)) (length (f i))) ∙ (λ i. under_gain item (slice_index (e i)) (length (e i))) ∙ ap (under_gain item (slice_index (under_entries item g k))) (length-listed (under_step item g) k)

  -- one entry more
  pub entry_more : (k gain loss moving_sum setup entry : ℕ) (xs ys : List ℕ) → xs ≡ under_entries item g k → gain ≡ under_gain item (slice_index (under_entries item g k)) k → loss ≡ sum item.law * g → moving_sum ≡ sum (moving item.law) → setup ≡ setup_parts item
      → entry ≡ min setup ((gain - loss) / moving_sum) → ys ≡ xs ++ entry ∷ [] → ys ≡ under_entries item g (k + 1)
  entry_more k gain loss moving_sum setup entry xs ys e f l m s is more =
      more ∙ (λ i. e i ++ entry ∷ []) ∙ ap (λ x. under_entries item g k ++ x ∷ []) (is ∙ (λ i. min (s i) ((f i - l i) / m i)))
      ∙ sym (listed_more (under_step item g) k) ∙ ap (under_entries item g) (sym (add-one k))

  -- ---- whether the entries pass
  abbrev n : ℕ
  n = average_positions item

  abbrev test : ℕ → Bool
  test = fits_under item g (slice_index (under_entries item g n))

  test_here : (k gain loss : ℕ) → k < n → gain ≡ under_gain item (slice_index (under_entries item g k)) k → loss ≡ sum item.law * g → nat_le loss gain ≡ test k
  test_here k gain loss lt e l = λ i. nat_le (l i) ((e ∙ gain_told n k lt) i)

  pub place_fails : (k gain loss : ℕ) → k < n → gain ≡ under_gain item (slice_index (under_entries item g k)) k → loss ≡ sum item.law * g → gain < loss → all_below test n ≡ false
  place_fails k gain loss lt e l less = all_fails test n k lt (sym (test_here k gain loss lt e l) ∙ le_false loss gain less)

  pub place_passes : (k gain loss : ℕ) → k < n → gain ≡ under_gain item (slice_index (under_entries item g k)) k → loss ≡ sum item.law * g → loss ≤ gain → all_below test k ≡ true → all_below test (k + 1) ≡ true
  place_passes k gain loss lt e l le before = ap (all_below test) (add-one k) ∙ all_more test k before (sym (test_here k gain loss lt e l) ∙ le_true loss gain le)

  pub none_yet : (xs : List ℕ) → xs ≡ [] → xs ≡ under_entries item g 0
  none_yet xs e = e ∙ sym (none_listed (under_step item g))

-- where the search ends the next number fails
pub top_fails : (item : Average) (n good top : ℕ) → good ≤ top → top ≤ good → (top < most_bound item → passes_under item n (suc top) ≡ false) → good < most_bound item → passes_under item n (suc good) ≡ false
top_fails item n good top le ge fails less = let same : top ≡ good = omega (arith, le, ge) in ap (λ g. passes_under item n (suc g)) (sym same) ∙ fails (omega (arith, same, less))

-- ---- the place where keeping is worth least
after_first : (k : ℕ) (x y : Best) (b : Bool) → (if (suc k == 0) || b then x else y) ≡ (if b then x else y)
after_first k x y b = ap (λ c. if c || b then x else y) (eqb-suc-zero k) ∙ or_false b
  where
    or_false : (b : Bool) → (if false || b then x else y) ≡ (if b then x else y)
    or_false true = refl
    or_false false = refl

-- of the first k places
abbrev pub IsBest : (ℕ → ℕ) → ℕ → Best → Type 0
IsBest f k best = (j : ℕ) → suc j ≡ k → (best.place ≡ first_least f j) × (best.worth ≡ f (first_least f j))

pub no_best : (f : ℕ → ℕ) (best : Best) → IsBest f 0 best
no_best f best j e = absurd (omega (arith, e))

pub best_more : (f : ℕ → ℕ) (k worth : ℕ) (best next : Best) → IsBest f k best → worth ≡ f k → next ≡ (if (k == 0) || nat_lt worth best.worth then record { place = k; worth = worth } else best) → IsBest f (k + 1) next
unfolding first_least
best_more f zero worth best next is w e j same =
    let none : j ≡ 0 = omega (arith, same) in
    (ap (λ b. b.place) e ∙ ap (first_least f) (sym none), ap (λ b. b.worth) e ∙ w ∙ ap (λ i. f (first_least f i)) (sym none))
best_more f (suc k) worth best next is w e j same =
    let here : k + 1 ≡ j = omega (arith, same) in
    let there : suc k ≡ j = omega (arith, same) in
    subst (λ (i : ℕ). (next.place ≡ first_least f i) × (next.worth ≡ f (first_least f i))) there
    (by (nat_lt (f (suc k)) (f (first_least f k))) refl (is k refl) (e ∙ (λ i. if (suc k == 0) || nat_lt (w i) best.worth then record { place = suc k; worth = worth } else best)))
  where
    by : (b : Bool) → nat_lt (f (suc k)) (f (first_least f k)) ≡ b → (best.place ≡ first_least f k) × (best.worth ≡ f (first_least f k)) → next ≡ (if (suc k == 0) || nat_lt (f (suc k)) best.worth then record { place = suc k; worth = worth } else best)
        → (next.place ≡ (if b then suc k else first_least f k)) × (next.worth ≡ f (if b then suc k else first_least f k))
    by true t known h =
        let told : next ≡ record { place = suc k; worth = worth } = h ∙ (λ i. if (suc k == 0) || nat_lt (f (suc k)) (known.1 i) then record { place = suc k; worth = worth } else best) ∙ (λ i. if (suc k == 0) || t i then record { place = suc k; worth = worth } else best) ∙ after_first k (record { place = suc k; worth = worth }) best true in
        (ap (λ b. b.place) told, ap (λ b. b.worth) told ∙ w)
    by false t known h =
        let told : next ≡ best = h ∙ (λ i. if (suc k == 0) || nat_lt (f (suc k)) (known.1 i) then record { place = suc k; worth = worth } else best) ∙ (λ i. if (suc k == 0) || t i then record { place = suc k; worth = worth } else best) ∙ after_first k (record { place = suc k; worth = worth }) best false in
        (ap (λ b. b.place) told ∙ known.0, ap (λ b. b.worth) told ∙ known.1)

-- ---- how many of the first places pass
abbrev pub IsFrontAt : (ℕ → Bool) → ℕ → ℕ → Type 0
IsFrontAt test high k = (r : ℕ) → k + r ≡ high → first_passing test 0 high ≡ first_passing test k r

pub front_init : (test : ℕ → Bool) (high : ℕ) → IsFrontAt test high 0
front_init test high r e = let same : high ≡ r = omega (arith, e) in ap (first_passing test 0) same

pub front_more : (test : ℕ → Bool) (high k : ℕ) → IsFrontAt test high k → test k ≡ false → IsFrontAt test high (k + 1)
unfolding first_passing
front_more test high k is f r e = is (suc r) (omega (arith, e)) ∙ (λ i. if f i then k else first_passing test (suc k) r) ∙ ap (λ j. first_passing test j r) (sym (add-one k))

pub front_here : (test : ℕ → Bool) (high k : ℕ) → IsFrontAt test high k → k < high → test k ≡ true → k ≡ first_passing test 0 high
unfolding first_passing
front_here test high k is lt t = sym (is (suc (high - suc k)) (omega (arith, lt)) ∙ (λ i. if t i then k else first_passing test (suc k) (high - suc k)))

pub front_end : (test : ℕ → Bool) (high k : ℕ) → IsFrontAt test high k → k ≡ high → k ≡ first_passing test 0 high
unfolding first_passing
front_end test high k is e = sym (is 0 (omega (arith, e)))

pub differs : (a b x : ℕ) → x ≡ a → (x ≡ b → ⊥) → not (a == b) ≡ true
differs a b x e ne = grind (arith, nat_tests)

pub agrees : (a b x : ℕ) → x ≡ a → x ≡ b → not (a == b) ≡ false
agrees a b x e same = grind (arith, nat_tests)

-- the high place, at the end
pub high_told : (f : ℕ → ℕ) (n k : ℕ) (best : Best) → IsBest f k best → k ≡ n → 1 ≤ n → best.place ≡ first_least f (n - 1)
high_told f n k best is e some = (is (n - 1) (omega (arith, e, some))).0

-- the worth of a place
pub worth_here : (item : Average) (wide : IsWideAverage item) (g k gain loss moving_sum worth : ℕ) → k < average_positions item → gain ≡ under_gain item (slice_index (under_entries item g k)) k → loss ≡ sum item.law * g → moving_sum ≡ sum (moving item.law) → worth ≡ (gain - loss) / moving_sum
    → worth ≡ under_worth item g (slice_index (under_entries item g (average_positions item))) k
worth_here item wide g k gain loss moving_sum worth lt e l m is = is ∙ (λ i. ((e ∙ gain_told item wide g (average_positions item) k lt) i - l i) / m i)

-- a bound that passes takes no more than the gain
pub loss_less : (item : Average) (wide : IsWideAverage item) (g k gain loss : ℕ) → k < average_positions item → gain ≡ under_gain item (slice_index (under_entries item g k)) k → loss ≡ sum item.law * g → passes_under item (average_positions item) g ≡ true → loss ≤ gain
loss_less item wide g k gain loss lt e l passes =
    omega (arith, passes_known item (some_moving item wide) (average_positions item) (some_place item wide) (all_places item wide) g passes k lt, e, gain_told item wide g (average_positions item) k lt, l)

pub min_turned : (a b : ℕ) → min a b ≡ min b a
min_turned a b = omega arith
