-- The steps of the search for the upper bound.
use Rattle.std.proofs.Common.{◌≡◌, ℕ, suc, ◌+◌, ◌-◌, ◌*◌, ◌<◌, ◌≤◌, Bool, false, nat_le, nat_lt, if◌then◌else◌, List, [], ◌∷◌, ◌++◌, length, slice_index, sum, sym, ◌∙◌, ap, arith, add-one}
use Rattle.std.specs.Int.{div_ceil}
use Rattle.std.proofs.lemmas.Nat.{mul-le}
use Rattle.decision_model.specs.declared.average.Average.{Average}
use Rattle.decision_model.specs.Average.{average_positions}
use Rattle.value_cert.specs.AverageValues.{moving}
use Rattle.bracket_lemmas.specs.BracketSolved.{over_gain, over_step, over_entries, passes_over}
use Rattle.value_cert.specs.BracketValues.{setup_parts, most_bound, most_over}
use Rattle.bracket_lemmas.specs.LeastOver.{looks_over, over_high}
use Rattle.bracket_lemmas.specs.Listing.{none_listed, length-listed, listed_more, listed_front}
use Rattle.decision_model.specs.WideAverage.{IsWideAverage}
use Rattle.bracket_lemmas.specs.WideSizes.{some_moving, some_place, all_places, some_weight}

module _ (item : Average) (wide : IsWideAverage item) where
  abbrev n : ℕ
  n = average_positions item

  abbrev raise : ℕ
  raise = most_over item n

  -- the setup cost is at most half of what entries are raised by
  setup_half : setup_parts item + n * (sum item.law * most_bound item) ≤ raise
  setup_half =
      let one = sum item.law * most_bound item in
      let much : setup_parts item ≤ n * one = omega (arith, mul-le 1 (1 * most_bound item) n one (some_place item wide) (mul-le 1 (most_bound item) (sum item.law) (most_bound item) (some_weight item wide) (omega arith))) in
      omega (arith, much)

  module _ (orders g : ℕ) where
    pub entries_length : (k : ℕ) (xs : List ℕ) → xs ≡ over_entries item raise orders g k → length xs ≡ k
    entries_length k xs e = ap length e ∙ length-listed (over_step item raise orders g) k

    -- the entries so far are small
    pub entries_small : (k : ℕ) → k ≤ n → (xs : List ℕ) → xs ≡ over_entries item raise orders g k → (j : ℕ) → j < length xs → slice_index xs j ≤ 2 * raise
    entries_small k le xs e j lt =
        let one = sum item.law * most_bound item in
        let lt_k : j < k = omega (arith, lt, entries_length k xs e) in
        let same = listed_front (over_step item raise orders g) (looks_over item (some_moving item wide) raise orders g) n k j le lt_k in
        let high = over_high item (some_moving item wide) n (all_places item wide) orders g n (omega arith) j (omega (arith, lt_k, le)) in
        let changes : suc j * one ≤ n * one = mul-le (suc j) one n one (omega (arith, lt_k, le)) (omega arith) in
        omega (arith, ap (λ (ys : List ℕ). slice_index ys j) e, same, high, changes, setup_half)

    pub gain_here : (k gain : ℕ) (xs ys : List ℕ) → xs ≡ over_entries item raise orders g k → ys ≡ xs → gain ≡ over_gain item raise (slice_index ys) (length ys) → gain ≡ over_gain item raise (slice_index (over_entries item raise orders g k)) k
    gain_here k gain xs ys e f is =
        is ∙ (λ i. over_gain item raise (slice_index (f i)) (length (f i))) ∙ (λ i. over_gain item raise (slice_index (e i)) (length (e i))) ∙ ap (over_gain item raise (slice_index (over_entries item raise orders g k))) (length-listed (over_step item raise orders g) k)

    -- one entry more
    pub entry_more : (k gain loss moving_sum below entry : ℕ) (xs ys : List ℕ) → xs ≡ over_entries item raise orders g k → gain ≡ over_gain item raise (slice_index (over_entries item raise orders g k)) k → loss ≡ sum item.law * g → moving_sum ≡ sum (moving item.law) → below ≡ setup_parts item + raise
        → entry ≡ (if nat_lt k orders then below else div_ceil (gain - loss) moving_sum) → ys ≡ xs ++ entry ∷ [] → ys ≡ over_entries item raise orders g (k + 1)
    entry_more k gain loss moving_sum below entry xs ys e f l m s is more =
        more ∙ (λ i. e i ++ entry ∷ []) ∙ ap (λ x. over_entries item raise orders g k ++ x ∷ []) (is ∙ (λ i. if nat_lt k orders then s i else div_ceil (f i - l i) (m i)))
        ∙ sym (listed_more (over_step item raise orders g) k) ∙ ap (over_entries item raise orders g) (sym (add-one k))

    pub none_yet : (xs : List ℕ) → xs ≡ [] → xs ≡ over_entries item raise orders g 0
    none_yet xs e = e ∙ sym (none_listed (over_step item raise orders g))

-- where the search ends the number before fails
pub bottom_fails : (test : ℕ → Bool) (good bottom : ℕ) → bottom ≤ good → good ≤ bottom → ((b : ℕ) → suc b ≡ bottom → test b ≡ false) → (b : ℕ) → suc b ≡ good → test b ≡ false
bottom_fails test good bottom le ge fails b e = fails b (omega (arith, e, le, ge))

pub passes_told : (item : Average) (orders g high last lift : ℕ) (xs ys : List ℕ) → xs ≡ over_entries item (most_over item (average_positions item)) orders g (high + 1) → ys ≡ xs → last ≡ slice_index ys high → lift ≡ most_over item (average_positions item)
    → nat_le last lift ≡ passes_over item (most_over item (average_positions item)) orders high g
passes_told item orders g high last lift xs ys e f is r =
    let told : last ≡ slice_index (over_entries item (most_over item (average_positions item)) orders g (suc high)) high =
    is ∙ (λ i. slice_index (f i) high) ∙ (λ i. slice_index (e i) high) ∙ ap (λ k. slice_index (over_entries item (most_over item (average_positions item)) orders g k) high) (add-one high) in
    λ i. nat_le (told i) (r i)

pub no_bottom : (test : ℕ → Bool) (b : ℕ) → suc b ≡ 0 → test b ≡ false
no_bottom test b e = absurd (omega (arith, e))
