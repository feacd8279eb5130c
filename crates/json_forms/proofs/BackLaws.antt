-- Laws that were written are read back.
use Rattle.std.proofs.Common.{◌≡◌, ℕ, suc, ◌-◌, ◌*◌, ◌/◌, ◌==◌, ◌%◌, ◌<◌, ◌≤◌, min, sum, List, [], ◌∷◌, length, map, All, Bool, true, cond, Option, Some, None, Result, Ok, Err, refl, sym, ap, ◌∙◌, arith, eq-eqb, inl, inr}
use Rattle.std.specs.List.{list_all}
use Rattle.std.specs.Prelude.{is_ok}
use Rattle.std.proofs.Math.Nat.{mod_self, div_self}
use Rattle.std.proofs.lemmas.List.Elements.{All-cons, All-nil}
use Rattle.std.proofs.lemmas.List.Sums.{get_or-le-sum_by}
use Rattle.std.proofs.lemmas.List.{length-map}
use Rattle.serde_json.specs.Data.{Data}
use Rattle.demand_law.specs.Points.{points_fault, points_law}
use Rattle.demand_law.specs.Named.{rescale_fault, rescaled_law}
use Rattle.model_terms.specs.DemandLaws.{IsDemandLaw, AreDemandLaws, common_total}
use Rattle.json_forms.specs.declared.fault.FieldFault.{FieldFault}
use Rattle.json_forms.specs.declared.fault.FieldFault.TheVariants.{LengthMismatch}
use Rattle.json_forms.specs.declared.law_texts.LawForm.TheVariants.{Points}
use Rattle.json_forms.specs.declared.law_texts.NumberTest.{NumberTest}
use Rattle.json_forms.specs.declared.law_texts.NumberTest.TheVariants.{Whole, Word}
use Rattle.json_forms.specs.Steps.{◌>>=◌, each}
use Rattle.json_forms.specs.Numbers.{items_in}
use Rattle.json_forms.specs.LawTexts.{passes, all_pass, is_tuple, law_text, text_passes, is_law, point_in, points_in, text_made, points_made, made, law_of, all_laws, law_in, common_sum, scaled_law, scaled_laws, some_laws, laws_in}
use Rattle.json_forms.specs.WrittenValues.{amount_data, pair_data, point_data, points_from, list_data, law_data, laws_data}
use Rattle.json_forms.proofs.BackNumbers.{is_whole-amount, amount_back, items_in-list}
use Rattle.json_forms.proofs.BackPoints.{Point, AreSmall, small_again, points_law-back, points_fault-back}

-- ---- shape
passes-amount : (test : NumberTest) (n : ℕ) → n ≤ 4294967295 → passes test (amount_data n) ≡ true
passes-amount Whole n small = is_whole-amount n
passes-amount Word n small = ap is_ok (amount_back 0 4294967295 n (omega arith) small)

-- a weight stands as it is
point_data-small : (p : Point) → p.1 ≤ 1000000000 → point_data p ≡ pair_data p.0 p.1
point_data-small p small = let same : min p.1 18446744073709551615 ≡ p.1 = omega arith in ap (pair_data p.0) same

pub is_tuple-pair : (test : NumberTest) (a b : ℕ) → a ≤ 4294967295 → b ≤ 4294967295 → is_tuple test 2 (pair_data a b) ≡ true
is_tuple-pair test a b first second = rw (passes-amount test a first, passes-amount test b second) refl

pairs-all : (test : NumberTest) (ps : List Point) → AreSmall ps → list_all (is_tuple test 2) (map point_data ps) ≡ true
pairs-all test [] small = refl
pairs-all test (p ∷ ps) small =
    let here = ap (is_tuple test 2) (point_data-small p small.1) ∙ is_tuple-pair test p.0 p.1 (omega (arith, small.0)) (omega (arith, small.1)) in
    rw here (pairs-all test ps small.2)

point_back : (p : Point) → p.0 ≤ 10000 → p.1 ≤ 1000000000 → point_in (point_data p) ≡ Ok p
point_back p demand weight =
    let first = amount_back 0 4294967295 p.0 (omega arith) (omega arith) in
    let second = amount_back 0 4294967295 p.1 (omega arith) (omega arith) in
    ap point_in (point_data-small p weight) ∙ rw (first, second) refl

points_back : (ps : List Point) → AreSmall ps → each point_in (map point_data ps) ≡ Ok ps
points_back [] small = refl
points_back (p ∷ ps) small = rw (point_back p small.0 small.1, points_back ps small.2) refl

-- ---- one law
-- what stands in a law's data
abbrev points_data : List ℕ → Data
points_data ws = list_data (map point_data (points_from 0 ws))

law_text-law : (ws : List ℕ) → law_text (law_data ws) ≡ Some (Points, points_data ws)
unfolding law_data
law_text-law ws = refl

law_small : (ws : List ℕ) → IsDemandLaw ws → AreSmall (points_from 0 ws)
law_small ws law = small_again 0 ws (omega (arith, law.greatest_in_range)) law.total_in_range

pub is_law-law : (test : NumberTest) (ws : List ℕ) → IsDemandLaw ws → is_law test (law_data ws) ≡ true
unfolding is_law
is_law-law test ws law =
    ap (text_passes test) (law_text-law ws)
    ∙ ap (all_pass (is_tuple test 2)) (items_in-list (map point_data (points_from 0 ws)))
    ∙ pairs-all test (points_from 0 ws) (law_small ws law)

points_made-law : (ws : List ℕ) → IsDemandLaw ws → points_made (points_data ws) ≡ Ok ws
points_made-law ws law =
    let ps = points_from 0 ws in
    let read : points_in (items_in (points_data ws)) ≡ Ok ps = ap points_in (items_in-list (map point_data ps)) ∙ points_back ps (law_small ws law) in
    ap (λ r. r >>= λ qs. made (points_fault qs) (points_law qs)) read
    ∙ ap (λ fault. made fault (points_law ps)) (points_fault-back ws law)
    ∙ ap Ok (points_law-back ws law)

pub law_of-law : (ws : List ℕ) → IsDemandLaw ws → law_of (law_data ws) ≡ Ok ws
unfolding law_of
law_of-law ws law = ap text_made (law_text-law ws) ∙ points_made-law ws law

all_laws-laws : (laws : List (List ℕ)) → All IsDemandLaw laws → all_laws (map law_data laws) ≡ Ok (map law_data laws)
all_laws-laws laws all = rw (are_laws Whole laws all, are_laws Word laws all) refl
  where
    are_laws : (test : NumberTest) (laws : List (List ℕ)) → All IsDemandLaw laws → list_all (is_law test) (map law_data laws) ≡ true
    are_laws test [] all = refl
    are_laws test (law ∷ laws) all = rw (is_law-law test law (all 0 law (omega arith))) (are_laws test laws (λ k d lt. all (suc k) d (omega arith)))

pub law_back : (ws : List ℕ) → IsDemandLaw ws → law_in (law_data ws) ≡ Ok ws
law_back ws law = ap (λ r. r >>= λ _. law_of (law_data ws)) (all_laws-laws (ws ∷ []) (All-cons IsDemandLaw ws [] law (All-nil IsDemandLaw))) ∙ law_of-law ws law

-- ---- laws of one sum
times_one : (n : ℕ) (ws : List ℕ) → n ≡ 1 → map (λ w. w * n) ws ≡ ws
times_one n [] one = refl
times_one n (w ∷ ws) one = let here : w * n ≡ w = rw one (omega arith) in rw (here, times_one n ws one) refl

-- a law at its own sum
rescaled_itself : (ws : List ℕ) → 0 < sum ws → made (rescale_fault ws (sum ws)) (rescaled_law ws (sum ws)) ≡ Ok ws
rescaled_itself ws some =
    let divides : sum ws % sum ws ≡ 0 = mod_self (sum ws) in
    let once : sum ws / sum ws ≡ 1 = div_self some in
    rw divides (ap Ok (times_one (sum ws / sum ws) ws once))

some_weight : (ws : List ℕ) → IsDemandLaw ws → 0 < sum ws
some_weight ws law = omega (arith, law.greatest_has_weight, get_or-le-sum_by (λ w. w) ws (length ws - 1) 0 (omega (arith, law.some_demand)))

scaled_law_back : (total : Option ℕ) (ws : List ℕ) → IsDemandLaw ws → common_sum total ws ≡ sum ws → scaled_law total (law_data ws) ≡ Ok (ws, sum ws)
scaled_law_back total ws law same =
    ap (λ (r : Result (List ℕ) FieldFault). r >>= λ l. made (rescale_fault l (common_sum total l)) (rescaled_law l (common_sum total l)) >>= λ scaled. Ok (scaled, common_sum total l)) (law_of-law ws law)
    ∙ ap (λ (n : ℕ). made (rescale_fault ws n) (rescaled_law ws n) >>= λ scaled. Ok (scaled, n)) same
    ∙ ap (λ (r : Result (List ℕ) FieldFault). r >>= λ scaled. Ok (scaled, sum ws)) (rescaled_itself ws (some_weight ws law))

-- laws that have one sum, which is the one that they get
scaled_laws_back : (total : Option ℕ) (weight : ℕ) (laws : List (List ℕ)) → ((law : List ℕ) → sum law ≡ weight → common_sum total law ≡ sum law) → All IsDemandLaw laws → All (λ law. sum law ≡ weight) laws
    → scaled_laws total (map law_data laws) ≡ Ok laws
scaled_laws_back total weight [] fits all common = refl
scaled_laws_back total weight (law ∷ laws) fits all common =
    let is : sum law ≡ weight = common 0 law (omega arith) in
    let first = scaled_law_back total law (all 0 law (omega arith)) (fits law is) in
    let rest : scaled_laws (Some (sum law)) (map law_data laws) ≡ Ok laws =
    scaled_laws_back (Some (sum law)) weight laws (λ other same. is ∙ sym same) (λ k d lt. all (suc k) d (omega arith)) (λ k d lt. common (suc k) d (omega arith)) in
    rw (first, rest) refl

items_in-law : (ws : List ℕ) → items_in (law_data ws) ≡ None
unfolding law_data
items_in-law ws = refl

one_law_back : (places : ℕ) (law : List ℕ) → IsDemandLaw law → laws_in places None (law_data law) ≡ Ok (law ∷ [])
one_law_back places law is =
    let all = All-cons IsDemandLaw law [] is (All-nil IsDemandLaw) in
    let common = All-cons (λ (l : List ℕ). sum l ≡ sum law) law [] refl (All-nil (λ (l : List ℕ). sum l ≡ sum law)) in
    ap (λ (items : Option (List Data)). some_laws places None items (law_data law)) (items_in-law law)
    ∙ ap (λ (r : Result (List Data) FieldFault). r >>= scaled_laws None) (all_laws-laws (law ∷ []) all)
    ∙ scaled_laws_back None (sum law) (law ∷ []) (λ other same. refl) all common

several_laws_back : (places : ℕ) (laws : List (List ℕ)) → AreDemandLaws laws places → length laws ≡ places → laws_in places None (list_data (map law_data laws)) ≡ Ok laws
several_laws_back places laws are count =
    let as_many : (length (map law_data laws) == places) ≡ true = eq-eqb (length (map law_data laws)) places (length-map laws law_data ∙ count) in
    ap (λ (items : Option (List Data)). some_laws places None items (list_data (map law_data laws))) (items_in-list (map law_data laws))
    ∙ ap (λ (r : Result (List Data) FieldFault). r >>= λ ds. cond (length ds == places) (scaled_laws None ds) (Err LengthMismatch)) (all_laws-laws laws are.each)
    ∙ ap (λ (b : Bool). cond b (scaled_laws None (map law_data laws)) (Err LengthMismatch)) as_many
    ∙ scaled_laws_back None (common_total laws) laws (λ other same. refl) are.each are.common

pub laws_back : (places : ℕ) (laws : List (List ℕ)) → AreDemandLaws laws places → laws_in places None (laws_data laws) ≡ Ok laws
unfolding laws_data
laws_back places [] are = several_laws_back places [] are (elim are.listed [ inl one ↦ absurd (omega arith) | inr each ↦ each ])
laws_back places (law ∷ []) are = one_law_back places law (are.each 0 law (omega arith))
laws_back places (law ∷ next ∷ laws) are = several_laws_back places (law ∷ next ∷ laws) are (elim are.listed [ inl one ↦ absurd (omega arith) | inr each ↦ each ])
