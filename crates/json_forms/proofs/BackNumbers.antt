-- Numbers and lists of them that were written are read back.
use Rattle.std.proofs.Common.{◌≡◌, ℕ, suc, ◌^◌, ◌<◌, ◌≤◌, ℤ, pos, negsuc, ◌≤ℤ◌, List, [], ◌∷◌, length, map, All, Bool, true, false, cond, Some, None, Result, Ok, Err, refl, ap, ◌∙◌, arith, le-leb, lt-ltb, T}
use Rattle.std.proofs.lemmas.Int.{ints}
use Rattle.std.specs.Prelude.{int_le, is_some, ◌||◌, nat_lt}
use Rattle.std.specs.List.{list_all}
use Rattle.model_terms.specs.Positions.{IsPosition, IsCap}
use Rattle.serde_json.specs.Data.{Data}
use Rattle.serde_json.specs.View.{items_of}
use Rattle.json_forms.specs.declared.fault.FieldFault.TheVariants.{WrongType}
use Rattle.json_forms.specs.Steps.{◌>>=◌, each}
use Rattle.json_forms.specs.Numbers.{is_whole, within, amount_in, position_within, position_in, cap_in, list_of, all_whole, items_in, amounts_in, positions_in, of_length_within, some_amounts_in, start_positions_in, rates_in}
use Rattle.json_forms.specs.WrittenValues.{amount_data, position_data, list_data, amounts_data, positions_data}

-- ---- tests
pub test_is : (b : Bool) → T b → b ≡ true
test_is true holds = refl
test_is false holds = absurd holds

pub int_le_is : (a b : ℤ) → a ≤ℤ b → int_le a b ≡ true
int_le_is a b le = test_is (int_le a b) le.le

-- ---- numbers
signed_or_not : (b : Bool) (n : ℕ) → (is_some (cond b (Some (pos n)) None) || true) ≡ true
signed_or_not true n = refl
signed_or_not false n = refl

pub is_whole-amount : (n : ℕ) → is_whole (amount_data n) ≡ true
is_whole-amount n = signed_or_not (nat_lt n (2 ^ 63)) n

pub within-in : (least most n : ℕ) → least ≤ n → n ≤ most → within least most (Some n) ≡ Ok n
within-in least most n above below = rw (le-leb least n above, le-leb n most below) refl

pub amount_back : (least most n : ℕ) → least ≤ n → n ≤ most → amount_in least most (amount_data n) ≡ Ok n
amount_back least most n above below =
    ap (λ (b : Bool). cond b (within least most (Some n)) (Err WrongType)) (is_whole-amount n) ∙ within-in least most n above below

position_is : (z : ℤ) → negsuc 999999 ≤ℤ z → z ≤ℤ pos 1000000 → position_within (Some z) ≡ Ok z
position_is z above below = rw (int_le_is (negsuc 999999) z above, int_le_is z (pos 1000000) below) refl

pub position_back : (z : ℤ) → negsuc 999999 ≤ℤ z → z ≤ℤ pos 1000000 → position_in (position_data z) ≡ Ok z
position_back (pos n) above below =
    let small : n < 2 ^ 63 = omega (arith, ints) in
    rw (lt-ltb n (2 ^ 63) small) (position_is (pos n) above below)
position_back (negsuc n) above below = position_is (negsuc n) above below

pub cap_back : (z : ℤ) → IsCap z → cap_in (position_data z) ≡ Ok z
cap_back (pos n) is = ap (λ r. r >>= λ k. Ok (pos k)) (amount_back 0 1000000 n (omega arith) (omega (arith, ints, is.most)))
cap_back (negsuc n) is = absurd (omega (arith, ints, is.least))

-- ---- lists
listed_again : (ds : List Data) → list_of (items_of ds) ≡ ds
listed_again [] = refl
listed_again (d ∷ ds) = ap (λ (es : List Data). d ∷ es) (listed_again ds)

pub items_in-list : (ds : List Data) → items_in (list_data ds) ≡ Some ds
items_in-list ds = ap Some (listed_again ds)

-- each item that is written as one that passes passes
pub list_all-written : {A : Type 0} (test : Data → Bool) (write : A → Data) (xs : List A) → ((x : A) → test (write x) ≡ true) → list_all test (map write xs) ≡ true
list_all-written test write [] passes = refl
list_all-written test write (x ∷ xs) passes = rw (passes x) (list_all-written test write xs passes)

-- each item is read back, where each that meets P is
pub each_back : {A E : Type 0} (P : A → Type 0) (form : Data → Result A E) (write : A → Data) (xs : List A) → ((x : A) → P x → form (write x) ≡ Ok x) → All P xs → each form (map write xs) ≡ Ok xs
each_back P form write [] back all = refl
each_back P form write (x ∷ xs) back all =
    let here = back x (all 0 x (omega arith)) in
    let rest = each_back P form write xs back (λ k d lt. all (suc k) d (omega arith)) in
    rw (here, rest) refl

pub of_length_back : {A : Type 0} (least most : ℕ) (list : List A) → least ≤ length list → length list ≤ most → of_length_within least most list ≡ Ok list
of_length_back least most list above below = rw (le-leb least (length list) above, le-leb (length list) most below) refl

all_whole_back : {A : Type 0} (write : A → Data) (xs : List A) → ((x : A) → is_whole (write x) ≡ true) → all_whole (items_in (list_data (map write xs))) ≡ Ok (map write xs)
all_whole_back write xs whole = ap all_whole (items_in-list (map write xs)) ∙ ap (λ (b : Bool). cond b (Ok (map write xs)) (Err WrongType)) (list_all-written is_whole write xs whole)

pub some_amounts_back : (most_each least most : ℕ) (list : List ℕ) → All (λ n. n ≤ most_each) list → least ≤ length list → length list ≤ most → some_amounts_in most_each least most (amounts_data list) ≡ Ok list
unfolding amounts_data
some_amounts_back most_each least most list small above below =
    let whole = all_whole_back amount_data list is_whole-amount in
    let numbers : amounts_in most_each (list_data (map amount_data list)) ≡ Ok list =
    ap (λ r. r >>= each (amount_in 0 most_each)) whole ∙ each_back (λ n. n ≤ most_each) (amount_in 0 most_each) amount_data list (λ n le. amount_back 0 most_each n (omega arith) le) small in
    ap (λ r. r >>= of_length_within least most) numbers ∙ of_length_back least most list above below

pub rates_back : (most places : ℕ) (list : List ℕ) → All (λ n. n ≤ most) list → length list ≡ places → rates_in most places (amounts_data list) ≡ Ok list
unfolding amounts_data
rates_back most places list small same = some_amounts_back most places places list small (omega arith) (omega arith)

pub is_whole-position : (z : ℤ) → is_whole (position_data z) ≡ true
is_whole-position (pos n) = is_whole-amount n
is_whole-position (negsuc n) = refl

pub start_positions_back : (places : ℕ) (list : List ℤ) → All IsPosition list → length list ≡ places → start_positions_in places (positions_data list) ≡ Ok list
unfolding positions_data
start_positions_back places list small same =
    let whole = all_whole_back position_data list is_whole-position in
    let numbers : positions_in (list_data (map position_data list)) ≡ Ok list =
    ap (λ r. r >>= each position_in) whole ∙ each_back IsPosition position_in position_data list (λ z in_range. position_back z in_range.least in_range.most) small in
    ap (λ r. r >>= of_length_within places places) numbers ∙ of_length_back places places list (omega arith) (omega arith)
