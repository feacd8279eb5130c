-- Each flat line has one text, which spells it.
use Rattle.std.proofs.Common.{lit≤, ◌≡◌, ℕ, zero, suc, ◌+◌, ◌*◌, ◌<◌, ◌≤◌, Bool, true, false, cond, ◌&&◌, List, [], ◌∷◌, ◌++◌, length, take, drop, ℤ, pos, Option, Some, None, ◌⊎◌, inl, inr, sym, refl, ap, ◌∙◌, subst, arith, append-nil}
use Rattle.std.specs.Prelude.{◌==◌, not, codes, map, nat_le, if◌then◌else◌}
use Rattle.std.specs.Fmt.{signed_decimal}
use Rattle.std.specs.List.{slice_split, join_with_byte, list_all}
use Rattle.std.specs.Str.{bytes_eq}
use Rattle.std.proofs.lemmas.List.{length-append}
use Rattle.std.proofs.lemmas.List.Elements.{All-append}
use Rattle.std.proofs.lemmas.List.Splits.{slice_split_none, slice_split_at, join_with_byte-slice_split}
use Rattle.std.proofs.lemmas.Bool.Decides.{Decides-int_eq, nat_tests}
use Rattle.std.proofs.lemmas.Slice.Eq.{bytes_eq-Decides}
use Rattle.value_cert.specs.declared.flat_line.FlatLine.{FlatLine}
use Rattle.value_cert.specs.declared.flat_line.FlatLine.TheVariants.{Head, Row, End}
use Rattle.value_cert.specs.declared.flat_line.FlatName.{FlatName}
use Rattle.value_cert.specs.declared.flat_line.FlatName.TheVariants.{Bracket, Pipeline, Service, Pairs}
use Rattle.line_text.specs.LineWords.{IsWithout}
use Rattle.value_cert.specs.Numbers.{is_whole}
use Rattle.value_cert.specs.NumberFacts.{both, all_cons, all_none, number_without, number_length, small_from_whole, word_number-signed_decimal, signed_decimal-word_number}
use Rattle.value_cert.specs.Parsing.{word_number}
use Rattle.std.proofs.lemmas.Option.{cond_some}
use Rattle.value_cert.specs.declared.flat_line.FlatPlace.{FlatPlace}
use Rattle.value_cert.specs.declared.flat_line.FlatPlace.TheVariants.{Start, Body, Ended}
use Rattle.value_cert.specs.FlatLines.{AreRows, IsRowLine, IsWhole, IsFront, step_of, place_from, place_after, name_word, is_letter, is_zero, four, has_numbers, words_of, line_words, row_of, with_number, numbers_of, row_line, head_line, words_line, line_of}

-- ---- joining and splitting
-- no word has the byte
abbrev pub AreWithout : ℕ → List (List ℕ) → Type 0
AreWithout byte [] = Unit {0}
AreWithout byte (word ∷ words) = IsWithout byte word × AreWithout byte words

-- words that are joined split into the words
pub slice_split-join : (words : List (List ℕ)) → AreWithout 32 words → 0 < length words → slice_split (λ byte. byte == 32) (join_with_byte 32 words) ≡ words
slice_split-join [] without some = absurd (omega arith)
slice_split-join (word ∷ []) without some = slice_split_none (λ byte. byte == 32) word without.0
slice_split-join (word ∷ next ∷ words) without some =
    slice_split_at (λ byte. byte == 32) word 32 (join_with_byte 32 (next ∷ words)) without.0 refl
    ∙ ap (λ (ws : List (List ℕ)). word ∷ ws) (slice_split-join (next ∷ words) without.1 (omega arith))

join_without : (byte : ℕ) (words : List (List ℕ)) → (32 == byte) ≡ false → AreWithout byte words → IsWithout byte (join_with_byte 32 words)
join_without byte [] blank without = all_none _
join_without byte (word ∷ []) blank without = without.0
join_without byte (word ∷ next ∷ words) blank without =
    All-append (λ b. (b == byte) ≡ false) word (32 ∷ join_with_byte 32 (next ∷ words)) without.0
    (all_cons (λ b. (b == byte) ≡ false) 32 (join_with_byte 32 (next ∷ words)) blank (join_without byte (next ∷ words) blank without.1))

-- ---- numbers
numerals_without : (byte : ℕ) (numbers : List ℤ) → byte < 45 → AreWithout byte (map signed_decimal numbers)
numerals_without byte [] small = tt
numerals_without byte (number ∷ numbers) small = (number_without byte number small, numerals_without byte numbers small)

numbers_of-numerals : (numbers : List ℤ) → list_all is_whole numbers ≡ true → numbers_of (map signed_decimal numbers) ≡ Some numbers
numbers_of-numerals [] whole = refl
numbers_of-numerals (number ∷ numbers) whole =
    let tests = both (is_whole number) (list_all is_whole numbers) whole in
    rw (word_number-signed_decimal number tests.0, numbers_of-numerals numbers tests.1) refl

-- ---- a row and its numbers
pub zero_is : (z : ℤ) → is_zero z ≡ true → z ≡ pos 0
zero_is z h = (Decides-int_eq z (pos 0)).0 h

pub record IsRow (tag count : ℕ) (a b c e : ℤ) : Type 0 where
  pub letter : is_letter tag ≡ true
  pub some : nat_le 1 count ≡ true
  pub few : nat_le count 4 ≡ true
  pub whole : list_all is_whole (take count (four a b c e)) ≡ true
  pub zeros : list_all is_zero (drop count (four a b c e)) ≡ true

pub row_tests : (tag count : ℕ) (a b c e : ℤ) → has_numbers (Row tag count a b c e) ≡ true → IsRow tag count a b c e
row_tests tag count a b c e h =
    let zeros = both (is_letter tag && nat_le 1 count && nat_le count 4 && list_all is_whole (take count (four a b c e))) (list_all is_zero (drop count (four a b c e))) h in
    let whole = both (is_letter tag && nat_le 1 count && nat_le count 4) (list_all is_whole (take count (four a b c e))) zeros.0 in
    let few = both (is_letter tag && nat_le 1 count) (nat_le count 4) whole.0 in
    let some = both (is_letter tag) (nat_le 1 count) few.0 in
    record { letter = some.0; some = some.1; few = few.1; whole = whole.1; zeros = zeros.1 }

pub tests_row : (tag count : ℕ) (a b c e : ℤ) → IsRow tag count a b c e → has_numbers (Row tag count a b c e) ≡ true
tests_row tag count a b c e is = rw (is.letter, is.some, is.few, is.whole, is.zeros) refl

-- the numbers of a row give it back
row_back : (tag count : ℕ) (a b c e : ℤ) → IsRow tag count a b c e → row_of tag (take count (four a b c e)) ≡ Row tag count a b c e
row_back tag zero a b c e is = absurd (let h = is.some in grind (arith, nat_tests))
row_back tag (suc zero) a b c e is =
    let one = both (is_zero b) (list_all is_zero (c ∷ e ∷ [])) is.zeros in
    let two = both (is_zero c) (list_all is_zero (e ∷ [])) one.1 in
    let three = both (is_zero e) true two.1 in
    rw (zero_is b one.0, zero_is c two.0, zero_is e three.0) refl
row_back tag (suc (suc zero)) a b c e is =
    let two = both (is_zero c) (list_all is_zero (e ∷ [])) is.zeros in
    let three = both (is_zero e) true two.1 in
    rw (zero_is c two.0, zero_is e three.0) refl
row_back tag (suc (suc (suc zero))) a b c e is = let three = both (is_zero e) true is.zeros in rw (zero_is e three.0) refl
row_back tag (suc (suc (suc (suc zero)))) a b c e is = refl
row_back tag (suc (suc (suc (suc (suc n))))) a b c e is = absurd (let h = is.few in grind (arith, nat_tests))

-- ---- the text of a line spells it
no_certificate : (tag : ℕ) → bytes_eq (tag ∷ []) (codes "certificate") ≡ false
no_certificate tag = by (bytes_eq (tag ∷ []) (codes "certificate")) refl
  where
    by : (t : Bool) → bytes_eq (tag ∷ []) (codes "certificate") ≡ t → t ≡ false
    by false test = refl
    by true test = absurd (let e : tag ∷ [] ≡ codes "certificate" = (bytes_eq-Decides (tag ∷ []) (codes "certificate")).0 test in let l : 1 ≡ length (codes "certificate") = ap length e in omega arith)

row_words : (name : FlatName) (tag : ℕ) (first : ℤ) (numbers : List ℤ) → is_letter tag ≡ true → nat_le (length (first ∷ numbers)) 4 ≡ true → list_all is_whole (first ∷ numbers) ≡ true
    → words_line name ((tag ∷ []) ∷ map signed_decimal (first ∷ numbers)) ≡ Some (row_of tag (first ∷ numbers))
row_words name tag first numbers letter few whole =
    let some : nat_le 1 (length (first ∷ numbers)) ≡ true = grind (arith, nat_tests) in
    rw (no_certificate tag) (ap (row_line (tag ∷ [])) (numbers_of-numerals (first ∷ numbers) whole) ∙ rw (letter, some, few) refl)

row_spelt : (name : FlatName) (tag count : ℕ) (a b c e : ℤ) → IsRow tag count a b c e → words_line name ((tag ∷ []) ∷ map signed_decimal (take count (four a b c e))) ≡ Some (Row tag count a b c e)
row_spelt name tag zero a b c e is = absurd (let h = is.some in grind (arith, nat_tests))
row_spelt name tag (suc n) a b c e is =
    row_words name tag a (take n (b ∷ c ∷ e ∷ [])) is.letter (few n (nat_tests_few is.few)) is.whole ∙ ap (λ (l : FlatLine). Some l) (row_back tag (suc n) a b c e is)
  where
    nat_tests_few : nat_le (suc n) 4 ≡ true → n ≤ 3
    nat_tests_few h = grind (arith, nat_tests)

    few : (n : ℕ) → n ≤ 3 → nat_le (length (a ∷ take n (b ∷ c ∷ e ∷ []))) 4 ≡ true
    few zero le = refl
    few (suc zero) le = refl
    few (suc (suc zero)) le = refl
    few (suc (suc (suc zero))) le = refl
    few (suc (suc (suc (suc m)))) le = absurd (omega arith)

lacks_of : (byte : ℕ) (word : List ℕ) → list_all (λ b. not (b == byte)) word ≡ true → IsWithout byte word
lacks_of byte [] h = all_none _
lacks_of byte (b ∷ bs) h =
    let tests = both (not (b == byte)) (list_all (λ x. not (x == byte)) bs) h in
    all_cons (λ x. (x == byte) ≡ false) b bs (no (b == byte) tests.0) (lacks_of byte bs tests.1)
  where
    no : (t : Bool) → not t ≡ true → t ≡ false
    no false h = refl
    no true h = absurd (cc)

letter_without : (byte tag : ℕ) → byte < 45 → is_letter tag ≡ true → IsWithout byte (tag ∷ [])
letter_without byte tag small letter = let e : (tag == byte) ≡ false = grind (arith, nat_tests) in all_cons (λ x. (x == byte) ≡ false) tag [] e (all_none _)

name_without : (byte : ℕ) (name : FlatName) → (byte ≡ 10) ⊎ (byte ≡ 32) → IsWithout byte (name_word name)
name_without byte Bracket (inl e) = rw e (lacks_of 10 (codes "bracket") refl)
name_without byte Bracket (inr e) = rw e (lacks_of 32 (codes "bracket") refl)
name_without byte Pipeline (inl e) = rw e (lacks_of 10 (codes "pipeline") refl)
name_without byte Pipeline (inr e) = rw e (lacks_of 32 (codes "pipeline") refl)
name_without byte Service (inl e) = rw e (lacks_of 10 (codes "service") refl)
name_without byte Service (inr e) = rw e (lacks_of 32 (codes "service") refl)
name_without byte Pairs (inl e) = rw e (lacks_of 10 (codes "pairs") refl)
name_without byte Pairs (inr e) = rw e (lacks_of 32 (codes "pairs") refl)

words_without_blank : (name : FlatName) (line : FlatLine) → has_numbers line ≡ true → AreWithout 32 (words_of name line)
words_without_blank name Head h = (lacks_of 32 (codes "certificate") refl, (lacks_of 32 (codes "1") refl, (name_without 32 name (inr refl), tt)))
words_without_blank name (Row tag count a b c e) h = (letter_without 32 tag (omega arith) (row_tests tag count a b c e h).letter, numerals_without 32 (take count (four a b c e)) (omega arith))
words_without_blank name End h = (lacks_of 32 (codes "end") refl, tt)

words_without_feed : (name : FlatName) (line : FlatLine) → has_numbers line ≡ true → AreWithout 10 (words_of name line)
words_without_feed name Head h = (lacks_of 10 (codes "certificate") refl, (lacks_of 10 (codes "1") refl, (name_without 10 name (inl refl), tt)))
words_without_feed name (Row tag count a b c e) h = (letter_without 10 tag (omega arith) (row_tests tag count a b c e h).letter, numerals_without 10 (take count (four a b c e)) (omega arith))
words_without_feed name End h = (lacks_of 10 (codes "end") refl, tt)

some_words : (name : FlatName) (line : FlatLine) → 0 < length (words_of name line)
some_words name Head = omega arith
some_words name (Row tag count a b c e) = omega arith
some_words name End = omega arith

name_itself : (name : FlatName) → bytes_eq (name_word name) (name_word name) ≡ true
name_itself name = (bytes_eq-Decides (name_word name) (name_word name)).1 refl

words_spelt : (name : FlatName) (line : FlatLine) → has_numbers line ≡ true → words_line name (words_of name line) ≡ Some line
words_spelt name Head h = rw (name_itself name) refl
words_spelt name (Row tag count a b c e) h = row_spelt name tag count a b c e (row_tests tag count a b c e h)
words_spelt name End h = refl

-- the words of a line spell it
pub line_of-line_words : (name : FlatName) (line : FlatLine) → has_numbers line ≡ true → line_of name (line_words name line) ≡ Some line
line_of-line_words name line h = ap (words_line name) (slice_split-join (words_of name line) (words_without_blank name line h) (some_words name line)) ∙ words_spelt name line h

-- no line's words hold a line feed
pub line_words-without : (name : FlatName) (line : FlatLine) → has_numbers line ≡ true → IsWithout 10 (line_words name line)
line_words-without name line h = join_without 10 (words_of name line) refl (words_without_feed name line h)

-- ---- a line is short
numerals_length : (tag : ℕ) (numbers : List ℤ) → list_all is_whole numbers ≡ true → length (join_with_byte 32 ((tag ∷ []) ∷ map signed_decimal numbers)) ≤ 1 + 39 * length numbers
numerals_length tag [] whole = omega arith
numerals_length tag (number ∷ numbers) whole =
    let tests = both (is_whole number) (list_all is_whole numbers) whole in
    let size = number_length number (small_from_whole number tests.0) in
    omega (arith, behind number numbers size tests.1)
  where
    behind : (number : ℤ) (numbers : List ℤ) → length (signed_decimal number) ≤ 38 → list_all is_whole numbers ≡ true → length (join_with_byte 32 (signed_decimal number ∷ map signed_decimal numbers)) ≤ 38 + 39 * length numbers
    behind number [] size whole = omega (arith, size)
    behind number (next ∷ numbers) size whole =
        let tests = both (is_whole next) (list_all is_whole numbers) whole in
        let here = number_length next (small_from_whole next tests.0) in
        omega (arith, size, behind next numbers here tests.1, length-append (signed_decimal number) (32 ∷ join_with_byte 32 (signed_decimal next ∷ map signed_decimal numbers)))

few_taken : (count : ℕ) (a b c e : ℤ) → length (take count (four a b c e)) ≤ 4
few_taken zero a b c e = omega arith
few_taken (suc zero) a b c e = omega arith
few_taken (suc (suc zero)) a b c e = omega arith
few_taken (suc (suc (suc zero))) a b c e = omega arith
few_taken (suc (suc (suc (suc n)))) a b c e = omega (arith, end n)
  where
    end : (m : ℕ) → length (take m (let none : List ℤ = [] in none)) ≡ 0
    end zero = refl
    end (suc m) = refl

name_length : (name : FlatName) → length (name_word name) ≤ 8
name_length Bracket = lit≤ tt
name_length Pipeline = lit≤ tt
name_length Service = lit≤ tt
name_length Pairs = lit≤ tt

pub length-line_words : (name : FlatName) (line : FlatLine) → has_numbers line ≡ true → length (line_words name line) ≤ 157
length-line_words name Head h =
    omega (arith, name_length name, length-append (codes "certificate") (32 ∷ (codes "1" ++ 32 ∷ name_word name)), length-append (codes "1") (32 ∷ name_word name))
length-line_words name (Row tag count a b c e) h =
    omega (arith, numerals_length tag (take count (four a b c e)) (row_tests tag count a b c e h).whole, few_taken count a b c e)
length-line_words name End h = lit≤ tt

-- ---- what spells a line is its words
same_cons : (x y : List ℕ) (xs ys : List (List ℕ)) → x ≡ y → xs ≡ ys → x ∷ xs ≡ y ∷ ys
same_cons x y xs ys e f = ap (λ (w : List ℕ). w ∷ xs) e ∙ ap (λ (ws : List (List ℕ)). y ∷ ws) f

numbers_spelt : (words : List (List ℕ)) (numbers : List ℤ) → numbers_of words ≡ Some numbers → (map signed_decimal numbers ≡ words) × (list_all is_whole numbers ≡ true)
numbers_spelt [] [] h = (refl, refl)
numbers_spelt [] (number ∷ numbers) h = absurd (cc)
numbers_spelt (word ∷ words) numbers h = by (word_number word) (numbers_of words) refl refl (λ rest same. numbers_spelt words rest same) h
  where
    by : (first : Option ℤ) (others : Option (List ℤ)) → word_number word ≡ first → numbers_of words ≡ others
        → ((rest : List ℤ) → numbers_of words ≡ Some rest → (map signed_decimal rest ≡ words) × (list_all is_whole rest ≡ true))
        → with_number first others ≡ Some numbers → (map signed_decimal numbers ≡ word ∷ words) × (list_all is_whole numbers ≡ true)
    by None others one two rest e = absurd (cc)
    by (Some number) None one two rest e = absurd (cc)
    by (Some number) (Some found) one two rest e =
        let here = signed_decimal-word_number word number one in
        let below = rest found two in
        let all : number ∷ found ≡ numbers = cc in
        let P : List ℤ → Type 0 = λ ns. (map signed_decimal ns ≡ word ∷ words) × (list_all is_whole ns ≡ true) in
        subst P all (same_cons (signed_decimal number) word (map signed_decimal found) words here.0 below.0, rw (here.1, below.1) refl)

-- the row of some numbers has these
record HasRow (tag : ℕ) (numbers : List ℤ) : Type 0 where
  pub words : (name : FlatName) → words_of name (row_of tag numbers) ≡ (tag ∷ []) ∷ map signed_decimal numbers
  pub numbered : has_numbers (row_of tag numbers) ≡ true

row_has : (tag : ℕ) (numbers : List ℤ) → is_letter tag ≡ true → nat_le 1 (length numbers) ≡ true → nat_le (length numbers) 4 ≡ true → list_all is_whole numbers ≡ true → HasRow tag numbers
row_has tag [] letter some few whole = absurd (let h = some in grind (arith, nat_tests))
row_has tag (a ∷ []) letter some few whole = record { words = λ name. refl; numbered = rw (letter, whole) refl }
row_has tag (a ∷ b ∷ []) letter some few whole = record { words = λ name. refl; numbered = rw (letter, whole) refl }
row_has tag (a ∷ b ∷ c ∷ []) letter some few whole = record { words = λ name. refl; numbered = rw (letter, whole) refl }
row_has tag (a ∷ b ∷ c ∷ e ∷ []) letter some few whole = record { words = λ name. refl; numbered = rw (letter, whole) refl }
row_has tag (a ∷ b ∷ c ∷ e ∷ f ∷ more) letter some few whole = absurd (let h = few in grind (arith, nat_tests))

-- words spell this line
abbrev pub Spells : FlatName → FlatLine → List (List ℕ) → Type 0
Spells name line words = (words_of name line ≡ words) × (has_numbers line ≡ true)

row_spells : (name : FlatName) (tag : List ℕ) (words : List (List ℕ)) (line : FlatLine) (numbers : Option (List ℤ)) → numbers_of words ≡ numbers → row_line tag numbers ≡ Some line → Spells name line (tag ∷ words)
row_spells name [] words line numbers same h = absurd (cc)
row_spells name (t ∷ u ∷ us) words line numbers same h = absurd (cc)
row_spells name (t ∷ []) words line None same h = absurd (cc)
row_spells name (t ∷ []) words line (Some numbers) same h =
    let found = cond_some (is_letter t && nat_le 1 (length numbers) && nat_le (length numbers) 4) (row_of t numbers) line h in
    let few = both (is_letter t && nat_le 1 (length numbers)) (nat_le (length numbers) 4) found.0 in
    let some = both (is_letter t) (nat_le 1 (length numbers)) few.0 in
    let spelt = numbers_spelt words numbers same in
    let row = row_has t numbers some.0 some.1 few.1 spelt.1 in
    let P : FlatLine → Type 0 = λ l. Spells name l ((t ∷ []) ∷ words) in
    subst P found.1 (row.words name ∙ ap (λ (ws : List (List ℕ)). (t ∷ []) ∷ ws) spelt.0, row.numbered)

head_spells : (name : FlatName) (words : List (List ℕ)) (line : FlatLine) → head_line name words ≡ Some line → Spells name line (codes "certificate" ∷ words)
head_spells name [] line h = absurd (cc)
head_spells name (version ∷ []) line h = absurd (cc)
head_spells name (version ∷ word ∷ other ∷ words) line h = absurd (cc)
head_spells name (version ∷ word ∷ []) line h =
    let found = cond_some (bytes_eq version (codes "1") && bytes_eq word (name_word name)) Head line h in
    let tests = both (bytes_eq version (codes "1")) (bytes_eq word (name_word name)) found.0 in
    let one : version ≡ codes "1" = (bytes_eq-Decides version (codes "1")).0 tests.0 in
    let two : word ≡ name_word name = (bytes_eq-Decides word (name_word name)).0 tests.1 in
    let P : FlatLine → Type 0 = λ l. Spells name l (codes "certificate" ∷ version ∷ word ∷ []) in
    let behind : codes "1" ∷ name_word name ∷ [] ≡ version ∷ word ∷ [] = same_cons (codes "1") version (name_word name ∷ []) (word ∷ []) (sym one) (ap (λ (w : List ℕ). w ∷ []) (sym two)) in
    subst P found.1 (ap (λ (ws : List (List ℕ)). codes "certificate" ∷ ws) behind, refl)

words_spells : (name : FlatName) (words : List (List ℕ)) (line : FlatLine) → words_line name words ≡ Some line → Spells name line words
words_spells name [] line h = absurd (cc)
words_spells name (word ∷ []) line h =
    let found = cond_some (bytes_eq word (codes "end")) End line h in
    let same : word ≡ codes "end" = (bytes_eq-Decides word (codes "end")).0 found.0 in
    let P : FlatLine → Type 0 = λ l. Spells name l (word ∷ []) in
    subst P found.1 (ap (λ (w : List ℕ). w ∷ []) (sym same), refl)
words_spells name (word ∷ next ∷ words) line h = by (bytes_eq word (codes "certificate")) refl h
  where
    by : (t : Bool) → bytes_eq word (codes "certificate") ≡ t → cond t (head_line name (next ∷ words)) (row_line word (numbers_of (next ∷ words))) ≡ Some line → Spells name line (word ∷ next ∷ words)
    by true test e =
        let same : word ≡ codes "certificate" = (bytes_eq-Decides word (codes "certificate")).0 test in
        let P : List ℕ → Type 0 = λ w. Spells name line (w ∷ next ∷ words) in
        subst P (sym same) (head_spells name (next ∷ words) line e)
    by false test e = row_spells name word (next ∷ words) line (numbers_of (next ∷ words)) refl e

-- bytes that spell a line are its words, and it has its numbers
pub line_words-line_of : (name : FlatName) (bytes : List ℕ) (line : FlatLine) → line_of name bytes ≡ Some line → (line_words name line ≡ bytes) × (has_numbers line ≡ true)
line_words-line_of name bytes line h =
    let spelt = words_spells name (slice_split (λ byte. byte == 32) bytes) line h in
    (ap (join_with_byte 32) spelt.0 ∙ join_with_byte-slice_split 32 bytes, spelt.1)

-- ---- which lines begin a certificate
rows_then : (rows more : List FlatLine) → AreRows rows → place_from (Some Body) (rows ++ more) ≡ place_from (Some Body) more
rows_then [] more are = refl
rows_then (Row tag count a b c e ∷ rows) more are = ap (λ t. place_from (if t then Some Body else None) (rows ++ more)) are.0 ∙ rows_then rows more are.1
rows_then (Head ∷ rows) more are = absurd are.0
rows_then (End ∷ rows) more are = absurd are.0

-- a whole certificate has ended
pub whole_ends : (lines : List FlatLine) → IsWhole lines → place_after lines ≡ Some Ended
whole_ends lines whole = ap place_after whole.2 ∙ rows_then whole.0 (End ∷ []) whole.1

-- behind an end stands nothing
after_end : (lines : List FlatLine) (at : FlatPlace) → place_from (Some Ended) lines ≡ Some at → lines ≡ []
after_end [] at h = refl
after_end (Head ∷ lines) at h = absurd (cc)
after_end (Row tag count a b c e ∷ lines) at h = absurd (cc)
after_end (End ∷ lines) at h = absurd (cc)

-- lines behind a head: rows, or rows and an end
abbrev IsBehindHead : FlatPlace → List FlatLine → Type 0
IsBehindHead Start lines = ⊥
IsBehindHead Body lines = AreRows lines
IsBehindHead Ended lines = (rows : List FlatLine) × AreRows rows × (lines ≡ rows ++ End ∷ [])

one_row : (at : FlatPlace) (line : FlatLine) (lines : List FlatLine) → IsRowLine line → IsBehindHead at lines → IsBehindHead at (line ∷ lines)
one_row Start line lines is behind = behind
one_row Body line lines is behind = (is, behind)
one_row Ended line lines is behind = (line ∷ behind.0, (is, behind.1), ap (λ (ls : List FlatLine). line ∷ ls) behind.2)

numbered : (t : Bool) (lines : List FlatLine) (at : FlatPlace) → place_from (if t then Some Body else None) lines ≡ Some at → (t ≡ true) × (place_from (Some Body) lines ≡ Some at)
numbered true lines at h = (refl, h)
numbered false lines at h = absurd (cc)

same_place : (a b : FlatPlace) → Some a ≡ Some b → a ≡ b
same_place a b h = cc

behind_head : (lines : List FlatLine) (at : FlatPlace) → place_from (Some Body) lines ≡ Some at → IsBehindHead at lines
behind_head [] at h = let P : FlatPlace → Type 0 = λ p. IsBehindHead p [] in subst P (same_place Body at h) tt
behind_head (Head ∷ lines) at h = absurd (cc)
behind_head (Row tag count a b c e ∷ lines) at h =
    let rest = numbered (has_numbers (Row tag count a b c e)) lines at h in
    one_row at (Row tag count a b c e) lines rest.0 (behind_head lines at rest.1)
behind_head (End ∷ lines) at h = by lines (after_end lines at h) h
  where
    by : (ls : List FlatLine) → ls ≡ [] → place_from (Some Ended) ls ≡ Some at → IsBehindHead at (End ∷ ls)
    by [] none e = let P : FlatPlace → Type 0 = λ p. IsBehindHead p (End ∷ []) in subst P (same_place Ended at e) ([], tt, refl)
    by (l ∷ ls) none e = absurd (cc)

front_by : (at : FlatPlace) (lines : List FlatLine) → IsBehindHead at lines → IsFront (Head ∷ lines)
front_by Start lines behind = absurd behind
front_by Body lines behind = (End ∷ [], (lines, behind, refl))
front_by Ended lines behind = ([], (behind.0, behind.1, append-nil (Head ∷ lines) ∙ ap (λ (ls : List FlatLine). Head ∷ ls) behind.2))

-- lines behind which there is a place begin a certificate
pub front_from_place : (lines : List FlatLine) (at : FlatPlace) → place_after lines ≡ Some at → IsFront lines
front_from_place [] at h = (Head ∷ End ∷ [], ([], tt, refl))
front_from_place (Head ∷ lines) at h = front_by at lines (behind_head lines at h)
front_from_place (Row tag count a b c e ∷ lines) at h = absurd (cc)
front_from_place (End ∷ lines) at h = absurd (cc)

-- lines that have ended are a whole certificate
pub ended_is_whole : (lines : List FlatLine) → place_after lines ≡ Some Ended → IsWhole lines
ended_is_whole [] h = absurd (cc)
ended_is_whole (Head ∷ lines) h = let behind = behind_head lines Ended h in (behind.0, behind.1, ap (λ (ls : List FlatLine). Head ∷ ls) behind.2)
ended_is_whole (Row tag count a b c e ∷ lines) h = absurd (cc)
ended_is_whole (End ∷ lines) h = absurd (cc)

front_has : (x : Option FlatPlace) (lines more : List FlatLine) (at : FlatPlace) → place_from x (lines ++ more) ≡ Some at → (here : FlatPlace) × (place_from x lines ≡ Some here)
front_has None lines more at h = absurd (cc)
front_has (Some from) [] more at h = (from, refl)
front_has (Some from) (line ∷ lines) more at h = front_has (step_of from line) lines more at h

-- lines that begin a certificate have a place behind them
pub place_from_front : (lines : List FlatLine) → IsFront lines → (at : FlatPlace) × (place_after lines ≡ Some at)
place_from_front lines front = front_has (Some Start) lines front.0 Ended (whole_ends (lines ++ front.0) front.1)
