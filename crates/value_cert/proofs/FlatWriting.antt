-- Flat lines that are written one behind the other.
use Rattle.std.proofs.Common.{◌≡◌, ℕ, zero, suc, ◌+◌, ◌<◌, ◌≤◌, List, [], ◌∷◌, ◌++◌, length, take, drop, get_or, map, Result, Ok, Err, IsErr, OnOk, OnErr, IsTrue, Bool, true, false, ◌&&◌, ℤ, refl, ap, ◌∙◌, sym, subst, arith, append_assoc}
use Rattle.std.specs.Prelude.{nat_le, unsigned_abs}
use Rattle.std.specs.Fmt.{signed_decimal}
use Rattle.std.specs.List.{flat_map, list_all}
use Rattle.std.proofs.lemmas.Bool.Decides.{nat_tests}
use Rattle.std.proofs.lemmas.Grind.{flat_map-append}
use Rattle.std.proofs.lemmas.List.{append-nil, map-append, take_more, take-append-drop}
use Rattle.stock_edge.specs.Causes.{AppendsPrefix}
use Rattle.stock_edge.specs.Known.{appends_more, prefix_more, prefix_longer}
use Rattle.std.specs.declared.option.Option.{Option}
use Rattle.std.specs.Io.KnownBytes.{Appends}
use Rattle.value_cert.specs.FlatFacts.{row_tests}
use Rattle.value_cert.specs.FlatLines.{has_numbers, line_text, four}
use Rattle.value_cert.specs.Numbers.{is_whole}
use Rattle.std.proofs.lemmas.Int.{to_z-of_z}
use mir.Syntax.{w128}
use Rattle.std.proofs.Common.{FitsSigned, to_z, of_z, rules, ◌^◌}
use Rattle.value_cert.specs.FlatWrites.{flat_text, WritesText}
use Rattle.value_cert.specs.Lines.{number_word}
use Rattle.value_cert.specs.NumberFacts.{both}
use Rattle.value_cert.specs.Writes.{Output, Took}
use Rattle.value_cert.specs.declared.flat_line.FlatLine.{FlatLine}
use Rattle.value_cert.specs.declared.flat_line.FlatLine.TheVariants.{Head, Row, End}
use Rattle.value_cert.specs.declared.flat_line.FlatName.{FlatName}
use Rattle.value_cert.proofs.Writing.{took_more, taken}

-- ---- texts behind one another
-- a text was taken
pub took_writes : {T E : Type 0} (a b : Output) (x : T) (s : List ℕ) → Took a b s → WritesText {T = T} {E = E} a b (Ok x) s
took_writes a b x s h = record { whole = h; prefix = tt; cause = record { later = h.later; failed = tt } }

-- .. and then a further one
then_text : {T E : Type 0} (a b c : Output) (r : Result T E) (s t : List ℕ) → Took a b s → WritesText b c r t → WritesText a c r (s ++ t)
then_text a b c (Ok x) s t h k = let all = took_more a b c s t h k.whole in record { whole = all; prefix = tt; cause = record { later = all.later; failed = tt } }
then_text a b c (Err e) s t h k =
    let P : List ℕ → Type 0 = AppendsPrefix a.written c.written in
    record {
      whole = tt;
      prefix = subst P (sym (taken a b s t h)) (prefix_more a.written b.written c.written h.out (b.pending ++ t) h.appended k.prefix);
      cause = record { later = omega (arith, h.later, k.cause.later); failed = omega (arith, h.later, k.cause.failed) };
    }

-- writing stopped before a further text
stops_text : {T U E F : Type 0} (a c : Output) (e : E) (r : Result U F) (s t : List ℕ) → IsErr r → WritesText {T = T} {E = E} a c (Err e) s → WritesText {T = U} {E = F} a c r (s ++ t)
stops_text a c e (Ok x) s t failed h = absurd cc
stops_text a c e (Err f) s t failed h =
    let P : List ℕ → Type 0 = AppendsPrefix a.written c.written in
    record {
      whole = tt;
      prefix = subst P (append_assoc a.pending s t) (prefix_longer a.written c.written (a.pending ++ s) t h.prefix);
      cause = record { later = h.cause.later; failed = h.cause.failed };
    }

-- a text wasn't written whole, nor what stands behind it
pub text_failed : {T U E F : Type 0} {a c : Output} {e : E} {r : Result U F} {s all : List ℕ} (rest : List ℕ) → WritesText {T = T} {E = E} a c (Err e) s → IsErr r → s ++ rest ≡ all → WritesText {T = U} {E = F} a c r all
text_failed {U} {F} {a} {c} {e} {r} {s} {all} rest h failed same =
    let P : List ℕ → Type 0 = WritesText {T = U} {E = F} a c r in
    subst P same (stops_text a c e r s rest failed h)

-- a text was written, and what stands behind it after it
pub text_then : {T U E F : Type 0} {a b c : Output} {x : T} {r : Result U F} {s t all : List ℕ} → WritesText {T = T} {E = E} a b (Ok x) s → WritesText {T = U} {E = F} b c r t → s ++ t ≡ all → WritesText {T = U} {E = F} a c r all
text_then {U} {F} {a} {b} {c} {r} {s} {t} h k same =
    let P : List ℕ → Type 0 = WritesText {T = U} {E = F} a c r in
    subst P same (then_text a b c r s t h.whole k)

-- with a further text taken, all of it was
pub now_took : {T E : Type 0} {a b c : Output} {x : T} {s t all : List ℕ} → Took a b s → WritesText {T = T} {E = E} b c (Ok x) t → s ++ t ≡ all → Took a c all
now_took {a} {b} {c} {s} {t} h k same =
    let P : List ℕ → Type 0 = Took a c in
    subst P same (took_more a b c s t h k.whole)

-- a further text wasn't written whole, nor what stands behind it
pub now_stopped : {T U E F : Type 0} {a b c : Output} {e : E} {r : Result U F} {s t all : List ℕ} (rest : List ℕ) → Took a b s → WritesText {T = T} {E = E} b c (Err e) t → IsErr r → (s ++ t) ++ rest ≡ all → WritesText {T = U} {E = F} a c r all
now_stopped {T} {E} {a} {b} {c} {e} {s} {t} rest h k failed same = text_failed rest (then_text {T = T} {E = E} a b c (Err e) s t h k) failed same

-- all of a text was taken
pub all_took : {T E : Type 0} {a b : Output} {x : T} {s all : List ℕ} → Took a b s → s ≡ all → WritesText {T = T} {E = E} a b (Ok x) all
all_took {T} {E} {a} {b} {x} {s} {all} h same =
    let P : List ℕ → Type 0 = Took a b in
    took_writes a b x all (subst P same h)

-- ---- rows
-- the text of one row more
pub row_more : (name : FlatName) {X : Type 0} (f : X → FlatLine) (xs : List X) (i : ℕ) (x : X) → i < length xs → x ≡ get_or xs i x → flat_text name (map f (take i xs)) ++ line_text name (f x) ≡ flat_text name (map f (take (i + 1) xs))
row_more name f xs i x within is =
    sym (
    ap (λ ys. flat_text name (map f ys)) (take_more xs i x within ∙ ap (λ y. take i xs ++ y ∷ []) (sym is))
    ∙ ap (flat_text name) (map-append f (take i xs) (x ∷ []))
    ∙ flat_map-append (line_text name) (map f (take i xs)) (f x ∷ [])
    ∙ ap (λ t. flat_text name (map f (take i xs)) ++ t) (append-nil (line_text name (f x)))
    )

-- the text of the first rows, and of the rest
pub rows_split : (name : FlatName) {X : Type 0} (f : X → FlatLine) (xs : List X) (i : ℕ) → flat_text name (map f (take i xs)) ++ flat_text name (map f (drop i xs)) ≡ flat_text name (map f xs)
rows_split name f xs i =
    sym (flat_map-append (line_text name) (map f (take i xs)) (map f (drop i xs)))
    ∙ ap (flat_text name) (sym (map-append f (take i xs) (drop i xs)) ∙ ap (map f) (take-append-drop i xs))

-- the numbers of one row
pub row_numbers : {X : Type 0} (f : X → FlatLine) (xs : List X) (i : ℕ) (x : X) → i < length xs → x ≡ get_or xs i x → IsTrue (list_all has_numbers (map f xs)) → IsTrue (has_numbers (f x))
row_numbers f [] i x within is h = absurd (omega (arith, within))
row_numbers f (y ∷ ys) zero x within is h = subst (λ z. IsTrue (has_numbers (f z))) (sym is) (both (has_numbers (f y)) (list_all has_numbers (map f ys)) h).0
row_numbers f (y ∷ ys) (suc i) x within is h = row_numbers f ys i x (omega (arith, within)) is (both (has_numbers (f y)) (list_all has_numbers (map f ys)) h).1

-- lines behind lines
pub text_append : (name : FlatName) (xs ys : List FlatLine) → flat_text name xs ++ flat_text name ys ≡ flat_text name (xs ++ ys)
text_append name xs ys = sym (flat_map-append (line_text name) xs ys)

-- ---- the text of a row, by its count
regroup : (old t a b c n : List ℕ) → old ++ t ++ a ++ b ++ c ++ n ≡ old ++ (t ++ a ++ b ++ c ++ n)
regroup old t a b c n =
    ap (λ x. x ++ b ++ c ++ n) (append_assoc old t a)
    ∙ ap (λ x. x ++ c ++ n) (append_assoc old (t ++ a) b)
    ∙ ap (λ x. x ++ n) (append_assoc old (t ++ a ++ b) c)
    ∙ append_assoc old (t ++ a ++ b ++ c) n

three_numbers : (name : FlatName) (old : List ℕ) (tag count : ℕ) (a b c e : ℤ) (line : FlatLine) → line ≡ Row tag count a b c e → count ≡ 3 → old ++ (tag ∷ []) ++ number_word a ++ number_word b ++ number_word c ++ 10 ∷ [] ≡ old ++ line_text name line
three_numbers name old tag count a b c e line l is =
    regroup old (tag ∷ []) (number_word a) (number_word b) (number_word c) (10 ∷ [])
    ∙ ap (λ (t : List ℕ). old ++ (tag ∷ 32 ∷ (t ++ 10 ∷ []))) (append_assoc (signed_decimal a) (number_word b) (number_word c))
    ∙ ap (λ (n : ℕ). old ++ line_text name (Row tag n a b c e)) (sym is)
    ∙ ap (λ (x : FlatLine). old ++ line_text name x) (sym l)

four_numbers : (name : FlatName) (old : List ℕ) (tag count : ℕ) (a b c e : ℤ) (line : FlatLine) → line ≡ Row tag count a b c e → count ≡ 4 → old ++ (tag ∷ []) ++ number_word a ++ number_word b ++ number_word c ++ number_word e ++ 10 ∷ [] ≡ old ++ line_text name line
four_numbers name old tag count a b c e line l is =
    ap (λ x. x ++ 10 ∷ []) (regroup old (tag ∷ []) (number_word a) (number_word b) (number_word c) (number_word e))
    ∙ append_assoc old ((tag ∷ []) ++ number_word a ++ number_word b ++ number_word c ++ number_word e) (10 ∷ [])
    ∙ ap (λ (t : List ℕ). old ++ (tag ∷ 32 ∷ (t ++ 10 ∷ []))) (append_assoc (signed_decimal a ++ number_word b) (number_word c) (number_word e) ∙ append_assoc (signed_decimal a) (number_word b) (number_word c ++ number_word e))
    ∙ ap (λ (n : ℕ). old ++ line_text name (Row tag n a b c e)) (sym is)
    ∙ ap (λ (x : FlatLine). old ++ line_text name x) (sym l)

-- a number of a row, as it is read back
number_back : (z : ℤ) → is_whole z ≡ true → to_z w128 (of_z w128 z) ≡ z
number_back z h = back z (small (unsigned_abs z) h)
  where
    small : (n : ℕ) → nat_le n (2 ^ 120) ≡ true → n ≤ 1329227995784915872903807060280344576
    small n h = grind (arith, nat_tests)

    back : (z : ℤ) → unsigned_abs z ≤ 1329227995784915872903807060280344576 → to_z w128 (of_z w128 z) ≡ z
    back z le = let fits : FitsSigned w128 z = search rules in to_z-of_z w128 z fits

pub three_read : (name : FlatName) (old : List ℕ) (tag count : ℕ) (a b c e : ℤ) (line : FlatLine) → line ≡ Row tag count a b c e → count ≡ 3 → IsTrue (has_numbers line)
    → old ++ (tag ∷ []) ++ number_word (to_z w128 (of_z w128 a)) ++ number_word (to_z w128 (of_z w128 b)) ++ number_word (to_z w128 (of_z w128 c)) ++ 10 ∷ [] ≡ old ++ line_text name line
three_read name old tag count a b c e line l is h =
    let row = row_tests tag count a b c e (subst (λ (x : FlatLine). IsTrue (has_numbers x)) l h) in
    let whole : (is_whole a && (is_whole b && (is_whole c && true))) ≡ true = subst (λ (n : ℕ). list_all is_whole (take n (four a b c e)) ≡ true) is row.whole in
    let first = both (is_whole a) (is_whole b && (is_whole c && true)) whole in
    let second = both (is_whole b) (is_whole c && true) first.1 in
    let third = both (is_whole c) true second.1 in
    (λ i. old ++ (tag ∷ []) ++ number_word (number_back a first.0 i) ++ number_word (number_back b second.0 i) ++ number_word (number_back c third.0 i) ++ 10 ∷ [])
    ∙ three_numbers name old tag count a b c e line l is

pub four_read : (name : FlatName) (old : List ℕ) (tag count : ℕ) (a b c e : ℤ) (line : FlatLine) → line ≡ Row tag count a b c e → count ≡ 4 → IsTrue (has_numbers line)
    → old ++ (tag ∷ []) ++ number_word (to_z w128 (of_z w128 a)) ++ number_word (to_z w128 (of_z w128 b)) ++ number_word (to_z w128 (of_z w128 c)) ++ number_word (to_z w128 (of_z w128 e)) ++ 10 ∷ [] ≡ old ++ line_text name line
four_read name old tag count a b c e line l is h =
    let row = row_tests tag count a b c e (subst (λ (x : FlatLine). IsTrue (has_numbers x)) l h) in
    let whole : (is_whole a && (is_whole b && (is_whole c && (is_whole e && true)))) ≡ true = subst (λ (n : ℕ). list_all is_whole (take n (four a b c e)) ≡ true) is row.whole in
    let first = both (is_whole a) (is_whole b && (is_whole c && (is_whole e && true))) whole in
    let second = both (is_whole b) (is_whole c && (is_whole e && true)) first.1 in
    let third = both (is_whole c) (is_whole e && true) second.1 in
    let fourth = both (is_whole e) true third.1 in
    (λ i. old ++ (tag ∷ []) ++ number_word (number_back a first.0 i) ++ number_word (number_back b second.0 i) ++ number_word (number_back c third.0 i) ++ number_word (number_back e fourth.0 i) ++ 10 ∷ [])
    ∙ four_numbers name old tag count a b c e line l is

-- a count that is none of 1 to 3 is 4
pub last_count : (tag count : ℕ) (a b c e : ℤ) → IsTrue (has_numbers (Row tag count a b c e)) → (count ≡ 1 → ⊥) → (count ≡ 2 → ⊥) → (count ≡ 3 → ⊥) → count ≡ 4
last_count tag count a b c e h one two three =
    let row = row_tests tag count a b c e h in
    by (le_known 1 count row.some) (le_known count 4 row.few)
  where
    le_known : (a b : ℕ) → nat_le a b ≡ true → a ≤ b
    le_known a b h = grind (arith, nat_tests)

    by : 1 ≤ count → count ≤ 4 → count ≡ 4
    by low high = omega (arith, low, high, one, two, three)

-- ---- the whole text
pub no_change : (rows : List FlatLine) → map (λ (row : FlatLine). row) rows ≡ rows
no_change [] = refl
no_change (row ∷ rows) = ap (λ (rest : List FlatLine). row ∷ rest) (no_change rows)

-- what a text that was taken and the piece that goes out behind it append
pub flushed_whole : {T E : Type 0} (a b : Output) (v : Option (List ℕ)) (text : List ℕ) (r : Result T E) → a.pending ≡ [] → Took a b text → OnOk r (Appends b.written v b.pending) → OnOk r (Appends a.written v text)
flushed_whole a b v text (Ok x) empty h ok =
    let is : text ≡ h.out ++ b.pending = ap (λ t. t ++ text) (sym empty) ∙ h.whole in
    let P : List ℕ → Type 0 = Appends a.written v in
    subst P (sym is) (appends_more a.written b.written v h.out b.pending h.appended ok)
flushed_whole a b v text (Err e) empty h ok = tt
