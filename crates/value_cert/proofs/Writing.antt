-- Lines that are written one behind the other.
use Rattle.std.proofs.Common.{◌≡◌, ℕ, ◌+◌, ◌<◌, List, [], ◌∷◌, ◌++◌, length, take, drop, get_or, map, Result, Ok, Err, IsErr, OnOk, OnErr, IsTrue, ap, ◌∙◌, sym, subst, arith, append_assoc}
use Rattle.std.specs.declared.option.Option.{Option}
use Rattle.std.specs.Io.KnownBytes.{Appends}
use Rattle.std.specs.List.{flat_map, list_all}
use Rattle.std.proofs.lemmas.Grind.{flat_map-append}
use Rattle.std.proofs.lemmas.List.{append-nil, take_more, take-append-drop}
use Rattle.stock_edge.specs.Causes.{AppendsPrefix}
use Rattle.stock_edge.specs.Known.{appends_more, appends_none, prefix_whole, prefix_more, prefix_longer}
use Rattle.std.proofs.lemmas.List.Concat.{flat_map_single}
use Rattle.std.proofs.lemmas.List.Folds.{list_all-append}
use Rattle.value_cert.specs.Grammar.{has_numbers}
use Rattle.value_cert.specs.Lines.{line_text}
use Rattle.value_cert.specs.NumberFacts.{both}
use Rattle.value_cert.specs.Texts.{lines_text}
use Rattle.value_cert.specs.Writes.{Output, Took, Writes}
use Rattle.value_cert.specs.declared.line.CertLine.{CertLine}

-- the text of lines and further ones
pub lines_text-append : (xs ys : List CertLine) → lines_text (xs ++ ys) ≡ lines_text xs ++ lines_text ys
lines_text-append xs ys = flat_map-append line_text xs ys

-- with no write nothing was taken
pub took_none : (a : Output) → Took a a []
took_none a = record { out = []; appended = appends_none a.written; whole = append-nil a.pending; later = omega arith }

-- what a piece holds behind a text that was taken
pub taken : (a b : Output) (s t : List ℕ) (h : Took a b s) → a.pending ++ (s ++ t) ≡ h.out ++ (b.pending ++ t)
taken a b s t h = sym (append_assoc a.pending s t) ∙ ap (λ x. x ++ t) h.whole ∙ append_assoc h.out b.pending t

-- a text was taken, and then a further one
pub took_more : (a b c : Output) (s t : List ℕ) → Took a b s → Took b c t → Took a c (s ++ t)
took_more a b c s t h k = record {
  out = h.out ++ k.out;
  appended = appends_more a.written b.written c.written h.out k.out h.appended k.appended;
  whole = taken a b s t h ∙ ap (λ x. h.out ++ x) k.whole ∙ sym (append_assoc h.out k.out c.pending);
  later = omega (arith, h.later, k.later);
}

-- the text of the lines was taken
pub record Wrote (old new : Output) (lines : List CertLine) : Type 0 where
  pub took : Took old new (lines_text lines)

pub wrote_none : (a : Output) → Wrote a a []
wrote_none a = record { took = took_none a }

-- what a write that succeeded wrote
pub wrote : {T E : Type 0} (a b : Output) (x : T) (lines : List CertLine) → Writes {T = T} {E = E} a b (Ok x) lines → Wrote a b lines
wrote a b x lines h = record { took = h.whole }

-- and back
pub writes : {T E : Type 0} (a b : Output) (x : T) (lines : List CertLine) → Wrote a b lines → Writes {T = T} {E = E} a b (Ok x) lines
writes a b x lines h = record { whole = h.took; prefix = tt; cause = record { later = h.took.later; failed = tt } }

-- lines were written, and then further ones
pub then_writes : {T E : Type 0} (a b c : Output) (r : Result T E) (xs ys : List CertLine) →
    Wrote a b xs → Writes b c r ys → Writes a c r (xs ++ ys)
then_writes a b c (Ok x) xs ys h k =
    let P : List ℕ → Type 0 = Took a c in
    let all = subst P (sym (lines_text-append xs ys)) (took_more a b c (lines_text xs) (lines_text ys) h.took k.whole) in
    record { whole = all; prefix = tt; cause = record { later = all.later; failed = tt } }
then_writes a b c (Err e) xs ys h k =
    let P : List ℕ → Type 0 = AppendsPrefix a.written c.written in
    let text = ap (λ t. a.pending ++ t) (lines_text-append xs ys) ∙ taken a b (lines_text xs) (lines_text ys) h.took in
    record {
      whole = tt;
      prefix = subst P (sym text) (prefix_more a.written b.written c.written h.took.out (b.pending ++ lines_text ys) h.took.appended k.prefix);
      cause = record { later = omega (arith, h.took.later, k.cause.later); failed = omega (arith, h.took.later, k.cause.failed) };
    }

-- writing stopped before further lines
pub stops_before : {T U E F : Type 0} (a c : Output) (e : E) (r : Result U F) (xs ys : List CertLine) →
    IsErr r → Writes {T = T} {E = E} a c (Err e) xs → Writes {T = U} {E = F} a c r (xs ++ ys)
stops_before a c e (Ok x) xs ys failed h = absurd cc
stops_before a c e (Err f) xs ys failed h =
    let P : List ℕ → Type 0 = AppendsPrefix a.written c.written in
    let text = ap (λ t. a.pending ++ t) (lines_text-append xs ys) ∙ sym (append_assoc a.pending (lines_text xs) (lines_text ys)) in
    record {
      whole = tt;
      prefix = subst P (sym text) (prefix_longer a.written c.written (a.pending ++ lines_text xs) (lines_text ys) h.prefix);
      cause = record { later = h.cause.later; failed = h.cause.failed };
    }

-- the lines of one part more
pub part_more : {X : Type 0} (f : X → List CertLine) (xs : List X) (i : ℕ) (x : X) → i < length xs → x ≡ get_or xs i x →
    flat_map f (take (i + 1) xs) ≡ flat_map f (take i xs) ++ f x
part_more f xs i x within is =
    ap (flat_map f) (take_more xs i x within ∙ ap (λ y. take i xs ++ y ∷ []) (sym is))
    ∙ flat_map-append f (take i xs) (x ∷ []) ∙ ap (λ t. flat_map f (take i xs) ++ t) (append-nil (f x))

-- the lines of the first parts, and of the rest
pub parts_split : {X : Type 0} (f : X → List CertLine) (xs : List X) (i : ℕ) → flat_map f (take i xs) ++ flat_map f (drop i xs) ≡ flat_map f xs
parts_split f xs i = sym (flat_map-append f (take i xs) (drop i xs)) ∙ ap (flat_map f) (take-append-drop i xs)

-- the numbers of the front of lines, and of the rest
pub numbers_front : (xs ys : List CertLine) → IsTrue (list_all has_numbers (xs ++ ys)) → IsTrue (list_all has_numbers xs)
numbers_front xs ys h = (both _ _ (sym (list_all-append has_numbers xs ys) ∙ h)).0

pub numbers_rest : (xs ys : List CertLine) → IsTrue (list_all has_numbers (xs ++ ys)) → IsTrue (list_all has_numbers ys)
numbers_rest xs ys h = (both _ _ (sym (list_all-append has_numbers xs ys) ∙ h)).1

-- the numbers of one part
pub part_numbers : {X : Type 0} (f : X → List CertLine) (xs : List X) (i : ℕ) (x : X) → i < length xs → x ≡ get_or xs i x →
    IsTrue (list_all has_numbers (flat_map f xs)) → IsTrue (list_all has_numbers (f x))
part_numbers f xs i x within is h =
    let P : List CertLine → Type 0 = λ t. IsTrue (list_all has_numbers t) in
    let front = numbers_front (flat_map f (take (i + 1) xs)) (flat_map f (drop (i + 1) xs)) (subst P (sym (parts_split f xs (i + 1))) h) in
    numbers_rest (flat_map f (take i xs)) (f x) (subst P (part_more f xs i x within is) front)

-- a line wasn't written whole, nor what stands behind it
pub line_failed : {T U E F : Type 0} {a c : Output} {e : E} {r : Result U F} {line first : CertLine} {rest : List CertLine} →
    Writes {T = T} {E = E} a c (Err e) (line ∷ []) → line ≡ first → IsErr r → Writes {T = U} {E = F} a c r (first ∷ rest)
line_failed {U} {F} {a} {c} {e} {r} {line} {first} {rest} h is failed =
    let P : CertLine → Type 0 = λ l. Writes {T = U} {E = F} a c r (l ∷ rest) in
    subst P is (stops_before a c e r (line ∷ []) rest failed h)

-- a line was written, and what stands behind it after it
pub line_then : {T U E F : Type 0} {a b c : Output} {x : T} {r : Result U F} {line first : CertLine} {more rest : List CertLine} →
    Writes {T = T} {E = E} a b (Ok x) (line ∷ []) → line ≡ first → Writes {T = U} {E = F} b c r more → more ≡ rest → Writes {T = U} {E = F} a c r (first ∷ rest)
line_then {U} {F} {a} {b} {c} {x} {r} {line} {first} {more} {rest} h is k same =
    let P : List CertLine → Type 0 = Writes {T = U} {E = F} a c r in
    subst P (ap (λ l. l ∷ more) is ∙ ap (λ t. first ∷ t) same) (then_writes a b c r (line ∷ []) more (wrote a b x (line ∷ []) h) k)

-- the numbers behind a line
pub behind_line : (first : CertLine) {more rest : List CertLine} → IsTrue (list_all has_numbers (first ∷ rest)) → more ≡ rest → IsTrue (list_all has_numbers more)
behind_line first {more} {rest} h same =
    let P : List CertLine → Type 0 = λ t. IsTrue (list_all has_numbers t) in
    subst P (sym same) (both (has_numbers first) (list_all has_numbers rest) h).1

-- lines weren't written whole, nor what stands behind them
pub lines_failed : {T U E F : Type 0} {a c : Output} {e : E} {r : Result U F} {lines all : List CertLine} (rest : List CertLine) →
    Writes {T = T} {E = E} a c (Err e) lines → IsErr r → lines ++ rest ≡ all → Writes {T = U} {E = F} a c r all
lines_failed {U} {F} {a} {c} {e} {r} {lines} {all} rest h failed same =
    let P : List CertLine → Type 0 = Writes {T = U} {E = F} a c r in
    subst P same (stops_before a c e r lines rest failed h)

-- lines were written, and what stands behind them after them
pub lines_then : {T U E F : Type 0} {a b c : Output} {x : T} {r : Result U F} {lines more all : List CertLine} →
    Writes {T = T} {E = E} a b (Ok x) lines → Writes {T = U} {E = F} b c r more → lines ++ more ≡ all → Writes {T = U} {E = F} a c r all
lines_then {U} {F} {a} {b} {c} {x} {r} {lines} {more} {all} h k same =
    let P : List CertLine → Type 0 = Writes {T = U} {E = F} a c r in
    subst P same (then_writes a b c r lines more (wrote a b x lines h) k)

-- with further lines written, all of them were
pub now_wrote : {T E : Type 0} {a b c : Output} {x : T} {done more all : List CertLine} →
    Wrote a b done → Writes {T = T} {E = E} b c (Ok x) more → done ++ more ≡ all → Wrote a c all
now_wrote {T} {E} {a} {b} {c} {x} {done} {more} {all} h k same =
    let P : List CertLine → Type 0 = Wrote a c in
    subst P same (wrote a c x (done ++ more) (then_writes {T = T} {E = E} a b c (Ok x) done more h k))

-- further lines weren't written whole, nor what stands behind them
pub now_failed : {T U E F : Type 0} {a b c : Output} {e : E} {r : Result U F} {done more all : List CertLine} (rest : List CertLine) →
    Wrote a b done → Writes {T = T} {E = E} b c (Err e) more → IsErr r → (done ++ more) ++ rest ≡ all → Writes {T = U} {E = F} a c r all
now_failed {T} {U} {E} {F} {a} {b} {c} {e} {r} {done} {more} {all} rest h k failed same =
    lines_failed rest (then_writes {T = T} {E = E} a b c (Err e) done more h k) failed same

-- lines that are all were written
pub wrote_all : {T E : Type 0} {a b : Output} {x : T} {done all : List CertLine} →
    Wrote a b done → done ≡ all → Writes {T = T} {E = E} a b (Ok x) all
wrote_all {T} {E} {a} {b} {x} {done} {all} h same =
    let P : List CertLine → Type 0 = Wrote a b in
    writes a b x all (subst P same h)

-- lines of one line each
pub each_one : {X : Type 0} (f : X → CertLine) (xs ys : List X) → xs ≡ ys → flat_map (λ x. f x ∷ []) xs ≡ map f ys
each_one f xs ys same = flat_map_single f xs ∙ ap (map f) same

-- the numbers between lines
pub between_lines : (front middle behind : List CertLine) {more : List CertLine} → IsTrue (list_all has_numbers (front ++ (middle ++ behind))) → more ≡ middle →
    IsTrue (list_all has_numbers more)
between_lines front middle behind {more} h same =
    let P : List CertLine → Type 0 = λ t. IsTrue (list_all has_numbers t) in
    subst P (sym same) (numbers_front middle behind (numbers_rest front (middle ++ behind) h))

-- what a text that was taken and the piece that goes out behind it append
pub flushed_prefix : {T E : Type 0} (a b : Output) (v : Option (List ℕ)) (text : List ℕ) (r : Result T E) → a.pending ≡ [] → Took a b text
    → OnOk r (Appends b.written v b.pending) → OnErr r (AppendsPrefix b.written v b.pending) → AppendsPrefix a.written v text
flushed_prefix {T} {E} a b v text r empty h ok err =
    let P : List ℕ → Type 0 = AppendsPrefix a.written v in
    let is : text ≡ h.out ++ b.pending = ap (λ t. t ++ text) (sym empty) ∙ h.whole in
    subst P (sym is) (prefix_more a.written b.written v h.out b.pending h.appended (part r ok err))
  where
    part : (r : Result T E) → OnOk r (Appends b.written v b.pending) → OnErr r (AppendsPrefix b.written v b.pending) → AppendsPrefix b.written v b.pending
    part (Ok x) ok err = prefix_whole b.written v b.pending ok
    part (Err e) ok err = err
