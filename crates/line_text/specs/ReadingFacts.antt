-- What a reader's answers say of the texts of a grammar.
use Rattle.std.proofs.Common.{◌≡◌, ℕ, ◌+◌, ◌<◌, ◌≤◌, true, false, List, [], ◌∷◌, ◌++◌, length, get_or, take, drop, Option, Some, None, inl, inr, ⊎_elim, sym, refl, ap, ◌∙◌, subst, arith, append_assoc, append-nil}
use Rattle.std.specs.Prelude.{◌==◌, Contains, IsSomeAnd, option_to_list}
use Rattle.std.specs.List.{slice_split, join_with_byte}
use Rattle.std.proofs.lemmas.Bool.{cases_lt, false≢true}
use Rattle.std.proofs.lemmas.Grind.{flat_map-append}
use Rattle.std.proofs.lemmas.List.{length-append, take_all, take-append-drop}
use Rattle.std.proofs.lemmas.List.Elements.{All-append}
use Rattle.std.proofs.lemmas.List.Splits.{slice_split_at, join_with_byte-slice_split}
use Rattle.std.proofs.Math.ListN.{get_or-append}
use Rattle.std.proofs.Math.Seq.{get_or-append_seam, take-append_seam}
use Rattle.line_text.specs.Breaches.{next_line}
use Rattle.line_text.specs.Grammar.{GrammarOf, place_from, has_ended}
use Rattle.line_text.specs.LineWords.{IsWithout}
use Rattle.line_text.specs.Reading.{ReaderState, line_text, lines_text, next_number, NoLineBegins, BeginsNoText, IsPastLine, EndsLine, KeepsPiece, TakesSome, Reads, Refuses, NoLineIs, EndsWith, HasRead, AreLinesOf}

-- the words of a line and what stands behind its line feed
pub slice_split-text : (words rest : List ℕ) → IsWithout 10 words → slice_split (λ byte. byte == 10) (words ++ 10 ∷ rest) ≡ words ∷ slice_split (λ byte. byte == 10) rest
slice_split-text words rest none = slice_split_at (λ byte. byte == 10) words 10 rest none refl

-- two texts with a line feed behind their first lines
pub same_split : (xs ys us vs : List ℕ) → IsWithout 10 xs → IsWithout 10 us → xs ++ 10 ∷ ys ≡ us ++ 10 ∷ vs → (xs ≡ us) × (ys ≡ vs)
same_split xs ys us vs h k same =
    let parts : xs ∷ slice_split (λ byte. byte == 10) ys ≡ us ∷ slice_split (λ byte. byte == 10) vs =
    sym (slice_split-text xs ys h) ∙ ap (slice_split (λ byte. byte == 10)) same ∙ slice_split-text us vs k in
    let front : xs ≡ us = cc parts in
    let back : slice_split (λ byte. byte == 10) ys ≡ slice_split (λ byte. byte == 10) vs = cc parts in
    (front, sym (join_with_byte-slice_split 10 ys) ∙ ap (join_with_byte 10) back ∙ join_with_byte-slice_split 10 vs)

-- bytes before a text's first line feed are no longer than its first line
front_length : (front more words rest : List ℕ) → IsWithout 10 front → front ++ more ≡ words ++ 10 ∷ rest → length front ≤ length words
front_length front more words rest h same =
    ⊎_elim (λ (long : length words < length front).
    let seam : get_or (front ++ more) (length words) 0 ≡ 10 = ap (λ (t : List ℕ). get_or t (length words) 0) same ∙ get_or-append_seam words 10 rest 0 in
    let inside : get_or (front ++ more) (length words) 0 ≡ get_or front (length words) 0 = get_or-append front more 0 (length words) long in
    let other : (get_or front (length words) 0 == 10) ≡ false = h (length words) 0 long in
    let never : (10 == 10) ≡ false = ap (λ (b : ℕ). b == 10) (sym (sym inside ∙ seam)) ∙ other in
    cc)
    (λ (short : length front ≤ length words). short)
    (cases_lt (length words) (length front))

-- the text of a line, with more behind it
pub line_text-append : {L P : Type 0} (G : GrammarOf L P) (line : L) (rest : List ℕ) → line_text G line ++ rest ≡ G.words line ++ 10 ∷ rest
line_text-append G line rest = append_assoc (G.words line) (10 ∷ []) rest

-- what is longer than any line begins none
pub long_begins_none : {L P : Type 0} (G : GrammarOf L P) (at : P) (front : List ℕ) → IsWithout 10 front → G.limit ≤ length front → NoLineBegins G at front
long_begins_none G at front h long line next more rest step same =
    omega (arith, front_length front more (G.words line) rest h (same ∙ line_text-append G line rest), G.short at line next step)

-- what ends as no line begins none
pub ended_begins_none : {L P : Type 0} (G : GrammarOf L P) (at : P) (words behind : List ℕ) → IsWithout 10 words → NoLineIs G at words → NoLineBegins G at (words ++ 10 ∷ behind)
ended_begins_none G at words behind h none line next more rest step same =
    let both = same_split words (behind ++ more) (G.words line) rest h (G.without_feed at line next step) (sym (append_assoc words (10 ∷ behind) more) ∙ same ∙ line_text-append G line rest) in
    none line next step both.0

-- why words are those of no line: they are too many, they spell none, or the line may not stand there
pub long_is_none : {L P : Type 0} (G : GrammarOf L P) (at : P) (words : List ℕ) → G.limit ≤ length words + 1 → NoLineIs G at words
long_is_none G at words long line next step is = omega (arith, ap length is, G.short at line next step)

pub unspelled_is_none : {L P : Type 0} (G : GrammarOf L P) (at : P) (words : List ℕ) → G.spelt words ≡ None → NoLineIs G at words
unspelled_is_none G at words none line next step is =
    let spelled = G.spells at line next step in
    let never : Some line ≡ None = sym spelled ∙ ap G.spelt (sym is) ∙ none in
    cc

pub misplaced_is_none : {L P : Type 0} (G : GrammarOf L P) (at : P) (words : List ℕ) (line : L) → G.spelt words ≡ Some line → G.step at line ≡ None → NoLineIs G at words
misplaced_is_none G at words line spells none other next step is =
    let spelled = G.spells at other next step in
    let same : Some other ≡ Some line = sym spelled ∙ ap G.spelt (sym is) ∙ spells in
    let line_is : other ≡ line = cc in
    let never : Some next ≡ None = sym step ∙ ap (G.step at) line_is ∙ none in
    cc

-- a piece that made the line too long is refused
pub long_refuses : {L P : Type 0} (G : GrammarOf L P) (old : ReaderState P) (piece : List ℕ) → IsWithout 10 old.unfinished → IsWithout 10 piece → G.limit ≤ length (old.unfinished ++ piece) → Refuses G old piece
long_refuses G old piece before now long =
    let none = All-append (λ b. (b == 10) ≡ false) old.unfinished piece before now in
    record { past = inr long; none = long_begins_none G old.place (old.unfinished ++ piece) none long }

pub takes_some : {L P : Type 0} (G : GrammarOf L P) (old new : ReaderState P) (piece : List ℕ) (count : ℕ) (line : Option L) → Reads G old new piece count line → TakesSome piece count
takes_some G old new piece count None h = record { within = omega (arith, h.all); some = λ more. omega (arith, more, h.all) }
takes_some G old new piece count (Some line) h = record { within = h.within; some = λ more. h.some }

-- the front of a piece up to and with its line feed
feed_taken : (end behind : List ℕ) → take (length end + 1) (end ++ 10 ∷ behind) ≡ end ++ 10 ∷ []
feed_taken end behind =
    let long : length (end ++ 10 ∷ []) ≡ length end + 1 = omega (arith, length-append end (10 ∷ [])) in
    ap (λ (n : ℕ). take n (end ++ 10 ∷ behind)) (sym long)
    ∙ ap (take (length (end ++ 10 ∷ []))) (sym (append_assoc end (10 ∷ []) behind))
    ∙ take-append_seam (end ++ 10 ∷ []) behind

ends_line : {L P : Type 0} (G : GrammarOf L P) (old new : ReaderState P) (end behind : List ℕ) (count : ℕ) (line : L) → count ≡ length end + 1 → EndsWith G old new end line
    → EndsLine G old new (end ++ 10 ∷ behind) count line
ends_line G old new end behind count line taken h = record {
  some = omega (arith, taken);
  within = omega (arith, taken, length-append end (10 ∷ behind));
  text =
      ap (λ (n : ℕ). old.unfinished ++ take n (end ++ 10 ∷ behind)) taken
      ∙ ap (λ (t : List ℕ). old.unfinished ++ t) (feed_taken end behind)
      ∙ sym (append_assoc old.unfinished end (10 ∷ []))
      ∙ ap (λ (t : List ℕ). t ++ 10 ∷ []) h.words;
  place = h.place;
  number = h.number;
  unfinished = h.unfinished;
  live = h.live;
}

ends_some : {L P : Type 0} (G : GrammarOf L P) (old new : ReaderState P) (end behind : List ℕ) (count : ℕ) (line : Option L) → count ≡ length end + 1 → IsSomeAnd line (EndsWith G old new end)
    → Reads G old new (end ++ 10 ∷ behind) count line
ends_some G old new end behind count None taken h = absurd h
ends_some G old new end behind count (Some line) taken h = ends_line G old new end behind count line taken h

-- a line that ended, and one that may not stand there, in the words of a reader's answers
pub ends_reads : {L P : Type 0} (G : GrammarOf L P) (old new : ReaderState P) (piece end behind : List ℕ) (count : ℕ) (line : Option L) → piece ≡ end ++ 10 ∷ behind → count ≡ length end + 1
    → IsSomeAnd line (EndsWith G old new end) → Reads G old new piece count line
ends_reads G old new piece end behind count line is taken h =
    let Q : List ℕ → Type 0 = λ p. Reads G old new p count line in
    subst Q (sym is) (ends_some G old new end behind count line taken h)

holds_feed : (words behind : List ℕ) → Contains (words ++ 10 ∷ behind) 10
holds_feed words behind = (length words, omega (arith, length-append words (10 ∷ behind)), get_or-append_seam words 10 behind 10)

-- bytes that hold a line feed are not without one
feed_clash : (bytes : List ℕ) → Contains bytes 10 → IsWithout 10 bytes → ⊥
feed_clash bytes feed none =
    let here : (get_or bytes feed.0 10 == 10) ≡ false = none feed.0 10 feed.1 in
    let never : (10 == 10) ≡ false = ap (λ (b : ℕ). b == 10) (sym feed.2) ∙ here in
    cc

pub misplaced_refuses : {L P : Type 0} (G : GrammarOf L P) (old : ReaderState P) (piece end behind : List ℕ) → IsWithout 10 old.unfinished → IsWithout 10 end → piece ≡ end ++ 10 ∷ behind
    → NoLineIs G old.place (old.unfinished ++ end) → Refuses G old piece
misplaced_refuses G old piece end behind before now is nowhere =
    let none = All-append (λ b. (b == 10) ≡ false) old.unfinished end before now in
    let text : old.unfinished ++ piece ≡ (old.unfinished ++ end) ++ 10 ∷ behind = ap (λ (t : List ℕ). old.unfinished ++ t) is ∙ sym (append_assoc old.unfinished end (10 ∷ behind)) in
    let P : List ℕ → Type 0 = IsPastLine G.limit in
    let Q : List ℕ → Type 0 = NoLineBegins G old.place in
    record {
      past = subst P (sym text) (inl (holds_feed (old.unfinished ++ end) behind));
      none = subst Q (sym text) (ended_begins_none G old.place (old.unfinished ++ end) behind none nowhere);
    }

-- ---- lines behind one another
pub place_from-append : {L P : Type 0} (G : GrammarOf L P) (at : Option P) (xs ys : List L) → place_from G at (xs ++ ys) ≡ place_from G (place_from G at xs) ys
place_from-append G None xs ys = refl
place_from-append G (Some at) [] ys = refl
place_from-append G (Some at) (x ∷ xs) ys = place_from-append G (G.step at x) xs ys

from_place : {L P : Type 0} (G : GrammarOf L P) (x : Option P) (lines : List L) (at : P) → place_from G x lines ≡ Some at → (next : P) × (x ≡ Some next)
from_place G None lines at h = cc
from_place G (Some next) lines at h = (next, refl)

from_end : {L P : Type 0} (G : GrammarOf L P) (x : Option P) (lines : List L) → has_ended G (place_from G x lines) ≡ true → (next : P) × (x ≡ Some next)
from_end G None lines h = absurd (false≢true h)
from_end G (Some next) lines h = (next, refl)

-- the lines behind the first ones of a text
record Behind {L P : Type 0} (G : GrammarOf L P) (lines whole : List L) (at : P) (text : List ℕ) : Type 0 where
  rest : List L
  all : whole ≡ lines ++ rest
  ends : has_ended G (place_from G (Some at) rest) ≡ true
  spelled : text ≡ lines_text G rest

-- each line has one text, so what begins as lines goes on behind them
behind_lines : {L P : Type 0} (G : GrammarOf L P) (from : Option P) (lines whole : List L) (at : P) (text : List ℕ) → place_from G from lines ≡ Some at → has_ended G (place_from G from whole) ≡ true
    → lines_text G lines ++ text ≡ lines_text G whole → Behind G lines whole at text
behind_lines G None lines whole at text h k same = cc
behind_lines {L} {P} G (Some p) [] whole at text h k same =
    let here : p ≡ at = cc in
    let Q : P → Type 0 = λ q. has_ended G (place_from G (Some q) whole) ≡ true in
    record { rest = whole; all = refl; ends = subst Q here k; spelled = same }
behind_lines G (Some p) (x ∷ xs) [] at text h k same =
    absurd (omega (arith, ap length same, length-append (line_text G x ++ lines_text G xs) text, length-append (line_text G x) (lines_text G xs), length-append (G.words x) (10 ∷ [])))
behind_lines {L} {P} G (Some p) (x ∷ xs) (w ∷ ws) at text h k same =
    let texts : G.words x ++ 10 ∷ (lines_text G xs ++ text) ≡ G.words w ++ 10 ∷ lines_text G ws =
    sym (line_text-append G x (lines_text G xs ++ text)) ∙ sym (append_assoc (line_text G x) (lines_text G xs) text) ∙ same ∙ line_text-append G w (lines_text G ws) in
    let mine = from_place G (G.step p x) xs at h in
    let other = from_end G (G.step p w) ws k in
    let both = same_split (G.words x) (lines_text G xs ++ text) (G.words w) (lines_text G ws) (G.without_feed p x mine.0 mine.1) (G.without_feed p w other.0 other.1) texts in
    let spelled : Some w ≡ Some x = sym (G.spells p w other.0 other.1) ∙ ap G.spelt (sym both.0) ∙ G.spells p x mine.0 mine.1 in
    let line : w ≡ x = cc spelled in
    let Q : L → Type 0 = λ l. has_ended G (place_from G (G.step p l) ws) ≡ true in
    let further = behind_lines G (G.step p x) xs ws at text h (subst Q line k) both.1 in
    let first : w ∷ ws ≡ x ∷ ws = ap (λ (l : L). l ∷ ws) line in
    record { rest = further.rest; all = first ∙ ap (λ (ls : List L). x ∷ ls) further.all; ends = further.ends; spelled = further.spelled }

pub past_not_empty : (limit : ℕ) (front more : List ℕ) → 0 < limit → IsPastLine limit front → front ++ more ≡ [] → ⊥
past_not_empty limit front more some past same =
    let empty : length front ≤ 0 = omega (arith, ap length same, length-append front more) in
    ⊎_elim (λ (feed : Contains front 10). omega (arith, feed.1)) (λ (long : limit ≤ length front). omega (arith, some)) past

-- what a reader refuses begins no text
pub refuses_text : {L P : Type 0} (G : GrammarOf L P) (old : ReaderState P) (piece bytes : List ℕ) (lines : List L) → HasRead G old bytes lines → Refuses G old piece → BeginsNoText G (bytes ++ piece)
refuses_text {L} {P} G old piece bytes lines read refused whole more ends is =
    let front = old.unfinished ++ piece in
    let text : lines_text G lines ++ (front ++ more) ≡ lines_text G whole =
    sym (append_assoc (lines_text G lines) front more)
    ∙ ap (λ (t : List ℕ). t ++ more) (sym (append_assoc (lines_text G lines) old.unfinished piece) ∙ ap (λ (t : List ℕ). t ++ piece) (sym read.text))
    ∙ is in
    let behind = behind_lines G (Some G.start) lines whole old.place (front ++ more) read.place ends text in
    no_rest behind.rest behind.ends behind.spelled
  where
    no_rest : (rest : List L) → has_ended G (place_from G (Some old.place) rest) ≡ true → (old.unfinished ++ piece) ++ more ≡ lines_text G rest → ⊥
    no_rest [] h same = past_not_empty G.limit (old.unfinished ++ piece) more G.some refused.past same
    no_rest (line ∷ rest) h same =
        let next = from_end G (G.step old.place line) rest h in
        refused.none line next.0 more (lines_text G rest) next.1 same

-- the number of the line behind one more
next_line-push : {L : Type 0} (lines : List L) (line : L) → next_line (lines ++ line ∷ []) ≡ next_number (next_line lines)
next_line-push lines line = omega (arith, length-append lines (line ∷ []))

lines_text-push : {L P : Type 0} (G : GrammarOf L P) (lines : List L) (line : L) → lines_text G (lines ++ line ∷ []) ≡ lines_text G lines ++ line_text G line
lines_text-push G lines line = flat_map-append (line_text G) lines (line ∷ []) ∙ ap (λ (t : List ℕ). lines_text G lines ++ t) (append-nil (line_text G line))

-- a reader stands for one more line, or for a longer unfinished one
read_ended : {L P : Type 0} (G : GrammarOf L P) (old new : ReaderState P) (piece bytes : List ℕ) (count : ℕ) (line : L) (lines : List L) → HasRead G old bytes lines → EndsLine G old new piece count line
    → HasRead G new (bytes ++ take count piece) (lines ++ line ∷ [])
read_ended {L} {P} G old new piece bytes count line lines read ended = record {
  text =
      ap (λ (t : List ℕ). t ++ take count piece) read.text
      ∙ append_assoc (lines_text G lines) old.unfinished (take count piece)
      ∙ ap (λ (t : List ℕ). lines_text G lines ++ t) ended.text
      ∙ sym (lines_text-push G lines line)
      ∙ sym (append-nil (lines_text G (lines ++ line ∷ [])))
      ∙ ap (λ (t : List ℕ). lines_text G (lines ++ line ∷ []) ++ t) (sym ended.unfinished);
  place = place_from-append G (Some G.start) lines (line ∷ []) ∙ ap (λ (p : Option P). place_from G p (line ∷ [])) read.place ∙ ap (λ (p : Option P). place_from G p []) ended.place;
  number = ended.number ∙ ap next_number read.number ∙ sym (next_line-push lines line);
  live = ended.live;
}

read_kept : {L P : Type 0} (G : GrammarOf L P) (old new : ReaderState P) (piece bytes : List ℕ) (count : ℕ) (lines : List L) → HasRead G old bytes lines → KeepsPiece old new piece count
    → HasRead G new (bytes ++ take count piece) (lines ++ [])
read_kept {L} {P} G old new piece bytes count lines read kept =
    let same : lines ++ [] ≡ lines = append-nil lines in
    let Q : List L → Type 0 = HasRead G new (bytes ++ take count piece) in
    subst Q (sym same) (record {
      text =
          ap (λ (t : List ℕ). t ++ take count piece) read.text
          ∙ ap (λ (t : List ℕ). (lines_text G lines ++ old.unfinished) ++ t) (take_all count piece (omega (arith, kept.all)))
          ∙ append_assoc (lines_text G lines) old.unfinished piece
          ∙ ap (λ (t : List ℕ). lines_text G lines ++ t) (sym kept.unfinished);
      place = read.place ∙ ap (λ (p : P). Some p) (sym kept.place);
      number = kept.number ∙ read.number;
      live = kept.live;
    })

pub reads_on : {L P : Type 0} (G : GrammarOf L P) (old new : ReaderState P) (piece : List ℕ) (count : ℕ) (line : Option L) → Reads G old new piece count line
    → (bytes : List ℕ) (lines : List L) → HasRead G old bytes lines → HasRead G new (bytes ++ take count piece) (lines ++ option_to_list line)
reads_on G old new piece count None h bytes lines read = read_kept G old new piece bytes count lines read h
reads_on G old new piece count (Some line) h bytes lines read = read_ended G old new piece bytes count line lines read h

-- the lines that a reader gave are those of the bytes that it took
pub has_read_lines : {L P : Type 0} (G : GrammarOf L P) (reader : ReaderState P) (bytes : List ℕ) (lines : List L) → HasRead G reader bytes lines → AreLinesOf G bytes lines
has_read_lines G reader bytes lines read whole more ends same =
    let text : lines_text G lines ++ (reader.unfinished ++ more) ≡ lines_text G whole =
    sym (append_assoc (lines_text G lines) reader.unfinished more) ∙ ap (λ (t : List ℕ). t ++ more) (sym read.text) ∙ same in
    let behind = behind_lines G (Some G.start) lines whole reader.place (reader.unfinished ++ more) read.place ends text in
    (behind.rest, behind.all)

-- ---- for a checker of whole texts, which goes by what stands before each line feed

-- where a line ends, the text splits behind it
pub split_behind_line : {L P : Type 0} (G : GrammarOf L P) (old new : ReaderState P) (piece more : List ℕ) (count : ℕ) (line : L) → EndsLine G old new piece count line
    → slice_split (λ byte. byte == 10) ((old.unfinished ++ piece) ++ more) ≡ G.words line ∷ slice_split (λ byte. byte == 10) (drop count piece ++ more)
split_behind_line G old new piece more count line ended =
    let cut : piece ≡ take count piece ++ drop count piece = sym (take-append-drop count piece) in
    let text : (old.unfinished ++ piece) ++ more ≡ G.words line ++ 10 ∷ (drop count piece ++ more) =
    ap (λ (t : List ℕ). (old.unfinished ++ t) ++ more) cut
    ∙ ap (λ (t : List ℕ). t ++ more) (sym (append_assoc old.unfinished (take count piece) (drop count piece)))
    ∙ append_assoc (old.unfinished ++ take count piece) (drop count piece) more
    ∙ ap (λ (t : List ℕ). t ++ (drop count piece ++ more)) ended.text
    ∙ line_text-append G line (drop count piece ++ more) in
    ap (slice_split (λ byte. byte == 10)) text ∙ slice_split-text (G.words line) (drop count piece ++ more) (G.without_feed old.place line new.place ended.place)

without_front : (xs ys : List ℕ) → IsWithout 10 (xs ++ ys) → IsWithout 10 xs
without_front xs ys h k d below =
    ap (λ (b : ℕ). b == 10) (sym (get_or-append xs ys d k below)) ∙ h k d (omega (arith, length-append xs ys))

-- where a reader refuses, the first line of any text that goes on so may not stand there
pub first_line_refused : {L P : Type 0} (G : GrammarOf L P) (at : P) (front more first : List ℕ) (others : List (List ℕ)) → IsPastLine G.limit front → NoLineBegins G at front
    → slice_split (λ byte. byte == 10) (front ++ more) ≡ first ∷ others → (line : L) (next : P) → G.spelt first ≡ Some line → G.step at line ≡ Some next → ⊥
first_line_refused G at front more first others past none split line next spells step =
    behind others (sym (join_with_byte-slice_split 10 (front ++ more)) ∙ ap (join_with_byte 10) split)
  where
    words : G.words line ≡ first
    words = G.spelling first line spells

    behind : (others : List (List ℕ)) → front ++ more ≡ join_with_byte 10 (first ∷ others) → ⊥
    behind [] same =
        let all : front ++ more ≡ G.words line = same ∙ sym words in
        let Q : List ℕ → Type 0 = IsWithout 10 in
        ⊎_elim (λ (feed : Contains front 10). feed_clash front feed (without_front front more (subst Q (sym all) (G.without_feed at line next step))))
        (λ (long : G.limit ≤ length front). omega (arith, ap length all, length-append front more, G.short at line next step))
        past
    behind (other ∷ rest) same =
        let text : front ++ more ≡ line_text G line ++ join_with_byte 10 (other ∷ rest) =
        same ∙ ap (λ (t : List ℕ). t ++ 10 ∷ join_with_byte 10 (other ∷ rest)) (sym words) ∙ sym (line_text-append G line (join_with_byte 10 (other ∷ rest))) in
        none line next more (join_with_byte 10 (other ∷ rest)) step text
