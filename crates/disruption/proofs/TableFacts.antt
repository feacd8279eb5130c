-- What spans of a table hold, and what a table is with one span more.
use Rattle.std.proofs.Common.{◌≡◌, ◌⊎◌, ◌≢◌, ℕ, zero, suc, ◌<◌, ◌≤◌, List, [], ◌∷◌, length, get_or, insert, All, Bool, true, false, not, ◌&&◌, ◌||◌, ◌==◌, nat_le, max, inl, inr, refl, sym, ◌∙◌, ap, subst, arith}
use Rattle.std.specs.List.{list_any, list_all}
use Rattle.std.proofs.lemmas.Bool.{eqb-true, leb-true, le-leb, eq-eqb, cases_lt, cases_order}
use Rattle.std.proofs.Math.Nat.{le-max_left, le-max_right, max-le}
use Rattle.std.proofs.lemmas.List.Folds.{list_any_none, list_any_at}
use Rattle.std.proofs.lemmas.List.Elements.{All-from_get_or}
use Rattle.network_model.specs.declared.network.Span.{Span}
use Rattle.network_model.specs.declared.network.Pause.{Pause}
use Rattle.network_model.specs.declared.network.Pause.TheVariants.{Orders, Shipments, Receipts}
use Rattle.network_model.specs.Pauses.{same_pause, holds, is_paused, are_apart, no_span}
use Rattle.disruption.specs.Tables.{rank, group, IsBefore, IsTable, Begins, Follows, HasOneMore}

-- ---- what it means that a span holds a period
pub both : (a b : Bool) → (a && b) ≡ true → (a ≡ true) × (b ≡ true)
both true true e = (refl, refl)
both true false e = cc
both false b e = cc

same_rank : (one other : Pause) → same_pause one other ≡ true → rank one ≡ rank other
same_rank Orders Orders e = refl
same_rank Orders Shipments e = cc
same_rank Orders Receipts e = cc
same_rank Shipments Orders e = cc
same_rank Shipments Shipments e = refl
same_rank Shipments Receipts e = cc
same_rank Receipts Orders e = cc
same_rank Receipts Shipments e = cc
same_rank Receipts Receipts e = refl

pub holds_means : (what : Pause) (node t : ℕ) (a : Span) → holds what node t a ≡ true → (group a.node a.what ≡ group node what) × (a.from ≤ t) × (t ≤ a.to)
holds_means what node t a e =
    let one = both (same_pause a.what what && (a.node == node) && nat_le a.from t) (nat_le t a.to) e in
    let two = both (same_pause a.what what && (a.node == node)) (nat_le a.from t) one.0 in
    let three = both (same_pause a.what what) (a.node == node) two.0 in
    let ranks : rank a.what ≡ rank what = same_rank a.what what three.0 in
    let nodes : a.node ≡ node = eqb-true a.node node three.1 in
    (omega arith, leb-true a.from t two.1, leb-true t a.to one.1)

-- what can't be true is false
pub by_absurd : (b : Bool) → (b ≡ true → ⊥) → b ≡ false
by_absurd true h = absurd (h refl)
by_absurd false h = refl

-- a span that begins later holds nothing
pub later_holds_not : (what : Pause) (node t : ℕ) (a : Span) → Follows node what t a → holds what node t a ≡ false
later_holds_not what node t a follows =
    by_absurd (holds what node t a) (λ e. let means = holds_means what node t a e in omega (arith, means.0, means.1, follows.begins))

-- nor does one that stands before another that begins in time
pub earlier_holds_not : (what : Pause) (node t : ℕ) (a b : Span) → IsBefore a b → Begins node what t b → holds what node t a ≡ false
earlier_holds_not what node t a b before begins =
    by_absurd (holds what node t a) (λ e. let means = holds_means what node t a e in omega (arith, means.0, means.2, before.order, before.ends, begins.order, begins.begins))

-- ---- spans of a table by place
pub whole_at : (xs : List Span) (i : ℕ) → IsTable xs → i < length xs → (get_or xs i no_span).from ≤ (get_or xs i no_span).to
whole_at [] i table lt = absurd (omega arith)
whole_at (a ∷ rest) zero table lt = table.0
whole_at (a ∷ rest) (suc i) table lt = whole_at rest i table.2 (omega arith)

pub before_at : (xs : List Span) (i j : ℕ) → IsTable xs → i < j → j < length xs → IsBefore (get_or xs i no_span) (get_or xs j no_span)
before_at [] i j table less lt = absurd (omega arith)
before_at (a ∷ rest) i zero table less lt = absurd (omega arith)
before_at (a ∷ rest) zero (suc j) table less lt = table.1 j no_span (omega arith)
before_at (a ∷ rest) (suc i) (suc j) table less lt = before_at rest i j table.2 (omega arith) (omega arith)

-- an earlier place begins in time where a later one does
pub begins_earlier : (xs : List Span) (node : ℕ) (what : Pause) (t i j : ℕ) → IsTable xs → i ≤ j → j < length xs → Begins node what t (get_or xs j no_span) → Begins node what t (get_or xs i no_span)
begins_earlier xs node what t i j table le lt begins = by_place (cases_lt i j)
  where
    by_place : (i < j) ⊎ (j ≤ i) → Begins node what t (get_or xs i no_span)
    by_place (inl less) =
        let before = before_at xs i j table less lt in
        let whole = whole_at xs i table (omega arith) in
        record {
          order = omega (arith, before.order, begins.order);
          begins = λ same. omega (arith, before.order, before.ends, begins.order, begins.begins, whole);
        }
    by_place (inr most) = let e : j ≡ i = omega arith in subst (λ (k : ℕ). Begins node what t (get_or xs k no_span)) e begins

-- a later place follows where an earlier one does
pub follows_later : (xs : List Span) (node : ℕ) (what : Pause) (t i j : ℕ) → IsTable xs → i ≤ j → j < length xs → Follows node what t (get_or xs i no_span) → Follows node what t (get_or xs j no_span)
follows_later xs node what t i j table le lt follows = by_place (cases_lt i j)
  where
    by_place : (i < j) ⊎ (j ≤ i) → Follows node what t (get_or xs j no_span)
    by_place (inl less) =
        let before = before_at xs i j table less lt in
        let whole = whole_at xs i table (omega arith) in
        record {
          order = omega (arith, before.order, follows.order);
          begins = λ same. omega (arith, before.order, before.ends, follows.order, follows.begins, whole);
        }
    by_place (inr most) = let e : i ≡ j = omega arith in subst (λ (k : ℕ). Follows node what t (get_or xs k no_span)) e follows

-- ---- a question: of a list of which all other elements fail a test, one decides
none_at : (p : Span → Bool) (xs : List Span) → ((i : ℕ) → i < length xs → p (get_or xs i no_span) ≡ false) → list_any p xs ≡ false
none_at p xs fails = list_any_none p xs (All-from_get_or (λ x. p x ≡ false) xs no_span fails)

one_decides : (p : Span → Bool) (xs : List Span) (k : ℕ) → k < length xs → ((i : ℕ) → i < length xs → i ≢ k → p (get_or xs i no_span) ≡ false) → list_any p xs ≡ p (get_or xs k no_span)
one_decides p xs k lt others = by_test (p (get_or xs k no_span)) refl
  where
    by_test : (b : Bool) → p (get_or xs k no_span) ≡ b → list_any p xs ≡ p (get_or xs k no_span)
    by_test true e = list_any_at p xs k no_span lt e ∙ sym e
    by_test false e = none_at p xs (λ i within. by_place i within e (cases_order i k)) ∙ sym e
      where
        by_place : (i : ℕ) → i < length xs → p (get_or xs k no_span) ≡ false → (i ≡ k) ⊎ ((i < k) ⊎ (k < i)) → p (get_or xs i no_span) ≡ false
        by_place i within e (inl same) = subst (λ (j : ℕ). p (get_or xs j no_span) ≡ false) (sym same) e
        by_place i within e (inr (inl less)) = others i within (omega arith)
        by_place i within e (inr (inr more)) = others i within (omega arith)

-- no span has begun
pub none_paused : (xs : List Span) (what : Pause) (node t : ℕ) → ((i : ℕ) → i < length xs → Follows node what t (get_or xs i no_span)) → is_paused xs what node t ≡ false
none_paused xs what node t follows = none_at (holds what node t) xs (λ i lt. later_holds_not what node t (get_or xs i no_span) (follows i lt))

-- the last that has begun decides
pub last_decides : (xs : List Span) (what : Pause) (node t k : ℕ) → IsTable xs → k < length xs → Begins node what t (get_or xs k no_span) → ((i : ℕ) → k < i → i < length xs → Follows node what t (get_or xs i no_span)) → is_paused xs what node t ≡ holds what node t (get_or xs k no_span)
last_decides xs what node t k table lt begins rest =
    one_decides (holds what node t) xs k lt (λ i within other. by_place i within other (cases_lt i k))
  where
    by_place : (i : ℕ) → i < length xs → i ≢ k → (i < k) ⊎ (k ≤ i) → holds what node t (get_or xs i no_span) ≡ false
    by_place i within other (inl less) = earlier_holds_not what node t (get_or xs i no_span) (get_or xs k no_span) (before_at xs i k table less lt) begins
    by_place i within other (inr most) = later_holds_not what node t (get_or xs i no_span) (rest i (omega arith) within)

-- ---- one span more
same_kind : (one other : Pause) (n m : ℕ) → group n one ≡ group m other → same_pause one other ≡ true
same_kind Orders Orders n m same = refl
same_kind Orders Shipments n m same = absurd (omega arith)
same_kind Orders Receipts n m same = absurd (omega arith)
same_kind Shipments Orders n m same = absurd (omega arith)
same_kind Shipments Shipments n m same = refl
same_kind Shipments Receipts n m same = absurd (omega arith)
same_kind Receipts Orders n m same = absurd (omega arith)
same_kind Receipts Shipments n m same = absurd (omega arith)
same_kind Receipts Receipts n m same = refl

same_node : (one other : Pause) (n m : ℕ) → group n one ≡ group m other → n ≡ m
same_node Orders Orders n m same = omega arith
same_node Orders Shipments n m same = omega arith
same_node Orders Receipts n m same = omega arith
same_node Shipments Orders n m same = omega arith
same_node Shipments Shipments n m same = omega arith
same_node Shipments Receipts n m same = omega arith
same_node Receipts Orders n m same = omega arith
same_node Receipts Shipments n m same = omega arith
same_node Receipts Receipts n m same = omega arith

-- a span of a kind and node holds each period between its ends
held_between : (what : Pause) (node t : ℕ) (a : Span) → group a.node a.what ≡ group node what → a.from ≤ t → t ≤ a.to → holds what node t a ≡ true
held_between what node t a same from to =
    rw (same_kind a.what what a.node node same, eq-eqb a.node node (same_node a.what what a.node node same), le-leb a.from t from, le-leb t a.to to) refl

-- two spans that are apart hold no period both
apart_holds_not : (x a : Span) (t : ℕ) → are_apart x a ≡ true → group x.node x.what ≡ group a.node a.what → x.from ≤ t → t ≤ x.to → a.from ≤ t → t ≤ a.to → ⊥
apart_holds_not x a t apart same from to start end =
    let first = max x.from a.from in
    let below : first ≤ t = max-le from start in
    let one = held_between a.what a.node first x same (le-max_left x.from a.from) (omega (arith, below)) in
    let other = held_between a.what a.node first a refl (le-max_right x.from a.from) (omega (arith, below)) in
    shared (holds a.what a.node first x) (holds a.what a.node first a) one other apart
  where
    shared : (p q : Bool) → p ≡ true → q ≡ true → not (p && q) ≡ true → ⊥
    shared true true one other e = cc
    shared true false one other e = cc
    shared false q one other e = cc

-- a span that begins in time stands before a new one that is apart from it
pub begun_before : (x a : Span) → x.from ≤ x.to → are_apart x a ≡ true → Begins x.node x.what x.from a → IsBefore a x
begun_before x a whole apart begins = record {
  order = begins.order;
  ends = λ same. by_ends same (cases_lt a.to x.from);
}
  where
    by_ends : group a.node a.what ≡ group x.node x.what → (a.to < x.from) ⊎ (x.from ≤ a.to) → a.to < x.from
    by_ends same (inl before) = before
    by_ends same (inr within) = absurd (apart_holds_not x a x.from apart (sym same) (omega arith) whole (begins.begins same) within)

-- and one that follows it stands behind
pub before_following : (x a : Span) → a.from ≤ a.to → are_apart x a ≡ true → Follows x.node x.what x.from a → IsBefore x a
before_following x a whole apart follows = record {
  order = follows.order;
  ends = λ same. by_ends same (cases_lt x.to a.from);
}
  where
    by_ends : group x.node x.what ≡ group a.node a.what → (x.to < a.from) ⊎ (a.from ≤ x.to) → x.to < a.from
    by_ends same (inl after) = after
    by_ends same (inr within) = absurd (apart_holds_not x a a.from apart same (omega (arith, follows.begins (sym same))) within (omega arith) whole)

all_cons : (P : Span → Type 0) (a : Span) (rest : List Span) → P a → All P rest → All P (a ∷ rest)
all_cons P a rest here each zero d lt = here
all_cons P a rest here each (suc i) d lt = each i d (omega arith)

all_insert : (P : Span → Type 0) (xs : List Span) (k : ℕ) (x : Span) → All P xs → P x → All P (insert xs k x)
all_insert P xs zero x each here = all_cons P x xs here each
all_insert P [] (suc k) x each here = all_cons P x [] here each
all_insert P (a ∷ rest) (suc k) x each here = all_cons P a (insert rest k x) (each 0 a (omega arith)) (all_insert P rest k x (λ i d lt. each (suc i) d (omega arith)) here)

pub table_insert : (xs : List Span) (k : ℕ) (x : Span) → IsTable xs → k ≤ length xs → x.from ≤ x.to → ((i : ℕ) → i < k → IsBefore (get_or xs i no_span) x) → ((i : ℕ) → k ≤ i → i < length xs → IsBefore x (get_or xs i no_span)) → IsTable (insert xs k x)
table_insert xs zero x table le whole before behind = (whole, All-from_get_or (IsBefore x) xs no_span (λ i lt. behind i (omega arith) lt), table)
table_insert [] (suc k) x table le whole before behind = absurd (omega arith)
table_insert (a ∷ rest) (suc k) x table le whole before behind = (table.0, all_insert (IsBefore a) rest k x table.1 (before 0 (omega arith)), table_insert rest k x table.2 (omega arith) whole (λ i lt. before (suc i) (omega arith)) (λ i least lt. behind (suc i) (omega arith) (omega arith)))

or_swap : (a b c : Bool) → (a || (b || c)) ≡ (b || (a || c))
or_swap true true c = refl
or_swap true false c = refl
or_swap false true c = refl
or_swap false false c = refl

and_swap : (a b c : Bool) → (a && (b && c)) ≡ (b && (a && c))
and_swap true true c = refl
and_swap true false c = refl
and_swap false true c = refl
and_swap false false c = refl

any_insert : (p : Span → Bool) (xs : List Span) (k : ℕ) (x : Span) → list_any p (insert xs k x) ≡ (p x || list_any p xs)
any_insert p xs zero x = refl
any_insert p [] (suc k) x = refl
any_insert p (a ∷ rest) (suc k) x = ap (λ b. p a || b) (any_insert p rest k x) ∙ or_swap (p a) (p x) (list_any p rest)

each_insert : (p : Span → Bool) (xs : List Span) (k : ℕ) (x : Span) → list_all p (insert xs k x) ≡ (p x && list_all p xs)
each_insert p xs zero x = refl
each_insert p [] (suc k) x = refl
each_insert p (a ∷ rest) (suc k) x = ap (λ b. p a && b) (each_insert p rest k x) ∙ and_swap (p a) (p x) (list_all p rest)

pub one_more : (xs : List Span) (k : ℕ) (x : Span) → HasOneMore x xs (insert xs k x)
one_more xs k x = record { some = λ p. any_insert p xs k x; each = λ p. each_insert p xs k x }

-- a span that is apart from all is apart from each
pub apart_place : (xs : List Span) (x : Span) (i : ℕ) → list_all (are_apart x) xs ≡ true → i < length xs → are_apart x (get_or xs i no_span) ≡ true
apart_place [] x i apart lt = absurd (omega arith)
apart_place (a ∷ rest) x zero apart lt = (both (are_apart x a) (list_all (are_apart x) rest) apart).0
apart_place (a ∷ rest) x (suc i) apart lt = apart_place rest x i (both (are_apart x a) (list_all (are_apart x) rest) apart).1 (omega arith)
