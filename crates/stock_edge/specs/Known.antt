-- One step on known bytes after another, for whoever reads or writes in pieces.
use Rattle.std.proofs.Common.{◌≡◌, ℕ, ◌+◌, List, [], ◌++◌, length, take, drop, Some, None, append_assoc, sym, ◌∙◌, ap, refl, subst}
use Rattle.std.specs.declared.option.Option.{Option}
use Rattle.std.specs.Io.KnownBytes.{Appends, Consumes, Keeps}
use Rattle.std.proofs.lemmas.List.{append-nil, take-append-drop}
use Rattle.std.proofs.Math.Seq.{take-length, take-append_seam, take-append-add}
use Rattle.stock_edge.specs.Causes.{AppendsPrefix}

-- xs and then ys were appended
pub appends_more : (a b c : Option (List ℕ)) (xs ys : List ℕ) → Appends a b xs → Appends b c ys → Appends a c (xs ++ ys)
appends_more None b c xs ys p q = tt
appends_more (Some u) None c xs ys p q = absurd p
appends_more (Some u) (Some v) None xs ys p q = q
appends_more (Some u) (Some v) (Some w) xs ys p q = q ∙ ap (λ t. t ++ ys) p ∙ append_assoc u xs ys

-- with no call nothing is appended
pub appends_none : (a : Option (List ℕ)) → Appends a a []
appends_none None = tt
appends_none (Some u) = sym (append-nil u)

-- kept bytes grow by nothing
pub appends_kept : (a b : Option (List ℕ)) → Keeps a b → Appends a b []
appends_kept None b h = tt
appends_kept (Some u) None h = h
appends_kept (Some u) (Some v) h = h ∙ sym (append-nil u)

-- bytes that grow by nothing are kept
pub kept_appends : (a b : Option (List ℕ)) → Appends a b [] → Keeps a b
kept_appends None b h = tt
kept_appends (Some u) None h = h
kept_appends (Some u) (Some v) h = h ∙ append-nil u

-- xs and then ys were taken
pub consumes_more : (a b c : Option (List ℕ)) (xs ys : List ℕ) → Consumes a b xs → Consumes b c ys → Consumes a c (xs ++ ys)
consumes_more None b c xs ys p q = tt
consumes_more (Some u) None c xs ys p q = absurd p
consumes_more (Some u) (Some v) None xs ys p q = q
consumes_more (Some u) (Some v) (Some w) xs ys p q = p ∙ ap (λ t. xs ++ t) q ∙ sym (append_assoc xs ys w)

-- with no call nothing is taken
pub consumes_none : (a : Option (List ℕ)) → Consumes a a []
consumes_none None = tt
consumes_none (Some u) = refl

-- kept bytes lose nothing
pub consumes_kept : (a b : Option (List ℕ)) → Keeps a b → Consumes a b []
consumes_kept None b h = tt
consumes_kept (Some u) None h = h
consumes_kept (Some u) (Some v) h = sym h

-- the whole is a prefix of itself
pub prefix_whole : (a b : Option (List ℕ)) (xs : List ℕ) → Appends a b xs → AppendsPrefix a b xs
prefix_whole a b xs h =
    let P : List ℕ → Type 0 = Appends a b in
    record { count = length xs; appended = subst P (sym (take-length xs)) h }

-- with no call nothing is appended, and that is a prefix of anything
pub prefix_none : (a : Option (List ℕ)) (xs : List ℕ) → AppendsPrefix a a xs
prefix_none a xs = record { count = 0; appended = appends_none a }

-- a prefix of xs is one of xs with more behind
pub prefix_longer : (a b : Option (List ℕ)) (xs ys : List ℕ) → AppendsPrefix a b xs → AppendsPrefix a b (xs ++ ys)
prefix_longer a b xs ys p =
    let P : List ℕ → Type 0 = Appends a b in
    let part = take p.count xs in
    let whole : xs ++ ys ≡ part ++ (drop p.count xs ++ ys) = ap (λ t. t ++ ys) (sym (take-append-drop p.count xs)) ∙ append_assoc part (drop p.count xs) ys in
    let front : take (length part) (xs ++ ys) ≡ part = ap (λ t. take (length part) t) whole ∙ take-append_seam part (drop p.count xs ++ ys) in
    record { count = length part; appended = subst P (sym front) p.appended }

-- all of xs was appended, and then a prefix of ys
pub prefix_more : (a b c : Option (List ℕ)) (xs ys : List ℕ) → Appends a b xs → AppendsPrefix b c ys → AppendsPrefix a c (xs ++ ys)
prefix_more a b c xs ys p q =
    let P : List ℕ → Type 0 = Appends a c in
    record { count = length xs + q.count; appended = subst P (sym (take-append-add xs ys q.count)) (appends_more a b c xs (take q.count ys) p q.appended) }

-- what joins the steps of whoever writes or reads in pieces
pub ruleset known_steps = (appends_more, appends_none, appends_kept, consumes_more, consumes_none, consumes_kept, prefix_whole, prefix_none, prefix_longer, prefix_more)
