-- What a node holds stays within its totals.
use Rattle.std.proofs.Common.{◌≡◌, ℕ, zero, suc, ◌+◌, ◌-◌, ◌^◌, ◌≤◌, min, List, [], ◌∷◌, ◌++◌, length, take, drop, map, sum, slice_index, slice_index_or, refl, sym, ◌∙◌, ap, subst, arith, get_or, add-one}
use Rattle.std.specs.List.{All}
use Rattle.std.proofs.lemmas.List.Elements.{All-map, All-weaker, All-head, All-cons, All-nil}
use Rattle.std.proofs.lemmas.List.Sums.{sum_by-cons, sum_by_push}
use Rattle.network_model.specs.declared.network.Link.{Link}
use Rattle.node_state.specs.Holdings.{Leg, Claim, Holding, zeros, new_leg, new_claims, no_claim, legs_of, IsSound, push_ring, leg_placed, leg_made, in_pipe, least_raw, least_raw_from, claim_served, claims_served, left_over, total_due}

-- the first amount of a ring, and the others
first_and_rest : (xs : List ℕ) → slice_index xs 0 + sum (drop 1 xs) ≡ sum xs
first_and_rest [] = refl
first_and_rest (x ∷ xs) = sym (sum_by-cons (λ y. y) x xs)

pub ring_sum : (xs : List ℕ) (x : ℕ) → slice_index (push_ring xs x) 0 + sum (drop 1 (push_ring xs x)) ≡ sum (drop 1 xs) + x
ring_sum xs x = first_and_rest (push_ring xs x) ∙ sum_by_push (λ y. y) (drop 1 xs) x

pub pipe_placed : (q : ℕ) (l : Leg) → in_pipe (leg_placed q l) ≡ in_pipe l + q
pipe_placed q l = omega (arith, ring_sum l.way q)

pub sound_placed : (h : Holding) (q : ℕ) (legs : List Leg) → IsSound h → h.ordered + q ≤ 10 ^ 12 → legs ≡ map (leg_placed q) h.legs → IsSound (record h { ordered = h.ordered + q; legs = legs })
sound_placed h q legs s few e = record {
  few_initial = s.few_initial;
  few_ordered = few;
  few_noted = s.few_noted;
  seen_noted = s.seen_noted;
  due_noted = s.due_noted;
  stocked = let a = s.stocked in omega arith;
  piped = subst (λ ls. All (λ l. in_pipe l + h.stock ≤ h.initial + (h.ordered + q)) ls) (sym e)
      (All-map (λ l. in_pipe l + h.stock ≤ h.initial + (h.ordered + q)) (leg_placed q) h.legs
      (All-weaker (λ l. in_pipe l + h.stock ≤ h.initial + h.ordered) (λ l. in_pipe (leg_placed q l) + h.stock ≤ h.initial + (h.ordered + q)) (λ l p. omega (arith, pipe_placed q l)) h.legs s.piped));
}

least_from_most : (m : ℕ) (ls : List Leg) → least_raw_from m ls ≤ m
least_from_most m [] = omega arith
least_from_most m (l ∷ ls) = let a = least_from_most (min l.raw m) ls in omega arith

least_from_below : (m : ℕ) (ls : List Leg) → All (λ l. least_raw_from m ls ≤ l.raw) ls
least_from_below m [] = All-nil (λ l. m ≤ l.raw)
least_from_below m (l ∷ ls) =
    All-cons (λ k. least_raw_from (min l.raw m) ls ≤ k.raw) l ls (let a = least_from_most (min l.raw m) ls in omega arith) (least_from_below (min l.raw m) ls)

pub least_below : (ls : List Leg) → All (λ l. least_raw ls ≤ l.raw) ls
least_below [] = All-nil (λ l. 0 ≤ l.raw)
least_below (l ∷ ls) = All-cons (λ k. least_raw_from l.raw ls ≤ k.raw) l ls (least_from_most l.raw ls) (least_from_below l.raw ls)

-- finished units are in stock, and came out of the pipe of each source
pub stock_room : (legs : List Leg) (stock most : ℕ) → stock ≤ most → All (λ l. in_pipe l + stock ≤ most) legs → stock + least_raw legs ≤ most
stock_room [] stock most le p = omega arith
stock_room (l ∷ ls) stock most le p =
    let a = All-head (λ l. in_pipe l + stock ≤ most) l ls p in
    let b = least_from_most l.raw ls in
    omega arith

pub sound_finished : (h : Holding) (m : ℕ) (legs : List Leg) → IsSound h → m ≡ least_raw h.legs → legs ≡ map (leg_made m) h.legs → IsSound (record h { made = m; stock = h.stock + m; legs = legs })
sound_finished h m legs s is e = record {
  few_initial = s.few_initial;
  few_ordered = s.few_ordered;
  few_noted = s.few_noted;
  seen_noted = s.seen_noted;
  due_noted = s.due_noted;
  stocked = let a = stock_room h.legs h.stock (h.initial + h.ordered) s.stocked s.piped in omega arith;
  piped = subst (λ ls. All (λ l. in_pipe l + (h.stock + m) ≤ h.initial + h.ordered) ls) (sym e)
      (All-map (λ l. in_pipe l + (h.stock + m) ≤ h.initial + h.ordered) (leg_made m) h.legs
      (λ k d lt. step (slice_index_or h.legs k d) (s.piped k d lt) (least_below h.legs k d lt)));
}
  where
    step : (l : Leg) → in_pipe l + h.stock ≤ h.initial + h.ordered → least_raw h.legs ≤ l.raw → in_pipe (leg_made m l) + (h.stock + m) ≤ h.initial + h.ordered
    step l p q = omega arith

served_due : (cs : List Claim) (left : ℕ) → total_due (claims_served cs left) ≤ total_due cs
served_due [] left = omega arith
served_due (c ∷ cs) left =
    omega (arith, served_due cs (left - min c.due left), sum_by-cons (λ k. k.due) c cs, sum_by-cons (λ k. k.due) (claim_served c left) (claims_served cs (left - min c.due left)))

pub left_most : (cs : List Claim) (left : ℕ) → left_over cs left ≤ left
left_most [] left = omega arith
left_most (c ∷ cs) left = let a = left_most cs (left - min c.due left) in omega arith

pub sound_served : (h : Holding) (sent stock : ℕ) (claims : List Claim) → IsSound h → stock ≡ left_over h.claims (h.stock - sent) → claims ≡ claims_served h.claims (h.stock - sent) → IsSound (record h { owed = h.owed - sent; stock = stock; claims = claims })
sound_served h sent stock claims s e f = record {
  few_initial = s.few_initial;
  few_ordered = s.few_ordered;
  few_noted = s.few_noted;
  seen_noted = s.seen_noted;
  due_noted = subst (λ cs. h.owed - sent + total_due cs ≤ h.noted) (sym f) (let a = served_due h.claims (h.stock - sent) in let b = s.due_noted in omega arith);
  stocked = let a = less in let b = s.stocked in omega arith;
  piped = All-weaker (λ l. in_pipe l + h.stock ≤ h.initial + h.ordered) (λ l. in_pipe l + stock ≤ h.initial + h.ordered) (λ l p. let a = less in omega arith) h.legs s.piped;
}
  where
    less : stock ≤ h.stock
    less = let a = left_most h.claims (h.stock - sent) in omega arith

pub whole : {X : Type 0} (n : ℕ) (xs ys : List X) → n ≡ length xs → take n (xs ++ ys) ≡ xs
whole n [] ys e = ap (λ k. take k ys) e
whole zero (x ∷ xs) ys e = absurd (omega arith)
whole (suc n) (x ∷ xs) ys e = ap (λ zs. x ∷ zs) (whole n xs ys (omega arith))

pub length-map_of : {X Y : Type 0} (f : X → Y) (xs : List X) → length (map f xs) ≡ length xs
length-map_of f [] = refl
length-map_of f (x ∷ xs) = ap suc (length-map_of f xs)

-- a list written through a borrowed slice
pub refilled : {X : Type 0} (f : X → X) (n : ℕ) (items old new rest : List X) → new ≡ map f old → old ≡ items → length old ≡ n → take n (new ++ rest) ≡ map f items
refilled f n items old new rest e g len = whole n new rest (sym len ∙ sym (ap length e ∙ length-map_of f old)) ∙ e ∙ ap (map f) g

pub length-served : (cs : List Claim) (left : ℕ) → length (claims_served cs left) ≡ length cs
length-served [] left = refl
length-served (c ∷ cs) left = ap suc (length-served cs (left - min c.due left))

pub claims_more : (n : ℕ) → new_claims n ++ no_claim ∷ [] ≡ new_claims (n + 1)
claims_more n = more n ∙ ap new_claims (sym (add-one n))
  where
    more : (n : ℕ) → new_claims n ++ no_claim ∷ [] ≡ new_claims (suc n)
    more zero = refl
    more (suc n) = ap (λ cs. no_claim ∷ cs) (more n)

nothing_due : (n : ℕ) → total_due (new_claims n) ≡ 0
nothing_due zero = refl
nothing_due (suc n) = omega (arith, sum_by-cons (λ c. c.due) no_claim (new_claims n), nothing_due n)

zeros_sum : (n : ℕ) → sum (zeros n) ≡ 0
zeros_sum zero = refl
zeros_sum (suc n) = omega (arith, sum_by-cons (λ x. x) 0 (zeros n), zeros_sum n)

rest_sum : (n : ℕ) → sum (drop 1 (zeros (n + 1))) ≡ 0
rest_sum n = ap (λ k. sum (drop 1 (zeros k))) (add-one n) ∙ zeros_sum n

pub empty_pipe : (a b : ℕ) → in_pipe (new_leg a b) ≡ 0
empty_pipe a b = omega (arith, rest_sum a, rest_sum b)

pub new_sound : (initial : ℕ) (links : List Link) (n : ℕ) (legs : List Leg) (claims : List Claim) → initial ≤ 10 ^ 12 → legs ≡ legs_of links → claims ≡ new_claims n →
    IsSound (record { initial = initial; ordered = 0; noted = 0; seen = 0; made = 0; stock = initial; owed = 0; claims = claims; legs = legs })
new_sound initial links n legs claims few e f = record {
  few_initial = few;
  few_ordered = omega arith;
  few_noted = omega arith;
  seen_noted = omega arith;
  due_noted = let a = ap total_due f in let b = nothing_due n in omega arith;
  stocked = omega arith;
  piped = subst (λ ls. All (λ l. in_pipe l + initial ≤ initial + 0) ls) (sym e)
      (All-map (λ l. in_pipe l + initial ≤ initial + 0) (λ (l : Link). new_leg l.lead l.order_lead) links (λ k d lt. let a = empty_pipe (get_or links k d).lead (get_or links k d).order_lead in omega arith));
}
