-- What the weights stand for, after some of the points.
use Rattle.std.proofs.Common.{◌≡◌, ℕ, ◌+◌, ◌-◌, ◌<◌, ◌≤◌, max, List, [], ◌∷◌, ◌++◌, length, get_or, sum, take, drop, nat_eq, nat_lt, refl, sym, ◌∙◌, ap, arith, cond, Bool, true, false, Some, None, subst}
use Rattle.std.proofs.lemmas.List.FromFn.{fill_by_all}
use Rattle.std.proofs.lemmas.List.{take_more, drop_more, take_all, drop_all}
use Rattle.demand_law.specs.declared.law.LawFault.{LawFault}
use Rattle.demand_law.specs.declared.law.LawFault.TheVariants.{Empty, Repeated, ZeroWeight, TooLarge, Disordered, NotMultiple}
use Rattle.demand_law.specs.declared.law.LawErr.{LawErr}
use Rattle.demand_law.specs.declared.law.LawErr.TheVariants.{Bad, Memory}
use Rattle.demand_law.specs.Law.{IsLaw}
use Rattle.demand_law.specs.Points.{weight_in, total_in, width_in, is_listed, first_fault, sum_fault, points_fault, points_law}
use Rattle.demand_law.specs.Placed.{Places, IsPlaceFault, MatchErr}

pub record State (done : List (ℕ × ℕ)) (ws : List ℕ) : Type 0 where
  pub weights : (d : ℕ) → get_or ws d 0 ≡ weight_in done d
  pub listed : (d : ℕ) → is_listed done d ≡ nat_lt 0 (get_or ws d 0)
  pub total : sum ws ≡ total_in done
  pub width : length ws ≡ width_in done
  pub last : 0 < length ws → 0 < get_or ws (length ws - 1) 0
  pub short : length ws ≤ 10001

pub start : State [] []
start = record { weights = λ d. refl; listed = λ d. refl; total = refl; width = refl; last = λ h. absurd (omega arith); short = omega arith }

listed_push : (ps : List (ℕ × ℕ)) (p : ℕ × ℕ) (d : ℕ) → is_listed (ps ++ p ∷ []) d ≡ cond (nat_eq p.0 d) true (is_listed ps d)
listed_push [] p d = refl
listed_push (q ∷ ps) p d = rw (listed_push ps p d) (swap_conds (nat_eq q.0 d) (nat_eq p.0 d) (is_listed ps d))
  where
    swap_conds : (a b c : Bool) → cond a true (cond b true c) ≡ cond b true (cond a true c)
    swap_conds true true c = refl
    swap_conds true false c = refl
    swap_conds false b c = refl

weight_push : (ps : List (ℕ × ℕ)) (p : ℕ × ℕ) (d : ℕ) → is_listed ps p.0 ≡ false → weight_in (ps ++ p ∷ []) d ≡ cond (nat_eq p.0 d) p.1 (weight_in ps d)
weight_push [] p d h = refl
weight_push (q ∷ ps) p d h = go (weight_in (ps ++ p ∷ []) d) (weight_in ps d) (is_listed ps p.0) h (weight_push ps p d)
  where
    go : (v w : ℕ) (l : Bool) → cond (nat_eq q.0 p.0) true l ≡ false → (l ≡ false → v ≡ cond (nat_eq p.0 d) p.1 w) → cond (nat_eq q.0 d) q.1 v ≡ cond (nat_eq p.0 d) p.1 (cond (nat_eq q.0 d) q.1 w)
    go v w l e f = grind arith

total_push : (ps : List (ℕ × ℕ)) (p : ℕ × ℕ) → total_in (ps ++ p ∷ []) ≡ total_in ps + p.1
total_push [] p = omega arith
total_push (q ∷ ps) p = omega (arith, total_push ps p)

width_push : (ps : List (ℕ × ℕ)) (p : ℕ × ℕ) → width_in (ps ++ p ∷ []) ≡ max (width_in ps) (p.0 + 1)
width_push [] p = omega arith
width_push (q ∷ ps) p = omega (arith, width_push ps p)

-- a point that is placed
pub step : (done : List (ℕ × ℕ)) (p : ℕ × ℕ) (ws new : List ℕ) → State done ws → Places ws new p.0 p.1 → p.0 ≤ 10000 → 0 < p.1 → get_or ws p.0 0 ≡ 0 → State (done ++ p ∷ []) new
step done p ws new s h small some free =
    let unlisted : is_listed done p.0 ≡ false = s.listed p.0 ∙ ap (nat_lt 0) free in
    record {
      weights = λ d. h.weights d ∙ ap (cond (nat_eq p.0 d) p.1) (s.weights d) ∙ sym (weight_push done p d unlisted);
      listed = λ d. listed_push done p d ∙ ap (cond (nat_eq p.0 d) true) (s.listed d) ∙ push_lt d ∙ ap (nat_lt 0) (sym (h.weights d));
      total = omega (arith, h.total, s.total, total_push done p);
      width = omega (arith, h.count, s.width, width_push done p);
      last = λ some_new. last_is (length new - 1) refl;
      short = omega (arith, h.count, s.short);
    }
  where
    push_lt : (d : ℕ) → cond (nat_eq p.0 d) true (nat_lt 0 (get_or ws d 0)) ≡ nat_lt 0 (cond (nat_eq p.0 d) p.1 (get_or ws d 0))
    push_lt d = grind arith

    last_of : (k : ℕ) → k ≡ length new - 1 → 0 < cond (nat_eq p.0 k) p.1 (get_or ws k 0)
    last_of k e = grind (arith, h.count, s.last)

    last_is : (k : ℕ) → k ≡ length new - 1 → 0 < get_or new k 0
    last_is k e = rw (h.weights k) (last_of k e)

tests : {X : Type 0} (d w : ℕ) (l : Bool) (x y z u : X) → d ≤ 10000 → 0 < w → l ≡ false → cond (nat_lt 10000 d) x (cond (nat_eq w 0) y (cond l z u)) ≡ u
tests d w l x y z u small some e = grind arith

too_large : {X : Type 0} (d : ℕ) (x y : X) → 10000 < d → cond (nat_lt 10000 d) x y ≡ x
too_large d x y h = grind arith

zero_weight : {X : Type 0} (d w : ℕ) (x y z : X) → d ≤ 10000 → w ≡ 0 → cond (nat_lt 10000 d) x (cond (nat_eq w 0) y z) ≡ y
zero_weight d w x y z small e = grind arith

repeated : {X : Type 0} (d w : ℕ) (l : Bool) (x y z u : X) → d ≤ 10000 → 0 < w → l ≡ true → cond (nat_lt 10000 d) x (cond (nat_eq w 0) y (cond l z u)) ≡ z
repeated d w l x y z u small some e = grind arith

lt_true : (n : ℕ) → 0 < n → nat_lt 0 n ≡ true
lt_true n h = grind arith

-- the points up to here have no fault
pub no_fault_more : (done : List (ℕ × ℕ)) (p : ℕ × ℕ) (rest : List (ℕ × ℕ)) → p.0 ≤ 10000 → 0 < p.1 → is_listed done p.0 ≡ false → first_fault done (p ∷ rest) ≡ first_fault (done ++ p ∷ []) rest
no_fault_more done p rest small some unlisted = tests p.0 p.1 (is_listed done p.0) _ _ _ _ small some unlisted

pub fault_found : (done : List (ℕ × ℕ)) (p : ℕ × ℕ) (rest : List (ℕ × ℕ)) (ws : List ℕ) (e : LawErr) → State done ws → IsPlaceFault ws p.0 p.1 e → MatchErr e (λ f. first_fault done (p ∷ rest) ≡ Some f)
fault_found done p rest ws Memory s h = tt
fault_found done p rest ws (Bad TooLarge) s h = too_large p.0 _ _ h
fault_found done p rest ws (Bad (ZeroWeight d)) s h = zero_weight p.0 p.1 _ _ _ h.0 h.1 ∙ ap (λ n. Some (ZeroWeight n)) (sym h.2)
fault_found done p rest ws (Bad (Repeated d)) s h = repeated p.0 p.1 (is_listed done p.0) _ _ _ _ h.0 h.1 (s.listed p.0 ∙ lt_true _ h.2) ∙ ap (λ n. Some (Repeated n)) (sym h.3)
fault_found done p rest ws (Bad Empty) s h = absurd h
fault_found done p rest ws (Bad Disordered) s h = absurd h
fault_found done p rest ws (Bad NotMultiple) s h = absurd h

-- the law at the end
pub is_law_of : (ps : List (ℕ × ℕ)) (ws : List ℕ) → State ps ws → ws ≡ points_law ps
is_law_of ps ws s = fill_by_all (weight_in ps) ws (width_in ps) 0 s.width (λ k h. s.weights k)

-- one point more in the list
pub step_at : (points : List (ℕ × ℕ)) (i : ℕ) (d : ℕ × ℕ) (ws new : List ℕ) → i < length points → State (take i points) ws → Places ws new (get_or points i d).0 (get_or points i d).1 → (get_or points i d).0 ≤ 10000 → 0 < (get_or points i d).1 → get_or ws (get_or points i d).0 0 ≡ 0 → State (take (i + 1) points) new
step_at points i d ws new within s h small some free =
    let P : List (ℕ × ℕ) → Type 0 = λ t. State t new in
    subst P (sym (take_more points i d within)) (step (take i points) (get_or points i d) ws new s h small some free)

pub no_fault_at : (points : List (ℕ × ℕ)) (i : ℕ) (d : ℕ × ℕ) (ws : List ℕ) → i < length points → State (take i points) ws → (get_or points i d).0 ≤ 10000 → 0 < (get_or points i d).1 → get_or ws (get_or points i d).0 0 ≡ 0 → first_fault (take (i + 1) points) (drop (i + 1) points) ≡ first_fault (take i points) (drop i points)
no_fault_at points i d ws within s small some free =
    ap (λ t. first_fault t (drop (i + 1) points)) (take_more points i d within)
    ∙ sym (no_fault_more (take i points) (get_or points i d) (drop (i + 1) points) small some (s.listed _ ∙ ap (nat_lt 0) free))
    ∙ ap (first_fault (take i points)) (sym (drop_more points i d within))

pub fault_at : (points : List (ℕ × ℕ)) (i : ℕ) (d : ℕ × ℕ) (ws : List ℕ) (e : LawErr) → i < length points → State (take i points) ws → first_fault (take i points) (drop i points) ≡ first_fault [] points → IsPlaceFault ws (get_or points i d).0 (get_or points i d).1 e → MatchErr e (λ f. points_fault points ≡ Some f)
fault_at points i d ws e within s h w = known e (λ f g. nonempty points f within (sym h ∙ ap (first_fault (take i points)) (drop_more points i d within) ∙ g)) (fault_found (take i points) (get_or points i d) (drop (i + 1) points) ws e s w)
  where
    known : (e : LawErr) {P Q : LawFault → Type 0} → ((f : LawFault) → P f → Q f) → MatchErr e P → MatchErr e Q
    known (Bad f) g h = g f h
    known Memory g h = tt

    nonempty : (ps : List (ℕ × ℕ)) (f : LawFault) → i < length ps → first_fault [] ps ≡ Some f → points_fault ps ≡ Some f
    nonempty [] f h g = absurd (omega arith)
    nonempty (p ∷ ps) f h g = ap (sum_fault (p ∷ ps)) g

-- after the last point
pub no_fault : (points : List (ℕ × ℕ)) → 0 < length points → first_fault [] points ≡ None → total_in points ≤ 1000000000 → points_fault points ≡ None
no_fault [] h g t = absurd (omega arith)
no_fault (p ∷ ps) h g t = ap (sum_fault (p ∷ ps)) g ∙ small_total (total_in (p ∷ ps)) t
  where
    small_total : (n : ℕ) → n ≤ 1000000000 → cond (nat_lt 1000000000 n) (Some TooLarge) None ≡ None
    small_total n t = grind arith

pub large_total : (points : List (ℕ × ℕ)) → 0 < length points → first_fault [] points ≡ None → 1000000000 < total_in points → points_fault points ≡ Some TooLarge
large_total [] h g t = absurd (omega arith)
large_total (p ∷ ps) h g t = ap (sum_fault (p ∷ ps)) g ∙ too_large_total (total_in (p ∷ ps)) t
  where
    too_large_total : (n : ℕ) → 1000000000 < n → cond (nat_lt 1000000000 n) (Some TooLarge) None ≡ Some TooLarge
    too_large_total n t = grind arith

pub is_law : (ps : List (ℕ × ℕ)) (ws : List ℕ) → 0 < length ps → State ps ws → sum ws ≤ 1000000000 → IsLaw ws
is_law [] ws h s t = absurd (omega arith)
is_law (p ∷ ps) ws h s t = let w = s.width in let some : 0 < length ws = omega (arith, w) in record { some = some; last = s.last some; short = omega (arith, s.short); fits = omega arith }

pub state_end : (points : List (ℕ × ℕ)) (i : ℕ) (ws : List ℕ) → length points ≤ i → State (take i points) ws → State points ws
state_end points i ws h s = let P : List (ℕ × ℕ) → Type 0 = λ t. State t ws in subst P (take_all i points h) s

pub fault_end : (points : List (ℕ × ℕ)) (i : ℕ) → length points ≤ i → first_fault (take i points) (drop i points) ≡ first_fault [] points → first_fault [] points ≡ None
fault_end points i h e = sym e ∙ ap (first_fault (take i points)) (drop_all i points h)
