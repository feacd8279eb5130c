-- What rules of the caller's own have answered, period by period.
use Rattle.std.proofs.Common.{◌≡◌, ℕ, zero, suc, ◌<◌, ◌≤◌, Bool, true, false, cond, nat_le, nat_lt, List, [], ◌∷◌, ◌++◌, length, map, Option, Some, None, if◌then◌else◌, refl, sym, ◌∙◌, ap, subst, arith, get_or, append_assoc, length-append, ◌⊎◌, inl, inr}
use Rattle.std.proofs.lemmas.Bool.{cases_lt, leb-false, ltb-false, lt-ltb, le-ltb, eq-eqb}
use Rattle.network_model.specs.declared.network.NodeSpec.{NodeSpec}
use Rattle.network_model.specs.declared.network.Rule.{Rule}
use Rattle.network_model.specs.declared.network.Rule.TheVariants.{House}
use Rattle.network_model.specs.Nodes.{node_at}
use Rattle.node_state.specs.Handed.{Ask, Handed, rule_at, reply_to}
use Rattle.node_state.specs.Totals.{Setting, spec_at, ask, asks, answer}
use Rattle.node_state.specs.Table.{orders_of_run}
use Rattle.network_sim.specs.declared.errors.SimErr.{SimErr}
use Rattle.network_sim.specs.Houses.{or_else, is_house, is_named, rule_refusal, refusal_before, HasAnswered, HaveAnswered}
use Rattle.network_sim.specs.Asks.{HasReplied}
use Rattle.network_sim.proofs.Refused.{named_at}

-- ---- rules that fit a network
or_else-none : (first second : Option SimErr) → or_else first second ≡ None → (first ≡ None) × (second ≡ None)
or_else-none None second e = (refl, e)
or_else-none (Some x) second e = cc

pub refused_none : (nodes : List NodeSpec) (handed : List Handed) (n k : ℕ) → refusal_before nodes handed n ≡ None → k < n → rule_refusal nodes handed k (node_at nodes k).rule ≡ None
refused_none nodes handed zero k none lt = absurd (omega arith)
refused_none nodes handed (suc n) k none lt = by (cases_lt k n) (λ less. refused_none nodes handed n k both.0 less)
  where
    both : (refusal_before nodes handed n ≡ None) × (rule_refusal nodes handed n (node_at nodes n).rule ≡ None)
    both = or_else-none (refusal_before nodes handed n) (rule_refusal nodes handed n (node_at nodes n).rule) none

    by : (k < n) ⊎ (n ≤ k) → (k < n → rule_refusal nodes handed k (node_at nodes k).rule ≡ None) → rule_refusal nodes handed k (node_at nodes k).rule ≡ None
    by (inl less) h = h less
    by (inr ge) h = let same : n ≡ k = omega arith in subst (λ m. rule_refusal nodes handed m (node_at nodes m).rule ≡ None) same both.1

pub record Fits (nodes : List NodeSpec) (handed : List Handed) (k index cap : ℕ) : Type 0 where
  pub there : index < length handed
  pub new_name : is_named nodes index k ≡ false
  pub within : (rule_at handed index).most ≤ cap

three_none : {X : Type 0} (a b c : Bool) (x y z : X) → (if a then Some x else (if b then Some y else (if c then Some z else None))) ≡ None → (a ≡ false) × (b ≡ false) × (c ≡ false)
three_none true b c x y z e = cc
three_none false true c x y z e = cc
three_none false false true x y z e = cc
three_none false false false x y z e = (refl, refl, refl)

pub fits : (nodes : List NodeSpec) (handed : List Handed) (k index cap : ℕ) (rule : Rule) → rule ≡ House index cap → rule_refusal nodes handed k rule ≡ None → Fits nodes handed k index cap
fits nodes handed k index cap rule e none =
    let all = three_none (nat_le (length handed) index) (is_named nodes index k) (nat_lt cap (rule_at handed index).most) _ _ _ (sym (ap (rule_refusal nodes handed k) e) ∙ none) in
    record {
      there = leb-false (length handed) index all.0;
      new_name = all.1;
      within = ltb-false cap (rule_at handed index).most all.2;
    }

-- an earlier node with the rule would have named it
pub named_before : (nodes : List NodeSpec) (index cap j k : ℕ) → j < k → (node_at nodes j).rule ≡ House index cap → is_named nodes index k ≡ true
named_before nodes index cap j k lt e = named_at nodes index j k lt (ap (is_house index) e ∙ eq-eqb index index refl)

pub most_at : (handed : List Handed) (index : ℕ) → get_or (map (λ (r : Handed). r.most) handed) index 0 ≡ (rule_at handed index).most
most_at [] index = refl
most_at (h ∷ hs) zero = refl
most_at (h ∷ hs) (suc index) = most_at hs index

-- ---- asks and answers
asks_length : (s : Setting) (O : ℕ → ℕ → ℕ) (i t : ℕ) → length (asks s O i t) ≡ t
asks_length s O i zero = refl
asks_length s O i (suc t) = let a = length-append (asks s O i t) (ask s O i t ∷ []) in let b = asks_length s O i t in omega arith

get_after : (xs ys : List ℕ) (k : ℕ) → length xs ≡ k → get_or (xs ++ ys) k 0 ≡ get_or ys 0 0
get_after [] ys zero e = refl
get_after [] ys (suc k) e = absurd (omega arith)
get_after (x ∷ xs) ys zero e = absurd (omega arith)
get_after (x ∷ xs) ys (suc k) e = get_after xs ys k (omega arith)

pub none_below : (k t u : ℕ) → cond (nat_lt k 0) t u ≡ u
none_below k t u = ap (λ b. cond b t u) (le-ltb k 0 (omega arith))

-- before any node is asked
pub had : (s : Setting) (t : ℕ) (now : List Handed) → HaveAnswered s t 0 now → (k index cap : ℕ) → k < length s.network.nodes → (spec_at s k).rule ≡ House index cap →
    HasAnswered (rule_at s.handed index) (rule_at now index) (asks s (orders_of_run s) k t)
had s t now h k index cap lt e = subst (λ u. HasAnswered (rule_at s.handed index) (rule_at now index) (asks s (orders_of_run s) k u)) (none_below k (suc t) t) (h.each k index cap lt e)

pub answer_is : (s : Setting) (O : ℕ → ℕ → ℕ) (t k index : ℕ) (now : Handed) → HasAnswered (rule_at s.handed index) now (asks s O k t) → reply_to now (ask s O k t) ≡ answer s O k index t
answer_is s O t k index now h =
    let long : length h.answers ≡ t = h.each ∙ asks_length s O k t in
    sym (ap (λ (xs : List ℕ). get_or xs t 0) (h.rest (ask s O k t ∷ [])) ∙ get_after h.answers (now.replies (ask s O k t ∷ [])) t long)

-- one more answer
pub answered_more : (before now new : Handed) (asked : List Ask) (a : Ask) → HasAnswered before now asked → HasReplied now new a → HasAnswered before new (asked ++ a ∷ [])
answered_more before now new asked a h replied = record {
  answers = h.answers ++ reply_to now a ∷ [];
  each = (let b = length-append h.answers (reply_to now a ∷ []) in let c = length-append asked (a ∷ []) in let d = h.each in omega arith);
  rest = λ more.
      ap before.replies (append_assoc asked (a ∷ []) more)
      ∙ h.rest (a ∷ more)
      ∙ ap (λ xs. h.answers ++ xs) (replied more)
      ∙ sym (append_assoc h.answers (reply_to now a ∷ []) (new.replies more));
}

-- once all have answered, the next period may begin
pub all_answered : (s : Setting) (t : ℕ) (now : List Handed) → HaveAnswered s t (length s.network.nodes) now → HaveAnswered s (suc t) 0 now
all_answered s t now h = record {
  all = h.all;
  each = λ k index cap lt e.
      subst (λ u. HasAnswered (rule_at s.handed index) (rule_at now index) (asks s (orders_of_run s) k u))
      (ap (λ b. cond b (suc t) t) (lt-ltb k (length s.network.nodes) lt) ∙ sym (none_below k (suc (suc t)) (suc t)))
      (h.each k index cap lt e);
  unnamed = h.unnamed;
}

-- no rule has been asked yet
pub none_asked : (s : Setting) → HaveAnswered s 0 0 s.handed
none_asked s = record {
  all = refl;
  each = λ k index cap lt e.
      subst (λ u. HasAnswered (rule_at s.handed index) (rule_at s.handed index) (asks s (orders_of_run s) k u)) (sym (none_below k 1 0))
      (record { answers = []; each = refl; rest = λ more. refl });
  unnamed = λ index none. refl;
}
