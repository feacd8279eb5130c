-- The first node that the rules of the caller's own don't fit.
use Rattle.std.proofs.Common.{◌≡◌, ℕ, zero, suc, ◌+◌, ◌-◌, ◌<◌, ◌≤◌, ◌⊎◌, inl, inr, Bool, true, false, ◌||◌, List, Option, Some, None, refl, sym, ◌∙◌, ap, subst, arith, add-one}
use Rattle.std.proofs.lemmas.Bool.{cases_lt}
use Rattle.network_model.specs.declared.network.NodeSpec.{NodeSpec}
use Rattle.network_model.specs.Nodes.{node_at}
use Rattle.node_state.specs.Handed.{Handed}
use Rattle.network_sim.specs.declared.errors.SimErr.{SimErr}
use Rattle.network_sim.specs.Houses.{or_else, is_house, is_named, rule_refusal, refusal_before}

module _ (nodes : List NodeSpec) (handed : List Handed) where
  next_is : (i : ℕ) (o : Option SimErr) → refusal_before nodes handed i ≡ None → rule_refusal nodes handed i (node_at nodes i).rule ≡ o → refusal_before nodes handed (i + 1) ≡ o
  next_is i o none e = subst (λ m. refusal_before nodes handed m ≡ o) (sym (add-one i)) (ap (λ x. or_else x (rule_refusal nodes handed i (node_at nodes i).rule)) none ∙ e)

  pub next_none : (i : ℕ) → refusal_before nodes handed i ≡ None → rule_refusal nodes handed i (node_at nodes i).rule ≡ None → refusal_before nodes handed (i + 1) ≡ None
  next_none i none e = next_is i None none e

  pub next_some : (i : ℕ) (e : SimErr) → refusal_before nodes handed i ≡ None → rule_refusal nodes handed i (node_at nodes i).rule ≡ Some e → refusal_before nodes handed (i + 1) ≡ Some e
  next_some i e none is = next_is i (Some e) none is

  -- it stays the first
  stays : (i m k : ℕ) (e : SimErr) → k ≡ m + i → refusal_before nodes handed i ≡ Some e → refusal_before nodes handed k ≡ Some e
  stays i zero k e far is = let same : i ≡ k = omega arith in subst (λ n. refusal_before nodes handed n ≡ Some e) same is
  stays i (suc m) zero e far is = absurd (omega arith)
  stays i (suc m) (suc k) e far is = ap (λ x. or_else x (rule_refusal nodes handed k (node_at nodes k).rule)) (stays i m k e (omega arith) is)

  pub refusal_stays : (i n : ℕ) (e : SimErr) → i ≤ n → refusal_before nodes handed i ≡ Some e → refusal_before nodes handed n ≡ Some e
  refusal_stays i n e le is = stays i (n - i) n e (omega arith) is

-- a node that has the rule at an index names it
pub named_at : (nodes : List NodeSpec) (index j k : ℕ) → j < k → is_house index (node_at nodes j).rule ≡ true → is_named nodes index k ≡ true
named_at nodes index j zero lt e = absurd (omega arith)
named_at nodes index j (suc k) lt e = by (cases_lt j k) (λ less. named_at nodes index j k less e)
  where
    either_left : (a b : Bool) → a ≡ true → (a || b) ≡ true
    either_left true b e = refl
    either_left false b e = cc

    either_right : (a b : Bool) → b ≡ true → (a || b) ≡ true
    either_right true b e = refl
    either_right false b e = e

    by : (j < k) ⊎ (k ≤ j) → (j < k → is_named nodes index k ≡ true) → is_named nodes index (suc k) ≡ true
    by (inl less) h = either_left (is_named nodes index k) (is_house index (node_at nodes k).rule) (h less)
    by (inr ge) h =
        let same : j ≡ k = omega arith in
        either_right (is_named nodes index k) (is_house index (node_at nodes k).rule) (ap (λ m. is_house index (node_at nodes m).rule) (sym same) ∙ e)
